use Rattle.std.proofs.Common.{ℕ, List, arith, subst}
use Rattle.std.specs.Prelude.{OnOk}
use Rattle.snd_ds64.proofs.Public.{size_is}
use Rattle.snd_ds64.specs.Promoted.{new_size}
use Rattle.snd_promote.specs.Steps.{HasPut, Puts}
use Rattle.snd_promote.proofs.promotion.put_size.Goals as goal

pub put_stable-requires : goal.put_stable-requires
put_stable-requires g c = omega (arith, c.size_place-at.ensures.place, c.size_place-at.ensures.early, c.requires.counts.there)

pub returns-clause-puts : goal.returns-clause-puts
returns-clause-puts g c =
    subst (λ (k : ℕ). Puts g.D.Disk k new_size c.args.disk.now c.put_stable.new.disk) c.size_place-at.ensures.place (subst (λ (v : List ℕ). Puts g.D.Disk c.size_place-at.result v c.args.disk.now c.put_stable.new.disk) size_is c.put_stable.ensures.puts)

pub returns-clause-put : goal.returns-clause-put
returns-clause-put g c =
    subst (λ (k : ℕ). OnOk c.put_stable.result (HasPut g.D.Disk k new_size c.args.disk.now c.put_stable.new.disk)) c.size_place-at.ensures.place
    (subst (λ (v : List ℕ). OnOk c.put_stable.result (HasPut g.D.Disk c.size_place-at.result v c.args.disk.now c.put_stable.new.disk)) size_is c.put_stable.ensures.put)
