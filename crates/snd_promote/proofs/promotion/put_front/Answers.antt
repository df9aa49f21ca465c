use Rattle.std.proofs.Common.{◌≡◌, ◌∙◌, ℕ, List, ap, arith, length, subst}
use Rattle.std.specs.Prelude.{OnOk}
use Rattle.snd_promote.proofs.Faults.{early_start}
use Rattle.snd_promote.specs.Steps.{HasPut, Puts}
use Rattle.snd_promote.proofs.promotion.put_front.Goals as goal

pub put_stable-requires : goal.put_stable-requires
put_stable-requires g c =
    let long : length c.as_slice.result.now ≡ length c.front_bytes-front.result.items = ap length c.as_slice.ensures.value in
    omega (arith, long, c.front_bytes-front.ensures.len, c.requires.counts.there, early_start c.args.layout.now c.keeps_rule.ensures c.requires.reserved)

pub returns-clause-puts : goal.returns-clause-puts
returns-clause-puts g c = subst (λ (v : List ℕ). Puts g.D.Disk 0 v c.args.disk.now c.put_stable.new.disk) (c.as_slice.ensures.value ∙ c.front_bytes-front.ensures.items) c.put_stable.ensures.puts

pub returns-clause-put : goal.returns-clause-put
returns-clause-put g c =
    subst (λ (v : List ℕ). OnOk c.put_stable.result (HasPut g.D.Disk 0 v c.args.disk.now c.put_stable.new.disk)) (c.as_slice.ensures.value ∙ c.front_bytes-front.ensures.items) c.put_stable.ensures.put
