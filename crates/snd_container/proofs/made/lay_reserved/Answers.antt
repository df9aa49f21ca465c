use Rattle.std.proofs.Common.{[], Some, ap}
use Rattle.std.proofs.lemmas.Result.{on_ok_weaker}
use Rattle.snd_chunks.specs.Heads.{IsHeadIn}
use Rattle.snd_container.proofs.Heads.{as_kind, of_kind, wave_says}
use Rattle.snd_container.specs.Put.{heads_for}
use Rattle.snd_layout.specs.declared.kind.Kind.TheVariants.{Wave}
use Rattle.snd_wave.specs.Put.{reserved_heads, wave_heads}
use Rattle.snd_container.proofs.made.lay_reserved.Goals as goal

pub lay_reserved-requires-clause-head : goal.lay_reserved-requires-clause-head
lay_reserved-requires-clause-head g c =
    as_kind Wave wave_heads (g.D.Disk.state c.args.disk.now) c.args.layout.now c.args.layout.now.params [] (c.requires.wave, ap (λ r. heads_for r Wave) c.requires.free) c.requires.head

pub returns-clause-head : goal.returns-clause-head
returns-clause-head g c =
    on_ok_weaker c.lay_reserved.result
    (λ (head : IsHeadIn (reserved_heads (Some 28)) (g.D.Disk.state c.lay_reserved.new.disk) c.lay_reserved.new.layout c.args.layout.now.params []).
    of_kind Wave (reserved_heads (Some 28)) (g.D.Disk.state c.lay_reserved.new.disk) c.lay_reserved.new.layout c.lay_reserved.new.layout c.args.layout.now.params []
    (wave_says (Some 28) c.lay_reserved.new.layout c.args.layout.now.params [] head.laid) head)
    c.lay_reserved.ensures.head
