use Rattle.std.proofs.Common.{◌≡◌, ◌∙◌, [], Some, ap, subst}
use Rattle.snd_layout.proofs.Replaced.{holds_head}
use Rattle.snd_layout.specs.Params.{AreParams, Parameters}
use Rattle.snd_layout.specs.Shape.{Shape}
use Rattle.snd_wave.proofs.Changed.{reserved_head_laid}
use Rattle.snd_wave.specs.Written.{reserved_head, reserved_shape}
use Rattle.snd_wave.proofs.head.lay_reserved.Goals as goal

pub returns-clause-head : goal.returns-clause-head
returns-clause-head g c =
    let p : Parameters = c.args.layout.now.params in
    let said : c.layout.inside.params ≡ p = ap (λ (s : Shape). s.params) c.layout.view_is in
    let head = c.as_slice.ensures.value ∙ c.plain_head-head.ensures ∙ ap (λ (q : Parameters). reserved_head (Some 28) q [] 0) said in
    let shape = c.drop.view_is ∙ c.plain_layout.ensures ∙ ap (λ (q : Parameters). reserved_shape (Some 28) q [] 0) said in
    reserved_head_laid (g.D.Disk.state c.args.disk.now) (g.D.Disk.state c.write_whole.new.disk) _ p (subst AreParams said c.are_good.ensures) c.requires.head.laid.may.fits c.requires.fixed shape
    (holds_head (g.D.Disk.state c.args.disk.now) (g.D.Disk.state c.write_whole.new.disk) c.as_slice.result.now (reserved_head (Some 28) p [] 0) c.in_ok-write_whole.ensures.done head)
