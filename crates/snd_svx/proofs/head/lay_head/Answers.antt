use Rattle.std.proofs.Common.{List, ℕ, ◌∙◌, subst}
use Rattle.std.specs.Prelude.{OnOk}
use Rattle.snd_layout.specs.Laid.{HoldsJust}
use Rattle.snd_svx.proofs.head.lay_head.Goals as goal

pub returns-clause-laid : goal.returns-clause-laid
returns-clause-laid g c =
    let head = c.as_slice.ensures.value ∙ c.plain_head-head.ensures in
    subst (λ (l : List ℕ). OnOk c.lay_made.result (HoldsJust l (g.D.Disk.state c.args.disk.now) (g.D.Disk.state c.lay_made.new.disk))) head c.lay_made.ensures.laid
