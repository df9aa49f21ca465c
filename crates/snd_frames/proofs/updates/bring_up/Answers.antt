use Rattle.std.proofs.Common.{rules, ◌≡◌, ◌∙◌, ap, sym, subst, ℕ, Bool, true, cond}
use Rattle.snd_patch.specs.Sealed.{grown, sealed}
use Rattle.snd_edits.specs.Edits.{sealed_where}
use Rattle.snd_edits.specs.Writing.{IsKeptUp}
use Rattle.snd_edits.proofs.Public.{grown_is_sealed, same_maps}
use Rattle.snd_frames.proofs.updates.bring_up.Goals as goal

pub returns-clause-contents : goal.returns-clause-contents
returns-clause-contents g c =
    let h = c.args.layout.now in
    let n = c.args.to in
    let auto : c.args.automatic ≡ true = search rules in
    c.in_ok-grow.ensures.contents
    ∙ same_maps (λ b. grown b h n) (λ b. sealed_where c.args.automatic b h n) (g.D.Disk.state c.args.disk.now).contents (λ b told.
    grown_is_sealed b h n c.keeps_rule.ensures (λ free. subst (λ (m : ℕ). IsKeptUp h n m) (g.met.D.Disk.size_told c.args.disk.now b told) (c.requires.kept_up auto free))
    ∙ sym (ap (λ (t : Bool). cond t (sealed b h n) b) auto))
