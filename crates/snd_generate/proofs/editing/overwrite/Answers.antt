use Rattle.std.proofs.Common.{◌≡◌, ◌*◌, ◌/◌, ◌∙◌, ap, subst, refl, ℕ, ℤ, ◌-ℤ◌, List, [], ◌∷◌, pos, neg_ℤ, to_z, of_z, w32, rules}
use Rattle.std.proofs.lemmas.Result.{on_ok_weaker}
use Rattle.snd_edits.specs.Edits.{moved_write_to, written_to}
use Rattle.snd_file.specs.Handle.{Stands}
use Rattle.snd_generate.proofs.Edits.{negated, pair_fits, within}
use Rattle.snd_generate.proofs.States.{overwritten_holds}
use Rattle.snd_generate.proofs.editing.overwrite.Goals as goal

pub returns-clause-becomes : goal.returns-clause-becomes
returns-clause-becomes g c =
    on_ok_weaker c.write.result
    (λ stands. λ xs e standing holds.
    let i = c.args.i in
    let n = c.args.frames in
    let place : c.from.result * n / 4 ≡ i * n / 4 = search rules in
    let sought = subst (λ (k : ℕ). Stands g.E.Disk.state c.seek.new.file (moved_write_to k e)) place (c.in_ok-seek.ensures.stands e standing) in
    let then = stands (moved_write_to (i * n / 4) e) sought in
    let f = to_z w32 (of_z w32 c.from-number.result) in
    let first : f ≡ pos i = search rules in
    let second : to_z w32 (of_z w32 (pos 0 -ℤ f)) ≡ neg_ℤ (pos i) = ap (λ (x : ℤ). to_z w32 (of_z w32 (pos 0 -ℤ x))) first ∙ negated i c.requires.quarter in
    let numbers : f ∷ to_z w32 (of_z w32 (pos 0 -ℤ f)) ∷ [] ≡ pos i ∷ neg_ℤ (pos i) ∷ [] = ap (λ (x : ℤ). x ∷ to_z w32 (of_z w32 (pos 0 -ℤ f)) ∷ []) first ∙ ap (λ (x : ℤ). pos i ∷ x ∷ []) second in
    let wrote = subst (λ (ys : List ℤ). Stands g.E.Disk.state c.write.new.file (written_to ys (moved_write_to (i * n / 4) e))) numbers then in
    (written_to (pos i ∷ neg_ℤ (pos i) ∷ []) (moved_write_to (i * n / 4) e), wrote, overwritten_holds n (i * n / 4) xs (pos i ∷ neg_ℤ (pos i) ∷ []) e holds refl (pair_fits i c.requires.quarter) (within n i holds.numbers.some c.requires.quarter)))
    c.write.ensures.stands
