use Rattle.std.proofs.Common.{◌++◌, refl, subst, ℤ, List, []}
use Rattle.snd_layout.specs.Shape.{Shape}
use Rattle.snd_layout.specs.declared.kind.Kind.TheVariants.{Wave}
use Rattle.snd_edits.specs.Edits.{written_to}
use Rattle.snd_file.specs.Handle.{known_of}
use Rattle.snd_edits.specs.WriteCalls.{MayWrite}
use Rattle.snd_output.proofs.Public.{written_is_making}
use Rattle.snd_output.specs.Made.{IsMaking}
use Rattle.snd_generate.specs.Edited.{params}
use Rattle.snd_generate.proofs.making.write_block.Goals as goal

pub returns-clause-lengthens : goal.returns-clause-lengthens
returns-clause-lengthens g c = λ xs e stands making.
    let ys = c.fill-last.new.block in
    let one = c.in_ok-write.ensures in
    let may : MayWrite ys e.shape e.write_place =
    subst (λ (s : Shape). MayWrite ys s e.write_place) stands.shape (subst (MayWrite ys (known_of c.args.file.now).shape) stands.write_place one.may) in
    let then = written_is_making Wave params [] xs ys e making refl may in
    (written_to ys e, one.stands e stands, subst (λ (l : List ℤ). IsMaking Wave params [] (xs ++ l) (written_to ys e)) c.fill-last.ensures.numbers then)
