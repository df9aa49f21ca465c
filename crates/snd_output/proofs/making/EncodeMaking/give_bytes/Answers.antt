use Rattle.std.proofs.Common.{◌∙◌, ap, sym, subst, refl, ℤ, ◌/◌, List, ◌++◌, length}
use Rattle.std.proofs.Math.Nat.{zero-div}
use Rattle.std.proofs.lemmas.List.{append-nil}
use Rattle.snd_file.specs.Handle.{codec_of, known_of}
use Rattle.snd_output.specs.Made.{IsMaking}
use Rattle.snd_output.proofs.Appending.{longer_as, longer_none}
use Rattle.snd_output.proofs.Passing.{no_numbers}
use Rattle.snd_output.proofs.making.EncodeMaking.give_bytes.Goals as goal

pub returns-clause-left : goal.returns-clause-left
returns-clause-left g c =
    let k = known_of c.args._to.now in
    let none = no_numbers (codec_of c.args._to.now) c.args._from.now (c.args._to.now.roomy refl).blocks in
    longer_as 0 _ k k (sym (ap (λ (xs : List ℤ). length xs / k.shape.params.channels) none ∙ zero-div k.shape.params.channels)) (longer_none k)

pub returns-clause-gains : goal.returns-clause-gains
returns-clause-gains g c = λ kind p pieces xs e stands making.
    let none = no_numbers (codec_of c.args._to.now) c.args._from.now (c.args._to.now.roomy refl).blocks in
    (e, stands, subst (λ (l : List ℤ). IsMaking kind p pieces l e) (sym (ap (λ (l : List ℤ). xs ++ l) none ∙ append-nil xs)) making)
