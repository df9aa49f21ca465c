-- A file that is made, to be written: the state in which it begins.
use Rattle.std.specs.Prelude.{Option, None, Some, Result, Ok, Err}
use Rattle.snd_layout.specs.Fit.{fit_refusal}
use Rattle.snd_layout.specs.Params.{Parameters}
use Rattle.snd_layout.specs.declared.kind.Kind.{Kind}
use Rattle.snd_layout.specs.declared.refusal.OpenRefusal.{OpenRefusal}
use Rattle.snd_container.specs.Made.{new_file, new_shape}
use Rattle.snd_edits.specs.Editing.{Editing, first_editing}

abbrev pub making_as : Kind → Parameters → Option OpenRefusal → Result Editing OpenRefusal
making_as kind p (Some refusal) = Err refusal
making_as kind p None = Ok (first_editing (new_file kind p) (new_shape kind p))

-- The state in which a file of a kind begins that is made, or the first reason why it is not made: the kind does not hold the
-- parameters.
unfoldable pub making_of : Kind → Parameters → Result Editing OpenRefusal
making_of kind p = making_as kind p (fit_refusal kind p)
