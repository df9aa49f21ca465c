-- The command `deinterleave`, by the words behind it.
use Rattle.std.specs.Prelude.{ℕ, ◌&&◌, List, [], ◌∷◌, if◌then◌else◌}
use Rattle.snd_words.specs.Asked.{Asked, Work}
use Rattle.snd_words.specs.Names.{is_name}
use Rattle.snd_words.specs.Plain.{are_names}

-- `deinterleave IN OUT..`: a name to read, and 1 to 64 to make
unfoldable pub deinterleave_asked : List (List ℕ) → Asked
deinterleave_asked [] = Asked.nothing
deinterleave_asked (input ∷ outputs) =
    if is_name input && are_names 1 64 outputs then Asked.tool (Work.deinterleave input outputs) else Asked.nothing
