-- The command `salvage`, by the words behind it.
use Rattle.std.specs.Prelude.{ℕ, List, Option, None, Some}
use Rattle.snd_words.specs.Asked.{Asked, Work}
use Rattle.snd_words.specs.Names.{two_names}

-- a file of one name, for one of another
abbrev pub salvage_with : Option (List ℕ × List ℕ) → Asked
salvage_with (Some (input, output)) = Asked.tool (Work.salvage input output)
salvage_with None = Asked.nothing

-- `salvage IN OUT`
unfoldable pub salvage_asked : List (List ℕ) → Asked
salvage_asked words = salvage_with (two_names words)
