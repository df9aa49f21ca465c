-- `COMMAND --help`, which asks for the text of one command.
use Rattle.std.specs.Prelude.{ℕ, Bool, false, List, [], ◌∷◌, Option, None, Some, codes}
use Rattle.std.specs.Str.{bytes_eq}
use Rattle.snd_words.specs.Asked.{Asked}
use Rattle.snd_words.specs.Options.{named}
use Rattle.snd_words.specs.declared.topic.Topic.{Topic}
use Rattle.snd_words.specs.declared.topic.Topic.TheVariants.{Info, Convert, Concat, Interleave, SetMetadata, Generate, Import, Export, Salvage, Deinterleave, Script}

-- the command of a name
unfoldable pub topic_of : List ℕ → Option Topic
topic_of command = named command (
    (codes "info", Info) ∷ (codes "convert", Convert) ∷ (codes "concat", Concat) ∷ (codes "interleave", Interleave)
    ∷ (codes "metadata-set", SetMetadata) ∷ (codes "gen", Generate)
    ∷ (codes "import", Import) ∷ (codes "export", Export) ∷ (codes "salvage", Salvage)
    ∷ (codes "deinterleave", Deinterleave) ∷ (codes "script", Script) ∷ [])

-- two words, the second one `--help`
unfoldable pub asks_help : List (List ℕ) → Bool
asks_help (command ∷ word ∷ []) = bytes_eq word (codes "--help")
asks_help words = false

abbrev pub help_asked : Option Topic → Asked
help_asked (Some topic) = Asked.help_on topic
help_asked None = Asked.nothing
