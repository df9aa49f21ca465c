-- What the words of a command line ask for.
use Rattle.std.specs.Prelude.{ℕ, List, [], ◌∷◌, codes, if◌then◌else◌}
use Rattle.std.specs.Str.{bytes_eq}
use Rattle.snd_words.specs.Asked.{Asked}
use Rattle.snd_words.specs.Convert.{convert_asked}
use Rattle.snd_words.specs.Deinterleave.{deinterleave_asked}
use Rattle.snd_words.specs.Gather.{concat_asked, interleave_asked}
use Rattle.snd_words.specs.Generate.{gen_asked}
use Rattle.snd_words.specs.Metadata.{metadata_asked}
use Rattle.snd_words.specs.Plain.{alone_asked, info_asked, script_asked}
use Rattle.snd_words.specs.Raw.{export_asked, import_asked}
use Rattle.snd_words.specs.Salvage.{salvage_asked}
use Rattle.snd_words.specs.Topics.{asks_help, help_asked, topic_of}

-- the first word is the command, which the words behind it have to fit
abbrev pub asked_with : List ℕ → List (List ℕ) → Asked
asked_with command words =
    if bytes_eq command (codes "info") then info_asked words
    else (if bytes_eq command (codes "script") then script_asked words
    else (if bytes_eq command (codes "--help") then alone_asked Asked.help words
    else (if bytes_eq command (codes "--version") then alone_asked Asked.version words
    else (if bytes_eq command (codes "convert") then convert_asked words
    else (if bytes_eq command (codes "concat") then concat_asked words
    else (if bytes_eq command (codes "interleave") then interleave_asked words
    else (if bytes_eq command (codes "gen") then gen_asked words
    else (if bytes_eq command (codes "metadata-set") then metadata_asked words
    else (if bytes_eq command (codes "import") then import_asked words
    else (if bytes_eq command (codes "export") then export_asked words
    else (if bytes_eq command (codes "salvage") then salvage_asked words
    else (if bytes_eq command (codes "deinterleave") then deinterleave_asked words
    else Asked.nothing))))))))))))

-- .. but two words, the second one `--help`, ask for the text of the command
abbrev pub asked : List (List ℕ) → Asked
asked [] = Asked.nothing
asked (command ∷ words) = if asks_help (command ∷ words) then help_asked (topic_of command) else asked_with command words
