-- How an INFO list holds its texts: a place for each key of the table.
use Rattle.std.specs.Prelude.{ℕ, List, Option, None, option_map, slice_index_or}
use Rattle.snd_meta.specs.declared.info.InfoKey.{InfoKey}
use Rattle.snd_meta.specs.declared.text.Text.{Text}
use Rattle.snd_meta.specs.Info.{place_of}

abbrev pub text_in : List (Option Text) → InfoKey → Option (List ℕ)
text_in slots key = option_map (λ t. t.bytes.items) (slice_index_or slots (place_of key) None)
