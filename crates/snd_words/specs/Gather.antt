-- The commands `concat` and `interleave`, which read many files and make one, by the words behind them.
use Rattle.std.specs.Prelude.{ℕ, ◌-◌, ◌&&◌, List, [], codes, length, take, slice_index_or, if◌then◌else◌}
use Rattle.std.specs.Str.{bytes_eq}
use Rattle.snd_words.specs.Asked.{Asked, Work}
use Rattle.snd_words.specs.Names.{is_name}
use Rattle.snd_words.specs.Plain.{are_names}

-- a word counted from the end, the last one by 1; and all words before it
abbrev pub from_end : ℕ → List (List ℕ) → List ℕ
from_end k words = slice_index_or words (length words - k) []

abbrev pub before_end : ℕ → List (List ℕ) → List (List ℕ)
before_end k words = take (length words - k) words

-- 2 to 64 names to read, and one to make
unfoldable pub gather_asked : (List (List ℕ) → List ℕ → Work) → List (List ℕ) → List ℕ → Asked
gather_asked command inputs output = if are_names 2 64 inputs && is_name output then Asked.tool (command inputs output) else Asked.nothing

-- `concat IN IN.. OUT`
unfoldable pub concat_asked : List (List ℕ) → Asked
concat_asked words = gather_asked Work.concat (before_end 1 words) (from_end 1 words)

-- `interleave IN IN.. -o OUT`
unfoldable pub interleave_asked : List (List ℕ) → Asked
interleave_asked words =
    if bytes_eq (from_end 2 words) (codes "-o") then gather_asked Work.interleave (before_end 2 words) (from_end 1 words) else Asked.nothing
