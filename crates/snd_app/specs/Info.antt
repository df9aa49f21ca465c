-- What `info` prints of a file.
use Rattle.std.specs.Prelude.{ℕ, ◌*◌, ◌/◌, ◌%◌, List, [], ◌∷◌, ◌++◌, codes, decimal}
use Rattle.snd_layout.specs.Names.{codec_name, kind_name}
use Rattle.snd_layout.specs.Shape.{Shape}
use Rattle.snd_lines.specs.Lines.{behind_each, chunk_line, line, text_line}
use Rattle.snd_meta.specs.Info.{Entry}
use Rattle.snd_app.specs.Text.{padded}

-- the whole milliseconds that so many frames take
abbrev pub milliseconds : ℕ → ℕ → ℕ
milliseconds frames rate = frames * 1000 / rate

-- milliseconds as hours, minutes, seconds and thousandths
abbrev pub clock : ℕ → List ℕ
clock ms = padded 2 (ms / 3600000) ++ 58 ∷ [] ++ padded 2 (ms / 60000 % 60) ++ 58 ∷ [] ++ padded 2 (ms / 1000 % 60) ++ 46 ∷ [] ++ padded 3 (ms % 1000)

-- how long so many frames take
abbrev pub duration_line : ℕ → ℕ → List ℕ
duration_line frames rate = line (codes "duration") (clock (milliseconds frames rate))

abbrev pub description : List ℕ → Shape → List Entry → List ℕ
description name s texts =
    line (codes "name") name
    ++ line (codes "kind") (kind_name s.kind)
    ++ line (codes "codec") (codec_name s.params.codec)
    ++ line (codes "channels") (decimal s.params.channels)
    ++ line (codes "rate") (decimal s.params.rate)
    ++ line (codes "frames") (decimal s.frames)
    ++ duration_line s.frames s.params.rate
    ++ behind_each (codes "chunk ") chunk_line s.pieces
    ++ behind_each (codes "string ") text_line texts
