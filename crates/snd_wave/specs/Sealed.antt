-- The head of a WAVE file whose fields are brought up to a number of frames: this library's own way to update a file in place.
use Rattle.std.specs.Prelude.{◌≡◌, ℕ, List, ◌++◌, Option, None, Some}
use Rattle.snd_chunks.specs.Written.{NewChunk}
use Rattle.snd_fields.specs.Field.{with_field}
use Rattle.snd_layout.specs.Params.{Parameters}
use Rattle.snd_layout.specs.Shape.{Shape}
use Rattle.snd_layout.specs.declared.field.Field.{Field}
use Rattle.snd_wave.specs.Values.{inner_value, outer_value, side_value}
use Rattle.snd_wave.specs.Written.{head_for, made_shape, reserved_head, reserved_shape, wave_head}

-- bytes put into a field, where it is there
abbrev pub put_in : Option Field → List ℕ → List ℕ → List ℕ
put_in None bytes b = b
put_in (Some field) bytes b = with_field b field.at bytes

-- a file with the values for so many frames in the three fields of its layout
unfoldable pub with_values : List ℕ → Shape → ℕ → List ℕ
with_values b h frames = put_in h.side (side_value h frames) (put_in h.outer (outer_value h frames) (with_field b h.inner.at (inner_value h frames)))

-- A head into whose fields the values for so many frames were put is the head for so many frames, whatever stands behind it.
abbrev pub ReservedHeadIsCounted : Type 0
ReservedHeadIsCounted = (r : Option ℕ) (p : Parameters) (pieces : List NewChunk) (frames : ℕ) (behind : List ℕ) →
    with_values (reserved_head r p pieces 0 ++ behind) (reserved_shape r p pieces 0) frames ≡ reserved_head r p pieces frames ++ behind

abbrev pub HeadIsCounted : Type 0
HeadIsCounted = (p : Parameters) (pieces : List NewChunk) (frames : ℕ) (behind : List ℕ) →
    with_values (wave_head p pieces ++ behind) (made_shape p pieces 0) frames ≡ head_for p pieces frames ++ behind
