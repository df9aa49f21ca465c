-- Numbers of one codec as numbers of another.
use Rattle.std.specs.Prelude.{ℕ, ℤ, List}
use Rattle.std.specs.List.{flat_map}
use Rattle.snd_layout.specs.declared.codec.Codec.{Codec}
use Rattle.snd_layout.specs.declared.codec.Codec.TheVariants.{U8, S8, S16, S24, S32}
use Rattle.snd_recode.specs.Recoded.{changed_all}

-- how many bits the numbers of a codec have: those of a linear codec its own, and all others 16
abbrev pub width_of : Codec → ℕ
width_of U8 = 8
width_of S8 = 8
width_of (S16 order) = 16
width_of (S24 order) = 24
width_of (S32 order) = 32
width_of codec = 16

-- numbers of a codec as those of another
abbrev pub change_numbers : Codec → Codec → List ℤ → List ℤ
change_numbers from to xs = changed_all (width_of from) (width_of to) xs

-- the numbers of frames
abbrev pub joined : List (List ℤ) → List ℤ
joined frames = flat_map (λ frame. frame) frames
