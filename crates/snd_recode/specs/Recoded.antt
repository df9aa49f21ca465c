-- The numbers of samples of one codec in the width of another.
use Rattle.std.specs.Prelude.{ℕ, ℤ, List, map}
use Rattle.snd_container.specs.Fixed.{range_form}
use Rattle.snd_container.specs.declared.fixed.Fixed.{Fixed}
use Rattle.snd_pcm.specs.Pcm.{bit_count}
use Rattle.snd_pcm.specs.Width.{changed}

-- how many bits the numbers of a codec have: 16 in the laws
abbrev pub width_of : Fixed → ℕ
width_of form = bit_count (range_form form)

-- numbers of one width as those of another
abbrev pub changed_all : ℕ → ℕ → List ℤ → List ℤ
changed_all from to xs = map (changed from to) xs

-- numbers of a codec as those of another
abbrev pub recoded : Fixed → Fixed → List ℤ → List ℤ
recoded from to xs = changed_all (width_of from) (width_of to) xs
