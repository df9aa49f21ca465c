-- What `gen` makes: the numbers that it generates, of which four frames are overwritten and the last eighth is cut off. Numbers
-- stand in the order of the frames, and in each of these in the order of its two channels.
use Rattle.std.specs.Prelude.{ℕ, zero, suc, ◌-◌, ◌*◌, ◌/◌, ℤ, pos, neg_ℤ, List, [], ◌∷◌, length, take}
use Rattle.snd_fields.specs.declared.field.Order.TheVariants.{Little}
use Rattle.snd_layout.specs.Params.{Parameters}
use Rattle.snd_layout.specs.declared.codec.Codec.TheVariants.{S16}
use Rattle.snd_layout.specs.declared.kind.Kind.TheVariants.{Wave}
use Rattle.snd_edits.specs.Edits.{put_frames}
use Rattle.snd_output.specs.Made.{made_file}
use Rattle.snd_taps.specs.Measure.{energy_of, peak_of}
use Rattle.snd_generate.specs.declared.generating.Summary.{Summary}
use Rattle.snd_generate.specs.Numbers.{numbers_from}

-- n frames, of which frame i * n / 4 is overwritten with (i, -i)
abbrev pub with_frame : ℕ → ℕ → List ℤ → List ℤ
with_frame n i xs = put_frames xs (2 * (i * n / 4)) (pos i ∷ neg_ℤ (pos i) ∷ [])

-- .. for each i below a number, the least first
abbrev pub overwritten : ℕ → ℕ → List ℤ → List ℤ
overwritten n zero xs = xs
overwritten n (suc i) xs = with_frame n i (overwritten n i xs)

-- how many of n frames stay
abbrev pub frames_kept : ℕ → ℕ
frames_kept n = n - n / 8

abbrev pub edited : ℕ → List ℤ → List ℤ
edited n xs = take (2 * frames_kept n) (overwritten n 4 xs)

-- all that is made from a seed and a number of frames
abbrev pub generated : ℕ → ℕ → List ℤ
generated seed n = edited n (numbers_from (2 * n) seed)

-- ---- the file, and what is said of it

abbrev pub params : Parameters
params = record { channels = 2; rate = 44100; codec = S16 Little }

-- a WAVE file of numbers, without further chunks
abbrev pub file_of : List ℤ → List ℕ
file_of xs = made_file Wave params [] xs

-- its frames, the greatest magnitude of its numbers, and the sum of their squares
abbrev pub summary_of : List ℤ → Summary
summary_of xs = record { frames = length xs / 2; peak = peak_of xs; energy = energy_of xs }
