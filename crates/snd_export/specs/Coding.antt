-- What the numbers of frames become, a block at a time. It is said for the proofs alone.
use Rattle.std.specs.Prelude.{◌≡◌, ℕ, ℤ, ◌+◌, ◌*◌, ◌/◌, ◌≤◌, false, true, List, [], Result, IfOk, drop, length, take}
use Rattle.snd_blocks.specs.Frames.{has_bad}
use Rattle.snd_blocks.specs.Sound.{frames_in}
use Rattle.snd_disk.specs.Device.{Tells}
use Rattle.snd_disk.specs.State.{State}
use Rattle.snd_fields.specs.declared.field.Order.TheVariants.{Little}
use Rattle.snd_ima_adpcm.specs.Frames.{bytes_high_half_first}
use Rattle.snd_vox.specs.Vox.{VoxState, made_even, vox_codes, vox_state_written}
use Rattle.snd_layout.specs.Blocks.{block_align, is_adpcm}
use Rattle.snd_layout.specs.Params.{Parameters}
use Rattle.snd_layout.specs.Shape.{Shape}
use Rattle.snd_layout.specs.declared.codec.Codec.{Codec}
use Rattle.snd_layout.specs.declared.codec.Codec.TheVariants.{S16}
use Rattle.snd_output.specs.Appended.{bytes_in, coded_in}
use Rattle.snd_output.specs.Ends.{IfChanged}
use Rattle.snd_output.specs.Widths.{change_numbers, joined}
use Rattle.snd_output.specs.declared.stop.Stop.{Stop}
use Rattle.snd_words.specs.declared.raw.ExportForm.{ExportForm}
use Rattle.snd_words.specs.declared.raw.ExportForm.TheVariants.{Raw, Vox, Pvf}
use Rattle.snd_export.specs.Export.{pvf_codec, pvf_head_of, raw_codec, sample_bytes}
use Rattle.snd_export.specs.declared.target.Target.{Target}
use Rattle.snd_export.specs.declared.target.Target.TheVariants as target

-- ---- the target of a form, and the head before it

abbrev pub target_of : ExportForm → Codec → Target
target_of Raw codec = target.Samples (raw_codec codec)
target_of Pvf codec = target.Samples (pvf_codec codec)
target_of Vox codec = target.Vox

abbrev pub head_made : ExportForm → Parameters → List ℕ
head_made Pvf p = pvf_head_of p
head_made form p = []

-- samples of ADPCM have no bytes of their own
abbrev pub IsPlain : Target → Type 0
IsPlain (target.Samples codec) = is_adpcm codec ≡ false
IsPlain target.Vox = Unit {0}

-- VOX has one channel
abbrev pub HasChannels : Target → Shape → Type 0
HasChannels (target.Samples codec) h = Unit {0}
HasChannels target.Vox h = h.params.channels ≡ 1

-- how many bytes all frames of a layout become
abbrev pub size_by : Target → Shape → ℕ
size_by (target.Samples codec) h = sample_bytes codec h
size_by target.Vox h = (h.frames + 1) / 2

-- ---- numbers of a codec, behind others that have left VOX in a state: their bytes, the state behind them, and how many bytes so many
-- become

abbrev pub bytes_by : Target → VoxState → Codec → List ℤ → List ℕ
bytes_by (target.Samples codec) state own xs = coded_in codec (change_numbers own codec xs)
bytes_by target.Vox state own xs = bytes_high_half_first (vox_codes state (made_even (change_numbers own (S16 Little) xs)))

abbrev pub state_by : Target → VoxState → Codec → List ℤ → VoxState
state_by (target.Samples codec) state own xs = state
state_by target.Vox state own xs = vox_state_written state (made_even (change_numbers own (S16 Little) xs))

abbrev pub count_by : Target → ℕ → ℕ
count_by (target.Samples codec) n = bytes_in codec n
count_by target.Vox n = (n + 1) / 2

-- ---- a block of frames

-- the numbers of so many frames, from a place on
abbrev pub numbers_at : List ℕ → Shape → ℕ → ℕ → List ℤ
numbers_at b h place count = joined (take count (drop place (frames_in b h)))

-- where the disk tells what it holds, a slice has these, as numbers of a codec
abbrev pub HasNumbers : {D : Type 0} → (D → State) → D → Shape → Codec → ℕ → ℕ → List ℤ → Type 0
HasNumbers state disk h codec place count xs =
    (b : List ℕ) → Tells state disk b → xs ≡ change_numbers h.params.codec codec (numbers_at b h place count)

-- .. or their bytes at its front, and VOX is left in the state behind them
pub record HasCoded {D : Type 0} (state : D → State) (disk : D) (h : Shape) (to : Target) (place count : ℕ) (vox vox' : VoxState) (size : ℕ) (into : List ℕ) : Type 0 where
  pub count_is : size ≡ count_by to (count * h.params.channels)
  pub fits : size ≤ length into
  pub numbers : (b : List ℕ) → Tells state disk b → length (numbers_at b h place count) ≡ count * h.params.channels
  pub bytes : (b : List ℕ) → Tells state disk b → take size into ≡ bytes_by to vox h.params.codec (numbers_at b h place count)
  pub behind : (b : List ℕ) → Tells state disk b → vox' ≡ state_by to vox h.params.codec (numbers_at b h place count)

abbrev pub Codes : {D E : Type 0} → (D → State) → D → Shape → Target → ℕ → ℕ → VoxState → VoxState → List ℕ → Result ℕ E → Type 0
Codes state disk h to place count vox vox' into result = IfOk result (λ size. HasCoded state disk h to place count vox vox' size into)

-- the file is said to have changed only where one of its frames is bad
abbrev pub ChangedBad : {D T : Type 0} → (D → State) → D → Shape → Result T Stop → Type 0
ChangedBad state disk h result = IfChanged ((b : List ℕ) → Tells state disk b → has_bad (frames_in b h) ≡ true) result
