-- What a layout was made from, and that it is made from it.
use Rattle.std.proofs.Common.{◌≡◌, List, ℕ, Ok}
use Rattle.snd_chunks.specs.declared.front.Front.{Front}
use Rattle.snd_chunks.proofs.Public.{opened_by, opens_by, OpensBy}
use Rattle.snd_layout.specs.Shape.{Shape}
use Rattle.snd_wave.specs.Layout.{wave_front, wave_layout, wave_shape}

abbrev pub Opens : List ℕ → Front → Shape → Type 0
Opens b front h = OpensBy (wave_shape b front) b front h

-- a layout was made from parts
pub opens : (b : List ℕ) (h : Shape) → wave_layout b ≡ Ok h → Opens b (wave_front b) h
unfolding wave_layout
opens b h is = opens_by (wave_shape b (wave_front b)) b (wave_front b) h is

-- and parts make a layout
pub opened : (b : List ℕ) (h : Shape) → Opens b (wave_front b) h → wave_layout b ≡ Ok h
unfolding wave_layout
opened b h is = opened_by (wave_shape b (wave_front b)) b (wave_front b) h is
