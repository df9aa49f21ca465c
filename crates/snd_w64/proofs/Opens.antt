-- What a layout was made from, and that it is made from it.
use Rattle.std.proofs.Common.{◌≡◌, List, ℕ, Ok}
use Rattle.snd_chunks.specs.declared.front.Front.{Front}
use Rattle.snd_chunks.proofs.Public.{opened_by, opens_by, OpensBy}
use Rattle.snd_layout.specs.Shape.{Shape}
use Rattle.snd_w64.specs.Layout.{w64_front, w64_layout, w64_shape}

abbrev pub Opens : List ℕ → Front → Shape → Type 0
Opens b front h = OpensBy (w64_shape b front) b front h

-- a layout was made from parts
pub opens : (b : List ℕ) (h : Shape) → w64_layout b ≡ Ok h → Opens b (w64_front b) h
unfolding w64_layout
opens b h is = opens_by (w64_shape b (w64_front b)) b (w64_front b) h is

-- and parts make a layout
pub opened : (b : List ℕ) (h : Shape) → Opens b (w64_front b) h → w64_layout b ≡ Ok h
unfolding w64_layout
opened b h is = opened_by (w64_shape b (w64_front b)) b (w64_front b) h is
