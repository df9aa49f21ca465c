-- The state of a file of ADPCM to which more frames are given.
use Rattle.std.proofs.Common.{◌≡◌, ◌∙◌, ap, sym, subst, refl, ℕ, ℤ, ◌+◌, ◌*◌, ◌^◌, ◌≤◌, Bool, true, false, List, Option, arith}
use Rattle.std.specs.Global.{Box}
use Rattle.std.proofs.Math.Nat.{le-div_iff_mul-le, mul-le-mul_right}
use Rattle.snd_block_writer.specs.Writing.{Writing}
use Rattle.snd_layout.specs.Blocks.{block_frames}
use Rattle.snd_layout.specs.Params.{data_bytes}
use Rattle.snd_layout.specs.Shape.{Shape, end, room}
use Rattle.snd_edits.specs.Pacing.{HasPlaceFor, HoldsBlocks, IsGiven}
use Rattle.snd_edits.proofs.SealedFrames.{sealed_declared}
use Rattle.snd_edits.specs.Edits.{written_shape}
use Rattle.snd_edits.specs.Encoding.{counting_whole, encoded_shape, whole_frames}

-- what holds of a layout that counts some frames, also once the head says so
pub holds_where : (automatic : Bool) (ys : List ℤ) (b : List ℕ) (h : Shape) (n place : ℕ) → h.frames ≡ n → HoldsBlocks ys b h place → HoldsBlocks ys b (written_shape automatic h n) place
holds_where true ys b h n place is was = record { form = was.form; range = was.range; whole = was.whole; frames = sym is ∙ was.frames; held = was.held }
holds_where false ys b h n place is was = record { form = was.form; range = was.range; whole = was.whole; frames = sym is ∙ was.frames; held = was.held }

pub given_where : (automatic : Bool) (writer : Option (Box Writing)) (ys : List ℤ) (b : List ℕ) (h : Shape) (n place : ℕ) → h.frames ≡ n → IsGiven writer ys b h place → IsGiven writer ys b (written_shape automatic h n) place
given_where true writer ys b h n place is was = record { holds = holds_where true ys b h n place is was.holds; stands = was.stands }
given_where false writer ys b h n place is was = record { holds = holds_where false ys b h n place is was.holds; stands = was.stands }

-- whole blocks that are there are among those of more frames
pub whole_reaches : (h : Shape) (blocks to : ℕ) → 1 ≤ block_frames h.params.codec → h.frames ≡ blocks * block_frames h.params.codec → h.frames ≤ to → h.frames ≤ whole_frames h.params to
whole_reaches h blocks to some is within =
    let per = block_frames h.params.codec in
    let fits = (le-div_iff_mul-le {k = per} {x = blocks} {y = to} (omega (arith, some))).1 (omega (arith, is, within)) in
    omega (arith, is, mul-le-mul_right per fits)

pub place_where : (automatic : Bool) (h : Shape) (to : ℕ) → HasPlaceFor h to → HasPlaceFor (encoded_shape automatic h to) to
place_where true h to was = record { blocks = was.blocks; free = was.free; fits = record { in_room = was.fits.in_room; few = was.fits.few } }
place_where false h to was = record { blocks = was.blocks; free = was.free; fits = record { in_room = was.fits.in_room; few = was.fits.few } }

pub room_where : (automatic : Bool) (h : Shape) (to : ℕ) → h.start + room h + 8 ≤ 2 ^ 63 → (encoded_shape automatic h to).start + room (encoded_shape automatic h to) + 8 ≤ 2 ^ 63
room_where true h to was = was
room_where false h to was = was

pub known_where : (automatic : Bool) (h : Shape) (to : ℕ) → (encoded_shape automatic h to).unknown_length ≡ h.unknown_length
known_where true h to = refl
known_where false h to = refl

pub declared_where : (automatic : Bool) (h : Shape) (to : ℕ) (l : Shape) → automatic ≡ true → l ≡ encoded_shape automatic h to → l.trailing ≡ false → l.declared ≡ data_bytes l.params l.frames
declared_where false h to l not_so is free = absurd (cc)
declared_where true h to l is_so is free =
    let goes : h.trailing ≡ false = sym (ap (λ (s : Shape). s.trailing) is) ∙ free in
    subst (λ (s : Shape). s.declared ≡ data_bytes s.params s.frames) (sym is) (sealed_declared (counting_whole h to) (whole_frames h.params to) goes)

pub ends_where : (automatic : Bool) (h : Shape) (to size : ℕ) → end (encoded_shape automatic h to) (encoded_shape automatic h to).frames ≤ size → end h (whole_frames h.params to) ≤ size
ends_where true h to size there = there
ends_where false h to size there = there
