-- The layout of a file, from its parts.
use Rattle.std.proofs.Common.{◌≡◌, ℕ, ◌<◌, ◌≤◌, List, false, Ok, Err, Some, length, take, drop, get_or, refl, sym, ap, ◌∙◌, arith}
use Rattle.std.proofs.lemmas.Bool.{le-ltb}
use Rattle.std.specs.Prelude.{Result, codes, nat_lt}
use Rattle.snd_chunks.proofs.Public.{agree_whole, find_has, same_number_at, same_part, whole_length}
use Rattle.snd_chunks.specs.declared.front.Ending.TheVariants.{AtSound}
use Rattle.snd_chunks.specs.declared.front.Front.{Front}
use Rattle.snd_chunks.specs.Chunks.{chunk_at, front}
use Rattle.snd_chunks.specs.Walks.{EndsBy, IsFront}
use Rattle.snd_fields.specs.Field.{number}
use Rattle.snd_fields.specs.declared.field.Order.TheVariants.{Little}
use Rattle.snd_layout.specs.Format.{format_of}
use Rattle.snd_layout.specs.Params.{Parameters}
use Rattle.snd_layout.specs.Shape.{Shape}
use Rattle.snd_layout.specs.declared.piece.Piece.{Piece}
use Rattle.snd_layout.specs.declared.refusal.OpenRefusal.{OpenRefusal}
use Rattle.snd_chunks.specs.Parts.{AreParts, body_of, front_refusal}
use Rattle.snd_chunks.specs.declared.parts.Parts.{Parts}
use Rattle.snd_rf64.specs.Layout.{fitted, rf64_front, rf64_layout, sizes_of, sizes_told, with_format, with_sizes}
use Rattle.snd_rf64.specs.Parts.{ArePlaced, all_pieces, ends_of, layout_with, shape_of, with_params}
use Rattle.snd_rf64.specs.declared.ends.Ends.{Ends}
use Rattle.snd_rf64.specs.declared.sizes.Sizes.{Sizes}

-- ---- the first bytes

-- two lists with the same bytes from 12 to 44 tell the same sizes
pub same_sizes : (x y : List ℕ) (size : ℕ) → 44 ≤ length x → 44 ≤ length y → ((i : ℕ) → 12 ≤ i → i < 44 → get_or x i 0 ≡ get_or y i 0) → sizes_told size x ≡ sizes_told size y
same_sizes x y size in_x in_y same =
    let id : take 4 (drop 12 x) ≡ take 4 (drop 12 y) = same_part 4 12 x y (omega (arith, in_x)) (omega (arith, in_y)) (λ i from to. same i from (omega (arith, to))) in
    let len : number Little x 16 4 ≡ number Little y 16 4 = same_number_at Little 4 16 x y (λ i from to. same i (omega (arith, from)) (omega (arith, to))) in
    let whole : number Little x 20 8 ≡ number Little y 20 8 = same_number_at Little 8 20 x y (λ i from to. same i (omega (arith, from)) (omega (arith, to))) in
    let sound : number Little x 28 8 ≡ number Little y 28 8 = same_number_at Little 8 28 x y (λ i from to. same i (omega (arith, from)) (omega (arith, to))) in
    rw (id, len, whole, sound) refl

pub sizes_read : (size : ℕ) (b top : List ℕ) → top ≡ take 48 (drop 0 b) → size ≡ length b → 48 ≤ size → sizes_of b ≡ sizes_told size top
sizes_read size b top read is long =
    let in_file : 48 ≤ length b = omega (arith, is, long) in
    let top_long : length top ≡ 48 = whole_length 48 0 top b read (omega (arith, in_file)) in
    let later : nat_lt (length b) 48 ≡ false = le-ltb (length b) 48 in_file in
    let told : sizes_told size top ≡ sizes_told size b = same_sizes top b size (omega (arith, top_long)) (omega (arith, in_file)) (λ i from to. agree_whole 48 0 top b read i (omega (arith, to)) ∙ ap (λ k. get_or b k 0) (omega arith)) in
    rw later (ap (λ n. sizes_told n b) (sym is) ∙ sym told)

-- ---- the whole

pub built : (b : List ℕ) (sizes : Sizes) (front : Front) (parts : Parts) (p : Parameters) (r : Result Parameters OpenRefusal) (ends : Ends) (pieces : List Piece) (layout : Shape)
    → r ≡ Ok p → ends ≡ ends_of (length b) sizes parts.sound.at → pieces ≡ all_pieces b front ends → layout ≡ shape_of p parts.sound.at sizes.sound ends pieces → with_params b sizes front parts r ≡ Ok layout
built b sizes front parts p r ends pieces layout params ended found is = rw params (ap (λ (s : Shape). Ok s) (sym (is ∙ rw (found, ended) refl)))

pub parts_placed : (size : ℕ) (sizes : Sizes) (front : Front) (parts : Parts) → IsFront size sizes.next 256 front → AreParts 4 front parts → ArePlaced size sizes parts
parts_placed size sizes front parts is are = record {
  format = (find_has _ (EndsBy size) front.chunks parts.format is.whole are.format).0;
  long = are.long;
  sound = is.sound parts.sound are.sound;
}

pub sizes_refused : (b : List ℕ) (refusal : OpenRefusal) → sizes_of b ≡ Err refusal → rf64_layout b ≡ Err refusal
unfolding rf64_layout
sizes_refused b refusal is = ap (with_sizes b) is

pub refusal_is : (b : List ℕ) (sizes : Sizes) (front : Front) (refusal : OpenRefusal) → sizes_of b ≡ Ok sizes → front ≡ rf64_front b sizes.next → front_refusal front ≡ Some refusal → rf64_layout b ≡ Err refusal
unfolding rf64_layout
refusal_is b sizes front refusal told walked is = rw (told, ← walked, is) refl

with_sound : (b : List ℕ) (sizes : Sizes) (front : Front) (parts : Parts) (r : Result Parameters OpenRefusal) → with_params b sizes front parts r ≡ with_format b sizes front r (AtSound parts.sound)
with_sound b sizes front parts (Err refusal) = refl
with_sound b sizes front parts (Ok p) = refl

pub layout_is : (b : List ℕ) (sizes : Sizes) (front : Front) (parts : Parts) → sizes_of b ≡ Ok sizes → front ≡ rf64_front b sizes.next → AreParts 4 front parts → layout_with b sizes front parts ≡ rf64_layout b
unfolding rf64_layout
layout_is b sizes front parts told walked are =
    let format : Result Parameters OpenRefusal = fitted (format_of (body_of b parts.format)) in
    with_sound b sizes front parts format ∙ ap (λ e. with_format b sizes front format e) (sym are.sound) ∙ rw (told, ← walked, are.no_refusal, are.format) refl

pub walked : (b : List ℕ) (seen : Front) (id : List ℕ) (place : ℕ) → id ≡ codes "data" → seen ≡ front (chunk_at Little b) id (length b) 256 place → seen ≡ rf64_front b place
unfolding rf64_front
walked b seen id place is told = told ∙ ap (λ (i : List ℕ). front (chunk_at Little b) i (length b) 256 place) is
