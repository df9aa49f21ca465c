-- What a layout was made from, and that it is made from it.
use Rattle.std.proofs.Common.{◌≡◌, List, ℕ, ◌+◌, ◌≤◌, true, ◌&&◌, Option, None, Some, Ok, Err, length, take, drop, refl, sym, ap, subst, inl, inr, arith}
use Rattle.std.proofs.lemmas.Bool.{and_parts, cases_Bool, leb-true, ltb-false}
use Rattle.std.specs.Prelude.{Result, codes, nat_le, nat_lt}
use Rattle.std.specs.Str.{bytes_eq}
use Rattle.snd_chunks.proofs.Public.{in_order, is_head, IsHead, Reaches, reaches}
use Rattle.snd_chunks.specs.declared.chunk.Chunk.{Chunk}
use Rattle.snd_chunks.specs.declared.front.Ending.{Ending}
use Rattle.snd_chunks.specs.declared.front.Ending.TheVariants.{AtSound, Cut, TooMany}
use Rattle.snd_chunks.specs.declared.front.Front.{Front}
use Rattle.snd_chunks.specs.Chunks.{chunk_at}
use Rattle.snd_fields.specs.Field.{number}
use Rattle.snd_fields.specs.declared.field.Order.TheVariants.{Little}
use Rattle.snd_layout.specs.Fit.{fit_refusal}
use Rattle.snd_layout.specs.Format.{format_of}
use Rattle.snd_layout.specs.Params.{Parameters}
use Rattle.snd_layout.specs.Refusals.{unless}
use Rattle.snd_layout.specs.Shape.{Shape}
use Rattle.snd_layout.specs.declared.kind.Kind.TheVariants.{Rf64}
use Rattle.snd_layout.specs.declared.refusal.OpenRefusal.{OpenRefusal}
use Rattle.snd_chunks.specs.Parts.{body_of, format_chunk, front_refusal}
use Rattle.snd_rf64.specs.Layout.{fitted, has_sizes, layout_from, rf64_front, rf64_layout, rf64_shape, sizes_in, sizes_of, with_chunk, with_format, with_sizes}
use Rattle.snd_rf64.specs.declared.sizes.Sizes.{Sizes}

-- a file tells sizes
pub record TellsSizes (b : List ℕ) (sizes : Sizes) : Type 0 where
  pub long : 48 ≤ length b
  pub has : has_sizes (length b) b ≡ true
  pub is : sizes ≡ sizes_in b
  pub within : 20 + number Little b 16 4 ≤ length b
  pub behind : 48 ≤ sizes.next

pub tells : (b : List ℕ) (sizes : Sizes) → sizes_of b ≡ Ok sizes → TellsSizes b sizes
tells b sizes told = elim (cases_Bool (nat_lt (length b) 48)) [
  | inl short ↦ absurd (let h = rw short at told in cc)
  | inr later ↦ elim (cases_Bool (has_sizes (length b) b)) [
    | inl has ↦
        let same : Ok (sizes_in b) ≡ Ok sizes = rw (later, has) at told in
        let parts = and_parts (bytes_eq (take 4 (drop 12 b)) (codes "ds64") && nat_le 28 (number Little b 16 4)) (nat_le (20 + number Little b 16 4) (length b)) has in
        let is : sizes ≡ sizes_in b = cc in
        let least : 28 ≤ number Little b 16 4 = leb-true 28 (number Little b 16 4) (and_parts (bytes_eq (take 4 (drop 12 b)) (codes "ds64")) (nat_le 28 (number Little b 16 4)) parts.0).1 in
        record {
          long = ltb-false (length b) 48 later;
          has = has;
          is = is;
          within = leb-true (20 + number Little b 16 4) (length b) parts.1;
          behind = rw is (omega (arith, least));
        }
    | inr lacks ↦ absurd (let h = rw (later, lacks) at told in cc)
  ]
]

pub record Opens (b : List ℕ) (h : Shape) : Type 0 where
  pub sizes : Sizes
  pub format : Chunk
  pub sound : Chunk
  pub params : Parameters
  pub told : sizes_of b ≡ Ok sizes
  pub no_refusal : front_refusal (rf64_front b sizes.next) ≡ None
  pub format_is : format_chunk (rf64_front b sizes.next).chunks ≡ Some format
  pub sound_is : (rf64_front b sizes.next).ending ≡ AtSound sound
  pub params_are : fitted (format_of (body_of b format)) ≡ Ok params
  pub shape : h ≡ rf64_shape b sizes (rf64_front b sizes.next) params sound.at

module _ (b : List ℕ) (h : Shape) (sizes : Sizes) (told : sizes_of b ≡ Ok sizes) where
  abbrev front : Front
  front = rf64_front b sizes.next

  by_format : front_refusal front ≡ None → (format : Chunk) → format_chunk front.chunks ≡ Some format → (r : Result Parameters OpenRefusal) → fitted (format_of (body_of b format)) ≡ r → (ending : Ending) → front.ending ≡ ending
      → with_format b sizes front r ending ≡ Ok h → Opens b h
  by_format none format found (Err refusal) read ending ends is = absurd (cc)
  by_format none format found (Ok p) read Cut ends is = absurd (cc)
  by_format none format found (Ok p) read TooMany ends is = absurd (cc)
  by_format none format found (Ok p) read (AtSound sound) ends is =
      record { sizes = sizes; format = format; sound = sound; params = p; told = told; no_refusal = none; format_is = found; sound_is = ends; params_are = read; shape = cc }

  by_chunk : front_refusal front ≡ None → (chunk : Option Chunk) → format_chunk front.chunks ≡ chunk → with_chunk b sizes front chunk ≡ Ok h → Opens b h
  by_chunk none None found is = absurd (cc)
  by_chunk none (Some format) found is = by_format none format found (fitted (format_of (body_of b format))) refl front.ending refl is

  by_refusal : (refusal : Option OpenRefusal) → front_refusal front ≡ refusal → layout_from b sizes front refusal ≡ Ok h → Opens b h
  by_refusal (Some refusal) refused is = absurd (cc)
  by_refusal None refused is = by_chunk refused (format_chunk front.chunks) refl is

by_sizes : (b : List ℕ) (h : Shape) (r : Result Sizes OpenRefusal) → sizes_of b ≡ r → with_sizes b r ≡ Ok h → Opens b h
by_sizes b h (Err refusal) told is = absurd (cc)
by_sizes b h (Ok sizes) told is = by_refusal b h sizes told (front_refusal (rf64_front b sizes.next)) refl is

-- a layout was made from parts
pub opens : (b : List ℕ) (h : Shape) → rf64_layout b ≡ Ok h → Opens b h
unfolding rf64_layout
opens b h is = by_sizes b h (sizes_of b) refl is

-- and parts make a layout
pub opened : (b : List ℕ) (h : Shape) → Opens b h → rf64_layout b ≡ Ok h
unfolding rf64_layout
opened b h is = rw (is.told, is.no_refusal, is.format_is, is.params_are, is.sound_is) (ap (λ (s : Shape). Ok s) (sym is.shape))

unrefused : (refusal : Option OpenRefusal) (q p : Parameters) → unless refusal q ≡ Ok p → (refusal ≡ None) × (q ≡ p)
unrefused None q p is = (refl, cc)
unrefused (Some refusal) q p is = absurd (cc)

-- the parameters that the kind holds are those of the format
pub fits_rf64 : (r : Result Parameters OpenRefusal) (p : Parameters) → fitted r ≡ Ok p → (fit_refusal Rf64 p ≡ None) × (r ≡ Ok p)
fits_rf64 (Err refusal) p is = absurd (cc)
fits_rf64 (Ok q) p is =
    let both = unrefused (fit_refusal Rf64 q) q p is in
    (subst (λ (s : Parameters). fit_refusal Rf64 s ≡ None) both.1 both.0, ap (λ (s : Parameters). Ok s) both.1)

-- the walk up to the data came to them
pub reached : (b : List ℕ) (place : ℕ) (sound : Chunk) → (rf64_front b place).ending ≡ AtSound sound → Reaches (chunk_at Little b) (codes "data") (length b) 256 place (rf64_front b place).chunks sound
unfolding rf64_front
reached b place sound ends = reaches (chunk_at Little b) (codes "data") (length b) 256 place (rf64_front b place) sound refl ends

-- where the data begin
pub record Begins (b : List ℕ) (place : ℕ) (sound : Chunk) : Type 0 where
  pub least : place + 8 ≤ sound.at
  pub within : sound.at ≤ length b

pub begins : (b : List ℕ) (place : ℕ) (sound : Chunk) → (rf64_front b place).ending ≡ AtSound sound → Begins b place sound
begins b place sound ends =
    let reach = reached b place sound ends in
    let head : IsHead Little b reach.last sound = is_head Little b reach.last sound reach.at in
    let ordered = in_order Little b (codes "data") (length b) place reach.last (rf64_front b place).chunks reach.chain in
    record { least = omega (arith, head.at, ordered.0); within = omega (arith, head.at, head.within) }
