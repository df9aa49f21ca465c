-- What is found on a disk is what its bytes hold, and may be opened there.
use Rattle.std.proofs.Common.{◌≡◌, ◌∙◌, ℕ, ◌+◌, ◌-◌, ◌*◌, ◌/◌, ◌^◌, ◌≤◌, false, List, Option, None, Some, Ok, Err, length, min, take, drop, refl, sym, ap, subst, arith}
use Rattle.std.proofs.Math.Nat.{div-add-mod}
use Rattle.std.proofs.lemmas.List.{places, same_lists}
use Rattle.snd_layout.specs.Blocks.{block_align, block_frames, is_adpcm}
use Rattle.snd_layout.specs.Params.{Parameters, data_bytes}
use Rattle.snd_layout.specs.Shape.{Shape, end}
use Rattle.snd_layout.specs.declared.codec.Codec.{Codec}
use Rattle.snd_layout.specs.declared.codec.Codec.TheVariants.{Ima, Ms}
use Rattle.snd_layout.specs.declared.refusal.OpenRefusal.TheVariants.{NoData, NoFormat}
use Rattle.snd_search.specs.Search.{Found, behind_data, format_in, found_in}
use Rattle.snd_search.specs.Sought.{IsSought, counted, shape_at, sought_in, with_data, with_format}
use Rattle.snd_search.specs.declared.stated.Stated.{Stated}

-- samples of a fixed number of bytes stand frame by frame
one_frame : (codec : Codec) → is_adpcm codec ≡ false → block_frames codec ≡ 1
one_frame (Ima align per_block) plain = absurd (cc)
one_frame (Ms align per_block) plain = absurd (cc)
one_frame _ plain = refl

pub plain_bytes : (p : Parameters) (n : ℕ) → is_adpcm p.codec ≡ false → data_bytes p n ≡ n * block_align p.channels p.codec
plain_bytes p n plain =
    ap (λ (m : ℕ). (n + m - 1) / m * block_align p.channels p.codec) (one_frame p.codec plain)
    ∙ ap (λ (m : ℕ). m * block_align p.channels p.codec) (let e : (n + 1 - 1) / 1 ≡ n = omega arith in e)

-- the whole frames of so many bytes are no more than these
pub whole_fits : (n align : ℕ) → n / align * align ≤ n
whole_fits n align = turned (n / align) (let e : align * (n / align) ≤ n = omega (arith, div-add-mod n align) in e)
  where
    turned : (m : ℕ) → align * m ≤ n → m * align ≤ n
    turned m le = omega (arith, le)

pub ends_within : (p : Parameters) (start size : ℕ) → is_adpcm p.codec ≡ false → start ≤ size → end (shape_at p start size) (shape_at p start size).frames ≤ size
ends_within p start size plain within =
    omega (arith, plain_bytes p ((size - start) / block_align p.channels p.codec) plain, whole_fits (size - start) (block_align p.channels p.codec), within)

-- the first bytes of a disk, of which those count that lie 8 bytes below 2^63
pub counted_is : (b : List ℕ) (len size : ℕ) → len ≡ length b → size ≡ min len (2 ^ 63 - 8) → take size b ≡ counted b
counted_is b len size long is = front b size (2 ^ 63 - 8) (is ∙ ap (λ (n : ℕ). min n (2 ^ 63 - 8)) long)
  where
    front : (b : List ℕ) (n m : ℕ) → n ≡ min (length b) m → take n b ≡ take m b
    front b n m is = same_lists _ _ (grind (arith, places, is)) (λ i e lt. grind (arith, places, is))

module _ (b d : List ℕ) (same : d ≡ counted b) where
  pub no_format : format_in d ≡ None → sought_in (counted b) ≡ Err NoFormat
  no_format none = ap (λ (l : List ℕ). sought_in l) (sym same) ∙ ap (λ (o : Option Found). with_format o) none

  pub no_data : (stated : Stated) → format_in d ≡ Some (found_in d stated) → behind_data (drop stated.behind d) ≡ None → sought_in (counted b) ≡ Err NoData
  no_data stated format none =
      ap (λ (l : List ℕ). sought_in l) (sym same) ∙ ap (λ (o : Option Found). with_format o) format ∙ ap (λ (o : Option (List ℕ)). with_data stated.params o) none

  pub data_there : (stated : Stated) (start size : ℕ) (h : Shape) → format_in d ≡ Some (found_in d stated) → behind_data (drop stated.behind d) ≡ Some (drop start d)
      → length d ≡ size → start ≤ size → h ≡ shape_at stated.params start size → IsSought (counted b) h
  data_there stated start size h format found long within is =
      let size_is : length (counted b) ≡ size = sym (ap length same) ∙ long in
      let there : IsSought (counted b) (shape_at stated.params start size) = record {
        found =
            ap (λ (l : List ℕ). sought_in l) (sym same) ∙ ap (λ (o : Option Found). with_format o) format ∙ ap (λ (o : Option (List ℕ)). with_data stated.params o) found
            ∙ ap (λ (l : List ℕ). Ok (record { params = stated.params; rest = drop start l })) same;
        within = omega (arith, within, size_is);
        is = ap (λ (n : ℕ). shape_at stated.params start n) (sym size_is);
      } in
      subst (IsSought (counted b)) (sym is) there
