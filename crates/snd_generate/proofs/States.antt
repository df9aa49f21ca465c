-- The editing states of the file: each call leads from one to another.
use Rattle.std.proofs.Common.{◌≡◌, ◌∙◌, ap, sym, subst, refl, inl, inr, ℕ, ◌+◌, ◌*◌, ◌/◌, ◌<◌, ◌≤◌, max, ℤ, Bool, true, cond, List, ◌++◌, All, length, take, drop, arith}
use Rattle.std.specs.Prelude.{nat_lt}
use Rattle.std.proofs.lemmas.Bool.{cases_lt, le-ltb, lt-ltb}
use Rattle.std.proofs.lemmas.List.{length-take-le, places, take_all}
use Rattle.std.proofs.lemmas.List.Elements.{All-append, All-drop, All-take}
use Rattle.snd_layout.specs.Shape.{Shape}
use Rattle.snd_edits.specs.Editing.{Editing}
use Rattle.snd_edits.specs.Edits.{automatic_to, count_written, cut_to, moved_write_to, over_data, put_frames, sealed_to, truncated_to, written_bytes, written_shape, written_to}
use Rattle.snd_patch.specs.Sealed.{counted, over_closing, sealed, shrunk}
use Rattle.snd_pcm.specs.Width.{HasWidth}
use Rattle.snd_generate.specs.Edited.{file_of}
use Rattle.snd_generate.specs.Generating.{AreNumbers}
use Rattle.snd_generate.specs.Steps.{Holds, shape_of}
use Rattle.snd_generate.proofs.Bytes.{cut_bytes, file_is, frame_put, laid, sealed_same}
use Rattle.snd_generate.proofs.Heads.{counted_again, params_are}
use Rattle.snd_generate.proofs.Opened.{making}

-- ---- numbers of which a frame is overwritten, or the last are cut off

pub put_numbers : (n place : ℕ) (xs ys : List ℤ) → AreNumbers n xs → length ys ≡ 2 → All (HasWidth 16) ys → place < n → AreNumbers n (put_frames xs (2 * place) ys)
put_numbers n place xs ys are two fit within = record {
  count = grind (arith, places, are.count, two, within);
  some = are.some;
  most = are.most;
  in_range = All-append (HasWidth 16) (take (2 * place) xs ++ ys) (drop (2 * place + length ys) xs)
      (All-append (HasWidth 16) (take (2 * place) xs) ys (All-take (HasWidth 16) (2 * place) xs are.in_range) fit) (All-drop (HasWidth 16) (2 * place + length ys) xs are.in_range);
}

pub cut_numbers : (n to : ℕ) (xs : List ℤ) → AreNumbers n xs → 1 ≤ to → to ≤ n → AreNumbers to (take (2 * to) xs)
cut_numbers n to xs are some within = record {
  count = length-take-le (2 * to) xs (omega (arith, within, are.count));
  some = some;
  most = omega (arith, within, are.most);
  in_range = All-take (HasWidth 16) (2 * to) xs are.in_range;
}

-- ---- the states

module _ (automatic : Bool) (n : ℕ) (xs : List ℤ) (e : Editing) (holds : Holds automatic n xs e) where
  abbrev are : AreNumbers n xs
  are = holds.numbers

  laid_is : e.bytes ≡ laid n xs
  laid_is = holds.bytes ∙ file_is n xs are.count

  -- sealed it is the same
  pub sealed_bytes : sealed e.bytes e.shape e.shape.frames ≡ file_of xs
  sealed_bytes =
      let m = making n xs are in
      ap (λ (s : Shape). sealed e.bytes s s.frames) holds.shape ∙ ap (λ (b : List ℕ). sealed b (shape_of n) n) laid_is
      ∙ sealed_same n xs are.count m.0 m.1 ∙ sym (file_is n xs are.count)

  sealed_shape : counted e.shape e.shape.frames ≡ shape_of n
  sealed_shape = ap (λ (s : Shape). counted s s.frames) holds.shape ∙ counted_again n n

  pub kept_up : Holds true n xs (automatic_to true e)
  kept_up = record { numbers = are; bytes = sealed_bytes; shape = sealed_shape; kept_up = refl }

-- a frame is overwritten
module _ (n place : ℕ) (xs ys : List ℤ) (e : Editing) (holds : Holds true n xs e) (two : length ys ≡ 2) (fit : All (HasWidth 16) ys) (within : place < n) where
  abbrev h : Shape
  h = shape_of n

  one_frame : (s : Shape) → s ≡ h → count_written s place (length ys / s.params.channels) ≡ n
  one_frame s is =
      ap (λ (t : Shape). count_written t place (length ys / t.params.channels)) is
      ∙ ap (λ q. max n (place + length ys / q.channels)) params_are
      ∙ omega (arith, two, within)

  written : (automatic : Bool) (b : List ℕ) (s : Shape) (k : ℕ) → automatic ≡ true → b ≡ laid n xs → s ≡ h → k ≡ n → written_bytes automatic b s place k ys ≡ laid n (put_frames xs (2 * place) ys)
  written automatic b s k up bytes shape count =
      let m = making n xs holds.numbers in
      let xs' = put_frames xs (2 * place) ys in
      let then = put_numbers n place xs ys holds.numbers two fit within in
      let m' = making n xs' then in
      let put = over_data (laid n xs) h place ys in
      ap (λ (t : Bool). written_bytes t b s place k ys) up
      ∙ ap (λ (l : List ℕ). written_bytes true l s place k ys) bytes
      ∙ ap (λ (t : Shape). written_bytes true (laid n xs) t place k ys) shape
      ∙ ap (λ (i : ℕ). written_bytes true (laid n xs) h place i ys) count
      ∙ ap (λ (t : Bool). sealed (cond t (over_closing put h n) put) h n) (le-ltb n n (omega arith))
      ∙ ap (λ (l : List ℕ). sealed l h n) (frame_put n xs holds.numbers.count m.0 m.1 place ys two within)
      ∙ sealed_same n xs' then.count m'.0 m'.1

  shaped : (automatic : Bool) (s : Shape) (k : ℕ) → automatic ≡ true → s ≡ h → k ≡ n → written_shape automatic s k ≡ h
  shaped automatic s k up shape count =
      ap (λ (t : Bool). written_shape t s k) up ∙ ap (λ (t : Shape). counted t k) shape ∙ ap (counted h) count ∙ counted_again n n

  pub overwritten_holds : Holds true n (put_frames xs (2 * place) ys) (written_to ys (moved_write_to place e))
  overwritten_holds =
      let then = put_numbers n place xs ys holds.numbers two fit within in
      let count = one_frame e.shape holds.shape in
      record {
        numbers = then;
        bytes = written e.automatic e.bytes e.shape _ holds.kept_up (laid_is true n xs e holds) holds.shape count ∙ sym (file_is n (put_frames xs (2 * place) ys) then.count);
        shape = shaped e.automatic e.shape _ holds.kept_up holds.shape count;
        kept_up = holds.kept_up;
      }

-- the last frames are cut off
module _ (n to : ℕ) (xs : List ℤ) (e : Editing) (holds : Holds true n xs e) (some : 1 ≤ to) where
  fewer : to < n → Holds true to (take (2 * to) xs) (cut_to to e)
  fewer lt =
      let m = making n xs holds.numbers in
      let then = cut_numbers n to xs holds.numbers some (omega (arith, lt)) in
      record {
        numbers = then;
        bytes = ap (λ (s : Shape). shrunk e.bytes s to) holds.shape ∙ ap (λ (b : List ℕ). shrunk b (shape_of n) to) (laid_is true n xs e holds)
            ∙ cut_bytes n xs holds.numbers.count m.0 m.1 to (omega (arith, lt)) ∙ sym (file_is to (take (2 * to) xs) then.count);
        shape = ap (λ (s : Shape). counted s to) holds.shape ∙ counted_again n to;
        kept_up = holds.kept_up;
      }

  as_many : to ≡ n → Holds true to (take (2 * to) xs) (sealed_to e)
  as_many is =
      let all : take (2 * to) xs ≡ xs = take_all (2 * to) xs (omega (arith, is, holds.numbers.count)) in
      subst (λ (l : List ℤ). Holds true to l (sealed_to e)) (sym all) (subst (λ (k : ℕ). Holds true k xs (sealed_to e)) (sym is)
      (record { numbers = holds.numbers; bytes = sealed_bytes true n xs e holds; shape = sealed_shape true n xs e holds; kept_up = holds.kept_up }))

  pub cut_holds : to ≤ n → Holds true to (take (2 * to) xs) (truncated_to to e)
  cut_holds within =
      let frames : e.shape.frames ≡ n = ap (λ (s : Shape). s.frames) holds.shape in
      elim (cases_lt to n) [
        | inl lt ↦ subst (Holds true to (take (2 * to) xs)) (sym (ap (λ (t : Bool). cond t (cut_to to e) (sealed_to e)) (ap (nat_lt to) frames ∙ lt-ltb to n lt))) (fewer lt)
        | inr le ↦ subst (Holds true to (take (2 * to) xs)) (sym (ap (λ (t : Bool). cond t (cut_to to e) (sealed_to e)) (ap (nat_lt to) frames ∙ le-ltb to n le))) (as_many (omega (arith, le, within)))
      ]
