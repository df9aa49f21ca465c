-- Samples read a block at a time.
use Rattle.std.proofs.Common.{◌≡◌, ◌∙◌, ap, sym, subst, ℕ, ◌+◌, ◌*◌, ◌/◌, ◌≤◌, ℤ, List, [], ◌++◌, All, length, take, drop, arith}
use Rattle.std.proofs.Math.Seq.{take-add}
use Rattle.std.proofs.lemmas.List.{drop-drop, length-drop, length-take-le, nil_from_length}
use Rattle.std.proofs.lemmas.List.Elements.{All-append}
use Rattle.std.proofs.lemmas.Slice.{take-put_mid}
use borrow.Rule.Slice.PartMut.{put_mid}
use Rattle.snd_container.proofs.Public.{byte_count_pos, length-samples, samples_of_joined}
use Rattle.std.proofs.Math.Nat.{mul-div_cancel_left}
use Rattle.snd_container.specs.Fixed.{byte_count, samples}
use Rattle.snd_container.specs.declared.fixed.Fixed.{Fixed}

-- no bytes have no samples
pub no_samples : (form : Fixed) (bytes : List ℕ) → [] ≡ samples form (take (byte_count form * 0) bytes)
no_samples form bytes =
    let w = byte_count form in
    let none : length (take (w * 0) bytes) ≡ w * 0 = length-take-le (w * 0) bytes (omega arith) in
    sym (nil_from_length _ (length-samples form (take (w * 0) bytes) ∙ ap (λ (m : ℕ). m / w) none ∙ mul-div_cancel_left 0 (byte_count_pos form)))

-- the samples of the bytes that were read, and of those of the next block
pub samples_joined : (form : Fixed) (b : List ℕ) (at done count : ℕ) → at + byte_count form * (done + count) ≤ length b
    → samples form (take (byte_count form * done) (drop at b)) ++ samples form (take (byte_count form * count) (drop (at + byte_count form * done) b))
    ≡ samples form (take (byte_count form * (done + count)) (drop at b))
samples_joined form b at done count fits =
    let w = byte_count form in
    let front = take (w * done) (drop at b) in
    let sum : w * (done + count) ≡ w * done + w * count = omega arith in
    let size : length front ≡ w * done = length-take-le (w * done) (drop at b) (omega (arith, fits, sum, length-drop at b)) in
    ap (λ l. samples form front ++ samples form (take (w * count) l)) (sym (drop-drop (w * done) at b))
    ∙ sym (samples_of_joined form front (take (w * count) (drop (w * done) (drop at b))) done size)
    ∙ ap (samples form) (sym (take-add (w * done) (w * count) (drop at b)))
    ∙ ap (λ (m : ℕ). samples form (take m (drop at b))) (sym sum)

module _ (into taken : List ℤ) (done count room : ℕ) (within : done ≤ length into) (size : length taken ≡ count) where
  part : take (done + count) (put_mid done room into taken) ≡ take done into ++ taken
  part = take-put_mid done room into taken (done + count) (omega (arith, size)) within

  pub samples_more : (form : Fixed) (b : List ℕ) (at n : ℕ) → n ≡ count → at + byte_count form * (done + count) ≤ length b
      → take done into ≡ samples form (take (byte_count form * done) (drop at b))
      → taken ≡ samples form (take (byte_count form * n) (drop (at + byte_count form * done) b))
      → take (done + count) (put_mid done room into taken) ≡ samples form (take (byte_count form * (done + count)) (drop at b))
  samples_more form b at n same fits so_far next =
      part
      ∙ ap (λ l. l ++ taken) so_far
      ∙ ap (λ l. samples form (take (byte_count form * done) (drop at b)) ++ l) next
      ∙ ap (λ (m : ℕ). samples form (take (byte_count form * done) (drop at b)) ++ samples form (take (byte_count form * m) (drop (at + byte_count form * done) b))) same
      ∙ samples_joined form b at done count fits

  pub all_more : (P : ℤ → Type 0) → All P taken → All P (take done into) → All P (take (done + count) (put_mid done room into taken))
  all_more P next so_far = subst (All P) (sym part) (All-append P (take done into) taken so_far next)
