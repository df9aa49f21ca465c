-- What is written of a broadcast extension is read again.
use Rattle.std.proofs.Common.{ℕ, zero, suc, ◌≡◌, ◌<◌, ◌≤◌, ◌+◌, ◌-◌, ◌^◌, nat_lt, List, [], ◌∷◌, ◌++◌, length, take, drop, replicate, slice_index, Some, None, add-suc, add-zero, refl, sym, ap, ◌∙◌, arith, length-append}
use Rattle.std.proofs.lemmas.Bool.{cond-false, le-ltb}
use Rattle.std.proofs.lemmas.List.{append_assoc, append-nil, drop-drop, drop_at, length-drop, length-take, take_at, get_or-drop, length-replicate}
use Rattle.byteorder.specs.Endian.{little_from}
use Rattle.byteorder.specs.Numbers.{little_number-reads_back}
use Rattle.snd_fields.specs.Field.{bytes_of, number}
use Rattle.snd_fields.specs.declared.field.Order.TheVariants.{Little}
use Rattle.snd_meta.specs.Text.{text_of, padded, joined, IsTextWithin}
use Rattle.snd_meta.specs.declared.bext.BextKey.TheVariants.{Description, Originator, OrigRef, OrigDate, OrigTime}
use Rattle.snd_meta.specs.Broadcast.{Broadcast, IsBroadcast, field_text, bext_of, bext_body, text_parts, other_parts}
use Rattle.snd_meta.proofs.Texts.{text_of-zeros}

-- ---- one part after the other

-- what stands behind a part
behind : (body part rest : List ℕ) (at k : ℕ) → drop at body ≡ part ++ rest → length part ≡ k → drop (at + k) body ≡ rest
behind body part rest at k here e = sym (drop-drop k at body) ∙ ap (drop k) here ∙ drop_at part rest k e

-- the part itself
part_at : (body part rest : List ℕ) (at k : ℕ) → drop at body ≡ part ++ rest → length part ≡ k → take k (drop at body) ≡ part
part_at body part rest at k here e = ap (take k) here ∙ take_at part rest k e

length-padded : (n : ℕ) (text : List ℕ) → length text ≤ n → length (padded n text) ≡ n
length-padded n text fits = omega (arith, length-append text (replicate (n - length text) 0), length-replicate {A = ℕ} (n - length text) 0)

-- a text in a field
text_again : (body text rest : List ℕ) (at n : ℕ) → drop at body ≡ padded n text ++ rest → IsTextWithin n text → text_of (take n (drop at body)) ≡ text
text_again body text rest at n here good =
    ap text_of (part_at body (padded n text) rest at n here (length-padded n text good.short)) ∙ text_of-zeros text (n - length text) ∙ good.no_zero

little_from-drop : (body : List ℕ) (at i k : ℕ) → little_from (at + i) k body ≡ little_from i k (drop at body)
little_from-drop body at i zero = refl
little_from-drop body at i (suc k) =
    let byte : slice_index body (at + i) ≡ slice_index (drop at body) i = sym (get_or-drop at body i 0) in
    let rest : little_from (suc (at + i)) k body ≡ little_from (suc i) k (drop at body) =
    ap (λ n. little_from n k body) (sym (add-suc at i)) ∙ little_from-drop body at (suc i) k in
    rw (byte, rest) refl

-- a number in a field
number_again : (body rest : List ℕ) (at k n : ℕ) → drop at body ≡ bytes_of Little k n ++ rest → n < 256 ^ k → number Little body at k ≡ n
number_again body rest at k n here fits =
    ap (λ m. little_from m k body) (sym (add-zero at)) ∙ little_from-drop body at 0 k ∙ ap (little_from 0 k) here ∙ little_number-reads_back k n rest fits

-- ---- the whole body

abbrev made : List ℕ → List ℕ → List ℕ → List ℕ → List ℕ → ℕ → ℕ → List ℕ → List ℕ → List ℕ → Broadcast
made d o r e t n v u f h = record { description = d; originator = o; reference = r; date = e; time = t; time_reference = n; version = v; umid = u; further = f; history = h }

-- what a long enough body says, field by field
pub read_fields : (body : List ℕ) (b : Broadcast) → 602 ≤ length body → b.description ≡ field_text Description body → b.originator ≡ field_text Originator body
    → b.reference ≡ field_text OrigRef body → b.date ≡ field_text OrigDate body → b.time ≡ field_text OrigTime body → b.time_reference ≡ number Little body 338 8
    → b.version ≡ number Little body 346 2 → b.umid ≡ take 64 (drop 348 body) → b.further ≡ take 190 (drop 412 body) → b.history ≡ text_of (drop 602 body)
    → bext_of body ≡ Some b
unfolding bext_of
read_fields body b long d o r e t n v u f h =
    cond-false (nat_lt (length body) 602) None _ (le-ltb (length body) 602 long)
    ∙ sym (
    ap (λ x. Some (made x b.originator b.reference b.date b.time b.time_reference b.version b.umid b.further b.history)) d
    ∙ ap (λ x. Some (made (field_text Description body) x b.reference b.date b.time b.time_reference b.version b.umid b.further b.history)) o
    ∙ ap (λ x. Some (made (field_text Description body) (field_text Originator body) x b.date b.time b.time_reference b.version b.umid b.further b.history)) r
    ∙ ap (λ x. Some (made (field_text Description body) (field_text Originator body) (field_text OrigRef body) x b.time b.time_reference b.version b.umid b.further b.history)) e
    ∙ ap (λ x. Some (made (field_text Description body) (field_text Originator body) (field_text OrigRef body) (field_text OrigDate body) x b.time_reference b.version b.umid b.further b.history)) t
    ∙ ap (λ x. Some (made (field_text Description body) (field_text Originator body) (field_text OrigRef body) (field_text OrigDate body) (field_text OrigTime body) x b.version b.umid b.further b.history)) n
    ∙ ap (λ x. Some (made (field_text Description body) (field_text Originator body) (field_text OrigRef body) (field_text OrigDate body) (field_text OrigTime body) (number Little body 338 8) x b.umid b.further b.history)) v
    ∙ ap (λ x. Some (made (field_text Description body) (field_text Originator body) (field_text OrigRef body) (field_text OrigDate body) (field_text OrigTime body) (number Little body 338 8) (number Little body 346 2) x b.further b.history)) u
    ∙ ap (λ x. Some (made (field_text Description body) (field_text Originator body) (field_text OrigRef body) (field_text OrigDate body) (field_text OrigTime body) (number Little body 338 8) (number Little body 346 2) (take 64 (drop 348 body)) x b.history)) f
    ∙ ap (λ x. Some (made (field_text Description body) (field_text Originator body) (field_text OrigRef body) (field_text OrigDate body) (field_text OrigTime body) (number Little body 338 8) (number Little body 346 2) (take 64 (drop 348 body)) (take 190 (drop 412 body)) x)) h
    )

grouped : (a b c d e rest : List ℕ) → joined (a ∷ b ∷ c ∷ d ∷ e ∷ []) ++ rest ≡ a ++ (b ++ (c ++ (d ++ (e ++ rest))))
grouped a b c d e rest = simp append_assoc

module _ (b : Broadcast) (good : IsBroadcast b) (body : List ℕ) (whole : body ≡ text_parts b ++ other_parts b) where
  at_description : drop 0 body ≡ padded 256 b.description ++ (padded 32 b.originator ++ (padded 32 b.reference ++ (padded 10 b.date ++ (padded 8 b.time ++ other_parts b))))
  at_description = whole ∙ grouped (padded 256 b.description) (padded 32 b.originator) (padded 32 b.reference) (padded 10 b.date) (padded 8 b.time) (other_parts b)

  at_originator : drop 256 body ≡ padded 32 b.originator ++ (padded 32 b.reference ++ (padded 10 b.date ++ (padded 8 b.time ++ other_parts b)))
  at_originator = behind body (padded 256 b.description) _ 0 256 at_description (length-padded 256 b.description good.description.short)

  at_reference : drop 288 body ≡ padded 32 b.reference ++ (padded 10 b.date ++ (padded 8 b.time ++ other_parts b))
  at_reference = behind body (padded 32 b.originator) _ 256 32 at_originator (length-padded 32 b.originator good.originator.short)

  at_date : drop 320 body ≡ padded 10 b.date ++ (padded 8 b.time ++ other_parts b)
  at_date = behind body (padded 32 b.reference) _ 288 32 at_reference (length-padded 32 b.reference good.reference.short)

  at_time : drop 330 body ≡ padded 8 b.time ++ other_parts b
  at_time = behind body (padded 10 b.date) _ 320 10 at_date (length-padded 10 b.date good.date.short)

  at_time_reference : drop 338 body ≡ bytes_of Little 8 b.time_reference ++ (bytes_of Little 2 b.version ++ (b.umid ++ (b.further ++ (b.history ++ []))))
  at_time_reference = behind body (padded 8 b.time) _ 330 8 at_time (length-padded 8 b.time good.time.short)

  at_version : drop 346 body ≡ bytes_of Little 2 b.version ++ (b.umid ++ (b.further ++ (b.history ++ [])))
  at_version = behind body (bytes_of Little 8 b.time_reference) _ 338 8 at_time_reference refl

  at_umid : drop 348 body ≡ b.umid ++ (b.further ++ (b.history ++ []))
  at_umid = behind body (bytes_of Little 2 b.version) _ 346 2 at_version refl

  at_further : drop 412 body ≡ b.further ++ (b.history ++ [])
  at_further = behind body b.umid _ 348 64 at_umid good.umid

  at_history : drop 602 body ≡ b.history ++ []
  at_history = behind body b.further _ 412 190 at_further good.further

  long : 602 ≤ length body
  long = omega (arith, ap length (part_at body b.further _ 412 190 at_further good.further), length-take 190 (drop 412 body), length-drop 412 body, good.further)

  read_parts : bext_of body ≡ Some b
  read_parts =
      read_fields body b long
      (sym (text_again body b.description _ 0 256 at_description good.description))
      (sym (text_again body b.originator _ 256 32 at_originator good.originator))
      (sym (text_again body b.reference _ 288 32 at_reference good.reference))
      (sym (text_again body b.date _ 320 10 at_date good.date))
      (sym (text_again body b.time _ 330 8 at_time good.time))
      (sym (number_again body _ 338 8 b.time_reference at_time_reference good.time_reference))
      (sym (number_again body _ 346 2 b.version at_version good.version))
      (sym (part_at body b.umid _ 348 64 at_umid good.umid))
      (sym (part_at body b.further _ 412 190 at_further good.further))
      (sym (ap text_of (at_history ∙ append-nil b.history) ∙ good.history.no_zero))

-- what is written is read again
pub bext_again : (b : Broadcast) → IsBroadcast b → bext_of (bext_body b) ≡ Some b
unfolding bext_body
bext_again b good = read_parts b good (bext_body b) refl

-- a draft that was read of a body is written with what the body said
pub bext_kept : (body : List ℕ) (b : Broadcast) → IsBroadcast b → bext_of body ≡ Some b → bext_of (bext_body b) ≡ bext_of body
bext_kept body b good read = bext_again b good ∙ sym read
