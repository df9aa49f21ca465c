-- The bytes of the file of some numbers: sealed, with a frame overwritten, and cut.
use Rattle.std.proofs.Common.{◌≡◌, ◌∙◌, ap, sym, subst, refl, inr, ℕ, ◌+◌, ◌*◌, ◌<◌, ◌≤◌, ℤ, List, [], ◌++◌, length, take, drop, arith}
use Rattle.std.proofs.lemmas.List.{append_assoc, length-append, length-take-le, take-append-drop}
use Rattle.snd_container.specs.Values.{closing, closed_end}
use Rattle.snd_disk.specs.Bytes.{over}
use Rattle.snd_layout.specs.Params.{Parameters}
use Rattle.snd_layout.specs.Shape.{KeepsRule, Shape, end}
use Rattle.snd_layout.specs.declared.kind.Kind.TheVariants.{Wave}
use Rattle.snd_edits.proofs.Public.{counted_rule, fields_lie_apart, sealed_is}
use Rattle.snd_edits.specs.Editing.{Editing}
use Rattle.snd_edits.specs.Edits.{coded, put_frames}
use Rattle.snd_output.proofs.Public.{closed_now, coded_data, coded_joined, fields_in_front, rule}
use Rattle.snd_output.specs.Made.{IsMaking, frame_count}
use Rattle.snd_patch.proofs.Public.{order_is_free}
use Rattle.snd_patch.specs.Sealed.{FieldsLieApart, closed, over_closing, sealed, shrunk, with_fields}
use Rattle.snd_generate.specs.Edited.{file_of, params}
use Rattle.snd_generate.specs.Steps.{shape_of}
use Rattle.snd_generate.proofs.Heads.{closing_of, data_are, end_of, fields_again, fields_length, fields_of, head, known, linear, no_tail, params_are, says, starts}
use Rattle.snd_generate.proofs.Lists.{amid, put_amid, put_and_cut}

-- the file, by the number of its frames
abbrev pub laid : ℕ → List ℤ → List ℕ
laid n xs = with_fields head says n ++ coded params xs ++ closing says n

pub count_of : (n : ℕ) (xs : List ℤ) → length xs ≡ 2 * n → frame_count params xs ≡ n
count_of n xs count = omega (arith, count)

pub file_is : (n : ℕ) (xs : List ℤ) → length xs ≡ 2 * n → file_of xs ≡ laid n xs
file_is n xs count = ap (λ (k : ℕ). with_fields head says k ++ coded params xs ++ closing says k) (count_of n xs count)

coded_length : (n : ℕ) (xs : List ℤ) → length xs ≡ 2 * n → length (coded params xs) ≡ 4 * n
coded_length n xs count = coded_data params xs n linear count ∙ data_are n

coded_parts : (a b c : List ℤ) → coded params (a ++ b ++ c) ≡ coded params a ++ coded params b ++ coded params c
coded_parts a b c = coded_joined params (a ++ b) c ∙ ap (λ (l : List ℕ). l ++ coded params c) (coded_joined params a b)

module _ (n : ℕ) (xs : List ℤ) (count : length xs ≡ 2 * n) (m : Editing) (making : IsMaking Wave params [] xs m) where
  abbrev h : Shape
  h = shape_of n

  abbrev front : List ℕ
  front = with_fields head says n

  abbrev body : List ℕ
  body = coded params xs

  abbrev rest : List ℕ
  rest = closing says n

  head_length : length head ≡ 44
  head_length = sym making.start ∙ starts

  front_length : length front ≡ 44
  front_length = fields_length head n head_length

  body_length : length body ≡ 4 * n
  body_length = coded_length n xs count

  rule_is : KeepsRule h
  rule_is =
      let first : KeepsRule (record says { frames = n }) = subst (λ (k : ℕ). KeepsRule (record says { frames = k })) (count_of n xs count) (rule Wave params [] xs m making refl) in
      counted_rule (record says { frames = n }) n first known first.data_end (λ trailing. refl)

  apart_is : FieldsLieApart h
  apart_is =
      let holds = making.numbers refl in
      let lie = subst FieldsLieApart (sym holds.edited.keeps.shape ∙ holds.shape) (fields_lie_apart head holds.edited.keeps.head m.shape.frames m.shape.declared holds.edited.keeps.opened).inner in
      record { outer = lie.outer; side = lie.side }

  -- its fields are those of k frames, whatever they were
  fields_put : (k : ℕ) → with_fields (laid n xs) h k ≡ with_fields head says k ++ body ++ rest
  fields_put k =
      ap (λ (l : List ℕ). with_fields l h k) (append_assoc front body rest)
      ∙ fields_in_front h k front (body ++ rest) rule_is (omega (arith, starts, front_length))
      ∙ ap (λ (l : List ℕ). l ++ (body ++ rest)) (fields_of n k front ∙ fields_again head n k head_length)
      ∙ sym (append_assoc (with_fields head says k) body rest)

  long : h.start ≤ length (laid n xs)
  long = omega (arith, starts, front_length, length-append (front ++ body) rest, length-append front body)

  -- sealed it is the same
  pub sealed_same : sealed (laid n xs) h n ≡ laid n xs
  sealed_same =
      let ends : length (front ++ body) ≡ end h n = omega (arith, length-append front body, front_length, body_length, end_of n n) in
      let shut : closed (laid n xs) h n ≡ laid n xs = closed_now h n (front ++ body) rest ends (inr (sym (closing_of n n))) ∙ ap (λ (l : List ℕ). front ++ body ++ l) (closing_of n n) in
      let long_too : h.start ≤ length (closed (laid n xs) h n) = omega (arith, long, ap length shut) in
      sealed_is (laid n xs) h n rule_is apart_is no_tail long_too ∙ ap (λ (l : List ℕ). with_fields l h n) shut ∙ fields_put n

  -- a frame of it is overwritten
  pub frame_put : (place : ℕ) (ys : List ℤ) → length ys ≡ 2 → place < n → over (laid n xs) (end h place) (coded h.params ys) ≡ laid n (put_frames xs (2 * place) ys)
  frame_put place ys two within =
      let a = take (2 * place) xs in
      let old = take (length ys) (drop (2 * place) xs) in
      let c = drop (2 * place + length ys) xs in
      let parts = amid xs ys (2 * place) (omega (arith, two, within, count)) in
      let a_length : length (coded params a) ≡ 4 * place = coded_length place a (length-take-le (2 * place) xs (omega (arith, within, count))) in
      let old_length : length (coded params old) ≡ 4 = coded_length 1 old (parts.1 ∙ two) in
      let new_length : length (coded params ys) ≡ 4 = coded_length 1 ys two in
      ap (λ (at : ℕ). over (laid n xs) at (coded h.params ys)) (end_of n place)
      ∙ ap (λ (q : Parameters). over (laid n xs) (44 + 4 * place) (coded q ys)) params_are
      ∙ ap (λ (l : List ℕ). over (front ++ l ++ rest) (44 + 4 * place) (coded params ys)) (ap (coded params) parts.0 ∙ coded_parts a old c)
      ∙ put_amid front (coded params a) (coded params old) (coded params c) rest (coded params ys) (44 + 4 * place) (omega (arith, front_length, a_length)) (new_length ∙ sym old_length)
      ∙ ap (λ (l : List ℕ). front ++ l ++ rest) (sym (coded_parts a ys c))

  -- it is cut to fewer frames
  pub cut_bytes : (to : ℕ) → to ≤ n → shrunk (laid n xs) h to ≡ laid to (take (2 * to) xs)
  cut_bytes to within =
      let a = take (2 * to) xs in
      let c = drop (2 * to) xs in
      let front' = with_fields head says to in
      let front'_length : length front' ≡ 44 = fields_length head to head_length in
      let a_length : length (coded params a) ≡ 4 * to = coded_length to a (length-take-le (2 * to) xs (omega (arith, within, count))) in
      let numbers : body ≡ coded params a ++ coded params c = ap (coded params) (sym (take-append-drop (2 * to) xs)) ∙ coded_joined params a c in
      ap (λ (l : List ℕ). take (closed_end h to) (over_closing l h to)) (order_is_free (laid n xs) h to rule_is apart_is long ∙ fields_put to)
      ∙ ap (λ (l : List ℕ). take (closed_end h to) (over (front' ++ l ++ rest) (end h to) (closing h to))) numbers
      ∙ put_and_cut front' (coded params a) (coded params c) rest (closing h to) (end h to) (closed_end h to) (omega (arith, end_of n to, front'_length, a_length)) refl
      ∙ ap (λ (l : List ℕ). front' ++ coded params a ++ l) (closing_of n to)
