-- Inputs side by side: what holds of each, where one of them is read, where another is put behind them, and where calls follow each other.
use Rattle.std.proofs.Common.{◌≡◌, ◌∙◌, ap, sym, refl, subst, inl, inr, ◌⊎◌, ℕ, zero, suc, ◌+◌, ◌<◌, List, [], ◌∷◌, ◌++◌, length, get_or, set, arith}
use Rattle.std.proofs.lemmas.Bool.{cases_lt}
use Rattle.std.proofs.lemmas.Grind.{get_or-set_at}
use Rattle.std.proofs.lemmas.List.{get_or_append_left, get_or_at, get_or_default, get_or-set_other, length-append, length-set}
use Rattle.snd_disk.proofs.Public.{only_reads_then}
use Rattle.snd_disk.specs.declared.disk.Disk.{Ghosts}
use Rattle.snd_disk.specs.State.{State}
use Rattle.snd_inputs.proofs.Public.{reads_none}
use Rattle.snd_inputs.specs.Opening.{Holds}
use Rattle.snd_layout.specs.Shape.{Shape}
use Rattle.snd_edits.specs.Editing.{Editing, first_editing}
use Rattle.snd_interleave.specs.Channels.{AreMono, HoldAll, ReadAll, Reads, layouts_of}
use Rattle.snd_inputs.specs.declared.input.Input.{Input}

module _ {D : Type 0} (ghosts : Ghosts D) where
  -- ---- what only reads

  pub reads_itself : (x : Input D ghosts) → Reads ghosts x x
  reads_itself x = record { layout = refl; disk = reads_none ghosts.state ghosts.may_leave ghosts.left_between x.disk }

  reads_then : (x y z : Input D ghosts) → Reads ghosts x y → Reads ghosts y z → Reads ghosts x z
  reads_then x y z first second = record { layout = second.layout ∙ first.layout; disk = only_reads_then _ _ _ _ _ _ _ _ _ first.disk second.disk }

  same_element : (xs : List (Input D ghosts)) (k : ℕ) (d d' : Input D ghosts) → k < length xs → Reads ghosts (get_or xs k d) (get_or xs k d')
  same_element xs k d d' lt = subst (λ (x : Input D ghosts). Reads ghosts (get_or xs k d) x) (get_or_default xs k d d' lt) (reads_itself (get_or xs k d))

  pub all_unread : (xs : List (Input D ghosts)) → ReadAll ghosts xs xs
  all_unread xs = record { count = refl; each = same_element xs }

  pub read_then : (xs ys zs : List (Input D ghosts)) → ReadAll ghosts xs ys → ReadAll ghosts ys zs → ReadAll ghosts xs zs
  read_then xs ys zs first second = record {
    count = second.count ∙ first.count;
    each = λ k d d' lt. reads_then (get_or xs k d) (get_or ys k d) (get_or zs k d') (first.each k d d lt) (second.each k d d' (omega (arith, lt, first.count)));
  }

  -- one of them is read
  pub one_read : (xs : List (Input D ghosts)) (i : ℕ) (x y : Input D ghosts) → i < length xs → x ≡ get_or xs i x → Reads ghosts x y → ReadAll ghosts xs (set xs i y)
  one_read xs i x y within is reads = record {
    count = length-set xs i y;
    each = λ k d d' lt. elim (cases_same k i) [
      | inl here ↦
          subst (λ (z : Input D ghosts). Reads ghosts (get_or xs k d) z) (sym (get_or-set_at xs i k y d' here within))
          (subst (λ (z : Input D ghosts). Reads ghosts z y) (is ∙ get_or_default xs i x d within ∙ ap (λ (n : ℕ). get_or xs n d) (sym here)) reads)
      | inr other ↦ subst (λ (z : Input D ghosts). Reads ghosts (get_or xs k d) z) (sym (get_or-set_other xs i k y d' other)) (same_element xs k d d' lt)
    ];
  }
    where
      cases_same : (a b : ℕ) → (a ≡ b) ⊎ (a ≡ b → ⊥)
      cases_same a b = elim (cases_lt a b) [
        | inl lt ↦ inr (λ same. absurd (omega (arith, lt, same)))
        | inr le ↦ elim (cases_lt b a) [ inl gt ↦ inr (λ same. absurd (omega (arith, gt, same))) | inr ge ↦ inl (omega (arith, le, ge)) ]
      ]

  -- those before the last one, and the last
  front_read : (xs ys : List (Input D ghosts)) (x y : Input D ghosts) → ReadAll ghosts (xs ++ x ∷ []) (ys ++ y ∷ []) → ReadAll ghosts xs ys
  front_read xs ys x y all =
      let count : length ys ≡ length xs = omega (arith, all.count, length-append xs (x ∷ []), length-append ys (y ∷ [])) in
      record {
        count = count;
        each = λ k d d' lt.
            subst (λ (z : Input D ghosts). Reads ghosts z (get_or ys k d')) (get_or_append_left xs (x ∷ []) d k lt)
            (subst (λ (z : Input D ghosts). Reads ghosts (get_or (xs ++ x ∷ []) k d) z) (get_or_append_left ys (y ∷ []) d' k (omega (arith, lt, count)))
            (all.each k d d' (omega (arith, lt, length-append xs (x ∷ [])))));
      }

  last_read : (xs ys : List (Input D ghosts)) (x y : Input D ghosts) → ReadAll ghosts (xs ++ x ∷ []) (ys ++ y ∷ []) → Reads ghosts x y
  last_read xs ys x y all =
      let count : length ys ≡ length xs = omega (arith, all.count, length-append xs (x ∷ []), length-append ys (y ∷ [])) in
      subst (λ (z : Input D ghosts). Reads ghosts z y) (get_or_at xs x [] x (length xs) refl)
      (subst (λ (z : Input D ghosts). Reads ghosts (get_or (xs ++ x ∷ []) (length xs) x) z) (get_or_at ys y [] y (length xs) count)
      (all.each (length xs) x y (omega (arith, length-append xs (x ∷ [])))))

  -- .. of lists that are these
  module _ (xs ys : List (Input D ghosts)) (x y : Input D ghosts) (old new : List (Input D ghosts)) (old_is : old ≡ xs ++ x ∷ []) (new_is : new ≡ ys ++ y ∷ []) (reads : ReadAll ghosts old new) where
    read_so : ReadAll ghosts (xs ++ x ∷ []) (ys ++ y ∷ [])
    read_so = subst (λ (l : List (Input D ghosts)). ReadAll ghosts l (ys ++ y ∷ [])) old_is (subst (λ (l : List (Input D ghosts)). ReadAll ghosts old l) new_is reads)

    pub front_of : ReadAll ghosts xs ys
    front_of = front_read xs ys x y read_so

    pub last_of : Reads ghosts x y
    last_of = last_read xs ys x y read_so

  pub still_mono : (xs ys : List (Input D ghosts)) → ReadAll ghosts xs ys → AreMono xs → AreMono ys
  still_mono xs ys all mono k d lt =
      let within : k < length xs = omega (arith, lt, all.count) in
      ap (λ (h : Shape). h.params.channels) (all.each k d d within).layout ∙ mono k d within

  -- and they say the same
  pub same_layouts : (xs ys : List (Input D ghosts)) → ReadAll ghosts xs ys → layouts_of ys ≡ layouts_of xs
  same_layouts [] [] all = refl
  same_layouts [] (y ∷ ys) all = absurd (omega (arith, all.count))
  same_layouts (x ∷ xs) [] all = absurd (omega (arith, all.count))
  same_layouts (x ∷ xs) (y ∷ ys) all =
      ap (λ (h : Shape). h ∷ layouts_of ys) (all.each zero x y (omega arith)).layout
      ∙ ap (λ (hs : List Shape). x.layout ∷ hs) (same_layouts xs ys (record { count = omega (arith, all.count); each = λ k d d' lt. all.each (suc k) d d' (omega (arith, lt)) }))

  -- ---- what they hold

  holds_still : (x y : Input D ghosts) (e : Editing) → Reads ghosts x y → Holds ghosts.state x e → Holds ghosts.state y e
  holds_still x y e reads holds = record {
    bytes = reads.disk.keeps.contents ∙ holds.bytes;
    opened = holds.opened ∙ ap (first_editing e.bytes) (sym reads.layout);
    count = holds.count;
  }

  pub hold_still : (xs ys : List (Input D ghosts)) (es : List Editing) → ReadAll ghosts xs ys → HoldAll ghosts.state xs es → HoldAll ghosts.state ys es
  hold_still xs ys es all hold = record {
    count = hold.count ∙ sym all.count;
    each = λ k d d' lt. let within : k < length xs = omega (arith, lt, all.count) in holds_still (get_or xs k d) (get_or ys k d) (get_or es k d') (all.each k d d within) (hold.each k d d' within);
  }

module _ {D : Type 0} {ghosts : Ghosts D} (state : D → State) where
  -- one more
  pub hold_more : (xs : List (Input D ghosts)) (es : List Editing) (x : Input D ghosts) (e : Editing) → HoldAll state xs es → Holds state x e → HoldAll state (xs ++ x ∷ []) (es ++ e ∷ [])
  hold_more xs es x e hold holds = record {
    count = length-append es (e ∷ []) ∙ ap (λ (n : ℕ). n + 1) hold.count ∙ sym (length-append xs (x ∷ []));
    each = λ k d d' lt. elim (cases_lt k (length xs)) [
      | inl before ↦
          subst (λ (y : Input D ghosts). Holds state y (get_or (es ++ e ∷ []) k d')) (sym (get_or_append_left xs (x ∷ []) d k before))
          (subst (λ (f : Editing). Holds state (get_or xs k d) f) (sym (get_or_append_left es (e ∷ []) d' k (omega (arith, before, hold.count)))) (hold.each k d d' before))
      | inr le ↦
          let last : length xs ≡ k = omega (arith, le, lt, length-append xs (x ∷ [])) in
          subst (λ (y : Input D ghosts). Holds state y (get_or (es ++ e ∷ []) k d')) (sym (get_or_at xs x [] d k last))
          (subst (λ (f : Editing). Holds state x f) (sym (get_or_at es e [] d' k (hold.count ∙ last))) holds)
    ];
  }

  pub hold_none : HoldAll {ghosts = ghosts} state [] []
  hold_none = record { count = refl; each = λ k d d' lt. absurd (omega (arith, lt)) }
