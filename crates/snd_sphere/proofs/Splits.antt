-- Lines whose bytes are replaced by as many others, none of which is a line feed.
use Rattle.std.proofs.Common.{◌≡◌, ℕ, ◌+◌, ◌≤◌, Bool, true, false, not, List, [], ◌∷◌, ◌++◌, refl, sym, ap, ◌∙◌, inl, inr, drop, length, take, arith}
use Rattle.std.proofs.lemmas.Bool.{cases_Bool, eqb-true}
use Rattle.std.proofs.lemmas.List.{append-nil, append_assoc, drop_at, length-append, places, same_lists, take_at}
use Rattle.std.specs.List.{filter, list_all, list_any}
use Rattle.std.specs.Prelude.{◌==◌}
use Rattle.snd_fields.specs.Field.{with_field}
use Rattle.snd_sphere.specs.Lines.{TextLine, before_end, is_end, lines_from}

abbrev pub not_feed : ℕ → Bool
not_feed c = not (c == 10)

abbrev pub NoFeed : List ℕ → Type 0
NoFeed t = list_all not_feed t ≡ true

head_of : (c : ℕ) (t : List ℕ) → NoFeed (c ∷ t) → (c == 10) ≡ false
head_of c t clean = elim (cases_Bool (c == 10)) [
  | inl is ↦ absurd (let h = rw is at clean in cc)
  | inr other ↦ other
]

tail_of : (c : ℕ) (t : List ℕ) → NoFeed (c ∷ t) → NoFeed t
tail_of c t clean = let e = head_of c t clean in rw e at clean

pub no_feed_cons : (c : ℕ) (t : List ℕ) → (c == 10) ≡ false → NoFeed t → NoFeed (c ∷ t)
no_feed_cons c t other clean = rw other clean

pub no_feed_append : (s t : List ℕ) → NoFeed s → NoFeed t → NoFeed (s ++ t)
no_feed_append [] t one two = two
no_feed_append (c ∷ s) t one two = no_feed_cons c (s ++ t) (head_of c s one) (no_feed_append s t (tail_of c s one) two)

-- bytes up to a line feed are a line
pub ended : (t begun rest : List ℕ) (at : ℕ) → NoFeed t → lines_from at begun (t ++ 10 ∷ rest) ≡ (record { at = at; text = begun ++ t }) ∷ lines_from (at + length (begun ++ t) + 1) [] rest
ended [] begun rest at clean = rw (append-nil begun) refl
ended (c ∷ t) begun rest at clean =
    let other : (c == 10) ≡ false = head_of c t clean in
    let step : lines_from at begun (c ∷ (t ++ 10 ∷ rest)) ≡ lines_from at (begun ++ c ∷ []) (t ++ 10 ∷ rest) = rw other refl in
    step ∙ ended t (begun ++ c ∷ []) rest at (tail_of c t clean)
    ∙ ap (λ (w : List ℕ). (record { at = at; text = w }) ∷ lines_from (at + length w + 1) [] rest) (append_assoc begun (c ∷ []) t)

-- the first line of some bytes
pub record First (at : ℕ) (begun t : List ℕ) (l : TextLine) (ls : List TextLine) : Type 0 where
  pub text : List ℕ
  pub behind : List ℕ
  pub is : t ≡ text ++ 10 ∷ behind
  pub none : NoFeed text
  pub line : l ≡ record { at = at; text = begun ++ text }
  pub rest : lines_from (at + length (begun ++ text) + 1) [] behind ≡ ls

tails : (x y : TextLine) (xs ys : List TextLine) → x ∷ xs ≡ y ∷ ys → xs ≡ ys
tails x y xs ys same = cc

heads : (x y : TextLine) (xs ys : List TextLine) → x ∷ xs ≡ y ∷ ys → x ≡ y
heads x y xs ys same = cc

pub first : (at : ℕ) (begun t : List ℕ) (l : TextLine) (ls : List TextLine) → lines_from at begun t ≡ l ∷ ls → First at begun t l ls
first at begun [] l ls same = absurd (cc)
first at begun (c ∷ t) l ls same = elim (cases_Bool (c == 10)) [
  | inl is ↦
      let feed : c ≡ 10 = eqb-true c 10 is in
      let now : (record { at = at; text = begun }) ∷ lines_from (at + length begun + 1) [] t ≡ l ∷ ls = rw is at same in
      record {
        text = [];
        behind = t;
        is = ap (λ (k : ℕ). k ∷ t) feed;
        none = refl;
        line = rw (append-nil begun) (sym (heads _ _ _ _ now));
        rest = rw (append-nil begun) (tails _ _ _ _ now);
      }
  | inr other ↦
      let now : lines_from at (begun ++ c ∷ []) t ≡ l ∷ ls = rw other at same in
      let f = first at (begun ++ c ∷ []) t l ls now in
      let joined : (begun ++ c ∷ []) ++ f.text ≡ begun ++ c ∷ f.text = append_assoc begun (c ∷ []) f.text in
      record {
        text = c ∷ f.text;
        behind = f.behind;
        is = ap (λ (k : List ℕ). c ∷ k) f.is;
        none = no_feed_cons c f.text other f.none;
        line = f.line ∙ ap (λ (w : List ℕ). record { at = at; text = w }) joined;
        rest = rw joined at f.rest;
      }
]

-- a line among those of some bytes: where it stands, and what the lines are once its bytes are replaced
pub record Stands (at : ℕ) (t : List ℕ) (before : List TextLine) (l : TextLine) (behind : List TextLine) : Type 0 where
  pub place : ℕ
  pub is_at : l.at ≡ at + place
  pub inside : place + length l.text ≤ length t
  pub text : take (length l.text) (drop place t) ≡ l.text
  pub replaced : (v : List ℕ) → NoFeed v → length v ≡ length l.text → lines_from at [] (with_field t place v) ≡ before ++ (record { at = l.at; text = v }) ∷ behind

put_front : (t s r v : List ℕ) (n : ℕ) → t ≡ s ++ 10 ∷ r → length v ≡ length s → n ≡ 0 → with_field t n v ≡ v ++ 10 ∷ r
put_front t s r v n is len zero =
    let plain : 0 + length v ≡ length v = omega arith in
    rw (is, zero) (ap (λ (k : ℕ). v ++ drop k (s ++ 10 ∷ r)) plain ∙ ap (λ (l : List ℕ). v ++ l) (drop_at s (10 ∷ r) (length v) (sym len)))

put_behind : (t s r v : List ℕ) (d : ℕ) → t ≡ s ++ 10 ∷ r → d + length v ≤ length r → with_field t (length s + 1 + d) v ≡ s ++ 10 ∷ with_field r d v
put_behind t s r v d is within = rw is (same_lists _ _ (grind (arith, places)) (λ k e below. grind (arith, places)))

drop_behind : (t s r : List ℕ) (d : ℕ) → t ≡ s ++ 10 ∷ r → drop (length s + 1 + d) t ≡ drop d r
drop_behind t s r d is = rw is (same_lists _ _ (grind (arith, places)) (λ k e below. grind (arith, places)))

pub stands : (before : List TextLine) (at : ℕ) (t : List ℕ) (l : TextLine) (behind : List TextLine) → lines_from at [] t ≡ before ++ l ∷ behind → Stands at t before l behind
stands [] at t l behind same =
    let f = first at [] t l behind same in
    let size : length l.text ≡ length f.text = ap (λ (k : TextLine). length k.text) f.line in
    let whole : length t ≡ length (f.text ++ 10 ∷ f.behind) = ap length f.is in
    let text : l.text ≡ f.text = ap (λ (k : TextLine). k.text) f.line in
    record {
      place = 0;
      is_at = omega (arith, ap (λ (k : TextLine). k.at) f.line);
      inside = omega (arith, size, whole, length-append f.text (10 ∷ f.behind));
      text = ap (λ (k : List ℕ). take (length k) t) text ∙ ap (take (length f.text)) f.is ∙ take_at f.text (10 ∷ f.behind) (length f.text) refl ∙ sym text;
      replaced = λ v clean len.
          let put : with_field t 0 v ≡ v ++ 10 ∷ f.behind = put_front t f.text f.behind v 0 f.is (len ∙ size) refl in
          let shape : (record { at = at; text = v }) ∷ lines_from (at + length v + 1) [] f.behind ≡ (record { at = l.at; text = v }) ∷ behind =
          ap (λ (n : ℕ). (record { at = at; text = v }) ∷ lines_from (at + n + 1) [] f.behind) (len ∙ size) ∙ ap (λ (ls : List TextLine). (record { at = at; text = v }) ∷ ls) f.rest
          ∙ ap (λ (n : ℕ). (record { at = n; text = v }) ∷ behind) (sym (ap (λ (k : TextLine). k.at) f.line)) in
          ap (lines_from at []) put ∙ ended v [] f.behind at clean ∙ shape;
    }
stands (a ∷ before) at t l behind same =
    let f = first at [] t a (before ++ l ∷ behind) same in
    let g = stands before (at + length f.text + 1) f.behind l behind f.rest in
    let whole : length t ≡ length (f.text ++ 10 ∷ f.behind) = ap length f.is in
    record {
      place = length f.text + 1 + g.place;
      is_at = omega (arith, g.is_at);
      inside = omega (arith, g.inside, whole, length-append f.text (10 ∷ f.behind));
      text = ap (take (length l.text)) (drop_behind t f.text f.behind g.place f.is) ∙ g.text;
      replaced = λ v clean len.
          let put : with_field t (length f.text + 1 + g.place) v ≡ f.text ++ 10 ∷ with_field f.behind g.place v = put_behind t f.text f.behind v g.place f.is (omega (arith, g.inside, len)) in
          ap (lines_from at []) put ∙ ended f.text [] (with_field f.behind g.place v) at f.none
          ∙ ap (λ (ls : List TextLine). (record { at = at; text = f.text }) ∷ ls) (g.replaced v clean len)
          ∙ ap (λ (k : TextLine). k ∷ (before ++ (record { at = l.at; text = v }) ∷ behind)) (sym f.line);
    }

-- ---- the lines before the one that ends them

pub record Before (all before : List TextLine) (l : TextLine) (behind : List TextLine) : Type 0 where
  pub further : List TextLine
  pub is : all ≡ before ++ l ∷ further
  pub replaced : (l' : TextLine) → is_end l' ≡ false → before_end (before ++ l' ∷ further) ≡ before ++ l' ∷ behind

pub ends_behind : (before all : List TextLine) (l : TextLine) (behind : List TextLine) → before_end all ≡ before ++ l ∷ behind → Before all before l behind
ends_behind [] [] l behind same = absurd (cc)
ends_behind (a ∷ before) [] l behind same = absurd (cc)
ends_behind [] (k ∷ all) l behind same = elim (cases_Bool (is_end k)) [
  | inl is ↦ absurd (let h : [] ≡ l ∷ behind = rw is at same in cc)
  | inr other ↦
      let now : k ∷ before_end all ≡ l ∷ behind = rw other at same in
      record {
        further = all;
        is = ap (λ (x : TextLine). x ∷ all) (heads _ _ _ _ now);
        replaced = λ l' not_end. rw not_end (ap (λ (xs : List TextLine). l' ∷ xs) (tails _ _ _ _ now));
      }
]
ends_behind (a ∷ before) (k ∷ all) l behind same = elim (cases_Bool (is_end k)) [
  | inl is ↦ absurd (let h : [] ≡ a ∷ (before ++ l ∷ behind) = rw is at same in cc)
  | inr other ↦
      let now : k ∷ before_end all ≡ a ∷ (before ++ l ∷ behind) = rw other at same in
      let f = ends_behind before all l behind (tails _ _ _ _ now) in
      let goes : is_end a ≡ false = ap is_end (sym (heads _ _ _ _ now)) ∙ other in
      record {
        further = f.further;
        is = ap (λ (x : TextLine). x ∷ all) (heads _ _ _ _ now) ∙ ap (λ (xs : List TextLine). a ∷ xs) f.is;
        replaced = λ l' not_end. rw goes (ap (λ (xs : List TextLine). a ∷ xs) (f.replaced l' not_end));
      }
]

-- ---- tests of lines

pub any_same : (p : TextLine → Bool) (before behind : List TextLine) (l l' : TextLine) → p l' ≡ p l → list_any p (before ++ l' ∷ behind) ≡ list_any p (before ++ l ∷ behind)
any_same p [] behind l l' same = rw same refl
any_same p (a ∷ before) behind l l' same = elim (cases_Bool (p a)) [
  | inl is ↦ rw is refl
  | inr other ↦ rw other (any_same p before behind l l' same)
]

pub filter_same : (p : TextLine → Bool) (before behind : List TextLine) (l l' : TextLine) → p l ≡ false → p l' ≡ false → filter p (before ++ l' ∷ behind) ≡ filter p (before ++ l ∷ behind)
filter_same p [] behind l l' one two = rw (one, two) refl
filter_same p (a ∷ before) behind l l' one two = elim (cases_Bool (p a)) [
  | inl is ↦ rw is (ap (λ (xs : List TextLine). a ∷ xs) (filter_same p before behind l l' one two))
  | inr other ↦ rw other (filter_same p before behind l l' one two)
]

-- the only one that passes
pub record Only (p : TextLine → Bool) (all : List TextLine) (l : TextLine) : Type 0 where
  pub before : List TextLine
  pub behind : List TextLine
  pub is : all ≡ before ++ l ∷ behind
  pub passes : p l ≡ true
  pub replaced : (l' : TextLine) → p l' ≡ true → filter p (before ++ l' ∷ behind) ≡ l' ∷ []

pub only_one : (p : TextLine → Bool) (all : List TextLine) (l : TextLine) → filter p all ≡ l ∷ [] → Only p all l
only_one p [] l same = absurd (cc)
only_one p (k ∷ all) l same = elim (cases_Bool (p k)) [
  | inl is ↦
      let now : k ∷ filter p all ≡ l ∷ [] = rw is at same in
      record {
        before = [];
        behind = all;
        is = ap (λ (x : TextLine). x ∷ all) (heads _ _ _ _ now);
        passes = ap p (sym (heads _ _ _ _ now)) ∙ is;
        replaced = λ l' passes. rw passes (ap (λ (xs : List TextLine). l' ∷ xs) (tails _ _ _ _ now));
      }
  | inr other ↦
      let now : filter p all ≡ l ∷ [] = rw other at same in
      let f = only_one p all l now in
      record {
        before = k ∷ f.before;
        behind = f.behind;
        is = ap (λ (xs : List TextLine). k ∷ xs) f.is;
        passes = f.passes;
        replaced = λ l' passes. rw other (f.replaced l' passes);
      }
]
