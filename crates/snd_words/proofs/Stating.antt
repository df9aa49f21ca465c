-- What options state can be set.
use Rattle.std.proofs.Common.{◌≡◌, ◌≢◌, inl, inr, ℕ, Bool, true, false, List, [], ◌∷◌, All, Option, Some, None, nat_le, length, not, option_map, refl, sym, ap, subst, ◌∙◌, codes, if◌then◌else◌}
use Rattle.std.proofs.lemmas.Bool.{and_parts, cases_Bool}
use Rattle.std.proofs.lemmas.List.Elements.{All-cons, All-head, All-nil, All-tail, All-weaker}
use Rattle.std.proofs.lemmas.List.Sums.{AllPass-from_list_all}
use Rattle.std.specs.List.{list_all}
use Rattle.std.specs.Option.{option_and_then}
use Rattle.std.specs.Str.{bytes_eq}
use Rattle.snd_fields.specs.Decimal.{decimal}
use Rattle.snd_meta.specs.declared.bext.BextKey.{BextKey}
use Rattle.snd_meta.specs.declared.bext.BextKey.TheVariants.{CodingHist, Description, OrigDate, OrigRef, OrigTime, Originator, TimeRef}
use Rattle.snd_meta.specs.declared.info.InfoKey.{InfoKey}
use Rattle.snd_words.specs.Metadata.{all_stated, field_of, info_of, is_not_zero, is_text, stated_by, text_stated}
use Rattle.snd_words.specs.Options.{named}
use Rattle.snd_words.specs.Stated.{HasNoZero, IsStated, Stated}

not_zero : (c : ℕ) → is_not_zero c ≡ true → c ≢ 0
not_zero c test is = let zero_is : is_not_zero c ≡ is_not_zero 0 = ap is_not_zero is in absurd (cc)

has_no_zero : (text : List ℕ) → is_text text ≡ true → HasNoZero text
unfolding is_text
has_no_zero text test =
    All-weaker (λ c. is_not_zero c ≡ true) (λ c. c ≢ 0) not_zero text (AllPass-from_list_all is_not_zero text (and_parts (nat_le 1 (length text)) (list_all is_not_zero text) test).1)

-- no option but that of the time reference names it
IsOther : BextKey → Type 0
IsOther key = key ≢ TimeRef

named_other : (word : List ℕ) (rows : List (List ℕ × BextKey)) (key : BextKey) → All (λ row. IsOther row.1) rows → named word rows ≡ Some key → IsOther key
named_other word [] key all is = absurd (cc)
named_other word (row ∷ rows) key all is = elim (cases_Bool (bytes_eq word row.0)) [
  | inl this ↦
      let here : Some row.1 ≡ Some key = sym (ap (λ (t : Bool). if t then Some row.1 else named word rows) this) ∙ is in
      let same : row.1 ≡ key = cc in
      subst IsOther same (All-head (λ row. IsOther row.1) row rows all)
  | inr other ↦
      named_other word rows key (All-tail (λ row. IsOther row.1) row rows all) (sym (ap (λ (t : Bool). if t then Some row.1 else named word rows) other) ∙ is)
]

is_time : BextKey → Bool
is_time TimeRef = true
is_time key = false

is_other : List ℕ × BextKey → Bool
is_other row = not (is_time row.1)

not_time : (row : List ℕ × BextKey) → is_other row ≡ true → IsOther row.1
unfolding is_other is_time IsOther
not_time row other is = let time : not (is_time row.1) ≡ false = ap (λ k. not (is_time k)) is in absurd (cc)

field_other : (word : List ℕ) (key : BextKey) → field_of word ≡ Some key → IsOther key
unfolding field_of is_other is_time
field_other word key is =
    let rows : List (List ℕ × BextKey) = (codes "--bext-description", Description) ∷ (codes "--bext-originator", Originator) ∷ (codes "--bext-orig-ref", OrigRef)
    ∷ (codes "--bext-orig-date", OrigDate) ∷ (codes "--bext-orig-time", OrigTime) ∷ (codes "--bext-coding-hist", CodingHist) ∷ [] in
    let all : list_all is_other rows ≡ true = refl in
    named_other word rows key (All-weaker (λ row. is_other row ≡ true) (λ row. IsOther row.1) not_time rows (AllPass-from_list_all is_other rows all)) is

text_is : (key : Option InfoKey) (field : Option BextKey) (text : List ℕ) (s : Stated) → ((k : BextKey) → field ≡ Some k → IsOther k) → HasNoZero text → text_stated key field text ≡ Some s → IsStated s
unfolding IsOther
text_is (Some key) field text s apart no_zero is = let same : Stated.info_text key text ≡ s = cc in subst IsStated same no_zero
text_is None (Some key) text s apart no_zero is = let same : Stated.bext_field key text ≡ s = cc in subst IsStated same (apart key refl, no_zero)
text_is None None text s apart no_zero is = absurd (cc)

time_is : (time : Option ℕ) (s : Stated) → option_map Stated.bext_time time ≡ Some s → IsStated s
time_is None s is = absurd (cc)
time_is (Some n) s is = let same : Stated.bext_time n ≡ s = cc in subst IsStated same tt

stated_is : (option text : List ℕ) (s : Stated) → stated_by option text ≡ Some s → IsStated s
unfolding stated_by
stated_is option text s is = elim (cases_Bool (bytes_eq option (codes "--bext-time-ref"))) [
  | inl time ↦ time_is (decimal text) s (sym (ap (λ (t : Bool). if t then option_map Stated.bext_time (decimal text) else by_text) time) ∙ is)
  | inr other ↦ other_is (sym (ap (λ (t : Bool). if t then option_map Stated.bext_time (decimal text) else by_text) other) ∙ is)
]
  where
    by_text : Option Stated
    by_text = if is_text text then text_stated (info_of option) (field_of option) text else None

    other_is : by_text ≡ Some s → IsStated s
    other_is said = elim (cases_Bool (is_text text)) [
      | inl good ↦ text_is (info_of option) (field_of option) text s (field_other option) (has_no_zero text good) (sym (ap (λ (t : Bool). if t then text_stated (info_of option) (field_of option) text else None) good) ∙ said)
      | inr bad ↦ absurd (let none : None ≡ Some s = sym (ap (λ (t : Bool). if t then text_stated (info_of option) (field_of option) text else None) bad) ∙ said in cc)
    ]

-- so it is with all that pairs state
with_first : (first : Option Stated) (rest : Option (List Stated)) (all : List Stated) → ((s : Stated) → first ≡ Some s → IsStated s) → ((xs : List Stated) → rest ≡ Some xs → All IsStated xs)
    → option_and_then (λ x. option_map (λ xs. x ∷ xs) rest) first ≡ Some all → All IsStated all
with_first None rest all one others is = absurd (cc)
with_first (Some s) None all one others is = absurd (cc)
with_first (Some s) (Some xs) all one others is =
    let same : s ∷ xs ≡ all = cc in
    subst (λ (xs : List Stated). All IsStated xs) same (All-cons IsStated s xs (one s refl) (others xs refl))

pub all_are_stated : (pairs : List (List ℕ × List ℕ)) (all : List Stated) → all_stated pairs ≡ Some all → All IsStated all
all_are_stated [] all is = let same : [] ≡ all = cc in subst (λ (xs : List Stated). All IsStated xs) same (All-nil IsStated)
all_are_stated ((option, text) ∷ pairs) all is = with_first (stated_by option text) (all_stated pairs) all (stated_is option text) (all_are_stated pairs) is
