-- Searches block by block: what is found in one is the first in the file.
use Rattle.std.proofs.Common.{◌≡◌, ◌⊎◌, ◌∙◌, ℕ, ◌+◌, ◌-◌, ◌*◌, ◌<◌, ◌≤◌, true, false, List, None, Some, length, min, take, drop, sym, ap, inl, inr, arith}
use Rattle.std.proofs.lemmas.Bool.{cases_lt}
use Rattle.std.proofs.lemmas.List.{length-drop}
use Rattle.std.specs.Prelude.{codes}
use Rattle.snd_disk.specs.State.{AtMost}
use Rattle.snd_search.specs.Marks.{IsFirstAt, IsFirstMark, begins}
use Rattle.snd_search.specs.Search.{IsFirstFormat, behind_data, data_here, format_here, format_in, found_in}
use Rattle.snd_search.specs.declared.stated.Stated.{Stated}
use Rattle.snd_search.proofs.Formats.{apart, cut_data, data_is, no_data, no_format}
use Rattle.snd_search.proofs.Marks.{drop_drop, found_from, none_from, too_late, within_part}

-- ---- formats

-- no format begins in a block before the first mark
pub none_ahead : (b x : List ℕ) (at n from place : ℕ) → x ≡ take n (drop at b) → length x ≡ n → ((i : ℕ) → i < from → format_here (drop (at + i) b) ≡ None)
    → IsFirstAt (codes "fmt ") x from place → (i : ℕ) → i < place → format_here (drop (at + i) b) ≡ None
none_ahead b x at n from place is long so_far first i lt = elim (cases_lt i from) [
  | inl before ↦ so_far i before
  | inr after ↦
      let within : place + 4 ≤ length x = first.within in
      no_format (drop (at + i) b) (sym (within_part (codes "fmt ") b x at n i is (omega (arith, within))) ∙ first.none_before i after lt)
]

-- .. nor among the four bytes of a mark whose format is not good
pub none_next : (b x : List ℕ) (at n from place : ℕ) → x ≡ take n (drop at b) → length x ≡ n → ((i : ℕ) → i < from → format_here (drop (at + i) b) ≡ None)
    → IsFirstAt (codes "fmt ") x from place → format_here (drop (at + place) b) ≡ None → (i : ℕ) → i < place + 4 → format_here (drop (at + i) b) ≡ None
none_next b x at n from place is long so_far first none i lt = elim (cases_lt i place) [
  | inl before ↦ none_ahead b x at n from place is long so_far first i before
  | inr after ↦ elim (cases_lt place i) [
    | inl beyond ↦
        let within : place + 4 ≤ length x = first.within in
        let stands : begins (codes "fmt ") (drop (at + place) b) ≡ true = sym (within_part (codes "fmt ") b x at n place is (omega (arith, within))) ∙ first.stands in
        let none_there : begins (codes "fmt ") (drop (i - place) (drop (at + place) b)) ≡ false = apart (drop (at + place) b) (i - place) stands (omega arith) (omega arith) in
        let same : drop (i - place) (drop (at + place) b) ≡ drop (at + i) b = drop_drop (i - place) (at + place) b ∙ ap (λ (k : ℕ). drop k b) (omega arith) in
        no_format (drop (at + i) b) (ap (λ (l : List ℕ). begins (codes "fmt ") l) (sym same) ∙ none_there)
    | inr here ↦ ap (λ (k : ℕ). format_here (drop (at + k) b)) (omega arith) ∙ none
  ]
]

-- .. nor in the rest of a block without a mark
pub none_in_rest : (b x : List ℕ) (at n from : ℕ) → x ≡ take n (drop at b) → ((i : ℕ) → i < from → format_here (drop (at + i) b) ≡ None)
    → IsFirstMark (codes "fmt ") x from None → (i : ℕ) → i + 4 ≤ n → format_here (drop (at + i) b) ≡ None
none_in_rest b x at n from is so_far none i fits = elim (cases_lt i from) [
  | inl before ↦ so_far i before
  | inr after ↦ no_format (drop (at + i) b) (sym (within_part (codes "fmt ") b x at n i is fits) ∙ none i after)
]

no_format_late : (b : List ℕ) (i : ℕ) → length b < i + 4 → format_here (drop i b) ≡ None
no_format_late b i late = no_format (drop i b) (too_late (codes "fmt ") b i (omega arith) late)

moved : (b : List ℕ) (at i : ℕ) → at ≤ i → format_here (drop i b) ≡ format_here (drop (at + (i - at)) b)
moved b at i le = ap (λ (k : ℕ). format_here (drop k b)) (omega arith)

-- no format begins before the next block
pub none_then : (b : List ℕ) (at n next : ℕ) → (next + 4 ≤ at + n + 1) ⊎ (at + n ≡ length b) → ((i : ℕ) → i < at → format_here (drop i b) ≡ None)
    → ((i : ℕ) → i + 4 ≤ n → format_here (drop (at + i) b) ≡ None) → (i : ℕ) → i < next → format_here (drop i b) ≡ None
none_then b at n next ends so_far none i lt = elim (cases_lt i at) [
  | inl before ↦ so_far i before
  | inr after ↦ elim (cases_lt (at + n) (i + 4)) [
    | inl over ↦ elim ends [
      | inl goes_on ↦ absurd (omega (arith, over, goes_on, lt))
      | inr last ↦ no_format_late b i (omega (arith, over, last))
    ]
    | inr fits ↦ moved b at i after ∙ none (i - at) (omega (arith, fits, after))
  ]
]

-- .. nor at all, where the next block would begin behind the end
pub no_formats : (b : List ℕ) (at : ℕ) → length b ≤ at → ((i : ℕ) → i < at → format_here (drop i b) ≡ None) → format_in b ≡ None
no_formats b at past so_far = none_from format_here b 0 (λ i le. elim (cases_lt i at) [
  | inl before ↦ so_far i before
  | inr after ↦ no_format_late b i (omega (arith, past, after))
])

-- the first format of a block is the first of all
pub first_format : (b : List ℕ) (at n : ℕ) (stated : Stated) → ((i : ℕ) → i < at → format_here (drop i b) ≡ None) → IsFirstFormat b at n stated → format_in b ≡ Some (found_in b stated)
first_format b at n stated so_far first =
    found_from format_here b 0 (at + first.place) (found_in b stated) (omega arith) (λ i le lt. elim (cases_lt i at) [
      | inl before ↦ so_far i before
      | inr after ↦ moved b at i after ∙ first.none_before (i - at) (omega (arith, lt, after))
    ]) first.is

-- ---- data

pub no_marks : (b : List ℕ) (from : ℕ) → IsFirstMark (codes "data") b from None → behind_data (drop from b) ≡ None
no_marks b from none = none_from data_here b from (λ i le. no_data (drop i b) (none i le))

pub cut_marks : (b : List ℕ) (from place : ℕ) → IsFirstAt (codes "data") b from place → length b < place + 8 → behind_data (drop from b) ≡ None
cut_marks b from place first short = none_from data_here b from (λ i le. elim (cases_lt i place) [
  | inl before ↦ no_data (drop i b) (first.none_before i le before)
  | inr after ↦ cut_data (drop i b) (omega (arith, short, after, length-drop i b))
])

pub data_found : (b : List ℕ) (from place : ℕ) → IsFirstAt (codes "data") b from place → place + 8 ≤ length b → behind_data (drop from b) ≡ Some (drop (place + 8) b)
data_found b from place first long =
    found_from data_here b from place (drop (place + 8) b) first.behind (λ i le lt. no_data (drop i b) (first.none_before i le lt))
    (data_is (drop place b) first.stands (omega (arith, long, length-drop place b)) ∙ ap (λ (l : List ℕ). Some l) (drop_drop 8 place b))

-- what is asked for the blocks up to a place and the formats in them, and for one more block
pub asked_formats : (size at count n a b c e : ℕ) → count ≡ min (size - at) 16384 → at < size → n ≡ count → AtMost a (20 * min at size) b → AtMost b n c → AtMost c (18 * (at + n - at)) e
    → AtMost a (20 * min (at + 16381) size) e
asked_formats size at count n a b c e is lt fills before block formats = record {
  later = omega (arith, before.later, block.later, formats.later);
  most = elim (cases_lt (size - at) 16384) [
    | inl short ↦ omega (arith, short, is, lt, fills, before.most, block.most, formats.most)
    | inr over ↦ omega (arith, over, is, lt, fills, before.most, block.most, formats.most)
  ];
}

-- .. and for one more format
pub asked_after : (from place a b c : ℕ) → from ≤ place → AtMost a (18 * from) b → AtMost b 72 c → AtMost a (18 * (place + 4)) c
asked_after from place a b c le before more = record { later = omega (arith, before.later, more.later); most = omega (arith, le, before.most, more.most) }
