-- A line under way.
use Rattle.std.proofs.Common.{◌≡◌, ◌≢◌, ◌⊎◌, inl, inr, ⊎_elim, ℕ, ◌+◌, ◌<◌, ◌≤◌, List, [], ◌∷◌, ◌++◌, Option, Some, Bool, true, false, IsTrue, length, get_or, take, refl, sym, ◌∙◌, ap, subst, append_assoc, arith}
use Rattle.std.proofs.Math.ListN.{get_or-append}
use Rattle.std.proofs.Math.Seq.{get_or-append_seam}
use Rattle.std.proofs.lemmas.List.{same_lists, length-take, length-append, take_at, append-nil, nil_from_length, places}
use Rattle.std.proofs.lemmas.List.Elements.{All-append}
use Rattle.std.proofs.lemmas.Bool.{cases_lt}
use Rattle.snd_script.specs.Lines.{Reading, CutsOff, Moves, IsUnderWay, IsLine, HasNoMore, HasNoFeed, behind_part, feeds, most_kept}
use Rattle.snd_rules.specs.Script.{is_feed}
use Rattle.snd_script.proofs.Parts.{most_kept-is}

kept_more : (m : ℕ) (c part : List ℕ) → take m (take m c ++ part) ≡ take m (c ++ part)
kept_more m c part = same_lists _ _ (grind (arith, places)) (λ k d lt. grind (arith, places))

-- the part that moved, together with what moved before
pub record HasMoved (start mid : Reading) (kept s b : List ℕ) (ended : Bool) (c : List ℕ) : Type 0 where
  pub bytes : start.rest ++ s ≡ c ++ (behind_part ended mid.rest ++ b)
  pub room : start.room ≡ length c + feeds ended + mid.room
  pub line : kept ≡ take most_kept c
  pub no_feed : HasNoFeed c

pub moved : (start now mid : Reading) (kept kept' s b c part : List ℕ) (ended : Bool) → IsUnderWay start now kept s b c → Moves now mid kept kept' ended part → HasMoved start mid kept' s b ended (c ++ part)
moved start now mid kept kept' s b c part ended under moves = record {
  bytes = under.bytes ∙ ap (λ l. c ++ l ++ b) moves.rest ∙ simp append_assoc;
  room = omega (arith, under.room, moves.room, length-append c part);
  line = moves.line ∙ ap (λ l. take most_kept (l ++ part)) under.line ∙ kept_more most_kept c part;
  no_feed = All-append (λ x. is_feed x ≡ false) c part under.no_feed moves.no_feed;
}

pub line_moved : (start mid : Reading) (kept s b c : List ℕ) → HasMoved start mid kept s b true c → (line : List ℕ) × IsLine start.room (start.rest ++ s) line mid.room (mid.rest ++ b) × (kept ≡ take most_kept line)
line_moved start mid kept s b c has = (c, inl record { bytes = has.bytes; no_feed = has.no_feed; counted = has.room }, has.line)

pub no_more_moved : (start mid : Reading) (kept s b c : List ℕ) → HasMoved start mid kept s b false c → 0 < length mid.rest → mid.room ≡ 0 → HasNoMore start.room (start.rest ++ s)
no_more_moved start mid kept s b c has some full =
    let is : start.room ≡ length c = omega (arith, has.room) in
    record {
      longer = omega (arith, ap length has.bytes, length-append c (mid.rest ++ b), length-append mid.rest b);
      no_feed = subst (λ (l : List ℕ). HasNoFeed l) (sym (ap (λ l. take start.room l) has.bytes ∙ take_at c (mid.rest ++ b) start.room (sym is))) has.no_feed;
    }

-- more came
pub under_way : (start mid new : Reading) (kept s b b' c : List ℕ) → HasMoved start mid kept s b false c → length mid.rest ≡ 0 → new.room ≡ mid.room → b ≡ new.rest ++ b' → IsUnderWay start new kept s b' c
under_way start mid new kept s b b' c has none same more = record {
  bytes = has.bytes ∙ ap (λ l. c ++ (l ++ b)) (nil_from_length mid.rest none) ∙ ap (λ l. c ++ l) more ∙ sym (append_assoc c new.rest b');
  room = omega (arith, has.room);
  line = has.line;
  no_feed = has.no_feed;
}

-- the source failed
pub cut_off : (start mid : Reading) (kept s b c : List ℕ) (left : Option (List ℕ)) → HasMoved start mid kept s b false c → length mid.rest ≡ 0 → left ≡ Some b → CutsOff (start.rest ++ s) left
cut_off start mid kept s b c left has none here = (c, b, here, has.bytes ∙ ap (λ l. c ++ (l ++ b)) (nil_from_length mid.rest none), has.no_feed)

-- nothing came
pub ended_at : (start mid new : Reading) (kept s b c : List ℕ) → HasMoved start mid kept s b false c → length mid.rest ≡ 0 → b ≡ [] → start.rest ++ s ≡ c
ended_at start mid new kept s b c has none end = has.bytes ∙ ap (λ l. c ++ (l ++ b)) (nil_from_length mid.rest none) ∙ ap (λ l. c ++ l) end ∙ append-nil c

none_kept : (kept c : List ℕ) → kept ≡ take most_kept c → length kept ≡ 0 → length c ≡ 0
none_kept kept c is none = omega (arith, most_kept-is, ap length is, length-take most_kept c)

pub nothing_left : (start mid new : Reading) (kept s b c : List ℕ) → HasMoved start mid kept s b false c → length mid.rest ≡ 0 → b ≡ [] → length kept ≡ 0 → start.rest ++ s ≡ []
nothing_left start mid new kept s b c has none end empty = ended_at start mid new kept s b c has none end ∙ nil_from_length c (none_kept kept c has.line empty)

pub last_left : (start mid new : Reading) (kept s b b' c : List ℕ) → HasMoved start mid kept s b false c → length mid.rest ≡ 0 → new.room ≡ mid.room → b ≡ [] → b ≡ new.rest ++ b' → 0 < length kept
    → (line : List ℕ) × IsLine start.room (start.rest ++ s) line new.room (new.rest ++ b') × (kept ≡ take most_kept line)
last_left start mid new kept s b b' c has none same end more filled = (
  c,
  inr record {
    bytes = ended_at start mid new kept s b c has none end;
    some = omega (arith, ap length has.line, length-take most_kept c);
    no_feed = has.no_feed;
    counted = omega (arith, has.room);
    rest = sym more ∙ end;
  },
  has.line,
)

pub is_none_left : (n : ℕ) → (IsTrue true → n ≡ 0) → n ≡ 0
is_none_left n iff = iff refl

pub is_some_left : (n : ℕ) → (n ≡ 0 → IsTrue false) → 0 < n
is_some_left n iff = elim (cases_lt 0 n) [ inl lt ↦ lt | inr le ↦ let no : IsTrue false = iff (omega arith) in cc ]

pub full_then : (rest : List ℕ) (room : ℕ) → 0 < length rest → (rest ≡ []) ⊎ (room ≡ 0) → room ≡ 0
full_then rest room some (inl none) = omega (arith, ap length none)
full_then rest room some (inr full) = full

pub above_none : (n : ℕ) → n ≢ 0 → 0 < n
above_none n some = elim (cases_lt 0 n) [ inl lt ↦ lt | inr le ↦ absurd (some (omega arith)) ]

pub fewer_left : (now mid : Reading) (kept kept' part : List ℕ) (ended : Bool) → Moves now mid kept kept' ended part → length kept' + feeds ended + mid.room ≤ length kept + now.room
fewer_left now mid kept kept' part ended moves = omega (arith, moves.room, ap length moves.line, length-take most_kept (kept ++ part), length-append kept part)

-- a line feed in hand ends a part
pub feed_ends : (now mid : Reading) (kept kept' part before after : List ℕ) → Moves now mid kept kept' false part → now.rest ≡ before ++ 10 ∷ after → length before < now.room → ⊥
feed_ends now mid kept kept' part before after moves is lt =
    let within : length before < length part = ⊎_elim
    (λ none. omega (arith, ap length (sym moves.rest ∙ is), length-append part mid.rest, length-append before (10 ∷ after), ap length none))
    (λ full. omega (arith, moves.room)) (moves.all refl) in
    let feed : get_or part (length before) 0 ≡ 10 = sym (get_or-append part mid.rest 0 (length before) within) ∙ ap (λ l. get_or l (length before) 0) (sym moves.rest ∙ is) ∙ get_or-append_seam before 10 after 0 in
    let plain : is_feed (get_or part (length before) 0) ≡ false = moves.no_feed (length before) 0 within in
    let no_feed : is_feed 10 ≡ false = sym (ap is_feed feed) ∙ plain in
    cc
