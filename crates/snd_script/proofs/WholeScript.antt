-- The lines of a script, one after the other, are its lines.
use Rattle.std.proofs.Common.{◌≡◌, inl, inr, ℕ, suc, ◌+◌, ◌-◌, ◌<◌, List, [], ◌∷◌, ◌++◌, Bool, true, false, nat_lt, nat_le, Err, length, take, refl, sym, ◌∙◌, ap, arith, cond}
use Rattle.std.specs.List.{slice_split}
use Rattle.std.proofs.lemmas.List.{length-take, length-append, take_all, same_lists, places}
use Rattle.std.proofs.lemmas.List.Splits.{slice_split_at, slice_split_none, length-slice_split}
use Rattle.std.proofs.lemmas.Bool.{cases_lt, le-leb, lt-leb, le-ltb, lt-ltb}
use Rattle.snd_command.specs.Line.{command_of}
use Rattle.snd_command.specs.declared.refusal.ScriptRefusal.TheVariants.{LineTooLong}
use Rattle.snd_script.specs.Lines.{IsLine, EndsAtFeed, IsLast, HasNoMore, HasNoFeed, most_kept}
use Rattle.snd_rules.specs.Script.{is_feed, whole_lines, whole_lines_of, all_lines, all_lines_of, lines_within, is_too_long}
use Rattle.snd_script.proofs.Parts.{most_kept-is}

pub record Split (s : List ℕ) : Type 0 where
  pub first : List ℕ
  pub others : List (List ℕ)
  pub is : slice_split is_feed s ≡ first ∷ others

split_of_pieces : (s : List ℕ) (pieces : List (List ℕ)) → slice_split is_feed s ≡ pieces → 0 < length pieces → Split s
split_of_pieces s [] is some = absurd (omega arith)
split_of_pieces s (first ∷ others) is some = record { first = first; others = others; is = is }

split_of : (s : List ℕ) → Split s
split_of s = split_of_pieces s (slice_split is_feed s) refl (omega (arith, length-slice_split is_feed s))

all_lines_more : (line first : List ℕ) (others : List (List ℕ)) → all_lines_of (line ∷ first ∷ others) ≡ line ∷ all_lines_of (first ∷ others)
all_lines_more [] first others = refl
all_lines_more (c ∷ line) first others = refl

pub all_lines_at : (line s : List ℕ) → HasNoFeed line → all_lines (line ++ 10 ∷ s) ≡ line ∷ all_lines s
unfolding all_lines
all_lines_at line s plain =
    let split = split_of s in
    ap all_lines_of (slice_split_at is_feed line 10 s plain refl ∙ ap (λ l. line ∷ l) split.is)
    ∙ all_lines_more line split.first split.others
    ∙ ap (λ l. line ∷ all_lines_of l) (sym split.is)

whole_lines_more : (line first : List ℕ) (others : List (List ℕ)) → whole_lines_of (line ∷ first ∷ others) ≡ line ∷ whole_lines_of (first ∷ others)
whole_lines_more line first others =
    ap (λ n. take n (line ∷ first ∷ others)) (less (suc (length others))) ∙ ap (λ n. line ∷ take n (first ∷ others)) (sym (less (length others)))
  where
    less : (n : ℕ) → suc n - 1 ≡ n
    less n = omega arith

pub whole_lines_at : (line s : List ℕ) → HasNoFeed line → whole_lines (line ++ 10 ∷ s) ≡ line ∷ whole_lines s
unfolding whole_lines
whole_lines_at line s plain =
    let split = split_of s in
    ap whole_lines_of (slice_split_at is_feed line 10 s plain refl ∙ ap (λ l. line ∷ l) split.is)
    ∙ whole_lines_more line split.first split.others
    ∙ ap (λ l. line ∷ whole_lines_of l) (sym split.is)

last_line : (line : List ℕ) → 0 < length line → all_lines_of (line ∷ []) ≡ line ∷ []
last_line [] some = absurd (omega arith)
last_line (c ∷ line) some = refl

pub all_lines_last : (line : List ℕ) → 0 < length line → HasNoFeed line → all_lines line ≡ line ∷ []
unfolding all_lines
all_lines_last line some plain = ap all_lines_of (slice_split_none is_feed line plain) ∙ last_line line some

pub no_lines : all_lines [] ≡ []
unfolding all_lines
no_lines = refl

pub no_whole_lines : (s : List ℕ) → HasNoFeed s → whole_lines s ≡ []
unfolding whole_lines
no_whole_lines s plain = ap whole_lines_of (slice_split_none is_feed s plain)

-- one test of both lengths
pub record SameTests (m n m' n' : ℕ) : Type 0 where
  pub within : nat_le n m ≡ nat_le n' m'
  pub longer : nat_lt m n ≡ nat_lt m' n'

same_tests : (k m n m' n' : ℕ) → m ≡ k + m' → n ≡ k + n' → SameTests m n m' n'
same_tests k m n m' n' left right = elim (cases_lt m n) [
  | inl lt ↦ record {
    within = lt-leb n m lt ∙ sym (lt-leb n' m' (omega arith));
    longer = lt-ltb m n lt ∙ sym (lt-ltb m' n' (omega arith));
  }
  | inr le ↦ record {
    within = le-leb n m le ∙ sym (le-leb n' m' (omega arith));
    longer = le-ltb m n le ∙ sym (le-ltb m' n' (omega arith));
  }
]

-- what is left of the script behind one of its lines
pub record Goes (room : ℕ) (s line : List ℕ) (room' : ℕ) (s' : List ℕ) : Type 0 where
  pub lines : lines_within room s ≡ line ∷ lines_within room' s'
  pub too_long : is_too_long room s ≡ is_too_long room' s'

at_feed : (room : ℕ) (s line : List ℕ) (room' : ℕ) (s' : List ℕ) → EndsAtFeed room s line room' s' → Goes room s line room' s'
at_feed room s line room' s' ends =
    let len : length s ≡ length line + 1 + length s' = omega (arith, ap length ends.bytes, length-append line (10 ∷ s')) in
    let tests = same_tests (length line + 1) room (length s) room' (length s') (omega (arith, ends.counted)) len in
    record {
      lines = ap (λ b. cond b (all_lines s) (whole_lines (take room s))) tests.within
          ∙ ap (λ l. cond (nat_le (length s') room') l (whole_lines (take room s))) (ap all_lines ends.bytes ∙ all_lines_at line s' ends.no_feed)
          ∙ ap (λ l. cond (nat_le (length s') room') (line ∷ all_lines s') l) (ap whole_lines (front_at room room' s line s' ends.bytes ends.counted) ∙ whole_lines_at line (take room' s') ends.no_feed)
          ∙ cons_out (nat_le (length s') room') line (all_lines s') (whole_lines (take room' s'));
      too_long = tests.longer;
    }
  where
    front_at : (room room' : ℕ) (s line s' : List ℕ) → s ≡ line ++ 10 ∷ s' → room ≡ length line + 1 + room' → take room s ≡ line ++ 10 ∷ take room' s'
    front_at room room' s line s' is counted = ap (λ l. take room l) is ∙ same_lists _ _ (grind (arith, places)) (λ k d lt. grind (arith, places))

    cons_out : (b : Bool) (x : List ℕ) (xs ys : List (List ℕ)) → cond b (x ∷ xs) (x ∷ ys) ≡ x ∷ cond b xs ys
    cons_out true x xs ys = refl
    cons_out false x xs ys = refl

at_last : (room : ℕ) (s line : List ℕ) (room' : ℕ) (s' : List ℕ) → IsLast room s line room' s' → Goes room s line room' s'
at_last room s line room' s' last = record {
  lines = ap (λ b. cond b (all_lines s) (whole_lines (take room s))) (le-leb (length s) room (omega (arith, last.counted, ap length last.bytes)))
      ∙ ap all_lines last.bytes ∙ all_lines_last line last.some last.no_feed
      ∙ sym (ap (λ l. line ∷ lines_within room' l) last.rest ∙ ap (λ b. line ∷ cond b (all_lines []) (whole_lines (take room' []))) (le-leb 0 room' (omega arith)) ∙ ap (λ l. line ∷ l) no_lines);
  too_long = le-ltb room (length s) (omega (arith, last.counted, ap length last.bytes)) ∙ sym (le-ltb room' (length s') (omega (arith, ap length last.rest)));
}

pub goes_on : (room : ℕ) (s line : List ℕ) (room' : ℕ) (s' : List ℕ) → IsLine room s line room' s' → Goes room s line room' s'
goes_on room s line room' s' (inl ends) = at_feed room s line room' s' ends
goes_on room s line room' s' (inr last) = at_last room s line room' s' last

-- at the end no line is left
pub record Stops (room : ℕ) (s : List ℕ) (longer : Bool) : Type 0 where
  pub lines : lines_within room s ≡ []
  pub too_long : is_too_long room s ≡ longer

pub stops_at_end : (room : ℕ) (s : List ℕ) → s ≡ [] → Stops room s false
stops_at_end room s is = record {
  lines = ap (λ l. lines_within room l) is ∙ ap (λ b. cond b (all_lines []) (whole_lines (take room []))) (le-leb 0 room (omega arith)) ∙ no_lines;
  too_long = le-ltb room (length s) (omega (arith, ap length is));
}

pub stops_too_long : (room : ℕ) (s : List ℕ) → HasNoMore room s → Stops room s true
stops_too_long room s more = record {
  lines = ap (λ b. cond b (all_lines s) (whole_lines (take room s))) (lt-leb (length s) room more.longer) ∙ no_whole_lines (take room s) more.no_feed;
  too_long = lt-ltb room (length s) more.longer;
}

-- a line says what the kept front of it says
pub said_by_kept : (line : List ℕ) → command_of (take most_kept line) ≡ command_of line
said_by_kept line = elim (cases_lt 4096 (length line)) [
  | inl lt ↦ too_long (take most_kept line) (omega (arith, most_kept-is, length-take most_kept line)) ∙ sym (too_long line lt)
  | inr le ↦ ap command_of (take_all most_kept line (omega (arith, most_kept-is)))
]
  where
    too_long : (line : List ℕ) → 4096 < length line → command_of line ≡ Err LineTooLong
    too_long line lt = rw (lt-ltb 4096 (length line) lt) refl
