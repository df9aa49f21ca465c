-- The lines of a script, one after the other, as they come.
use Rattle.std.specs.Prelude.{◌≡◌, ◌⊎◌, ℕ, ◌+◌, ◌-◌, ◌<◌, ◌≤◌, Option, Some, List, [], ◌∷◌, ◌++◌, Bool, true, false, length, take}
use Rattle.std.specs.List.{All}
use Rattle.snd_script.specs.declared.reader.NextLine.{NextLine}
use Rattle.snd_script.specs.declared.reader.NextLine.TheVariants.{Line, End, TooLong}
use Rattle.snd_rules.specs.Script.{is_feed}

-- what a reader of lines has in hand: the bytes that were taken and are served in no line yet, and how many bytes of the
-- script may still be served
pub record Reading : Type 0 where
  pub rest : List ℕ
  pub room : ℕ

-- how many bytes may still be taken: one more than may be served shows that a script is too long
abbrev pub to_take : Reading → ℕ
to_take r = r.room + 1 - length r.rest

-- how many bytes of a line are kept: enough to see that it is too long
unfoldable pub most_kept : ℕ
most_kept = 4097

abbrev pub HasNoFeed : List ℕ → Type 0
HasNoFeed s = All (λ c. is_feed c ≡ false) s

-- of the bytes s, of which so many may be served, a line feed ends the first line
pub record EndsAtFeed (room : ℕ) (s line : List ℕ) (room' : ℕ) (s' : List ℕ) : Type 0 where
  pub bytes : s ≡ line ++ 10 ∷ s'
  pub no_feed : HasNoFeed line
  pub counted : room ≡ length line + 1 + room'

-- .. or they are the last line
pub record IsLast (room : ℕ) (s line : List ℕ) (room' : ℕ) (s' : List ℕ) : Type 0 where
  pub bytes : s ≡ line
  pub some : 0 < length line
  pub no_feed : HasNoFeed line
  pub counted : room ≡ length line + room'
  pub rest : s' ≡ []

abbrev pub IsLine : ℕ → List ℕ → List ℕ → ℕ → List ℕ → Type 0
IsLine room s line room' s' = EndsAtFeed room s line room' s' ⊎ IsLast room s line room' s'

-- no line feed is among the first so many, and more follow
pub record HasNoMore (room : ℕ) (s : List ℕ) : Type 0 where
  pub longer : room < length s
  pub no_feed : HasNoFeed (take room s)

-- what comes next of the bytes s, of which so many may be served, with the line as it is kept; and what is left of them
abbrev pub IsNext : NextLine → ℕ → List ℕ → List ℕ → ℕ → List ℕ → Type 0
IsNext Line room s kept room' s' = (line : List ℕ) × IsLine room s line room' s' × (kept ≡ take most_kept line)
IsNext End room s kept room' s' = s ≡ []
IsNext TooLong room s kept room' s' = HasNoMore room s

-- what follows a part of a line: a line feed, where one ends it
abbrev pub behind_part : Bool → List ℕ → List ℕ
behind_part true rest = 10 ∷ rest
behind_part false rest = rest

abbrev pub feeds : Bool → ℕ
feeds true = 1
feeds false = 0

-- A part of the bytes in hand has moved to the line, of which this is kept: up to a line feed, or all that may be served.
pub record Moves (old new : Reading) (kept kept' : List ℕ) (ended : Bool) (part : List ℕ) : Type 0 where
  pub rest : old.rest ≡ part ++ behind_part ended new.rest
  pub room : old.room ≡ length part + feeds ended + new.room
  pub line : kept' ≡ take most_kept (kept ++ part)
  pub no_feed : HasNoFeed part
  pub all : ended ≡ false → (new.rest ≡ []) ⊎ (new.room ≡ 0)

-- c, the part of a line that has moved so far, with what is in hand and the bytes b that are left; s were left at the start
pub record IsUnderWay (start now : Reading) (kept s b c : List ℕ) : Type 0 where
  pub bytes : start.rest ++ s ≡ c ++ now.rest ++ b
  pub room : start.room ≡ length c + now.room
  pub line : kept ≡ take most_kept c
  pub no_feed : HasNoFeed c

-- of these bytes a part without a line feed has come, and the others are left
abbrev pub CutsOff : List ℕ → Option (List ℕ) → Type 0
CutsOff s left = (c : List ℕ) × (b : List ℕ) × (left ≡ Some b) × (s ≡ c ++ b) × HasNoFeed c

-- SOURCES. The first argument is what a source has left, or how many bytes it gave.

-- a source that tells its bytes has given these
abbrev pub GivesBytes : {R : Type 0} → (R → Option (List ℕ)) → List ℕ → R → R → Type 0
GivesBytes left bytes old new = (s : List ℕ) → left old ≡ Some s → (b : List ℕ) × (left new ≡ Some b) × (s ≡ bytes ++ b)

abbrev pub IsAtEnd : {R : Type 0} → (R → Option (List ℕ)) → R → Type 0
IsAtEnd left script = (s : List ℕ) → left script ≡ Some s → s ≡ []

-- what comes next of the bytes in hand and in the source
abbrev pub ReadsOn : {R : Type 0} → (R → Option (List ℕ)) → List ℕ → Reading → R → Reading → R → NextLine → Type 0
ReadsOn left kept old script new script' next =
    (s : List ℕ) → left script ≡ Some s → (b : List ℕ) × (left script' ≡ Some b) × IsNext next old.room (old.rest ++ s) kept new.room (new.rest ++ b)

-- no more is taken than may be
abbrev pub TakesUp : {R : Type 0} → (R → ℕ) → Reading → R → Reading → R → Type 0
TakesUp given old script new script' = given script' + to_take new ≤ given script + to_take old

-- where a line feed stands in what is in hand and may be served, the source is not asked
abbrev pub IsPrompt : {R : Type 0} → Reading → R → R → Type 0
IsPrompt r script script' = (before after : List ℕ) → r.rest ≡ before ++ 10 ∷ after → length before < r.room → script' ≡ script

-- a source that failed: what was in hand, and what it gave in this call, has no line feed
abbrev pub StopsShort : {R : Type 0} → (R → Option (List ℕ)) → Reading → R → R → Type 0
StopsShort left old script script' = (s : List ℕ) → left script ≡ Some s → CutsOff (old.rest ++ s) (left script')
