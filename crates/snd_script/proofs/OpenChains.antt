-- The lines of a script while a file is open.
use Rattle.std.proofs.Common.{◌≡◌, ℕ, List, ◌++◌, Bool, ◌||◌, Option, Some, Ok, Err, sym, ◌∙◌, ap, subst}
use Rattle.snd_command.specs.Said.{Said}
use Rattle.snd_rules.specs.Desk.{Desk, OpenFile, Store, open_desk}
use Rattle.snd_rules.specs.Edit.{Edited, edit_line, edit_open, refused}
use Rattle.snd_script.specs.Lines.{Reading}
use Rattle.snd_rules.specs.Replies.{is_refusal, refuses, text_of}
use Rattle.snd_script.specs.Serving.{Brings, IsAnswered, IsLineServed, IsStepAnswered, IsStopped, Moment, Serves, StopsLine, is_longer, moment, steps_from, steps_left}
use Rattle.snd_script.specs.Served.{none_lost}
use Rattle.snd_lines.specs.declared.refusal.Refusal.{Refusal}
use Rattle.snd_script.specs.declared.stop.Next.TheVariants as next
use Rattle.snd_script.specs.declared.stop.Stop.{Stop}
use Rattle.snd_script.specs.declared.stop.Stop.TheVariants.{Ended, TooLong, Script, Sink, File, Memory}
use Rattle.snd_script.proofs.Chains.{brought_then, line_stops, serves_none, serves_one, serves_then, stopped_then}

-- what is said is answered so
module _ (store : Store) (file : OpenFile) (said : Said) (edited : Edited) (r r' : Bool) (before after : Option (List ℕ)) (stands : (List ℕ → Bool) → Desk → Type 0) (is : edit_open store file said ≡ edited) where
  pub step_served : (x : Unit {0}) → IsStepAnswered (Ok x) edited (open_desk store file) r r' before after stands → IsLineServed (Ok next.Open) (edit_open store file said) store file r r' before after stands
  step_served x answered = subst (λ (d : Edited). IsLineServed (Ok next.Open) d store file r r' before after stands) (sym is) answered

  pub step_stops : (stop : Stop) → StopsLine stop edited (open_desk store file) before after stands → StopsLine stop (edit_open store file said) (open_desk store file) before after stands
  step_stops stop stops = subst (λ (d : Edited). StopsLine stop d (open_desk store file) before after stands) (sym is) stops

-- a refusal that does not get out
pub refused_stops : (stop : Stop) (edited : Edited) (refusal : Refusal) (d : Desk) (r r' : Bool) (before after : Option (List ℕ)) (stands : (List ℕ → Bool) → Desk → Type 0)
    → edited ≡ refused refusal d → IsAnswered {T = Unit {0}} (Err stop) (refuses refusal) r r' before after → stands none_lost d → StopsLine stop edited d before after stands
refused_stops Sink edited refusal d r r' before after stands is said here = subst (λ (x : Edited). StopsLine Sink x d before after stands) (sym is) (said, here)
refused_stops Ended edited refusal d r r' before after stands is said here = absurd said
refused_stops TooLong edited refusal d r r' before after stands is said here = absurd said
refused_stops Script edited refusal d r r' before after stands is said here = absurd said
refused_stops File edited refusal d r r' before after stands is said here = absurd said
refused_stops Memory edited refusal d r r' before after stands is said here = absurd said

-- a line has come, and is still to be answered
pub record IsAt (all : List Edited) (too_long : Bool) (d d' : Desk) (m m' : Moment) (edited : Edited) (s : List ℕ) : Type 0 where
  pub serves : Serves all (steps_from edited m' s) d d' m m'
  pub longer : is_longer m' s ≡ too_long

pub comes_at : (all : List Edited) (too_long : Bool) (d d' : Desk) (kept s s' : List ℕ) (m m' m'' : Moment) → Serves all (steps_left d' m' s) d d' m m' → is_longer m' s ≡ too_long
    → Brings m'.room (m'.rest ++ s) kept m''.room (m''.rest ++ s') → m''.refused ≡ m'.refused → m''.told ≡ m'.told → IsAt all too_long d d' m m'' (edit_line d' kept) s'
comes_at all too_long d d' kept s s' m m' m'' so_far longer comes noted told = record {
  serves = serves_then all (steps_left d' m' s) (steps_from (edit_line d' kept) m'' s') d d' d' m m' m'' so_far (brought_then d' kept s s' m' m'' comes noted told);
  longer = sym comes.too_long ∙ longer;
}

-- it stops the run
pub at_stops : (stop : Stop) (all : List Edited) (too_long : Bool) (d d' : Desk) (m m' m'' : Moment) (edited : Edited) (s : List ℕ) (stands : (List ℕ → Bool) → Desk → Type 0) → IsAt all too_long d d' m m' edited s
    → StopsLine stop edited d' m'.told m''.told stands → IsStopped stop too_long all d m m'' stands
at_stops stop all too_long d d' m m' m'' edited s stands at stops =
    stopped_then stop too_long all (steps_from edited m' s) d d' m m' m'' stands at.serves (line_stops stop too_long edited (steps_left edited.desk m' s) d' m' m'' stands stops)

-- the steps behind a line are those that are left once it was answered
module _ (left : Option (List ℕ)) (reading reading' : Reading) (r r' : Bool) (t t' : Option (List ℕ)) (s : List ℕ) (same : reading' ≡ reading) where
  pub answered_one : (edited : Edited) (d : Desk) → r' ≡ (r || is_refusal edited.answer) → ((x : List ℕ) → t ≡ Some x → t' ≡ Some (x ++ text_of edited.answer))
      → Serves (steps_from edited (moment reading left r t) s) (steps_left edited.desk (moment reading' left r' t') s) d edited.desk (moment reading left r t) (moment reading' left r' t')
  answered_one edited d noted appended =
      subst (λ (l : List Edited). Serves (steps_from edited (moment reading left r t) s) l d edited.desk (moment reading left r t) (moment reading' left r' t'))
      (ap (λ (x : Reading). steps_left edited.desk (moment x left r t) s) (sym same))
      (serves_one edited (steps_left edited.desk (moment reading left r t) s) d (moment reading left r t) (moment reading' left r' t') noted appended)

  pub answered_none : (edited edited' : Edited) (d : Desk) → edited ≡ edited' → r' ≡ r → t' ≡ t
      → Serves (steps_from edited (moment reading left r t) s) (steps_from edited' (moment reading' left r' t') s) d d (moment reading left r t) (moment reading' left r' t')
  answered_none edited edited' d is noted told =
      subst (λ (l : List Edited). Serves (steps_from edited (moment reading left r t) s) l d d (moment reading left r t) (moment reading' left r' t'))
      (ap (λ e. steps_from e (moment reading left r t) s) is ∙ ap (λ (x : Reading). steps_from edited' (moment x left r t) s) (sym same))
      (serves_none (steps_from edited (moment reading left r t) s) d (moment reading left r t) (moment reading' left r' t') noted told)

  pub longer_as : is_longer (moment reading' left r' t') s ≡ is_longer (moment reading left r t) s
  longer_as = ap (λ (x : Reading). is_longer (moment x left r t) s) same

module _ (all : List Edited) (too_long : Bool) (m : Moment) (left : Option (List ℕ)) (reading reading' : Reading) (r r' : Bool) (t t' : Option (List ℕ)) (s : List ℕ) (same : reading' ≡ reading) (d d' : Desk) where
  pub at_open : (edited : Edited) → IsAt all too_long d d' m (moment reading left r t) edited s → r' ≡ (r || is_refusal edited.answer) → ((x : List ℕ) → t ≡ Some x → t' ≡ Some (x ++ text_of edited.answer))
      → Serves all (steps_left edited.desk (moment reading' left r' t') s) d edited.desk m (moment reading' left r' t') × (is_longer (moment reading' left r' t') s ≡ too_long)
  at_open edited at noted appended = (
    serves_then all (steps_from edited (moment reading left r t) s) (steps_left edited.desk (moment reading' left r' t') s) d d' edited.desk m (moment reading left r t) (moment reading' left r' t')
        at.serves (answered_one left reading reading' r r' t t' s same edited d' noted appended),
    longer_as left reading reading' r r' t t' s same ∙ at.longer,
  )

  pub at_close : (edited edited' : Edited) → IsAt all too_long d d' m (moment reading left r t) edited s → edited ≡ edited' → r' ≡ r → t' ≡ t
      → Serves all (steps_from edited' (moment reading' left r' t') s) d d' m (moment reading' left r' t') × (is_longer (moment reading' left r' t') s ≡ too_long)
  at_close edited edited' at is noted told = (
    serves_then all (steps_from edited (moment reading left r t) s) (steps_from edited' (moment reading' left r' t') s) d d' d' m (moment reading left r t) (moment reading' left r' t')
        at.serves (answered_none left reading reading' r r' t t' s same edited edited' d' is noted told),
    longer_as left reading reading' r r' t t' s same ∙ at.longer,
  )

-- the state at which a run stands, as another definition says it
pub left_at : (all : List Edited) (d at at' : Desk) (m m' : Moment) (s : List ℕ) → at ≡ at' → Serves all (steps_left at m' s) d at m m' → Serves all (steps_left at' m' s) d at' m m'
left_at all d at at' m m' s is serves = subst (λ (x : Desk). Serves all (steps_left x m' s) d x m m') is serves
