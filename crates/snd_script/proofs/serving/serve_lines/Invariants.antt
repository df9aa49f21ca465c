use Rattle.std.proofs.Common.{◌≡◌, ◌+◌, ◌≤◌, List, ℕ, Some}
use Rattle.snd_rules.specs.Desk.{Store, closed_desk}
use Rattle.snd_script.specs.Kept.{KeepsByLines, lines_to_serve}
use Rattle.snd_script.specs.Lines.{to_take}
use Rattle.snd_rules.specs.Script.{asked_by, written_by}
use Rattle.snd_script.specs.Served.{HasStore, LeavesShelf, SameCounts, faults_of}
use Rattle.snd_script.specs.Serving.{Serves, is_longer, moment_of, steps_left}
use Rattle.snd_script.specs.Tapped.{taps_of}
use Rattle.snd_script.proofs.Uses.{UsesSoFar}
use Rattle.snd_script.proofs.Tails.{TailSoFar}
use Rattle.snd_script.proofs.serving.serve_lines.Given as goal

abbrev pub invariant-loop-stop : goal.invariant-loop-stop
invariant-loop-stop g l = record {
  served : (store : Store) (s : List ℕ) → HasStore g.S.Shelf.state l.fn.shelf (taps_of (λ b. (goal.Tap-dyn g b).meter b.1) l.fn.run) store → g.R.Source.left l.fn.script ≡ Some s →
      (store' : Store) × (s' : List ℕ) × HasStore g.S.Shelf.state l.shelf (taps_of (λ b. (goal.Tap-dyn g b).meter b.1) l.run) store' × (g.R.Source.left l.script ≡ Some s')
      × Serves (steps_left (closed_desk store) (moment_of g.R.Source.left g.O.Sink.told l.fn.run l.fn.script l.fn.out) s)
      (steps_left (closed_desk store') (moment_of g.R.Source.left g.O.Sink.told l.run l.script l.out) s')
      (closed_desk store)
      (closed_desk store')
      (moment_of g.R.Source.left g.O.Sink.told l.fn.run l.fn.script l.fn.out)
      (moment_of g.R.Source.left g.O.Sink.told l.run l.script l.out)
      × (is_longer (moment_of g.R.Source.left g.O.Sink.told l.run l.script l.out) s'
      ≡ is_longer (moment_of g.R.Source.left g.O.Sink.told l.fn.run l.fn.script l.fn.out) s);
  given : g.R.Source.given l.script + to_take l.run.lines ≤ g.R.Source.given l.fn.script + to_take l.fn.run.lines;
  counted : SameCounts (faults_of g.S.Shelf.state g.R.Source.faults g.O.Sink.faults l.fn.shelf l.fn.script l.fn.out) (faults_of g.S.Shelf.state g.R.Source.faults g.O.Sink.faults l.shelf l.script l.out);
  shelf : LeavesShelf g.S.Shelf.state g.S.Shelf.left_between l.fn.shelf l.shelf;
  tail : (s : List ℕ) → g.R.Source.left l.fn.script ≡ Some s → TailSoFar (lines_to_serve l.fn.run.lines s) l.run.lines (g.R.Source.left l.script);
  images : KeepsByLines g.S.Shelf g.R.Source l.fn.shelf l.fn.run l.fn.script l.shelf;
  asked : (s : List ℕ) → g.R.Source.left l.fn.script ≡ Some s
      → UsesSoFar asked_by l.fn.run.lines s l.run.lines (g.R.Source.left l.script) (g.S.Shelf.state l.fn.shelf).asked (g.S.Shelf.state l.shelf).asked;
  written : (s : List ℕ) → g.R.Source.left l.fn.script ≡ Some s
      → UsesSoFar written_by l.fn.run.lines s l.run.lines (g.R.Source.left l.script) (g.S.Shelf.state l.fn.shelf).written (g.S.Shelf.state l.shelf).written;
}

abbrev pub decreases-loop-stop : goal.decreases-loop-stop
decreases-loop-stop g l = l.run.lines.room
