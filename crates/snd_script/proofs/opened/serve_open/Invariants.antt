use Rattle.std.proofs.Common.{◌≡◌, ◌+◌, ◌≤◌, List, ◌++◌, ℕ, None, Some, length, reverse, true}
use Rattle.snd_edits.specs.Editing.{Editing}
use Rattle.snd_edits.specs.Safe.{IsSafe}
use Rattle.snd_rules.specs.Desk.{Store, open_desk}
use Rattle.snd_session.specs.Handled.{HandleAtRest, HandleStands, LeavesHandle, handle_disk, handle_known}
use Rattle.snd_script.specs.Kept.{lines_to_serve}
use Rattle.snd_script.specs.Lines.{to_take}
use Rattle.snd_rules.specs.Script.{asked_by, most_in, written_in}
use Rattle.snd_script.specs.Served.{SameCounts}
use Rattle.snd_script.specs.Serving.{Serves, disk_faults_of, is_longer, moment_of, steps_left}
use Rattle.snd_script.specs.Tapped.{taps_of}
use Rattle.snd_script.specs.Trail.{TrailTo, pinned_file}
use Rattle.snd_script.proofs.Stepping.{held_desk}
use Rattle.snd_script.proofs.Uses.{UsesSoFar}
use Rattle.snd_script.proofs.Tails.{TailSoFar}
use Rattle.snd_script.proofs.TrailRuns.{TrailSoFar}
use Rattle.snd_script.proofs.opened.serve_open.Given as goal

abbrev pub invariant-loop-line : goal.invariant-loop-line
invariant-loop-line g l = record {
  told : (name : List ℕ) (store : Store) (e : Editing) (s : List ℕ) → HandleStands g.D.Disk.state l.fn.handle e → g.R.Source.left l.fn.script ≡ Some s →
      (e' : Editing) × (s' : List ℕ) × (g.R.Source.left l.script ≡ Some s') × HandleStands g.D.Disk.state l.handle e'
      × Serves (steps_left (held_desk store name l.fn.stays (taps_of (λ b. (goal.Tap-dyn g b).meter b.1) l.fn.run) l.fn.handle e) (moment_of g.R.Source.left g.O.Sink.told l.fn.run l.fn.script l.fn.out) s)
      (steps_left (held_desk store name l.fn.stays (taps_of (λ b. (goal.Tap-dyn g b).meter b.1) l.run) l.handle e') (moment_of g.R.Source.left g.O.Sink.told l.run l.script l.out) s')
      (held_desk store name l.fn.stays (taps_of (λ b. (goal.Tap-dyn g b).meter b.1) l.fn.run) l.fn.handle e)
      (held_desk store name l.fn.stays (taps_of (λ b. (goal.Tap-dyn g b).meter b.1) l.run) l.handle e')
      (moment_of g.R.Source.left g.O.Sink.told l.fn.run l.fn.script l.fn.out)
      (moment_of g.R.Source.left g.O.Sink.told l.run l.script l.out)
      × (is_longer (moment_of g.R.Source.left g.O.Sink.told l.run l.script l.out) s'
      ≡ is_longer (moment_of g.R.Source.left g.O.Sink.told l.fn.run l.fn.script l.fn.out) s);
  whole : (handle_known l.handle).broken ≡ None;
  fewer : l.run.lines.room ≤ l.fn.run.lines.room;
  given : g.R.Source.given l.script + to_take l.run.lines ≤ g.R.Source.given l.fn.script + to_take l.fn.run.lines;
  counted : SameCounts (disk_faults_of g.D.Disk.state g.R.Source.faults g.O.Sink.faults (handle_disk l.fn.handle) l.fn.script l.fn.out) (disk_faults_of g.D.Disk.state g.R.Source.faults g.O.Sink.faults (handle_disk l.handle) l.script l.out);
  leaves : LeavesHandle g.D.Disk.state g.D.Disk.may_leave g.D.Disk.left_between l.fn.handle l.handle;
  trail : l.fn.stays ≡ true → (store : Store) (name : List ℕ) (e : Editing) (t0 : ℕ) (past : List Editing) (s t : List ℕ) → HandleAtRest g.D.Disk l.fn.handle e → e.automatic ≡ true
      → TrailTo IsSafe (g.D.Disk.left_between (handle_disk l.fn.handle)) t0 (g.D.Disk.state (handle_disk l.fn.handle)).clock e past
      → g.R.Source.left l.fn.script ≡ Some s → g.O.Sink.told l.fn.out ≡ Some t →
      (e' : Editing) × (s' : List ℕ) × (sent : List ℕ) × (e'.automatic ≡ true) × (g.R.Source.left l.script ≡ Some s') × (g.O.Sink.told l.out ≡ Some (t ++ sent))
      × TrailSoFar g.D.Disk t0 (reverse past) e
      (steps_left (open_desk store (pinned_file name (taps_of (λ b. (goal.Tap-dyn g b).meter b.1) l.fn.run) e)) (moment_of g.R.Source.left g.O.Sink.told l.fn.run l.fn.script l.fn.out) s)
      e'
      (steps_left (open_desk store (pinned_file name (taps_of (λ b. (goal.Tap-dyn g b).meter b.1) l.run) e')) (moment_of g.R.Source.left g.O.Sink.told l.run l.script l.out) s')
      (length sent) l.handle;
  tail : (s : List ℕ) → g.R.Source.left l.fn.script ≡ Some s → TailSoFar (lines_to_serve l.fn.run.lines s) l.run.lines (g.R.Source.left l.script);
  asked : (s : List ℕ) → g.R.Source.left l.fn.script ≡ Some s
      → UsesSoFar (most_in l.fn.stays asked_by) l.fn.run.lines s l.run.lines (g.R.Source.left l.script) (g.D.Disk.state (handle_disk l.fn.handle)).asked (g.D.Disk.state (handle_disk l.handle)).asked;
  written : (s : List ℕ) → g.R.Source.left l.fn.script ≡ Some s
      → UsesSoFar (written_in l.fn.stays) l.fn.run.lines s l.run.lines (g.R.Source.left l.script) (g.D.Disk.state (handle_disk l.fn.handle)).written (g.D.Disk.state (handle_disk l.handle)).written;
}

abbrev pub decreases-loop-line : goal.decreases-loop-line
decreases-loop-line g l = l.run.lines.room
