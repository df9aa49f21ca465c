use Rattle.std.proofs.Common.{◌≡◌, ℕ, ◌-◌, ◌%◌, ◌≤◌, List, Ok}
use Rattle.snd_disk.specs.Device.{Tells}
use Rattle.snd_file.specs.Handle.{known_of}
use Rattle.snd_output.specs.Appended.{IsLonger}
use Rattle.snd_import.specs.Filling.{Carries, HasGiven}
use Rattle.snd_import.specs.Import.{bytes_in}
use Rattle.snd_import.specs.declared.source.Coding.TheVariants.{Codes}
use Rattle.snd_import.proofs.filling.give_all.Given as goal

abbrev pub invariant-loop-given : goal.invariant-loop-given
invariant-loop-given g l =
    let s = l.fn.source in
    record {
      within : l.given ≤ s.frames;
      even : s.coding ≡ Codes → l.given % 2 ≡ 0;
      longer : IsLonger l.given (known_of l.fn.to) (known_of l.to);
      carries : Carries {T = Unit {0}} g.D.Disk g.E.Disk (bytes_in s.coding s.params l.given) l.fn.disk l.disk l.fn.to l.to (Ok (tt {0}));
      so_far : (b : List ℕ) → Tells g.D.Disk.state l.fn.disk b → HasGiven g.E.Disk.state s b l.given l.reader l.fn.to l.to;
    }

abbrev pub decreases-loop-given : goal.decreases-loop-given
decreases-loop-given g l = l.fn.source.frames - l.given
