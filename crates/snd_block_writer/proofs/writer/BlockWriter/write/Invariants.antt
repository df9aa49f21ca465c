use Rattle.std.proofs.Common.{◌≡◌, ◌-◌, ◌≤◌, length, take}
use Rattle.snd_disk.specs.State.{IsWritten}
use Rattle.snd_block_writer.specs.Puts.{Puts}
use Rattle.snd_block_writer.specs.Writing.{given_more, more_bytes, next_place}
use Rattle.snd_block_writer.proofs.writer.BlockWriter.write.Given as goal

abbrev pub invariant-loop-done : goal.invariant-loop-done
invariant-loop-done g l = record {
  within : l.done ≤ length l.from;
  taken : l.self ≡ given_more l.fn.self (take l.done l.from);
  done : IsWritten (next_place l.start l.fn.self) (more_bytes l.fn.self (take l.done l.from)) (g.D.Disk.state l.fn.disk) (g.D.Disk.state l.disk);
  puts : Puts g.D.Disk (next_place l.start l.fn.self) (more_bytes l.fn.self (take l.done l.from)) l.fn.disk l.disk;
  there : next_place l.start l.self ≤ (g.D.Disk.state l.disk).size;
  calm : (g.D.Disk.state l.disk).faults ≡ (g.D.Disk.state l.fn.disk).faults;
}

abbrev pub decreases-loop-done : goal.decreases-loop-done
decreases-loop-done g l = length l.from - l.done
