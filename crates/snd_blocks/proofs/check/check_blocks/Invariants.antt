use Rattle.std.proofs.Common.{◌≡◌, ◌*◌, ℕ, List, take, false}
use Rattle.snd_disk.specs.Device.{AsksAtMost, OnlyReadsOn, Tells}
use Rattle.snd_layout.specs.Blocks.{block_align, block_frames}
use Rattle.snd_blocks.specs.Frames.{frames_in_blocks, has_bad}
use Rattle.snd_blocks.proofs.check.check_blocks.Given as goal

abbrev pub invariant-loop-number : goal.invariant-loop-number
invariant-loop-number g l =
    record {
      good : (b : List ℕ) → Tells g.D.Disk.state l.fn.disk b → has_bad (take (l.number * block_frames l.layout.params.codec) (frames_in_blocks b l.layout)) ≡ false;
      calm : (g.D.Disk.state l.disk).faults ≡ (g.D.Disk.state l.fn.disk).faults;
      reads : OnlyReadsOn g.D.Disk.state g.D.Disk.may_leave g.D.Disk.left_between l.fn.disk l.disk;
      asked : AsksAtMost g.D.Disk.state (l.number * block_align l.layout.params.channels l.layout.params.codec) l.fn.disk l.disk;
    }
