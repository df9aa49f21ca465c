use Rattle.std.proofs.Common.{◌≡◌, ◌-◌, ◌*◌, ◌≤◌, ℕ, List, All, max, take}
use Rattle.snd_ima_adpcm.specs.Frames.{Is16Bit}
use Rattle.snd_disk.specs.Device.{AsksAtMost, OnlyReadsOn, Tells}
use Rattle.snd_layout.specs.Blocks.{block_align, block_frames}
use Rattle.snd_blocks.specs.Cache.{AreKept, Caches, bytes_cached}
use Rattle.snd_blocks.specs.Fetching.{Fetches}
use Rattle.snd_blocks.specs.Spans.{HasSpan, count_before}
use Rattle.snd_blocks.proofs.read.read_cached.Given as goal

abbrev pub invariant-loop-number : goal.invariant-loop-number
invariant-loop-number g l =
    record {
      told : (b : List ℕ) → Tells g.D.Disk.state l.fn.disk b → HasSpan b l.layout l.place l.count l.number l.into;
      range : All Is16Bit (take (l.layout.params.channels * count_before (block_frames l.layout.params.codec) l.place l.count l.number) l.into);
      calm : (g.D.Disk.state l.disk).faults ≡ (g.D.Disk.state l.fn.disk).faults;
      reads : OnlyReadsOn g.D.Disk.state g.D.Disk.may_leave g.D.Disk.left_between l.fn.disk l.disk;
      asked : AsksAtMost g.D.Disk.state ((max l.number l.fetched.next - l.start) * block_align l.layout.params.channels l.layout.params.codec) l.fn.disk l.disk;
      begun : AreKept l.cache l.number l.fetched.first;
      past : l.start ≤ l.fetched.next;
      fetched : Fetches g.D.Disk.state l.disk l.layout l.limit l.fetched (bytes_cached l.cache);
      cached : Caches g.D.Disk.state l.disk l.layout l.cache;
    }
