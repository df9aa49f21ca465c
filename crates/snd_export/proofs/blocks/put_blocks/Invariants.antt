use Rattle.std.proofs.Common.{◌≡◌, ℕ, ◌+◌, ◌-◌, ◌*◌, ◌/◌, ◌<◌, ◌≤◌, List, ◌++◌, length}
use Rattle.std.specs.Prelude.{is_some}
use Rattle.snd_disk.specs.Device.{AsksAtMost, GoesOnFrom, OnlyReadsOn, Tells}
use Rattle.snd_frames.specs.Caching.{CachesIn}
use Rattle.snd_vox.specs.Vox.{vox_start}
use Rattle.snd_layout.specs.Blocks.{is_adpcm}
use Rattle.snd_output.proofs.Public.{asked_by}
use Rattle.snd_patch.specs.Steps.{StillTells}
use Rattle.snd_export.specs.Coding.{bytes_by, count_by, numbers_at, state_by}
use Rattle.snd_export.proofs.Coded.{Stands}
use Rattle.snd_export.proofs.blocks.put_blocks.Given as goal

abbrev pub invariant-loop-place : goal.invariant-loop-place
invariant-loop-place g l =
    let h = l.fn.layout in
    record {
      within : l.place ≤ h.frames;
      stands : l.place < h.frames → Stands l.target (l.place * h.params.channels);
      size : l.at ≡ (g.E.Disk.state l.to).size;
      at_is : l.at ≡ l.start + count_by l.target (l.place * h.params.channels);
      count : (b : List ℕ) → Tells g.D.Disk.state l.fn.from b → length (numbers_at b h 0 l.place) ≡ l.place * h.params.channels;
      behind : (b : List ℕ) → Tells g.D.Disk.state l.fn.from b → l.writer ≡ state_by l.target vox_start h.params.codec (numbers_at b h 0 l.place);
      put : (b x : List ℕ) → Tells g.D.Disk.state l.fn.from b → Tells g.E.Disk.state l.fn.to x
          → Tells g.E.Disk.state l.to (x ++ bytes_by l.target vox_start h.params.codec (numbers_at b h 0 l.place));
      blocks : is_some l.cache ≡ is_adpcm h.params.codec;
      cached : CachesIn g.D.Disk.state l.from h l.cache;
      calm : (g.D.Disk.state l.from).faults ≡ (g.D.Disk.state l.fn.from).faults;
      to_calm : (g.E.Disk.state l.to).faults ≡ (g.E.Disk.state l.fn.to).faults;
      reads : OnlyReadsOn g.D.Disk.state g.D.Disk.may_leave g.D.Disk.left_between l.fn.from l.from;
      tells : StillTells (g.E.Disk.state l.fn.to) (g.E.Disk.state l.to);
      time : GoesOnFrom g.E.Disk.state g.E.Disk.left_between l.fn.to l.to;
      asked : AsksAtMost g.D.Disk.state (asked_by h.params (16384 / h.params.channels) l.place (h.frames - l.place) 1) l.fn.from l.from;
      unasked : (g.E.Disk.state l.to).asked ≡ (g.E.Disk.state l.fn.to).asked;
    }

abbrev pub decreases-loop-place : goal.decreases-loop-place
decreases-loop-place g l = l.fn.layout.frames - l.place
