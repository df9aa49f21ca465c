use Rattle.std.proofs.Common.{◌≡◌, ◌*◌, ◌≤ℤ◌, ◌↔◌, All, length, take}
use Rattle.snd_fields.specs.declared.field.Order.TheVariants.{Little}
use Rattle.snd_pcm.specs.Pcm.{InRange, high, low, samples_bytes}
use Rattle.snd_pcm.specs.declared.linear.Linear.TheVariants.{S16}
use Rattle.snd_frames.proofs.coding.put_tested_little.Given as goal

abbrev pub invariant-loop-i : goal.invariant-loop-i
invariant-loop-i l =
    record {
      size : length l.bytes ≡ 2 * length l.from;
      ends : ((low (S16 Little) ≤ℤ l.least) × (l.greatest ≤ℤ high (S16 Little))) ↔ All (InRange (S16 Little)) (take l.i l.from);
      put : All (InRange (S16 Little)) (take l.i l.from) → take (2 * l.i) l.bytes ≡ samples_bytes (S16 Little) (take l.i l.from);
    }
