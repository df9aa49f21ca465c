use Rattle.std.proofs.Common.{◌≡◌, ◌+◌, ◌-◌, ◌*◌, ◌/◌, ◌++◌, take, drop, length}
use Rattle.snd_ima_adpcm.specs.Frames.{low_half_first, alternating}
use Rattle.snd_ima_adpcm.specs.Ima.{ima_samples, ima_code_bytes, ima_block}
use Rattle.snd_ima_adpcm.proofs.ima.decode_stereo.Given as goal

abbrev pub invariant-loop-n : goal.invariant-loop-n
invariant-loop-n l = record {
  so_far : take (4 * l.n + 2) l.into ++ alternating
      (ima_samples l.left.predictor l.left.index (low_half_first (drop l.n (ima_code_bytes 2 0 l.bytes))))
      (ima_samples l.right.predictor l.right.index (low_half_first (drop l.n (ima_code_bytes 2 1 l.bytes))))
      ≡ ima_block 2 l.bytes;
  room : length l.into ≡ 4 * (length l.bytes / 2 - 4) + 2;
}
