use Rattle.std.proofs.Common.{◌≡◌, ◌+◌, ◌-◌, ◌*◌, ◌++◌, take, drop, length}
use Rattle.snd_ima_adpcm.specs.Frames.{low_half_first}
use Rattle.snd_ima_adpcm.specs.Ima.{ima_samples, ima_code_bytes, ima_channel}
use Rattle.snd_ima_adpcm.proofs.ima.decode_mono.Given as goal

abbrev pub invariant-loop-n : goal.invariant-loop-n
invariant-loop-n l = record {
  so_far : take (2 * l.n + 1) l.into ++ ima_samples l.state.predictor l.state.index (low_half_first (drop l.n (ima_code_bytes 1 0 l.bytes))) ≡ ima_channel 1 0 l.bytes;
  room : length l.into ≡ 2 * (length l.bytes - 4) + 1;
}
