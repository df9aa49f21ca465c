use Rattle.std.proofs.Common.{◌≡◌, ◌+◌, ◌*◌, ◌++◌, take, drop, length}
use Rattle.snd_ima_adpcm.specs.Frames.{high_half_first, firsts, seconds, alternating}
use Rattle.snd_ms_adpcm.specs.States.{ms_frames_from}
use Rattle.snd_ms_adpcm.proofs.MsCodes.{rest_of}
use Rattle.snd_ms_adpcm.proofs.microsoft.decode_stereo.Given as goal

abbrev pub invariant-loop-n : goal.invariant-loop-n
invariant-loop-n l = record {
  so_far : take (2 * l.n + 4) l.into ++ alternating (rest_of l.left (firsts (high_half_first (drop l.n l.codes)))) (rest_of l.right (seconds (high_half_first (drop l.n l.codes))))
      ≡ ms_frames_from l.fn.first l.fn.second (high_half_first l.codes);
  room : length l.into ≡ 2 * length l.codes + 4;
}
