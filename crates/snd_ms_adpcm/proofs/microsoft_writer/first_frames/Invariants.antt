use Rattle.std.proofs.Common.{◌≡◌, take}
use Rattle.snd_ima_adpcm.specs.Frames.{firsts, seconds}
use Rattle.snd_ms_adpcm.proofs.microsoft_writer.first_frames.Given as goal

abbrev pub invariant-loop-n : goal.invariant-loop-n
invariant-loop-n l = record {
  left : l.left.items ≡ take l.n (firsts l.frames);
  right : l.right.items ≡ take l.n (seconds l.frames);
}
