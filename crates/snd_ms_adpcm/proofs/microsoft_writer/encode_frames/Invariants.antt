use Rattle.std.proofs.Common.{◌≡◌, ◌+◌, ◌*◌, ◌++◌, ◌≤ℤ◌, pos, drop, length}
use Rattle.snd_ima_adpcm.specs.Frames.{bytes_high_half_first, alternating, firsts, seconds}
use Rattle.snd_ms_adpcm.specs.Microsoft.{ms_codes}
use Rattle.snd_ms_adpcm.proofs.microsoft_writer.encode_frames.Given as goal

abbrev pub invariant-loop-n : goal.invariant-loop-n
invariant-loop-n l = record {
  so_far : l.into.items ++ bytes_high_half_first (alternating
      (ms_codes l.left.newer_by l.left.older_by l.left.newer l.left.older l.left.delta (firsts (drop (2 * l.n) l.frames)))
      (ms_codes l.right.newer_by l.right.older_by l.right.newer l.right.older l.right.delta (seconds (drop (2 * l.n) l.frames))))
      ≡ l.initial.into.items ++ bytes_high_half_first (alternating
      (ms_codes l.initial.left.newer_by l.initial.left.older_by l.initial.left.newer l.initial.left.older l.initial.left.delta (firsts l.frames))
      (ms_codes l.initial.right.newer_by l.initial.right.older_by l.initial.right.newer l.initial.right.older l.initial.right.delta (seconds l.frames)));
  count : length l.into.items ≡ length l.initial.into.items + l.n;
  left_delta : pos 16 ≤ℤ l.left.delta;
  right_delta : pos 16 ≤ℤ l.right.delta;
}
