use Rattle.std.proofs.Common.{◌≡◌, ◌+◌, ◌*◌, ◌++◌, drop, length}
use Rattle.snd_ima_adpcm.specs.Frames.{bytes_low_half_first, firsts, seconds, fours}
use Rattle.snd_ima_adpcm.specs.Ima.{ima_codes, ima_index_after}
use Rattle.snd_ima_adpcm.proofs.ima_writer.encode_frames.Given as goal

abbrev pub invariant-loop-n : goal.invariant-loop-n
invariant-loop-n l = record {
  so_far : l.into.items ++ fours
      (bytes_low_half_first (ima_codes l.left.state.predictor l.left.state.index (firsts (drop (16 * l.n) l.frames))))
      (bytes_low_half_first (ima_codes l.right.state.predictor l.right.state.index (seconds (drop (16 * l.n) l.frames))))
      ≡ l.initial.into.items ++ fours
      (bytes_low_half_first (ima_codes l.fn.first.predictor l.fn.first.index (firsts l.frames)))
      (bytes_low_half_first (ima_codes l.fn.second.predictor l.fn.second.index (seconds l.frames)));
  count : length l.into.items ≡ length l.initial.into.items + 8 * l.n;
  left : ima_index_after l.left.state.predictor l.left.state.index (firsts (drop (16 * l.n) l.frames)) ≡ ima_index_after l.fn.first.predictor l.fn.first.index (firsts l.frames);
  right : ima_index_after l.right.state.predictor l.right.state.index (seconds (drop (16 * l.n) l.frames)) ≡ ima_index_after l.fn.second.predictor l.fn.second.index (seconds l.frames);
}
