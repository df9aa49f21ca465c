use Rattle.std.proofs.Common.{◌≡◌, ◌+◌, ◌*◌, ◌++◌, drop, length}
use Rattle.snd_ima_adpcm.specs.Frames.{bytes_low_half_first}
use Rattle.snd_ima_adpcm.specs.Ima.{ima_codes, ima_predictor_after, ima_index_after}
use Rattle.snd_ima_adpcm.proofs.ima_writer.encode_run.Given as goal

abbrev pub invariant-loop-n : goal.invariant-loop-n
invariant-loop-n l = record {
  so_far : l.into.items ++ bytes_low_half_first (ima_codes l.place.state.predictor l.place.state.index (drop (2 * l.n) l.samples))
      ≡ l.initial.into.items ++ bytes_low_half_first (ima_codes l.fn.start.predictor l.fn.start.index l.samples);
  count : length l.into.items ≡ length l.initial.into.items + l.n;
  predictor : ima_predictor_after l.place.state.predictor l.place.state.index (drop (2 * l.n) l.samples) ≡ ima_predictor_after l.fn.start.predictor l.fn.start.index l.samples;
  index : ima_index_after l.place.state.predictor l.place.state.index (drop (2 * l.n) l.samples) ≡ ima_index_after l.fn.start.predictor l.fn.start.index l.samples;
}
