use Rattle.std.proofs.Common.{◌≡◌, ◌*◌, ◌++◌, take, drop, length}
use Rattle.snd_ima_adpcm.specs.Frames.{bytes_low_half_first, firsts, seconds}
use Rattle.snd_ima_adpcm.specs.Ima.{ima_codes, ima_predictor_after, ima_index_after}
use Rattle.snd_ima_adpcm.proofs.ima_writer.encode_beside.Given as goal

abbrev pub invariant-loop-n : goal.invariant-loop-n
invariant-loop-n l =
    let s = l.left.state in
    let t = l.right.state in
    let rest = drop (4 * l.n) l.frames in
    record {
      left : take l.n l.one ++ bytes_low_half_first (ima_codes s.predictor s.index (firsts rest)) ≡ bytes_low_half_first (ima_codes l.fn.first.state.predictor l.fn.first.state.index (firsts l.frames));
      left_predictor : ima_predictor_after s.predictor s.index (firsts rest) ≡ ima_predictor_after l.fn.first.state.predictor l.fn.first.state.index (firsts l.frames);
      left_index : ima_index_after s.predictor s.index (firsts rest) ≡ ima_index_after l.fn.first.state.predictor l.fn.first.state.index (firsts l.frames);
      right : take l.n l.two ++ bytes_low_half_first (ima_codes t.predictor t.index (seconds rest)) ≡ bytes_low_half_first (ima_codes l.fn.second.state.predictor l.fn.second.state.index (seconds l.frames));
      right_predictor : ima_predictor_after t.predictor t.index (seconds rest) ≡ ima_predictor_after l.fn.second.state.predictor l.fn.second.state.index (seconds l.frames);
      right_index : ima_index_after t.predictor t.index (seconds rest) ≡ ima_index_after l.fn.second.state.predictor l.fn.second.state.index (seconds l.frames);
      left_len : length l.one ≡ 4;
      right_len : length l.two ≡ 4;
    }
