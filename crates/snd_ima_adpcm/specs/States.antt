-- What the rules of a code say of one channel's state, as the code of this crate holds it between two codes.
use Rattle.std.specs.Prelude.{ℕ, ℤ, List}
use Rattle.snd_ima_adpcm.specs.declared.ima.ImaState.{ImaState}
use Rattle.snd_ima_adpcm.specs.Frames.{bytes_low_half_first, firsts, fours, seconds}
use Rattle.snd_ima_adpcm.specs.Ima.{ima_code, ima_codes, ima_index, ima_index_after, ima_predictor}

-- the code of a sample, and the predictor and the index that it leads to
abbrev pub ima_code_at : ImaState → ℤ → ℕ
ima_code_at s sample = ima_code s.predictor s.index sample

abbrev pub ima_predictor_for : ImaState → ℤ → ℤ
ima_predictor_for s sample = ima_predictor s.predictor s.index (ima_code_at s sample)

abbrev pub ima_index_for : ImaState → ℤ → ℕ
ima_index_for s sample = ima_index s.index (ima_code_at s sample)

-- the bytes of a channel's samples, and the index behind them
abbrev pub ima_run : ImaState → List ℤ → List ℕ
ima_run s samples = bytes_low_half_first (ima_codes s.predictor s.index samples)

abbrev pub ima_end_index : ImaState → List ℤ → ℕ
ima_end_index s samples = ima_index_after s.predictor s.index samples

-- the bytes of two channels' frames, 4 of each channel in turn
abbrev pub ima_runs : ImaState → ImaState → List ℤ → List ℕ
ima_runs first second frames = fours (ima_run first (firsts frames)) (ima_run second (seconds frames))
