use Rattle.std.proofs.Common.{◌≡◌, ◌+◌, ◌*◌, ◌++◌, ◌∷◌, take, drop, length}
use Rattle.snd_ima_adpcm.specs.Frames.{high_half_first}
use Rattle.snd_ms_adpcm.specs.Microsoft.{ms_samples}
use Rattle.snd_ms_adpcm.proofs.microsoft.decode_mono.Given as goal

abbrev pub invariant-loop-n : goal.invariant-loop-n
invariant-loop-n l = record {
  so_far : take (2 * l.n + 2) l.into ++ ms_samples l.state.newer_by l.state.older_by l.state.newer l.state.older l.state.delta (high_half_first (drop l.n l.codes))
      ≡ l.fn.start.older ∷ l.fn.start.newer ∷ ms_samples l.fn.start.newer_by l.fn.start.older_by l.fn.start.newer l.fn.start.older l.fn.start.delta (high_half_first l.codes);
  room : length l.into ≡ 2 * length l.codes + 2;
}
