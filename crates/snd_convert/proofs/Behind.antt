-- How many samples frames have behind a rack.
use Rattle.std.proofs.Common.{◌≤◌, ℕ, List, [], ◌∷◌}
use Rattle.snd_rack.specs.Passing.{AllSettled}
use Rattle.snd_rack.specs.Rack.{channels_after, channels_behind}
use Rattle.snd_rack.specs.Stage.{IsSettled, Stated}

few_behind : (s : Stated) (channels : ℕ) → IsSettled s → channels ≤ 256 → channels_behind channels s ≤ 256
few_behind (Stated.gain a b) channels settled few = few
few_behind Stated.invert channels settled few = few
few_behind (Stated.pick places) channels settled few = settled.1
few_behind (Stated.fade count) channels settled few = few

-- a frame never has more than 256 samples
pub few_after : (items : List Stated) (channels : ℕ) → AllSettled items → channels ≤ 256 → channels_after items channels ≤ 256
few_after [] channels settled few = few
few_after (s ∷ items) channels settled few = few_after items (channels_behind channels s) settled.1 (few_behind s channels settled.0 few)
