-- Several stages, one behind the other.
use Rattle.std.specs.Prelude.{ℕ, ℤ, Bool, false, ◌||◌, not, List, [], ◌∷◌, fold, length, nat_lt}
use Rattle.std.specs.List.{list_all}
use Rattle.snd_rack.specs.Stage.{Stated, mapped, staged, staged_from}

-- all frames, through one stage after the other
abbrev pub racked : List Stated → ℤ → ℤ → List (List ℤ) → List (List ℤ)
racked items low high frames = fold (λ frames s. staged s low high frames) frames items

-- .. of which the first has the number k
abbrev pub racked_from : ℕ → List Stated → ℤ → ℤ → List (List ℤ) → List (List ℤ)
racked_from k items low high frames = fold (λ frames s. staged_from k s low high frames) frames items

-- one frame by its number, through all of them
abbrev pub frame_through : List Stated → ℤ → ℤ → ℕ → List ℤ → List ℤ
frame_through items low high i frame = fold (λ frame s. mapped s low high i frame) frame items

-- how many samples a frame has behind a stage that comes with so many
abbrev pub channels_behind : ℕ → Stated → ℕ
channels_behind channels (Stated.pick places) = length places
channels_behind channels s = channels

abbrev pub channels_after : List Stated → ℕ → ℕ
channels_after items channels = fold channels_behind channels items

-- whether a place is taken that a frame does not have which reaches the stage
abbrev pub is_bad : ℕ → Stated → Bool
is_bad channels (Stated.pick places) = not (list_all (λ place. nat_lt place channels) places)
is_bad channels s = false

abbrev pub bad_place : List Stated → ℕ → Bool
bad_place [] channels = false
bad_place (s ∷ items) channels = is_bad channels s || bad_place items (channels_behind channels s)
