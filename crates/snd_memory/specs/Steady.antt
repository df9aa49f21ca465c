-- A disk in memory that does not fail, as a disk.
use Rattle.std.specs.Prelude.{◌≡◌, ◌⊎◌, ◌<◌, ◌≤◌, ◌^◌, ℕ, List, length, Some}
use Rattle.snd_disk.specs.State.{State}
use Rattle.snd_memory.specs.Memory.{memory_state, memory_left, memory_between, memory_told, memory_fits, memory_is_left, memory_counts_now, memory_only_now, memory_none_to_come, memory_splits}
use Rattle.snd_memory.specs.declared.steady.SteadyDisk.{SteadyDisk}

abbrev pub steady_state : SteadyDisk → State
steady_state d = memory_state d.disk

abbrev pub steady_left : SteadyDisk → List ℕ → Type 0
steady_left d = memory_left d.disk

abbrev pub steady_between : SteadyDisk → ℕ → ℕ → List ℕ → Type 0
steady_between d = memory_between d.disk

pub steady_told : (d : SteadyDisk) (b : List ℕ) → (steady_state d).contents ≡ Some b → (steady_state d).size ≡ length b
steady_told d b told = memory_told d.disk b told

pub steady_fits : (d : SteadyDisk) → (steady_state d).size < 2 ^ 63
steady_fits d = memory_fits d.disk

pub steady_is_left : (d : SteadyDisk) (b : List ℕ) → (steady_state d).contents ≡ Some b → steady_left d b
steady_is_left d b told = memory_is_left d.disk b told

pub steady_counts_now : (d : SteadyDisk) (s t : ℕ) (x : List ℕ) → s ≤ (steady_state d).clock → (steady_state d).clock ≤ t → steady_left d x → steady_between d s t x
steady_counts_now d s t x after before left = memory_counts_now d.disk s t x after before left

pub steady_only_now : (d : SteadyDisk) (s t : ℕ) (x : List ℕ) → (steady_state d).clock ≤ s → steady_between d s t x → steady_left d x
steady_only_now d s t x now left = memory_only_now d.disk s t x now left

pub steady_none_to_come : (d : SteadyDisk) (s t : ℕ) (x : List ℕ) → (steady_state d).clock ≤ t → steady_between d s t x → steady_between d s (steady_state d).clock x
steady_none_to_come d s t x now left = memory_none_to_come d.disk s t x now left

pub steady_splits : (d : SteadyDisk) (s t u : ℕ) (x : List ℕ) → steady_between d s u x → steady_between d s t x ⊎ steady_between d t u x
steady_splits d s t u x left = memory_splits d.disk s t u x left
