-- A real file, as a disk that tells nothing of its contents and of crashes.
use Rattle.std.specs.Prelude.{◌≡◌, ◌⊎◌, ◌<◌, ◌≤◌, ◌^◌, ℕ, List, length, Some, None}
use Rattle.std.proofs.Common.{inl}
use Rattle.std.specs.String.{string_bytes}
use Rattle.snd_disk.specs.State.{State}
use Rattle.snd_files.specs.declared.file.FileDisk.{FileDisk}

abbrev pub file_state : FileDisk → State
file_state d = record {
  size = d.size;
  contents = None;
  name = Some (string_bytes d.name);
  faults = d.faults;
  written = d.written;
  asked = d.asked;
  clock = 0;
}

abbrev pub file_left : FileDisk → List ℕ → Type 0
file_left d x = ⊥

abbrev pub file_between : FileDisk → ℕ → ℕ → List ℕ → Type 0
file_between d s t x = ⊥

pub file_told : (d : FileDisk) (b : List ℕ) → (file_state d).contents ≡ Some b → d.size ≡ length b
file_told d b told = absurd (cc told)

pub file_is_left : (d : FileDisk) (b : List ℕ) → (file_state d).contents ≡ Some b → file_left d b
file_is_left d b told = absurd (cc told)

pub file_counts_now : (d : FileDisk) (s t : ℕ) (x : List ℕ) → s ≤ 0 → 0 ≤ t → file_left d x → file_between d s t x
file_counts_now d s t x after before left = left

pub file_only_now : (d : FileDisk) (s t : ℕ) (x : List ℕ) → 0 ≤ s → file_between d s t x → file_left d x
file_only_now d s t x now left = left

pub file_fits : (d : FileDisk) → d.size < 2 ^ 63
file_fits d = d.fits

pub file_none_to_come : (d : FileDisk) (s t : ℕ) (x : List ℕ) → 0 ≤ t → file_between d s t x → file_between d s 0 x
file_none_to_come d s t x now left = left

pub file_splits : (d : FileDisk) (s t u : ℕ) (x : List ℕ) → file_between d s u x → file_between d s t x ⊎ file_between d t u x
file_splits d s t u x left = inl left
