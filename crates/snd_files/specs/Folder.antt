-- A folder of real files, as a shelf that tells nothing of them.
use Rattle.std.specs.Prelude.{◌≡◌, ◌⊎◌, ◌<◌, ◌≤◌, ◌^◌, ℕ, length, List, [], ◌∷◌, Bool, true, false, None, Some, if◌then◌else◌}
use Rattle.std.proofs.Common.{inl}
use Rattle.std.specs.String.{string_bytes}
use Rattle.std.specs.Str.{bytes_eq}
use Rattle.snd_disk.specs.Shelf.{Files, ShelfState}
use Rattle.snd_files.specs.declared.folder.Taken.{Taken}
use Rattle.snd_files.specs.declared.folder.FolderShelf.{FolderShelf}

-- whether a name is among those of these files
abbrev pub is_out : List Taken → List ℕ → Bool
is_out [] n = false
is_out (t ∷ ts) n = if bytes_eq n (string_bytes t.name) then true else is_out ts n

abbrev pub folder_state : FolderShelf → ShelfState
folder_state s = record {
  out = is_out s.taken.items;
  files = None;
  clock = λ n. 0;
  faults = s.faults;
  written = s.written;
  asked = s.asked;
}

abbrev pub folder_left : FolderShelf → List ℕ → List ℕ → Type 0
folder_left s n x = ⊥

abbrev pub folder_between : FolderShelf → List ℕ → ℕ → ℕ → List ℕ → Type 0
folder_between s n t t' x = ⊥

pub folder_is_left : (s : FolderShelf) (f : Files) (n b : List ℕ) → (folder_state s).files ≡ Some f → f n ≡ Some b → folder_left s n b
folder_is_left s f n b told is = absurd (cc told)

pub folder_counts_now : (s : FolderShelf) (n : List ℕ) (t t' : ℕ) (x : List ℕ) → t ≤ 0 → 0 ≤ t' → folder_left s n x → folder_between s n t t' x
folder_counts_now s n t t' x after before left = left

pub folder_only_now : (s : FolderShelf) (n : List ℕ) (t t' : ℕ) (x : List ℕ) → 0 ≤ t → folder_between s n t t' x → folder_left s n x
folder_only_now s n t t' x now left = left

pub folder_file_fits : (s : FolderShelf) (f : Files) (n b : List ℕ) → (folder_state s).files ≡ Some f → f n ≡ Some b → length b < 2 ^ 63
folder_file_fits s f n b told is = absurd (cc told)

pub folder_none_to_come : (s : FolderShelf) (n : List ℕ) (t t' : ℕ) (x : List ℕ) → 0 ≤ t' → folder_between s n t t' x → folder_between s n t 0 x
folder_none_to_come s n t t' x now left = left

pub folder_splits : (s : FolderShelf) (n : List ℕ) (t t' t'' : ℕ) (x : List ℕ) → folder_between s n t t'' x → folder_between s n t t' x ⊎ folder_between s n t' t'' x
folder_splits s n t t' t'' x left = inl left
