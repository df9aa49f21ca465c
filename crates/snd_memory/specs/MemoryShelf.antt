-- A shelf in memory, as a shelf.
use Rattle.std.specs.Prelude.{◌≡◌, ◌⊎◌, ◌<◌, ◌≤◌, ◌^◌, length, ℕ, suc, List, [], ◌∷◌, Bool, false, Option, Some, None, option_map, is_none, Result, Ok, Err, if◌then◌else◌}
use Rattle.std.proofs.Common.{ap, ◌∙◌, arith, inl}
use Rattle.std.specs.String.{string_bytes}
use Rattle.std.specs.Str.{bytes_eq}
use Rattle.std.specs.declared.string.String.{String}
use Rattle.std.specs.declared.alloc.Global.{Global}
use Rattle.snd_memory.specs.Memory.{memory_state, memory_left, memory_between, memory_is_left, memory_counts_now, memory_only_now, memory_told, memory_fits, memory_none_to_come, memory_splits}
use Rattle.snd_memory.specs.declared.memory.MemoryDisk.{MemoryDisk}
use Rattle.snd_disk.specs.Shelf.{Files, ShelfState, IsEmptyImage}
use Rattle.snd_memory.specs.declared.memory_shelf.Entry.{Entry}
use Rattle.snd_memory.specs.declared.memory_shelf.MemoryShelf.{MemoryShelf}

-- where a name stands first
abbrev pub place_of : List Entry → List ℕ → Option ℕ
place_of [] n = None
place_of (e ∷ es) n = if bytes_eq n (string_bytes e.name) then Some 0 else option_map (λ k. suc k) (place_of es n)

-- what stands under a name: nothing, a disk that is out, or a disk
abbrev pub entry_at : List Entry → List ℕ → Option (Option MemoryDisk)
entry_at [] n = None
entry_at (e ∷ es) n = if bytes_eq n (string_bytes e.name) then Some e.disk else entry_at es n

-- the entries are the old ones, but for the disk under a name
abbrev pub Changes : List Entry → List Entry → List ℕ → Option MemoryDisk → Type 0
Changes es es' name disk = (n : List ℕ) → entry_at es' n ≡ (if bytes_eq n name then Some disk else entry_at es n)

-- the disk was put in the place of the one that stood there, or no entry has the name
abbrev pub Exchanges : List Entry → List Entry → List ℕ → Option MemoryDisk → Result (Option MemoryDisk) (Option MemoryDisk) → Type 0
Exchanges es es' name disk (Ok d) = (entry_at es name ≡ Some d) × Changes es es' name disk
Exchanges es es' name disk (Err d) = (entry_at es name ≡ None) × (d ≡ disk) × (es' ≡ es)

abbrev pub bytes_of : Option (Option MemoryDisk) → Option (List ℕ)
bytes_of None = None
bytes_of (Some None) = None
bytes_of (Some (Some d)) = (memory_state d).contents

abbrev pub is_away : Option (Option MemoryDisk) → Bool
is_away None = false
is_away (Some d) = is_none d

abbrev pub clock_of : Option (Option MemoryDisk) → ℕ
clock_of None = 0
clock_of (Some None) = 0
clock_of (Some (Some d)) = (memory_state d).clock

abbrev pub left_of : Option (Option MemoryDisk) → List ℕ → Type 0
left_of None x = ⊥
left_of (Some None) x = ⊥
left_of (Some (Some d)) x = memory_left d x

abbrev pub between_of : Option (Option MemoryDisk) → ℕ → ℕ → List ℕ → Type 0
between_of None s t x = ⊥
between_of (Some None) s t x = ⊥
between_of (Some (Some d)) s t x = memory_between d s t x

abbrev pub shelf_state : MemoryShelf → ShelfState
shelf_state s = record {
  out = λ n. is_away (entry_at s.entries.items n);
  files = Some (λ n. bytes_of (entry_at s.entries.items n));
  clock = λ n. clock_of (entry_at s.entries.items n);
  faults = s.faults;
  written = s.written;
  asked = s.asked;
}

abbrev pub shelf_left : MemoryShelf → List ℕ → List ℕ → Type 0
shelf_left s n = left_of (entry_at s.entries.items n)

abbrev pub shelf_between : MemoryShelf → List ℕ → ℕ → ℕ → List ℕ → Type 0
shelf_between s n = between_of (entry_at s.entries.items n)

-- no file is there, and none is taken out
abbrev pub no_files : ShelfState
no_files = record { out = λ n. false; files = Some (λ n. None); clock = λ n. 0; faults = 0; written = 0; asked = 0 }

-- a new disk that tells this name, with nothing in it
pub record IsEmptyDisk (disk : MemoryDisk) (name : List ℕ) : Type 0 where
  pub state : memory_state disk ≡ record { size = 0; contents = Some []; name = Some name; faults = 0; written = 0; asked = 0; clock = 0 }
  pub images : IsEmptyImage (memory_left disk) (memory_between disk)

-- .. and an entry's name beside it
pub record IsEmptyUnder (key : String Global) (disk : MemoryDisk) (name : List ℕ) : Type 0 where
  pub named : string_bytes key ≡ name
  pub disk_is : IsEmptyDisk disk name

-- the laws of a shelf
entry_is_left : (e : Option (Option MemoryDisk)) (b : List ℕ) → bytes_of e ≡ Some b → left_of e b
entry_is_left None b told = absurd (cc told)
entry_is_left (Some None) b told = absurd (cc told)
entry_is_left (Some (Some d)) b told = memory_is_left d b told

same_files : (f g : Files) → Some f ≡ Some g → f ≡ g
same_files f g is = cc

pub shelf_is_left : (s : MemoryShelf) (f : Files) (n b : List ℕ) → (shelf_state s).files ≡ Some f → f n ≡ Some b → shelf_left s n b
shelf_is_left s f n b told is = entry_is_left (entry_at s.entries.items n) b (ap (λ (h : Files). h n) (same_files (λ n. bytes_of (entry_at s.entries.items n)) f told) ∙ is)

entry_counts_now : (e : Option (Option MemoryDisk)) (t t' : ℕ) (x : List ℕ) → t ≤ clock_of e → clock_of e ≤ t' → left_of e x → between_of e t t' x
entry_counts_now None t t' x after before left = left
entry_counts_now (Some None) t t' x after before left = left
entry_counts_now (Some (Some d)) t t' x after before left = memory_counts_now d t t' x after before left

pub shelf_counts_now : (s : MemoryShelf) (n : List ℕ) (t t' : ℕ) (x : List ℕ) → t ≤ (shelf_state s).clock n → (shelf_state s).clock n ≤ t' → shelf_left s n x → shelf_between s n t t' x
shelf_counts_now s n t t' x after before left = entry_counts_now (entry_at s.entries.items n) t t' x after before left

entry_only_now : (e : Option (Option MemoryDisk)) (t t' : ℕ) (x : List ℕ) → clock_of e ≤ t → between_of e t t' x → left_of e x
entry_only_now None t t' x now left = left
entry_only_now (Some None) t t' x now left = left
entry_only_now (Some (Some d)) t t' x now left = memory_only_now d t t' x now left

pub shelf_only_now : (s : MemoryShelf) (n : List ℕ) (t t' : ℕ) (x : List ℕ) → (shelf_state s).clock n ≤ t → shelf_between s n t t' x → shelf_left s n x
shelf_only_now s n t t' x now left = entry_only_now (entry_at s.entries.items n) t t' x now left

entry_fits : (e : Option (Option MemoryDisk)) (b : List ℕ) → bytes_of e ≡ Some b → length b < 2 ^ 63
entry_fits None b told = absurd (cc told)
entry_fits (Some None) b told = absurd (cc told)
entry_fits (Some (Some d)) b told = let len : length d.bytes.items ≡ length b = memory_told d b told in omega (arith, memory_fits d, len)

pub shelf_file_fits : (s : MemoryShelf) (f : Files) (n b : List ℕ) → (shelf_state s).files ≡ Some f → f n ≡ Some b → length b < 2 ^ 63
shelf_file_fits s f n b told is = entry_fits (entry_at s.entries.items n) b (ap (λ (h : Files). h n) (same_files (λ n. bytes_of (entry_at s.entries.items n)) f told) ∙ is)

entry_none_to_come : (e : Option (Option MemoryDisk)) (t t' : ℕ) (x : List ℕ) → clock_of e ≤ t' → between_of e t t' x → between_of e t (clock_of e) x
entry_none_to_come None t t' x now left = left
entry_none_to_come (Some None) t t' x now left = left
entry_none_to_come (Some (Some d)) t t' x now left = memory_none_to_come d t t' x now left

pub shelf_none_to_come : (s : MemoryShelf) (n : List ℕ) (t t' : ℕ) (x : List ℕ) → (shelf_state s).clock n ≤ t' → shelf_between s n t t' x → shelf_between s n t ((shelf_state s).clock n) x
shelf_none_to_come s n t t' x now left = entry_none_to_come (entry_at s.entries.items n) t t' x now left

entry_splits : (e : Option (Option MemoryDisk)) (t t' t'' : ℕ) (x : List ℕ) → between_of e t t'' x → between_of e t t' x ⊎ between_of e t' t'' x
entry_splits None t t' t'' x left = inl left
entry_splits (Some None) t t' t'' x left = inl left
entry_splits (Some (Some d)) t t' t'' x left = memory_splits d t t' t'' x left

pub shelf_splits : (s : MemoryShelf) (n : List ℕ) (t t' t'' : ℕ) (x : List ℕ) → shelf_between s n t t'' x → shelf_between s n t t' x ⊎ shelf_between s n t' t'' x
shelf_splits s n t t' t'' x left = entry_splits (entry_at s.entries.items n) t t' t'' x left
