-- A disk in memory, as a disk.
use Rattle.std.specs.Prelude.{◌≡◌, ◌<◌, ◌≤◌, ◌^◌, ◌⊎◌, ◌++◌, [], ◌∷◌, ℕ, List, length, Some, refl, option_map}
use Rattle.std.specs.String.{string_bytes}
use Rattle.std.proofs.Common.{ap, subst, sym, ◌∙◌, arith, inl, inr}
use Rattle.std.proofs.lemmas.List.{take_all}
use Rattle.std.proofs.lemmas.Bool.{cases_lt}
use Rattle.snd_disk.specs.State.{State}
use Rattle.snd_memory.specs.Mixed.{contents_are_left}
use Rattle.snd_memory.specs.Past.{image_of, image_between, contents_after}
use Rattle.snd_memory.specs.declared.memory.MemoryDisk.{MemoryDisk}
use Rattle.snd_memory.specs.declared.call.Made.{Made}

abbrev pub memory_state : MemoryDisk → State
memory_state d = record {
  size = length d.bytes.items;
  contents = Some d.bytes.items;
  name = option_map string_bytes d.name;
  faults = d.faults;
  written = d.written;
  asked = d.asked;
  clock = length d.past.items;
}

abbrev pub memory_left : MemoryDisk → List ℕ → Type 0
memory_left d = image_of d.first.items d.past.items

abbrev pub memory_between : MemoryDisk → ℕ → ℕ → List ℕ → Type 0
memory_between d = image_between d.first.items d.past.items

-- all writes, cuts and syncs so far, and the bytes before them
abbrev pub past_calls : MemoryDisk → List Made
past_calls d = d.past.items

abbrev pub first_bytes : MemoryDisk → List ℕ
first_bytes d = d.first.items

-- one call more is noted, and the disk holds what it left
pub record Notes (old new : MemoryDisk) (made : Made) : Type 0 where
  pub first : new.first.items ≡ old.first.items
  pub past : new.past.items ≡ old.past.items ++ made ∷ []
  pub bytes : new.bytes.items ≡ contents_after made old.bytes.items
  pub name : new.name ≡ old.name
  pub written : new.written ≡ old.written
  pub asked : new.asked ≡ old.asked

-- nothing has changed but the count of faults
pub record Stays (old new : MemoryDisk) : Type 0 where
  pub first : new.first.items ≡ old.first.items
  pub past : new.past.items ≡ old.past.items
  pub bytes : new.bytes.items ≡ old.bytes.items
  pub name : new.name ≡ old.name
  pub written : new.written ≡ old.written
  pub asked : new.asked ≡ old.asked

abbrev pub MayNote : MemoryDisk → MemoryDisk → Made → Type 0
MayNote old new made = Notes old new made ⊎ Stays old new

-- the laws of a disk
pub memory_told : (d : MemoryDisk) (b : List ℕ) → (memory_state d).contents ≡ Some b → length d.bytes.items ≡ length b
memory_told d b told = let same : d.bytes.items ≡ b = cc in ap length same

pub memory_fits : (d : MemoryDisk) → length d.bytes.items < 2 ^ 63
memory_fits d = omega (arith, d.bytes.ok.0, d.bytes.ok.1, d.bytes.small)

pub memory_is_left : (d : MemoryDisk) (b : List ℕ) → (memory_state d).contents ≡ Some b → memory_left d b
memory_is_left d b told =
    let same : d.bytes.items ≡ b = cc in
    subst (λ (c : List ℕ). image_of d.first.items d.past.items c) (sym d.kept ∙ same) (contents_are_left d.past.items d.first.items (λ x. x ≡ d.first.items) refl)

pub memory_counts_now : (d : MemoryDisk) (s t : ℕ) (x : List ℕ) → s ≤ length d.past.items → length d.past.items ≤ t → memory_left d x → memory_between d s t x
memory_counts_now d s t x after before left =
    (length d.past.items, after, before, omega arith, subst (λ (p : List Made). image_of d.first.items p x) (sym (take_all (length d.past.items) d.past.items (omega arith))) left)

pub memory_only_now : (d : MemoryDisk) (s t : ℕ) (x : List ℕ) → length d.past.items ≤ s → memory_between d s t x → memory_left d x
memory_only_now d s t x now (k, after, before, within, left) =
    subst (λ (p : List Made). image_of d.first.items p x) (take_all k d.past.items (omega arith)) left

pub memory_none_to_come : (d : MemoryDisk) (s t : ℕ) (x : List ℕ) → length d.past.items ≤ t → memory_between d s t x → memory_between d s (length d.past.items) x
memory_none_to_come d s t x now (k, after, before, within, left) = (k, after, within, within, left)

pub memory_splits : (d : MemoryDisk) (s t u : ℕ) (x : List ℕ) → memory_between d s u x → memory_between d s t x ⊎ memory_between d t u x
memory_splits d s t u x (k, after, before, within, left) = elim (cases_lt t k) [
  | inl late ↦ inr (k, omega arith, before, within, left)
  | inr early ↦ inl (k, after, early, within, left)
]
