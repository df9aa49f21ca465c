-- What stands under a name, after a change of its entry.
use Rattle.std.proofs.Common.{◌≡◌, inl, inr, ℕ, suc, ◌<◌, List, [], ◌∷◌, ◌++◌, length, get_or, set, Bool, true, false, cond, Option, Some, None, option_map, refl, sym, ◌∙◌, ap, subst, arith}
use Rattle.std.proofs.lemmas.Bool.{cases_Bool}
use Rattle.std.proofs.lemmas.List.{get_or_default}
use Rattle.std.specs.String.{string_bytes}
use Rattle.std.specs.Str.{bytes_eq}
use Rattle.snd_memory.specs.declared.memory.MemoryDisk.{MemoryDisk}
use Rattle.snd_memory.specs.MemoryShelf.{place_of, entry_at, Changes}
use Rattle.snd_memory.specs.declared.memory_shelf.Entry.{Entry}
use Rattle.snd_disk.proofs.Lemmas.{same_name, same_bytes}

-- the place is that of an entry of this name
pub record StandsAt (es : List Entry) (n : List ℕ) (i : ℕ) (e : Entry) : Type 0 where
  pub within : i < length es
  pub named : string_bytes e.name ≡ n
  pub is : get_or es i e ≡ e
  pub disk : entry_at es n ≡ Some e.disk
  pub changed : (f : Entry) → string_bytes f.name ≡ n → (m : List ℕ) → entry_at (set es i f) m ≡ cond (bytes_eq m n) (Some f.disk) (entry_at es m)

abbrev at_place : List Entry → List ℕ → Option ℕ → Type 0
at_place es n None = (entry_at es n ≡ None) × ((f : Entry) → string_bytes f.name ≡ n → (m : List ℕ) → entry_at (es ++ f ∷ []) m ≡ cond (bytes_eq m n) (Some f.disk) (entry_at es m))
at_place es n (Some i) = (e : Entry) × StandsAt es n i e

twice : {A : Type 0} (b : Bool) (x y z : A) → cond b x z ≡ cond b x (cond b y z)
twice true x y z = refl
twice false x y z = refl

swapped : {A : Type 0} (s n m : List ℕ) (x y z : A) → bytes_eq n s ≡ false → cond (bytes_eq m s) x (cond (bytes_eq m n) y z) ≡ cond (bytes_eq m n) y (cond (bytes_eq m s) x z)
swapped s n m x y z differ = elim (cases_Bool (bytes_eq m n)) [
  | inl is_n ↦ let no_s : bytes_eq m s ≡ false = ap (λ a. bytes_eq a s) (same_name m n is_n) ∙ differ in rw (is_n, no_s)
  | inr differs ↦ rw differs
]

there : (e : Entry) (es : List Entry) (n : List ℕ) (differ : bytes_eq n (string_bytes e.name) ≡ false) (p : Option ℕ) → at_place es n p → at_place (e ∷ es) n (option_map (λ k. suc k) p)
there e es n differ None h = (
  rw differ h.0,
  λ f named m. ap (cond (bytes_eq m (string_bytes e.name)) (Some e.disk)) (h.1 f named m) ∙ swapped (string_bytes e.name) n m (Some e.disk) (Some f.disk) (entry_at es m) differ,
)
there e es n differ (Some i) h = (
  h.0,
  record {
    within = omega (arith, h.1.within);
    named = h.1.named;
    is = h.1.is;
    disk = rw differ h.1.disk;
    changed = λ f named m. ap (cond (bytes_eq m (string_bytes e.name)) (Some e.disk)) (h.1.changed f named m) ∙ swapped (string_bytes e.name) n m (Some e.disk) (Some f.disk) (entry_at es m) differ;
  },
)

pub places : (es : List Entry) (n : List ℕ) → at_place es n (place_of es n)
places [] n = (refl, λ f named m. ap (λ a. cond (bytes_eq m a) (Some f.disk) None) named)
places (e ∷ es) n = elim (cases_Bool (bytes_eq n (string_bytes e.name))) [
  | inl is ↦ rw is (
    e,
    record {
      within = omega arith;
      named = sym (same_name n (string_bytes e.name) is);
      is = refl;
      disk = rw is;
      changed = λ f named m. ap (λ a. cond (bytes_eq m a) (Some f.disk) (entry_at es m)) named ∙ twice (bytes_eq m n) (Some f.disk) (Some e.disk) (entry_at es m) ∙ ap (λ a. cond (bytes_eq m n) (Some f.disk) (cond (bytes_eq m a) (Some e.disk) (entry_at es m))) (same_name n (string_bytes e.name) is);
    },
  )
  | inr differ ↦ rw differ (there e es n differ (place_of es n) (places es n))
]

pub at_some : (es : List Entry) (n : List ℕ) (i : ℕ) → Some i ≡ place_of es n → (e : Entry) × StandsAt es n i e
at_some es n i is = subst (at_place es n) (sym is) (places es n)

pub at_none : (es : List Entry) (n : List ℕ) → None ≡ place_of es n → at_place es n None
at_none es n is = subst (at_place es n) (sym is) (places es n)

-- the entry, however it was read
pub read_name : (es : List Entry) (n : List ℕ) (i : ℕ) (e x : Entry) → StandsAt es n i e → x ≡ get_or es i x → x ≡ e
read_name es n i e x stands read = read ∙ get_or_default es i x e stands.within ∙ stands.is

-- what stands under a name, where an entry is added for a name that had none
pub added : (es : List Entry) (f : Entry) (n : List ℕ) → string_bytes f.name ≡ n → entry_at es n ≡ None → (m : List ℕ) → entry_at (es ++ f ∷ []) m ≡ cond (bytes_eq m n) (Some f.disk) (entry_at es m)
added [] f n named none m = ap (λ a. cond (bytes_eq m a) (Some f.disk) None) named
added (e ∷ es) f n named none m = elim (cases_Bool (bytes_eq n (string_bytes e.name))) [
  | inl is ↦ absurd (some_none e.disk (sym (ap (λ b. cond b (Some e.disk) (entry_at es n)) is) ∙ none))
  | inr differ ↦ ap (cond (bytes_eq m (string_bytes e.name)) (Some e.disk)) (added es f n named (sym (ap (λ b. cond b (Some e.disk) (entry_at es n)) differ) ∙ none) m) ∙ swapped (string_bytes e.name) n m (Some e.disk) (Some f.disk) (entry_at es m) differ
]
  where
    some_none : (d : Option MemoryDisk) → Some d ≡ None → ⊥
    some_none d is = cc

-- a disk stands where its entry was put
pub changed_at : (es es' : List Entry) (n : List ℕ) (d : Option MemoryDisk) → Changes es es' n d → entry_at es' n ≡ Some d
changed_at es es' n d changed = changed n ∙ ap (λ b. cond b (Some d) (entry_at es n)) (same_bytes n)
