-- What a crash may leave after one call more.
use Rattle.std.proofs.Common.{◌≡◌, ◌⊎◌, inl, inr, ℕ, ◌+◌, ◌<◌, ◌≤◌, List, [], ◌∷◌, ◌++◌, length, take, max, Vec, Some, option_map, Result, Ok, Err, OnOk, OnErr, Bool, true, false, cond, refl, sym, ◌∙◌, ap, subst, arith, length-append}
use Rattle.std.proofs.lemmas.List.{take_all, take-append-le, length-take-le}
use Rattle.std.proofs.lemmas.Bool.{cases_lt}
use Rattle.std.specs.String.{string_bytes}
use Rattle.std.specs.declared.alloc.Global.{Global}
use Rattle.snd_disk.specs.Bytes.{Mix, over}
use Rattle.snd_disk.proofs.Lemmas.{length-over}
use Rattle.snd_memory.specs.Mixed.{mix_first, mix_partly}
use Rattle.snd_disk.specs.Device.{IsUnchanged}
use Rattle.snd_disk.specs.State.{Mixes, MixesAll, Passes, SameImages, KeepsImages, IsBetween}
use Rattle.snd_memory.specs.Past.{contents_after, contents_by, image_after, image_by, image_of, image_between, partly}
use Rattle.snd_memory.specs.Memory.{memory_state, memory_left, memory_between, Notes, Stays, MayNote}
use Rattle.snd_memory.specs.declared.call.Call.TheVariants.{Write, Cut, Sync}
use Rattle.snd_memory.specs.declared.call.End.{End}
use Rattle.snd_memory.specs.declared.call.End.TheVariants.{Done, Broken}
use Rattle.snd_memory.specs.declared.call.Made.{Made}
use Rattle.snd_memory.specs.declared.memory.MemoryDisk.{MemoryDisk}

pub contents_by-push : (c : Made) (calls : List Made) (b : List ℕ) → contents_by (calls ++ c ∷ []) b ≡ contents_after c (contents_by calls b)
contents_by-push c [] b = refl
contents_by-push c (p ∷ calls) b = contents_by-push c calls (contents_after p b)

-- the contents of a record that is one call longer
pub kept_push : (first b next : List ℕ) (calls calls' : List Made) (c : Made) → b ≡ contents_by calls first → calls' ≡ calls ++ c ∷ [] → next ≡ contents_after c b → next ≡ contents_by calls' first
kept_push first b next calls calls' c kept noted is = is ∙ ap (contents_after c) kept ∙ sym (contents_by-push c calls first) ∙ ap (λ (l : List Made). contents_by l first) (sym noted)

pub image_by-push : (c : Made) (calls : List Made) (b : List ℕ) (before : List ℕ → Type 0) (x : List ℕ) → image_by (calls ++ c ∷ []) b before x → image_after c.call c.end (contents_by calls b) (image_by calls b before) x
image_by-push c [] b before x left = left
image_by-push c (p ∷ calls) b before x left = image_by-push c calls (contents_after p b) (image_after p.call p.end b before) x left

pub image_by-pushed : (c : Made) (calls : List Made) (b : List ℕ) (before : List ℕ → Type 0) (x : List ℕ) → image_after c.call c.end (contents_by calls b) (image_by calls b before) x → image_by (calls ++ c ∷ []) b before x
image_by-pushed c [] b before x left = left
image_by-pushed c (p ∷ calls) b before x left = image_by-pushed c calls (contents_after p b) (image_after p.call p.end b before) x left

-- images by a record that is the same one, under other names
same_record : (first first' : List ℕ) (calls calls' : List Made) → first' ≡ first → calls' ≡ calls → (x : List ℕ) → image_of first' calls' x → image_of first calls x
same_record first first' calls calls' same is x left =
    subst (λ (f : List ℕ). image_of f calls x) same (subst (λ (p : List Made). image_of first' p x) is left)

same_between : (first first' : List ℕ) (calls calls' : List Made) → first' ≡ first → calls' ≡ calls → (s t : ℕ) (x : List ℕ) → image_between first' calls' s t x → image_between first calls s t x
same_between first first' calls calls' same is s t x left =
    subst (λ (f : List ℕ). image_between f calls s t x) same (subst (λ (p : List Made). image_between first' p s t x) is left)

module _ (old new : MemoryDisk) (stays : Stays old new) where
  pub keeps_images : KeepsImages (memory_state old).clock (memory_state new).clock (memory_left old) (memory_left new) (memory_between old) (memory_between new)
  keeps_images = record {
    same_time = ap length stays.past;
    now = record {
      no_more = same_record _ _ _ _ stays.first stays.past;
      no_fewer = same_record _ _ _ _ (sym stays.first) (sym stays.past);
    };
    no_more = same_between _ _ _ _ stays.first stays.past;
    no_fewer = same_between _ _ _ _ (sym stays.first) (sym stays.past);
  }

  pub passes_stays : Passes (memory_state old).clock (memory_state new).clock (memory_between old) (memory_between new) (memory_left new)
  passes_stays = record {
    later = omega (arith, ap length stays.past);
    same = λ s t x le left. keeps_images.no_more s t x left;
    kept = keeps_images.no_fewer;
    nothing_else = λ s t x left. inl (keeps_images.no_more s t x left);
  }

  pub mixes_stays : (meant : List ℕ → List ℕ) → Mixes (memory_state old).contents meant (memory_left old) (memory_left new)
  mixes_stays meant x left = (old.bytes.items, x, refl, keeps_images.now.no_more x left, mix_first x (meant old.bytes.items))

module _ (old new : MemoryDisk) (c : Made) (notes : Notes old new c) where
  -- an image is an image after one call more
  pub last_call : (x : List ℕ) → memory_left new x → image_after c.call c.end old.bytes.items (memory_left old) x
  last_call x left =
      subst (λ (b : List ℕ). image_after c.call c.end b (memory_left old) x) (sym old.kept)
      (image_by-push c old.past.items old.first.items (λ x. x ≡ old.first.items) x (same_record old.first.items new.first.items (old.past.items ++ c ∷ []) new.past.items notes.first notes.past x left))

  pub last_called : (x : List ℕ) → image_after c.call c.end old.bytes.items (memory_left old) x → memory_left new x
  last_called x left =
      same_record new.first.items old.first.items new.past.items (old.past.items ++ c ∷ []) (sym notes.first) (sym notes.past) x
      (image_by-pushed c old.past.items old.first.items (λ x. x ≡ old.first.items) x (subst (λ (b : List ℕ). image_after c.call c.end b (memory_left old) x) old.kept left))

  pub ticks : (memory_state old).clock < (memory_state new).clock
  ticks = omega (arith, ap length notes.past, length-append old.past.items (c ∷ []))

  was_there : (s t k : ℕ) (x : List ℕ) → s ≤ k → k ≤ t → k ≤ length old.past.items → image_of new.first.items (take k new.past.items) x → memory_between old s t x
  was_there s t k x after before within left =
      (k, after, before, within, same_record old.first.items new.first.items (take k old.past.items) (take k new.past.items) notes.first (ap (take k) notes.past ∙ take-append-le k old.past.items (c ∷ []) within) x left)

  pub passes_notes : Passes (memory_state old).clock (memory_state new).clock (memory_between old) (memory_between new) (memory_left new)
  passes_notes = record {
    later = omega (arith, ticks);
    same = λ s t x le left. was_there s t left.0 x left.1 left.2 (omega (arith, left.2)) left.4;
    kept = λ s t x left. (
      left.0,
      left.1,
      left.2,
      omega (arith, left.3, ticks),
      same_record new.first.items old.first.items (take left.0 new.past.items) (take left.0 old.past.items) (sym notes.first) (sym (ap (take left.0) notes.past ∙ take-append-le left.0 old.past.items (c ∷ []) left.3)) x left.4,
    );
    nothing_else = λ s t x left. elim (cases_lt (length old.past.items) left.0) [
      | inl past ↦ inr (subst (λ (p : List Made). image_of new.first.items p x) (take_all left.0 new.past.items (omega (arith, past, ap length notes.past, length-append old.past.items (c ∷ [])))) left.4)
      | inr now ↦ inl (was_there s t left.0 x left.1 left.2 now left.4)
    ];
  }

module _ (old new : MemoryDisk) (c : Made) where
  pub passes_may : MayNote old new c → Passes (memory_state old).clock (memory_state new).clock (memory_between old) (memory_between new) (memory_left new)
  passes_may (inl notes) = passes_notes old new c notes
  passes_may (inr stays) = passes_stays old new stays

module _ (old new : MemoryDisk) (at : ℕ) (copy : Vec ℕ Global) (end : End) (from : List ℕ) (same : copy.items ≡ from) where
  pub mixes_write : MayNote old new (record { call = Write at copy; end = end }) → Mixes (memory_state old).contents (λ b. over b at from) (memory_left old) (memory_left new)
  mixes_write (inl notes) x left =
      let step = last_call old new (record { call = Write at copy; end = end }) notes x left in
      (old.bytes.items, step.0, refl, step.1, subst (λ (s : List ℕ). Mix step.0 (over old.bytes.items at s) x) same step.2)
  mixes_write (inr stays) x left = mixes_stays old new stays (λ b. over b at from) x left

  pub all_write : Notes old new (record { call = Write at copy; end = end }) → MixesAll (memory_state old).contents (λ b. over b at from) (memory_left old) (memory_left new)
  all_write notes b y x told left mixed =
      let is : b ≡ old.bytes.items = cc in
      last_called old new (record { call = Write at copy; end = end }) notes x (y, left, subst (λ (s : List ℕ). Mix y (over old.bytes.items at s) x) (sym same) (subst (λ (l : List ℕ). Mix y (over l at from) x) is mixed))

module _ (old new : MemoryDisk) (len : ℕ) (end : End) where
  pub mixes_cut : MayNote old new (record { call = Cut len; end = end }) → Mixes (memory_state old).contents (take len) (memory_left old) (memory_left new)
  mixes_cut (inl notes) x left =
      let step = last_call old new (record { call = Cut len; end = end }) notes x left in
      (old.bytes.items, step.0, refl, step.1, step.2)
  mixes_cut (inr stays) x left = mixes_stays old new stays (take len) x left

  pub all_cut : Notes old new (record { call = Cut len; end = end }) → MixesAll (memory_state old).contents (take len) (memory_left old) (memory_left new)
  all_cut notes b y x told left mixed =
      let is : b ≡ old.bytes.items = cc in
      last_called old new (record { call = Cut len; end = end }) notes x (y, left, subst (λ (l : List ℕ). Mix y (take len l) x) is mixed)

module _ (old new : MemoryDisk) (stays : Stays old new) where
  -- a call that found no memory changes nothing
  pub unchanged : IsUnchanged memory_state memory_left memory_between old new
  unchanged = record {
    keeps = record { size = ap length stays.bytes; contents = ap (λ b. Some b) stays.bytes; name = ap (option_map string_bytes) stays.name };
    images = keeps_images old new stays;
  }

-- a failed call leaves all mixes, or all as it was
module _ (old new : MemoryDisk) (end : End) where
  pub held_write : (at : ℕ) (copy : Vec ℕ Global) (from : List ℕ) → copy.items ≡ from → MayNote old new (record { call = Write at copy; end = end })
      → MixesAll (memory_state old).contents (λ b. over b at from) (memory_left old) (memory_left new) ⊎ IsUnchanged memory_state memory_left memory_between old new
  held_write at copy from same (inl notes) = inl (all_write old new at copy end from same notes)
  held_write at copy from same (inr stays) = inr (unchanged old new stays)

  pub held_cut : (len : ℕ) → MayNote old new (record { call = Cut len; end = end })
      → MixesAll (memory_state old).contents (take len) (memory_left old) (memory_left new) ⊎ IsUnchanged memory_state memory_left memory_between old new
  held_cut len (inl notes) = inl (all_cut old new len end notes)
  held_cut len (inr stays) = inr (unchanged old new stays)

pub on_err : {T E : Type 0} (r : Result T E) (P : Type 0) → P → OnErr r P
on_err (Ok x) P h = tt
on_err (Err e) P h = h

pub on_ok : {T E : Type 0} (r : Result T E) (P Q : Type 0) → (P → Q) → OnOk r P → OnOk r Q
on_ok (Ok x) P Q f h = f h
on_ok (Err e) P Q f h = tt

between : (old new : MemoryDisk) (end : ℕ) (meant : List ℕ → List ℕ) → length (meant old.bytes.items) ≡ end → Mix old.bytes.items (meant old.bytes.items) new.bytes.items → new.name ≡ old.name → IsBetween end meant (memory_state old) (memory_state new)
between old new end meant len mixed name = record {
  size = size_of mixed.size;
  contents = λ b told.
      let is : old.bytes.items ≡ b = cc in
      (new.bytes.items, refl, subst (λ (l : List ℕ). Mix l (meant l) new.bytes.items) is mixed);
  told = λ x told. (old.bytes.items, refl);
  name = ap (option_map string_bytes) name;
}
  where
    size_of : (length new.bytes.items ≡ length old.bytes.items) ⊎ (length new.bytes.items ≡ length (meant old.bytes.items)) → (length new.bytes.items ≡ length old.bytes.items) ⊎ (length new.bytes.items ≡ end)
    size_of (inl same) = inl same
    size_of (inr meant_len) = inr (meant_len ∙ len)

module _ (old new : MemoryDisk) (sectors : ℕ) where
  pub between_write : (at : ℕ) (copy : Vec ℕ Global) (from : List ℕ) → copy.items ≡ from → MayNote old new (record { call = Write at copy; end = Broken sectors }) → IsBetween (max (length old.bytes.items) (at + length from)) (λ b. over b at from) (memory_state old) (memory_state new)
  between_write at copy from same (inl notes) =
      between old new _ (λ b. over b at from) (length-over old.bytes.items at from) (subst (λ (x : List ℕ). Mix old.bytes.items (over old.bytes.items at from) x) (sym (notes.bytes ∙ ap (λ s. partly old.bytes.items (over old.bytes.items at s) sectors) same)) (mix_partly old.bytes.items (over old.bytes.items at from) sectors)) notes.name
  between_write at copy from same (inr stays) =
      between old new _ (λ b. over b at from) (length-over old.bytes.items at from) (subst (λ (x : List ℕ). Mix old.bytes.items (over old.bytes.items at from) x) (sym stays.bytes) (mix_first old.bytes.items (over old.bytes.items at from))) stays.name

  pub between_cut : (len : ℕ) → len ≤ length old.bytes.items → MayNote old new (record { call = Cut len; end = Broken sectors }) → IsBetween len (take len) (memory_state old) (memory_state new)
  between_cut len fits (inl notes) =
      between old new len (take len) (length-take-le len old.bytes.items fits) (subst (λ (x : List ℕ). Mix old.bytes.items (take len old.bytes.items) x) (sym notes.bytes) (mix_partly old.bytes.items (take len old.bytes.items) sectors)) notes.name
  between_cut len fits (inr stays) =
      between old new len (take len) (length-take-le len old.bytes.items fits) (subst (λ (x : List ℕ). Mix old.bytes.items (take len old.bytes.items) x) (sym stays.bytes) (mix_first old.bytes.items (take len old.bytes.items))) stays.name

module _ (old new : MemoryDisk) where
  -- a sync that succeeds leaves the contents alone
  pub only_settled : Notes old new (record { call = Sync; end = Done }) → (x : List ℕ) → memory_left new x → Some old.bytes.items ≡ Some x
  only_settled notes x left = ap (λ (l : List ℕ). Some l) (sym (last_call old new (record { call = Sync; end = Done }) notes x left))

  pub same_unsettled : (sectors : ℕ) → Notes old new (record { call = Sync; end = Broken sectors }) → SameImages (memory_left old) (memory_left new)
  same_unsettled sectors notes = record {
    no_more = last_call old new (record { call = Sync; end = Broken sectors }) notes;
    no_fewer = last_called old new (record { call = Sync; end = Broken sectors }) notes;
  }

-- a sync leaves the contents, whether there was memory to note it or not
pub kept_sync : (first b : List ℕ) (calls calls' : List Made) (end : End) (noted : Bool) → b ≡ contents_by calls first → calls' ≡ cond noted (calls ++ record { call = Sync; end = end } ∷ []) calls → b ≡ contents_by calls' first
kept_sync first b calls calls' end true kept is = kept_push first b b calls calls' (record { call = Sync; end = end }) kept is refl
kept_sync first b calls calls' end false kept is = kept ∙ ap (λ (l : List Made). contents_by l first) (sym is)
