-- Lists of bytes that are made of others.
use Rattle.std.proofs.Common.{◌≡◌, ◌⊎◌, inl, inr, ⊎_elim, ℕ, ◌-◌, ◌<◌, ◌/◌, List, [], ◌∷◌, ◌++◌, length, get_or, take, replicate, Vec, Result, Ok, Err, IfOk, Bool, true, false, cond, eqb, refl, sym, ◌∙◌, ap, subst, arith}
use Rattle.std.specs.List.{All, Contains}
use Rattle.std.specs.declared.alloc.Global.{Global}
use Rattle.std.proofs.lemmas.List.{places}
use Rattle.std.proofs.lemmas.List.Elements.{All-push, All-contains, All-contains_itself}
use Rattle.std.proofs.lemmas.List.FromFn.{length-map-range_with_len, get_or-map-range_with_len}
use Rattle.snd_disk.specs.Bytes.{Mix, HasSectorOf}
use Rattle.snd_memory.specs.Past.{image_after, image_of, contents_by}
use Rattle.snd_memory.specs.Listed.{IsOneOf, Adds, IsMixOfLen, IsDoubled, IsMixedFrom, IsNextImage, meant_by, with_sector_of}
use Rattle.snd_memory.specs.declared.call.Call.{Call}
use Rattle.snd_memory.specs.declared.call.Call.TheVariants.{Write, Cut, Sync}
use Rattle.snd_memory.specs.declared.call.End.{End}
use Rattle.snd_memory.specs.declared.call.End.TheVariants.{Done, Broken}
use Rattle.snd_memory.specs.declared.call.Made.{Made}
use Rattle.snd_memory.proofs.AfterCall.{image_by-pushed}

-- what holds of each list holds of each after one is added
pub all_added : (P : Vec ℕ Global → Type 0) (old new : List (Vec ℕ Global)) (x : Vec ℕ Global) → Adds old new x → All P old → P x → All P new
all_added P old new x (inl same) all is = subst (All P) (sym same) all
all_added P old new x (inr pushed) all is = subst (All P) (sym pushed) (All-push P old x all is)

-- an element that was read is one of the list's
pub contains_read : (xs : List (Vec ℕ Global)) (i : ℕ) (x : Vec ℕ Global) → i < length xs → x ≡ get_or xs i x → Contains xs x
contains_read xs i x lt read = (i, lt, sym read)

pub one_of_read : (xs : List (Vec ℕ Global)) (i : ℕ) (x : Vec ℕ Global) → i < length xs → x ≡ get_or xs i x → IsOneOf xs x.items
one_of_read xs i x lt read = (x, contains_read xs i x lt read, refl)

-- each list is one of them
pub one_of_itself : (xs : List (Vec ℕ Global)) → All (λ v. IsOneOf xs v.items) xs
one_of_itself xs = λ k d lt. (get_or xs k d, All-contains_itself xs k d lt, refl)

pub none_of_none : (x : List ℕ) → IsOneOf [] x → ⊥
none_of_none x (v, (k, lt, is), same) = omega (arith, lt)

-- what holds of each holds of one of them
pub holds_of_one : (Q : List ℕ → Type 0) (all : List (Vec ℕ Global)) → All (λ v. Q v.items) all → (x : List ℕ) → IsOneOf all x → Q x
holds_of_one Q all each x (v, in_all, is) = subst Q is (All-contains (λ (v : Vec ℕ Global). Q v.items) all v each in_all)

-- one list alone
pub all_one : (P : Vec ℕ Global → Type 0) (x : Vec ℕ Global) → P x → All P (x ∷ [])
all_one P x is = All-push P [] x (λ k d lt. absurd (omega (arith, lt))) is

module _ (y z : List ℕ) where
  pub mix_of_length : (n : ℕ) → IsMixOfLen y z n (take n y ++ replicate (n - length y) 0)
  mix_of_length n = record {
    size = grind (arith, places);
    sectors = λ k. inl (λ i in_sector within. bytes i within);
  }
    where
      bytes : (i : ℕ) → i < length (take n y ++ replicate (n - length y) 0) → get_or (take n y ++ replicate (n - length y) 0) i 0 ≡ get_or y i 0
      bytes i within = grind (arith, places)

  pub mix_first_length : (x : List ℕ) → IsMixOfLen y z (length y) x → Mix y z x
  mix_first_length x h = record { size = inl h.size; sectors = h.sectors }

  pub mix_second_length : (x : List ℕ) → IsMixOfLen y z (length z) x → Mix y z x
  mix_second_length x h = record { size = inr h.size; sectors = h.sectors }

  byte_is : (w : List ℕ) (k i : ℕ) → i < length (with_sector_of w z k) → get_or (with_sector_of w z k) i 0 ≡ cond (eqb (i / 512) k) (get_or z i 0) (get_or w i 0)
  byte_is w k i within = get_or-map-range_with_len (λ i. cond (eqb (i / 512) k) (get_or z i 0) (get_or w i 0)) 0 (length w) i i 0 (omega (arith, within, length-map-range_with_len (λ i. cond (eqb (i / 512) k) (get_or z i 0) (get_or w i 0)) 0 (length w))) (omega arith)

  mix_with_sector : (n : ℕ) (w : List ℕ) (k : ℕ) → IsMixOfLen y z n w → IsMixOfLen y z n (with_sector_of w z k)
  mix_with_sector n w k h = record {
    size = len ∙ h.size;
    sectors = λ m. sector m (eqb m k) refl;
  }
    where
      len : length (with_sector_of w z k) ≡ length w
      len = length-map-range_with_len (λ i. cond (eqb (i / 512) k) (get_or z i 0) (get_or w i 0)) 0 (length w)

      sector : (m : ℕ) (b : Bool) → eqb m k ≡ b → HasSectorOf (with_sector_of w z k) y m ⊎ HasSectorOf (with_sector_of w z k) z m
      sector m true here = inr (λ i in_sector within. byte_is w k i within ∙ ap (λ c. cond c (get_or z i 0) (get_or w i 0)) (ap (λ q. eqb q k) in_sector ∙ here))
      sector m false other = ⊎_elim (λ old. inl (λ i in_sector within. was m other i in_sector within ∙ old i in_sector (omega (arith, within, len)))) (λ new. inr (λ i in_sector within. was m other i in_sector within ∙ new i in_sector (omega (arith, within, len)))) (h.sectors m)
        where
          was : (m : ℕ) → eqb m k ≡ false → (i : ℕ) → i / 512 ≡ m → i < length (with_sector_of w z k) → get_or (with_sector_of w z k) i 0 ≡ get_or w i 0
          was m other i in_sector within = byte_is w k i within ∙ ap (λ c. cond c (get_or z i 0) (get_or w i 0)) (ap (λ q. eqb q k) in_sector ∙ other)

  pub mix_doubled : (n : ℕ) (all : List (Vec ℕ Global)) (k : ℕ) → All (λ v. IsMixOfLen y z n v.items) all → (x : List ℕ) → IsDoubled all z k x → IsMixOfLen y z n x
  mix_doubled n all k each x (v, in_all, inl is) = subst (λ (l : List ℕ). IsMixOfLen y z n l) (sym is) (All-contains (λ (v : Vec ℕ Global). IsMixOfLen y z n v.items) all v each in_all)
  mix_doubled n all k each x (v, in_all, inr is) = subst (λ (l : List ℕ). IsMixOfLen y z n l) (sym is) (mix_with_sector n v.items k (All-contains (λ (v : Vec ℕ Global). IsMixOfLen y z n v.items) all v each in_all))

-- images of a call that is no sync
pub changed_image : (call : Call) (end : End) (b : List ℕ) (all : List (Vec ℕ Global)) → (call ≡ Sync → ⊥) → (x : List ℕ) → IsMixedFrom all (meant_by call b) x → image_after call end b (IsOneOf all) x
changed_image (Write at from) end b all no_sync x (v, in_all, mix) = (v.items, (v, in_all, refl), mix)
changed_image (Cut len) end b all no_sync x (v, in_all, mix) = (v.items, (v, in_all, refl), mix)
changed_image Sync end b all no_sync x mixed = absurd (no_sync refl)

-- of more images before a call come more after it
more_images : (call : Call) (end : End) (b : List ℕ) (before before' : List ℕ → Type 0) → ((y : List ℕ) → before y → before' y) → (x : List ℕ) → image_after call end b before x → image_after call end b before' x
more_images (Write at from) end b before before' more x (y, left, mix) = (y, more y left, mix)
more_images (Cut len) end b before before' more x (y, left, mix) = (y, more y left, mix)
more_images Sync Done b before before' more x is = is
more_images Sync (Broken sectors) b before before' more x left = more x left

pub next_image : (first : List ℕ) (calls : List Made) (made : Made) (b : List ℕ) (all : List (Vec ℕ Global)) → b ≡ contents_by calls first → All (λ v. image_of first calls v.items) all
    → (x : List ℕ) → IsNextImage all made b x → image_of first (calls ++ made ∷ []) x
next_image first calls made b all is each x next =
    image_by-pushed made calls first (λ y. y ≡ first) x
    (subst (λ (l : List ℕ). image_after made.call made.end l (image_of first calls) x) is (more_images made.call made.end b (IsOneOf all) (image_of first calls) (holds_of_one (image_of first calls) all each) x next))

pub if_ok : {T E : Type 0} (r : Result T E) (P Q : T → Type 0) → ((x : T) → P x → Q x) → IfOk r P → IfOk r Q
if_ok (Ok x) P Q f h = f x h
if_ok (Err e) P Q f h = tt
