-- Mixes that are known to be mixes, for the laws that disks owe.
use Rattle.std.specs.Prelude.{◌≡◌, ◌⊎◌, ℕ, ◌/◌, List, [], ◌∷◌, length, take, get_or, refl, max, nat_lt, nat_le, Bool, true, false}
use Rattle.std.proofs.Common.{ap, ◌∙◌, arith, inl, inr, cond}
use Rattle.std.proofs.lemmas.Bool.{cases_Bool}
use Rattle.std.proofs.lemmas.List.FromFn.{length-map-range_with_len, get_or-map-range_with_len}
use Rattle.snd_disk.specs.Bytes.{Mix, HasSectorOf, over}
use Rattle.snd_memory.specs.Past.{contents_of, contents_after, contents_by, image_after, image_by, partly, with_sectors_of, sectors_of}
use Rattle.snd_memory.specs.declared.call.Made.{Made}
use Rattle.snd_memory.specs.declared.call.Call.{Call}
use Rattle.snd_memory.specs.declared.call.Call.TheVariants.{Write, Cut, Sync}
use Rattle.snd_memory.specs.declared.call.End.{End}
use Rattle.snd_memory.specs.declared.call.End.TheVariants.{Done, Broken}

pub mix_first : (y z : List ℕ) → Mix y z y
mix_first y z = record { size = inl refl; sectors = λ k. inl (λ i in_sector within. refl) }

pub mix_second : (y z : List ℕ) → Mix y z z
mix_second y z = record { size = inr refl; sectors = λ k. inr (λ i in_sector within. refl) }

mix_sector : (y z : List ℕ) (sectors k : ℕ) → (b : Bool) → nat_lt k sectors ≡ b
    → HasSectorOf (with_sectors_of y z sectors) y k
    ⊎ HasSectorOf (with_sectors_of y z sectors) z k
mix_sector y z sectors k true new = inr (λ i in_sector within.
    get_or-map-range_with_len (λ i. cond (nat_lt (i / 512) sectors) (get_or z i 0) (get_or y i 0)) 0 (length y) i i 0 (omega (arith, length-map-range_with_len (λ i. cond (nat_lt (i / 512) sectors) (get_or z i 0) (get_or y i 0)) 0 (length y))) (omega arith)
    ∙ ap (λ c. cond c (get_or z i 0) (get_or y i 0)) (ap (λ q. nat_lt q sectors) in_sector ∙ new))
mix_sector y z sectors k false old = inl (λ i in_sector within.
    get_or-map-range_with_len (λ i. cond (nat_lt (i / 512) sectors) (get_or z i 0) (get_or y i 0)) 0 (length y) i i 0 (omega (arith, length-map-range_with_len (λ i. cond (nat_lt (i / 512) sectors) (get_or z i 0) (get_or y i 0)) 0 (length y))) (omega arith)
    ∙ ap (λ c. cond c (get_or z i 0) (get_or y i 0)) (ap (λ q. nat_lt q sectors) in_sector ∙ old))

mix_some : (y z : List ℕ) (sectors : ℕ) → Mix y z (with_sectors_of y z sectors)
mix_some y z sectors = record {
  size = inl (length-map-range_with_len (λ i. cond (nat_lt (i / 512) sectors) (get_or z i 0) (get_or y i 0)) 0 (length y));
  sectors = λ k. mix_sector y z sectors k (nat_lt k sectors) refl;
}

pub mix_partly : (y z : List ℕ) (sectors : ℕ) → Mix y z (partly y z sectors)
mix_partly y z sectors = elim (cases_Bool (nat_le (sectors_of (max (length y) (length z))) sectors)) [
  | inl all ↦ rw all (mix_second y z)
  | inr some ↦ rw some (mix_some y z sectors)
]

-- what stands after a call is one of the images after it, where what stood was an image
stands : (call : Call) (end : End) (b : List ℕ) (before : List ℕ → Type 0) → before b → image_after call end b before (contents_of call end b)
stands (Write at from) Done b before left = (b, left, mix_second b (over b at from.items))
stands (Write at from) (Broken sectors) b before left = (b, left, mix_partly b (over b at from.items) sectors)
stands (Cut len) Done b before left = (b, left, mix_second b (take len b))
stands (Cut len) (Broken sectors) b before left = (b, left, mix_partly b (take len b) sectors)
stands Sync Done b before left = refl
stands Sync (Broken sectors) b before left = left

pub contents_are_left : (calls : List Made) (b : List ℕ) (before : List ℕ → Type 0) → before b → image_by calls b before (contents_by calls b)
contents_are_left [] b before left = left
contents_are_left (c ∷ calls) b before left = contents_are_left calls (contents_after c b) (image_after c.call c.end b before) (stands c.call c.end b before left)
