-- What a disk holds after the steps of a promotion.
use Rattle.std.proofs.Common.{◌≡◌, false, max, ℕ, ◌-◌, List, Ok, Err, Option, None, Some, option_map, refl, ap, ◌∙◌, arith}
use Rattle.std.specs.Prelude.{OnOk, Result}
use Rattle.snd_disk.specs.Bytes.{over}
use Rattle.snd_layout.specs.Params.{data_bytes}
use Rattle.snd_layout.specs.Shape.{Shape}
use Rattle.snd_patch.specs.Sealed.{counted, sealed, sealed_size}
use Rattle.snd_container.specs.Values.{closed_end}
use Rattle.snd_patch.specs.Steps.{MayCount}
use Rattle.snd_ds64.proofs.Public.{front_stays}
use Rattle.snd_ds64.specs.Promoted.{new_front, new_size, promoted}

-- more that holds of a call that succeeded
pub on_ok : {T E : Type 0} (r : Result T E) (P Q : Type 0) → (P → Q) → OnOk r P → OnOk r Q
on_ok (Ok value) P Q then is = then is
on_ok (Err error) P Q then is = is

-- the first bytes hang neither on the frames that there were nor on the declared length
pub front_counted : (h : Shape) (n m : ℕ) → new_front (counted h m) n ≡ new_front h n
front_counted h n m = front_stays h n m (counted h m).declared

module _ (h : Shape) (n : ℕ) where
  pub converted_contents : (o m new : Option (List ℕ)) → m ≡ option_map (λ b. over b 0 (new_front h n)) o → new ≡ option_map (λ b. over b (h.start - 4) new_size) m → new ≡ option_map (λ b. promoted b h n) o
  converted_contents None m new one two = two ∙ ap (option_map (λ b. over b (h.start - 4) new_size)) one
  converted_contents (Some b) m new one two = two ∙ ap (option_map (λ b. over b (h.start - 4) new_size)) one

  promoted_counted : (b : List ℕ) → promoted b (counted h n) n ≡ promoted b h n
  promoted_counted b = ap (λ (f : List ℕ). over (over b 0 f) (h.start - 4) new_size) (front_counted h n n)

  pub promoted_contents : (o m new : Option (List ℕ)) → m ≡ option_map (λ b. sealed b h n) o → new ≡ option_map (λ b. promoted b (counted h n) n) m → new ≡ option_map (λ b. promoted (sealed b h n) h n) o
  promoted_contents None m new one two = two ∙ ap (option_map (λ b. promoted b (counted h n) n)) one
  promoted_contents (Some b) m new one two = two ∙ ap (option_map (λ b. promoted b (counted h n) n)) one ∙ ap (λ (l : List ℕ). Some l) (promoted_counted (sealed b h n))

  -- the layout of the sealed file
  pub counted_free : h.trailing ≡ false → (counted h n).declared ≡ data_bytes h.params n
  counted_free free = rw free refl

  pub may_count_sealed : (size size' : ℕ) → MayCount h n size → h.trailing ≡ false → size' ≡ sealed_size size h n → MayCount (counted h n) n size'
  may_count_sealed size size' may free is =
      let declared : (counted h n).declared ≡ data_bytes h.params n = counted_free free in
      let grown : size' ≡ max size (closed_end h n) = is ∙ (rw free refl) in
      record {
        room = record { in_room = omega (arith, declared); on_disk = may.room.on_disk; counted = may.room.counted };
        on_disk = may.on_disk;
        there = omega (arith, grown, may.there);
      }
