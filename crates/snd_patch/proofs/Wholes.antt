-- Fields that are old or new: in what comes from lists that have them so, and after bytes are put into a field.
use Rattle.std.proofs.Common.{◌≡◌, inl, inr, ⊎_elim, ℕ, ◌+◌, ◌<◌, ◌≤◌, false, List, length, get_or, Option, None, Some, IfSome, refl, ◌∙◌, arith}
use Rattle.snd_disk.specs.Runs.{ComesFrom, IsBeside}
use Rattle.snd_disk.proofs.Public.{field_from, over_in, byte_from}
use Rattle.snd_layout.specs.Shape.{EndsBy, Shape}
use Rattle.snd_layout.specs.declared.field.Field.{Field}
use Rattle.snd_layout.specs.Container.{FitsField, is_in_fields}
use Rattle.snd_layout.specs.Filled.{over_field}
use Rattle.snd_patch.specs.Images.{HasNew, HasOld, IsOldOrNew}
use Rattle.snd_patch.specs.Sealed.{LieApart}
use Rattle.snd_patch.specs.Steps.{IsFieldOf}
use Rattle.snd_patch.proofs.Bytes.{over_beside}
use Rattle.snd_patch.proofs.Places.{beside_field}

-- what comes from lists has their field
module _ (source : List ℕ → Type 0) (x : List ℕ) (from : ComesFrom source x) where
  pub old_from : (b : List ℕ) (field : Option Field) → ((y : List ℕ) → source y → IfSome field (HasOld b y)) → IfSome field (HasOld b x)
  old_from b None each = tt
  old_from b (Some f) each = λ j lt. let byte = byte_from source x from (f.at + j) in byte.2 ∙ each byte.0 byte.1 j lt

  pub new_from : (v : List ℕ) (field : Option Field) → ((y : List ℕ) → source y → IfSome field (HasNew v y)) → IfSome field (HasNew v x)
  new_from v None each = tt
  new_from v (Some f) each = λ j lt. let byte = byte_from source x from (f.at + j) in byte.2 ∙ each byte.0 byte.1 j lt

  pub whole_from : (b v : List ℕ) (field : Option Field) (start : ℕ) → FitsField field v → IfSome field (EndsBy start) → ((y : List ℕ) → source y → start ≤ length y)
      → ((y : List ℕ) → source y → IfSome field (IsOldOrNew b v y)) → IfSome field (IsOldOrNew b v x)
  whole_from b v None start few by within each = tt
  whole_from b v (Some f) start few by within each = λ one.
      let has = field_from source f.at f.size one (λ y of_y. omega (arith, by, within y of_y)) x from in
      ⊎_elim (λ old. inl (λ j lt. has.2 j lt ∙ old j lt)) (λ new. inr (λ j lt. has.2 j (omega (arith, lt, few)) ∙ new j lt)) (each has.0 has.1 one)

-- fields, where they are there, have no byte in common
abbrev pub Apart : Option Field → Option Field → Type 0
Apart one other = IfSome one (λ f. IfSome other (LieApart f))

pub apart_back : (one other : Option Field) → Apart one other → Apart other one
apart_back None None apart = tt
apart_back None (Some g) apart = tt
apart_back (Some f) None apart = tt
apart_back (Some f) (Some g) (inl before) = inr before
apart_back (Some f) (Some g) (inr behind) = inl behind

beside_apart : (f g : Field) (count j : ℕ) → count ≤ f.size → LieApart f g → j < g.size → IsBeside (g.at + j) f.at count
beside_apart f g count j few (inl before) lt = inr (omega (arith, before, few))
beside_apart f g count j few (inr behind) lt = inl (omega (arith, behind, lt))

-- bytes are put into a field, which is new then; and one that lies apart is as it was
module _ (y v : List ℕ) where
  pub put_new : (field : Option Field) (start : ℕ) → FitsField field v → IfSome field (EndsBy start) → start ≤ length y → IfSome field (HasNew v (over_field field y v))
  put_new None start few by there = tt
  put_new (Some f) start few by there = over_in y f.at v (omega (arith, few, by, there))

  pub then_old : (b : List ℕ) (field kept : Option Field) → FitsField field v → Apart field kept → IfSome kept (HasOld b y) → IfSome kept (HasOld b (over_field field y v))
  then_old b None kept few apart old = old
  then_old b (Some f) None few apart old = tt
  then_old b (Some f) (Some g) few apart old = λ j lt. over_beside y f.at v (g.at + j) (beside_apart f g (length v) j few apart lt) ∙ old j lt

  pub then_new : (w : List ℕ) (field kept : Option Field) → FitsField field v → FitsField kept w → Apart field kept → IfSome kept (HasNew w y) → IfSome kept (HasNew w (over_field field y v))
  then_new w None kept few few' apart new = new
  then_new w (Some f) None few few' apart new = tt
  then_new w (Some f) (Some g) few few' apart new = λ j lt. over_beside y f.at v (g.at + j) (beside_apart f g (length v) j few apart (omega (arith, lt, few'))) ∙ new j lt

  pub put_whole : (b : List ℕ) (field : Option Field) → IfSome field (HasNew v (over_field field y v)) → IfSome field (IsOldOrNew b v (over_field field y v))
  put_whole b None new = tt
  put_whole b (Some f) new = λ one. inr new

  pub then_whole : (b w : List ℕ) (field kept : Option Field) → FitsField field v → FitsField kept w → Apart field kept → IfSome kept (IsOldOrNew b w y) → IfSome kept (IsOldOrNew b w (over_field field y v))
  then_whole b w None kept few few' apart whole = whole
  then_whole b w (Some f) None few few' apart whole = tt
  then_whole b w (Some f) (Some g) few few' apart whole = λ one.
      ⊎_elim (λ old. inl (then_old b (Some f) (Some g) few apart old)) (λ new. inr (then_new w (Some f) (Some g) few few' apart new)) (whole one)

  pub put_beside : (h : Shape) (b : List ℕ) (field : Option Field) → FitsField field v → IsFieldOf h field → ((i : ℕ) → is_in_fields h i ≡ false → get_or y i 0 ≡ get_or b i 0)
      → (i : ℕ) → is_in_fields h i ≡ false → get_or (over_field field y v) i 0 ≡ get_or b i 0
  put_beside h b None few of same i out = same i out
  put_beside h b (Some f) few of same i out = over_beside y f.at v i (beside_field f i (length v) few (of i out)) ∙ same i out

-- the contents themselves
pub itself_old : (b : List ℕ) (field : Option Field) → IfSome field (HasOld b b)
itself_old b None = tt
itself_old b (Some f) = λ j lt. refl

pub itself_whole : (b v : List ℕ) (field : Option Field) → IfSome field (IsOldOrNew b v b)
itself_whole b v None = tt
itself_whole b v (Some f) = λ one. inl (λ j lt. refl)
