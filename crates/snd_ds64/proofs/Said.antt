-- What a file with the new first bytes says in them.
use Rattle.std.proofs.Common.{◌≡◌, ℕ, ◌-◌, ◌<◌, ◌&&◌, true, List, ◌++◌, All, Some, refl, arith, inl, inr}
use Rattle.std.proofs.lemmas.Bool.{and_parts, cases_Bool, ltb-true}
use Rattle.std.proofs.lemmas.List.Elements.{All-same}
use Rattle.std.specs.Prelude.{codes, nat_le, nat_lt, unwrap_or}
use Rattle.snd_chunks.proofs.Public.{both, number_bytes, three}
use Rattle.snd_chunks.specs.Chunks.{padded_end}
use Rattle.snd_chunks.specs.Written.{NewChunk}
use Rattle.snd_disk.specs.Runs.{HasAt}
use Rattle.snd_fields.proofs.Tested.{from_test}
use Rattle.snd_fields.specs.Field.{bytes_of}
use Rattle.snd_fields.specs.Laws.{IsByte}
use Rattle.snd_fields.specs.declared.field.Order.TheVariants.{Little}
use Rattle.snd_layout.specs.Container.{is_mark}
use Rattle.snd_layout.specs.Params.{Parameters, data_bytes}
use Rattle.snd_layout.specs.Shape.{Shape}
use Rattle.snd_layout.specs.declared.kind.Kind.TheVariants.{Rf64, Wave}
use Rattle.snd_rf64.specs.Values.{closing as rf64_closing, outer_value}
use Rattle.snd_rf64.specs.Written.{no_size}
use Rattle.snd_wave.specs.Values.{closing as wave_closing}
use Rattle.snd_wave.specs.Written.{reserved_shape}
use Rattle.snd_ds64.proofs.Fronts.{front_is, front_parts, plain_front, size_bytes, sound_bytes, whole_bytes}
use Rattle.snd_ds64.specs.Promoted.{new_front, new_size, promoted_shape}

-- the marks of RF64 stand in the first 12 bytes
pub mark_early : (i : ℕ) → is_mark Rf64 i ≡ true → i < 12
mark_early i is = elim (cases_Bool (nat_lt i 4)) [
  | inl first ↦ omega (arith, ltb-true i 4 first)
  | inr other ↦
      let second : (nat_le 8 i && nat_lt i 12) ≡ true = rw other at is in
      ltb-true i 12 (and_parts (nat_le 8 i) (nat_lt i 12) second).1
]

module _ (h : Shape) (n : ℕ) where
  -- its size of the whole stands there
  pub whole_stands : (x : List ℕ) → HasAt x 0 (new_front h n) → HasAt x 20 (outer_value (promoted_shape h n) n)
  unfolding outer_value
  whole_stands x has = (front_parts h n x has).whole

  -- what closes its data is what closed them before
  pub closed_alike : rf64_closing (promoted_shape h n) n ≡ wave_closing h n
  unfolding rf64_closing wave_closing
  closed_alike = refl

  -- the new bytes are bytes
  pub new_front_bytes : All IsByte (new_front h n)
  new_front_bytes =
      let id = codes "RF64" ++ bytes_of Little 4 no_size in
      let marks = id ++ codes "WAVE" ++ codes "ds64" in
      let sizes = marks ++ size_bytes h n ++ whole_bytes h n in
      let counts = sizes ++ sound_bytes h n ++ bytes_of Little 8 n in
      let marked : All IsByte marks = both (id ++ codes "WAVE") (codes "ds64") (three (codes "RF64") (bytes_of Little 4 no_size) (codes "WAVE") (from_test (codes "RF64") refl) (number_bytes Little 4 no_size) (from_test (codes "WAVE") refl)) (from_test (codes "ds64") refl) in
      let sized : All IsByte sizes = three marks (size_bytes h n) (whole_bytes h n) marked (number_bytes Little 4 (unwrap_or h.reserve 0)) (number_bytes Little 8 (padded_end h.start (data_bytes h.params n) - 8)) in
      let counted : All IsByte counts = three sizes (sound_bytes h n) (bytes_of Little 8 n) sized (number_bytes Little 8 (data_bytes h.params n)) (number_bytes Little 8 n) in
      All-same IsByte (new_front h n) (plain_front h n) (front_is h n) (both counts (bytes_of Little 4 0) counted (number_bytes Little 4 0))

pub new_size_bytes : All IsByte new_size
unfolding new_size
new_size_bytes = number_bytes Little 4 no_size

-- a head with a reservation is that of a WAVE file, and says it
pub reserved_says : (len : ℕ) (p : Parameters) (pieces : List NewChunk) → ((reserved_shape (Some len) p pieces 0).kind ≡ Wave) × ((reserved_shape (Some len) p pieces 0).reserve ≡ Some len)
unfolding reserved_shape
reserved_says len p pieces = (refl, refl)
