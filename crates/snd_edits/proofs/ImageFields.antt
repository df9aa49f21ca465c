-- The fields of an image: old or new, each as a whole.
use Rattle.std.proofs.Common.{◌≡◌, ◌⊎◌, ◌∙◌, inl, ℕ, ◌+◌, ◌<◌, ◌≤◌, List, Option, None, Some, length, get_or, arith}
use Rattle.std.specs.Prelude.{IfSome}
use Rattle.snd_container.proofs.Public.{apart, inner_value_fits, outer_value_fits, side_value_fits}
use Rattle.snd_container.specs.Laws.{FileSays}
use Rattle.snd_layout.specs.Container.{FitsField}
use Rattle.snd_layout.specs.Filled.{over_field}
use Rattle.snd_container.specs.Values.{inner_value, outer_value, side_value}
use Rattle.snd_disk.specs.Runs.{HasAt, IsInOneSector}
use Rattle.snd_layout.specs.Shape.{EndsBy, KeepsRule, Shape}
use Rattle.snd_layout.specs.declared.field.Field.{Field}
use Rattle.snd_patch.proofs.Public.{apart_back, field_length, put_new, then_new}
use Rattle.snd_patch.specs.Images.{AllLieApart, HasNew, HasOld, IsOldOrNew}
use Rattle.snd_patch.specs.Sealed.{with_fewer, with_others}

-- a layout but for its frames and the declared length
abbrev pub recounted : Shape → ℕ → ℕ → Shape
recounted head n d = record head { frames = n; declared = d }

-- two files have the same bytes before a place
abbrev pub SameBefore : ℕ → List ℕ → List ℕ → Type 0
SameBefore start x y = (i : ℕ) → i < start → get_or x i 0 ≡ get_or y i 0

pub old_before : (field : Field) (start : ℕ) (x y : List ℕ) → EndsBy start field → SameBefore start x y → HasOld y x field
old_before field start x y ends same j lt = same (field.at + j) (omega (arith, ends, lt))

pub old_some_before : (field : Option Field) (start : ℕ) (x y : List ℕ) → IfSome field (EndsBy start) → SameBefore start x y → IfSome field (HasOld y x)
old_some_before None start x y ends same = tt
old_some_before (Some field) start x y ends same = old_before field start x y ends same

pub old_through : (field : Field) (x y z : List ℕ) → HasOld y x field → HasOld z y field → HasOld z x field
old_through field x y z one two j lt = one j lt ∙ two j lt

pub old_some_through : (field : Option Field) (x y z : List ℕ) → IfSome field (HasOld y x) → IfSome field (HasOld z y) → IfSome field (HasOld z x)
old_some_through None x y z one two = tt
old_some_through (Some field) x y z one two = old_through field x y z one two

pub new_before : (field : Option Field) (v : List ℕ) (start : ℕ) (x y : List ℕ) → FitsField field v → IfSome field (EndsBy start) → SameBefore start x y → IfSome field (HasNew v y) → IfSome field (HasNew v x)
new_before None v start x y fits ends same has = tt
new_before (Some field) v start x y fits ends same has = λ j lt. same (field.at + j) (omega (arith, ends, fits, lt)) ∙ has j lt

-- what stands in a field stands there in a file that has kept it
pub still_has : (field : Option Field) (x b v : List ℕ) → IfSome field (λ f. length v ≡ f.size) → IfSome field (HasOld b x) → IfSome field (λ f. HasAt b f.at v) → IfSome field (λ f. HasAt x f.at v)
still_has None x b v fills old has = tt
still_has (Some f) x b v fills old has = λ j lt. old j (omega (arith, fills, lt)) ∙ has j lt

-- a field in one sector, where it is there, is old or new as a whole
pub whole_some : (field : Option Field) (c v x : List ℕ) → IfSome field (λ f. IsInOneSector f.at f.size) → IfSome field (IsOldOrNew c v x) → IfSome field (HasOld c x) ⊎ IfSome field (HasNew v x)
whole_some None c v x one either = inl tt
whole_some (Some field) c v x one either = either one

-- no two fields have a byte in common, whatever the frames and the declared length are
pub fields_lie_apart : (b : List ℕ) (h : Shape) (n d : ℕ) → FileSays b h → AllLieApart (recounted h n d)
fields_lie_apart b h n d says =
    let lie = apart b h says in
    record { inner = record { outer = lie.outer; side = lie.side }; others = lie.others }

-- the values in a file whose fields say so many frames
module _ (b : List ℕ) (h : Shape) (n : ℕ) (rule : KeepsRule h) (apart : AllLieApart h) (there : h.start ≤ length b) where
  abbrev iv : List ℕ
  iv = inner_value h n

  abbrev ov : List ℕ
  ov = outer_value h n

  abbrev sv : List ℕ
  sv = side_value h n

  outer_put : IfSome h.outer (HasNew ov (over_field h.outer b ov))
  outer_put = put_new b ov h.outer h.start (outer_value_fits h n rule) rule.outer_end there

  others_put : IfSome h.outer (HasNew ov (with_others b h n))
  others_put = then_new (over_field h.outer b ov) sv ov h.side h.outer (side_value_fits h n rule) (outer_value_fits h n rule) (apart_back h.outer h.side apart.others) outer_put

  pub fewer_outer : IfSome h.outer (HasNew ov (with_fewer b h n))
  fewer_outer = then_new (with_others b h n) iv ov (Some h.inner) h.outer (inner_value_fits h n rule) (outer_value_fits h n rule) apart.inner.outer others_put

  pub fewer_inner : HasNew iv (with_fewer b h n) h.inner
  fewer_inner =
      let first : length (over_field h.outer b ov) ≡ length b = field_length h.outer b ov h.start (outer_value_fits h n rule) rule.outer_end there in
      let second : length (with_others b h n) ≡ length (over_field h.outer b ov) = field_length h.side (over_field h.outer b ov) sv h.start (side_value_fits h n rule) rule.side_end (omega (arith, first, there)) in
      put_new (with_others b h n) iv (Some h.inner) h.start (inner_value_fits h n rule) rule.inner_end (omega (arith, first, second, there))
