-- Whether there are boxes for a rack.
use Rattle.std.specs.Prelude.{◌≡◌, ℕ, ◌+◌, ◌-◌, ◌++◌, ◌<◌, ◌≤◌, Bool, true, false, List, [], ◌∷◌, Option, None, Some, count_by, drop, length, map, nat_le, slice_get, take}
use Rattle.std.specs.List.{list_all}
use Rattle.snd_rack.specs.Stage.{Stated, kind_of}
use Rattle.snd_rack.specs.declared.setting.StageKind.{StageKind}
use Rattle.snd_rack.specs.declared.setting.StageKind.TheVariants.{Gain, Invert, Pick, Fade}

abbrev pub is_kind : StageKind → StageKind → Bool
is_kind Gain Gain = true
is_kind Invert Invert = true
is_kind Pick Pick = true
is_kind Fade Fade = true
is_kind kind other = false

-- how many of a list are of a kind
abbrev pub count_of : StageKind → List StageKind → ℕ
count_of kind kinds = count_by (is_kind kind) kinds

-- no more are wanted of a kind than are there
abbrev pub suffice : List StageKind → List StageKind → Bool
suffice wanted kinds = list_all (λ kind. nat_le (count_of kind wanted) (count_of kind kinds)) (Gain ∷ Invert ∷ Pick ∷ Fade ∷ [])

-- there is a box for each item of a rack
abbrev pub has_boxes : List Stated → List StageKind → Bool
has_boxes items kinds = suffice (map kind_of items) kinds

-- a place from another on where one of a kind stands, or there is none
abbrev pub Finds : StageKind → ℕ → List StageKind → Option ℕ → Type 0
Finds kind from kinds (Some at) = (from ≤ at) × (at < length kinds) × (slice_get kinds at ≡ Some kind)
Finds kind from kinds None = count_of kind (drop from kinds) ≡ 0

-- a list whose element from one place stands at another before it
abbrev pub brought : {B : Type 0} → ℕ → ℕ → List B → List B
brought at found xs = take at xs ++ (take 1 (drop found xs) ++ (take (found - at) (drop at xs) ++ drop (found + 1) xs))
