-- What stands on a disk on which a head is laid.
use Rattle.std.proofs.Common.{◌≡◌, ℕ, List, length, take, Option, None, Some, refl, ap, ◌∙◌}
use Rattle.std.specs.Prelude.{option_map}
use Rattle.snd_disk.specs.State.{IsCut, State}
use Rattle.snd_layout.specs.Laid.{HoldsJust}

option_twice : (o : Option (List ℕ)) (meant : List ℕ → List ℕ) (y : List ℕ) → option_map (λ (b : List ℕ). y) (option_map meant o) ≡ option_map (λ (b : List ℕ). y) o
option_twice None meant y = refl
option_twice (Some b) meant y = refl

-- a write of all behind a cut of all
pub laid : (old mid new : State) (bytes : List ℕ) → IsCut 0 old mid → HoldsJust bytes mid new → HoldsJust bytes old new
laid old mid new bytes cut put = record {
  size = put.size;
  contents = put.contents ∙ ap (option_map (λ (b : List ℕ). bytes)) cut.contents ∙ option_twice old.contents (take 0) bytes;
  name = put.name ∙ cut.name;
}

-- bytes that are a head
pub holds_head : (old new : State) (bytes head : List ℕ) → HoldsJust bytes old new → bytes ≡ head → HoldsJust head old new
holds_head old new bytes head put is = record {
  size = put.size ∙ ap length is;
  contents = put.contents ∙ ap (λ (l : List ℕ). option_map (λ (b : List ℕ). l) old.contents) is;
  name = put.name;
}
