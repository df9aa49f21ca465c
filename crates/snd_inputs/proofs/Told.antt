-- A disk that told its bytes.
use Rattle.std.proofs.Common.{◌≡◌, ℕ, List, false, true, Option, None, Some, refl, ◌∙◌, ap, subst}
use Rattle.std.specs.Prelude.{is_some}
use Rattle.snd_disk.specs.Device.{Tells}
use Rattle.snd_disk.specs.State.{State}
use Rattle.snd_patch.specs.Steps.{StillTells}

some_too : (o o' : Option (List ℕ)) (b : List ℕ) → is_some o' ≡ is_some o → o ≡ Some b → (b' : List ℕ) × (o' ≡ Some b')
some_too o (Some b') b same is = (b', refl)
some_too o None b same is = absurd (let e : false ≡ true = same ∙ ap (λ (x : Option (List ℕ)). is_some x) is in cc)

-- it tells them still
pub still_told : (old new : State) (b : List ℕ) → StillTells old new → old.contents ≡ Some b → (b' : List ℕ) × (new.contents ≡ Some b')
still_told old new b still is = some_too old.contents new.contents b still.told is

-- .. wherever it is then
pub told_as : {E : Type 0} (state : E → State) (d d' : E) (b : List ℕ) → d ≡ d' → Tells state d b → Tells state d' b
told_as {E = E} state d d' b same told = subst (λ (x : E). Tells state x b) same told
