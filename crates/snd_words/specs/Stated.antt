-- What one option of `metadata-set` sets.
use Rattle.std.specs.Prelude.{◌≢◌, ℕ, List, All}
use Rattle.snd_meta.specs.declared.bext.BextKey.{BextKey}
use Rattle.snd_meta.specs.declared.bext.BextKey.TheVariants.{TimeRef}
use Rattle.snd_meta.specs.declared.info.InfoKey.{InfoKey}

-- a text of the INFO list, a field of the broadcast extension, or its time reference
pub data Stated : Type 0 where
  info_text : InfoKey → List ℕ → Stated
  bext_field : BextKey → List ℕ → Stated
  bext_time : ℕ → Stated

-- a text has no 0, and the time reference is a number
abbrev pub HasNoZero : List ℕ → Type 0
HasNoZero text = All (λ b. b ≢ 0) text

abbrev pub IsStated : Stated → Type 0
IsStated (Stated.info_text key text) = HasNoZero text
IsStated (Stated.bext_field key text) = (key ≢ TimeRef) × HasNoZero text
IsStated (Stated.bext_time time) = Unit {0}
