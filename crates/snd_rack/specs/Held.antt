-- What a stage holds.
use Rattle.std.specs.Prelude.{◌≡◌, ℕ, ◌+◌, ◌-◌, ◌^◌, min, ℤ, pos, ◌≤ℤ◌, false, List, All, length}
use Rattle.snd_rack.specs.Rack.{is_bad}
use Rattle.snd_rack.specs.Stage.{IsSettled, Stated, mapped}
use Rattle.snd_rack.specs.declared.setting.StageKind.{StageKind}

-- its kind, its setting, the range of a sample, and how many frames have passed since it was started
pub record Held : Type 0 where
  pub kind : StageKind
  pub stated : Stated
  pub low : ℤ
  pub high : ℤ
  pub seen : ℕ

-- Not started: no frame with a sample but 0 may pass it.
abbrev pub idle : StageKind → Stated → Held
idle kind s = record { kind = kind; stated = s; low = pos 0; high = pos 0; seen = 0 }

-- no call but start changes the setting and the range, and none the kind
abbrev pub started : Stated → ℤ → ℤ → Held → Held
started s low high h = record h { stated = s; low = low; high = high; seen = 0 }

-- the count stays at its greatest number
abbrev pub next : Held → Held
next h = record h { seen = min (h.seen + 1) (2 ^ 64 - 1) }

abbrev pub InRange : ℤ → ℤ → List ℤ → Type 0
InRange low high frame = All (λ x. (low ≤ℤ x) × (x ≤ℤ high)) frame

-- a frame may pass: its samples are in the range, and it has those that are taken
pub record MayPass (h : Held) (frame : List ℤ) : Type 0 where
  pub settled : IsSettled h.stated
  pub in_range : InRange h.low h.high frame
  pub there : is_bad (length frame) h.stated ≡ false

-- .. and what becomes of it
abbrev pub passed : Held → List ℤ → List ℤ
passed h frame = mapped h.stated h.low h.high h.seen frame
