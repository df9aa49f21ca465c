-- What is known of an open file, over every disk.
use Rattle.std.specs.Prelude.{◌≡◌, ℕ, Bool, false, Option, None}
use Rattle.snd_disk.specs.declared.disk.Step.{Step}
use Rattle.snd_layout.specs.Shape.{Shape}

-- the layout, the frames to read and to write next, whether it is updated automatically, whether a frame was written since it was
-- opened, and the step that failed, where one did
pub record Known : Type 0 where
  pub shape : Shape
  pub place : ℕ
  pub write_place : ℕ
  pub automatic : Bool
  pub written : Bool
  pub broken : Option Step

-- as a file is opened
pub record IsFresh (known : Known) : Type 0 where
  pub place : known.place ≡ 0
  pub write_place : known.write_place ≡ 0
  pub automatic : known.automatic ≡ false
  pub written : known.written ≡ false
  pub broken : known.broken ≡ None
