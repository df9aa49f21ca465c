-- What is left of a sound: the first good format among bytes, and all bytes behind the first data behind it. On a disk it is the
-- layout of a WAVE file whose head leaves the length open.
use Rattle.std.specs.Prelude.{◌≡◌, ℕ, ◌-◌, ◌/◌, ◌^◌, ◌≤◌, true, false, List, [], Option, None, Some, Result, Ok, Err, drop, length, take}
use Rattle.snd_disk.specs.Device.{Tells}
use Rattle.snd_disk.specs.State.{State}
use Rattle.snd_layout.specs.Blocks.{block_align}
use Rattle.snd_layout.specs.Params.{Parameters}
use Rattle.snd_layout.specs.Shape.{Shape}
use Rattle.snd_layout.specs.declared.error.OpenError.{OpenError}
use Rattle.snd_layout.specs.declared.error.OpenError.TheVariants.{Refused}
use Rattle.snd_layout.specs.declared.kind.Kind.TheVariants.{Wave}
use Rattle.snd_layout.specs.declared.refusal.OpenRefusal.{OpenRefusal}
use Rattle.snd_layout.specs.declared.refusal.OpenRefusal.TheVariants.{NoData, NoFormat}
use Rattle.snd_search.specs.Search.{Found, behind_data, format_in}

-- No byte from 8 bytes below 2^63 on counts, as in files that are opened.
abbrev pub counted : List ℕ → List ℕ
counted b = take (2 ^ 63 - 8) b

-- the parameters that the format states, and the bytes behind the head of the data; or why there are none
abbrev pub with_data : Parameters → Option (List ℕ) → Result Found OpenRefusal
with_data p None = Err NoData
with_data p (Some sound) = Ok (record { params = p; rest = sound })

abbrev pub with_format : Option Found → Result Found OpenRefusal
with_format None = Err NoFormat
with_format (Some format) = with_data format.params (behind_data format.rest)

abbrev pub sought_in : List ℕ → Result Found OpenRefusal
sought_in b = with_format (format_in b)

-- ---- on a disk

-- the layout of a sound whose data run from a place to the end of so many bytes: the whole frames count
abbrev pub shape_at : Parameters → ℕ → ℕ → Shape
shape_at p start size = record {
  kind = Wave;
  params = p;
  start = start;
  frames = (size - start) / block_align p.channels p.codec;
  declared = 0;
  inner = record { at = start - 4; size = 4 };
  outer = Some (record { at = 4; size = 4 });
  side = None;
  trailing = false;
  unknown_length = true;
  reserve = None;
  pieces = [];
}

-- a layout is that of the sound that is found among bytes
pub record IsSought (d : List ℕ) (h : Shape) : Type 0 where
  pub found : sought_in d ≡ Ok (record { params = h.params; rest = drop h.start d })
  pub within : h.start ≤ length d
  pub is : h ≡ shape_at h.params h.start (length d)

-- What is answered is what the bytes that count hold, where the disk tells them: a layout, or the refusal.
abbrev pub OpensSought : {D : Type 0} → (D → State) → D → Result Shape OpenError → Type 0
OpensSought state disk (Ok h) = (b : List ℕ) → Tells state disk b → IsSought (counted b) h
OpensSought state disk (Err error) = (refusal : OpenRefusal) (b : List ℕ) → error ≡ Refused refusal → Tells state disk b → sought_in (counted b) ≡ Err refusal

-- the place up to which the search has come: the start of the data, or else the end
abbrev pub sought_to : ℕ → Result Shape OpenError → ℕ
sought_to size (Ok h) = h.start
sought_to size (Err error) = size
