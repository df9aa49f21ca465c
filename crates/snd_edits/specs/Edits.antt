-- How writing, cutting and sealing change an open file. That data are overwritten in place, and the fields of the head brought
-- up to the frames behind them, is this library's own rule.
use Rattle.std.specs.Prelude.{ℕ, ℤ, ◌+◌, ◌/◌, Bool, false, ◌||◌, List, [], ◌++◌, Option, None, Some, Result, Ok, Err, length, take, drop, max, min, nat_lt, if◌then◌else◌}
use Rattle.snd_disk.specs.Bytes.{over}
use Rattle.snd_layout.specs.Params.{Parameters}
use Rattle.snd_layout.specs.Shape.{Shape, end}
use Rattle.snd_pcm.specs.Groups.{groups}
use Rattle.snd_container.specs.Fixed.{samples_bytes}
use Rattle.snd_container.specs.declared.fixed.Fixed.{Fixed}
use Rattle.snd_container.specs.Sound.{fixed_of, kept_numbers}
use Rattle.snd_patch.specs.Sealed.{counted, over_closing, sealed, shrunk}
use Rattle.snd_container.specs.Values.{closed_end}
use Rattle.snd_edits.specs.Editing.{Editing}

-- the bytes of the numbers of frames, a number for each channel in turn
abbrev pub coded_as : Option Fixed → List ℤ → List ℕ
coded_as None xs = []
coded_as (Some form) xs = samples_bytes form xs

abbrev pub coded : Parameters → List ℤ → List ℕ
coded p xs = coded_as (fixed_of p.codec) xs

-- frames put over others from a place on
abbrev pub put_frames : {X : Type 0} → List X → ℕ → List X → List X
put_frames frames place new = take place frames ++ new ++ drop (place + length new) frames

-- how many frames there are once so many are written from a place on
abbrev pub count_written : Shape → ℕ → ℕ → ℕ
count_written h place count = max h.frames (place + count)

-- b with the bytes of numbers over its data from a frame on; and with what closes the data of n frames behind them, where
-- these are more than there were
abbrev pub over_data : List ℕ → Shape → ℕ → List ℤ → List ℕ
over_data b h place xs = over b (end h place) (coded h.params xs)

abbrev pub closed_behind : List ℕ → Shape → ℕ → List ℕ
closed_behind b h n = if nat_lt h.frames n then over_closing b h n else b

-- b once frames are written: sealed, where that is automatic
abbrev pub sealed_where : Bool → List ℕ → Shape → ℕ → List ℕ
sealed_where automatic b h n = if automatic then sealed b h n else b

abbrev pub written_bytes : Bool → List ℕ → Shape → ℕ → ℕ → List ℤ → List ℕ
written_bytes automatic b h place n xs = sealed_where automatic (closed_behind (over_data b h place xs) h n) h n

-- .. and what the file then says of itself: so many frames, and in its head what it did before, unless that is automatic
abbrev pub written_shape : Bool → Shape → ℕ → Shape
written_shape automatic h n = if automatic then counted h n else record h { frames = n }

-- the numbers of whole frames written at the place, as the codec keeps them; k frames
abbrev pub written_frames : ℕ → List ℤ → Editing → Editing
written_frames k xs e =
    let n = count_written e.shape e.write_place k in
    record {
      bytes = written_bytes e.automatic e.bytes e.shape e.write_place n xs;
      shape = written_shape e.automatic e.shape n;
      frames = put_frames e.frames e.write_place (groups e.shape.params.channels (kept_numbers e.shape.params xs));
      place = e.place;
      write_place = e.write_place + k;
      automatic = e.automatic;
      written = e.written || nat_lt 0 k;
      given = e.given;
    }

abbrev pub written_to : List ℤ → Editing → Editing
written_to xs e = written_frames (length xs / e.shape.params.channels) xs e

-- the file sealed
abbrev pub sealed_to : Editing → Editing
sealed_to e = record e { bytes = sealed e.bytes e.shape e.shape.frames; shape = counted e.shape e.shape.frames }

-- .. and from then on each write seals it, or none does
abbrev pub automatic_to : Bool → Editing → Editing
automatic_to on e = record (sealed_to e) { automatic = on }

-- cut to so many frames, fewer than there are; to as many as there are it is sealed
abbrev pub cut_to : ℕ → Editing → Editing
cut_to n e = record e {
  bytes = shrunk e.bytes e.shape n;
  shape = counted e.shape n;
  frames = take n e.frames;
  place = min e.place n;
  write_place = min e.write_place n;
}

abbrev pub truncated_to : ℕ → Editing → Editing
truncated_to n e = if nat_lt n e.shape.frames then cut_to n e else sealed_to e

-- all cut off that stands behind what closes the data
abbrev pub cut_off : List ℕ → Shape → ℕ → List ℕ
cut_off b h n = take (closed_end h n) (over_closing b h n)

abbrev pub without_tail : Editing → Editing
without_tail e = record e { bytes = cut_off e.bytes e.shape e.shape.frames; shape = record e.shape { trailing = false } }

-- sealed, and then that
abbrev pub trimmed : List ℕ → Shape → ℕ → List ℕ
trimmed b h n = cut_off (sealed b h n) h n

abbrev pub trimmed_shape : Shape → ℕ → Shape
trimmed_shape h n = record (counted h n) { trailing = false }

abbrev pub trimmed_to : Editing → Editing
trimmed_to e = record e { bytes = trimmed e.bytes e.shape e.shape.frames; shape = trimmed_shape e.shape e.shape.frames }

-- the frame to write next is the one that was sought
abbrev pub moved_write_to : ℕ → Editing → Editing
moved_write_to n e = record e { write_place = n }

-- the state that a call leaves: that step where it succeeds, and else the same
abbrev pub state_after : {T E : Type 0} → (Editing → Editing) → Result T E → Editing → Editing
state_after step (Ok value) e = step e
state_after step (Err error) e = e
