-- The state of a run over a script: the files, the taps, and at most one file that is open.
use Rattle.std.specs.Prelude.{ℕ, Bool, true, false, ◌&&◌, List, map, Option, None, Some}
use Rattle.std.specs.Str.{bytes_eq}
use Rattle.snd_disk.specs.Shelf.{Files, put}
use Rattle.snd_layout.specs.Shape.{Shape}
use Rattle.snd_meters.specs.Gauge.{Gauge, waiting}
use Rattle.snd_meters.specs.Gauges.{after_rest}
use Rattle.snd_edits.specs.Editing.{Editing}
use Rattle.snd_edits.specs.Edits.{sealed_to}
use Rattle.snd_edits.specs.Encoding.{encoded_whole}
use Rattle.snd_taps.specs.declared.tap.TapKind.{TapKind}

-- how a file was opened
pub data Mode : Type 0 where
  reading : Mode
  writing : Mode
  -- made, of ADPCM: frames are given from front to back, and whole blocks of them reach the file
  encoding : Mode
  updating : Mode
  -- updated automatically from the start, and open to the end
  pinned : Mode

-- frames are read, and are written, in these modes
abbrev pub reads : Mode → Bool
reads reading = true
reads writing = false
reads encoding = false
reads updating = true
reads pinned = true

abbrev pub writes : Mode → Bool
writes reading = false
writes writing = true
writes encoding = true
writes updating = true
writes pinned = true

-- the file was opened to be updated
abbrev pub updates : Mode → Bool
updates updating = true
updates pinned = true
updates mode = false

-- it stays open
abbrev pub is_pinned : Mode → Bool
is_pinned pinned = true
is_pinned mode = false

-- the file was made
abbrev pub makes : Mode → Bool
makes writing = true
makes encoding = true
makes mode = false

-- .. by blocks of ADPCM
abbrev pub encodes : Mode → Bool
encodes encoding = true
encodes mode = false

-- how many frames are told of a file: all that it was given, also those that wait for their block
abbrev pub frames_told : Mode → Shape → ℕ → ℕ
frames_told encoding h given = given
frames_told mode h given = h.frames

pub record OpenFile : Type 0 where
  pub name : List ℕ
  pub mode : Mode
  pub editing : Editing
  -- the taps, as they are while it is open
  pub taps : List Gauge

-- what there is while no file is open
pub record Store : Type 0 where
  -- what an open file holds comes under its name when it is closed
  pub files : Files
  -- those of a run, in their order
  pub taps : List Gauge

pub record Desk : Type 0 where
  pub store : Store
  pub open_file : Option OpenFile

abbrev pub closed_desk : Store → Desk
closed_desk store = record { store = store; open_file = None }

abbrev pub open_desk : Store → OpenFile → Desk
open_desk store file = record { store = store; open_file = Some file }

-- these files, and a tap of each of these kinds, which waits
abbrev pub stored : Files → List TapKind → Store
stored files kinds = record { files = files; taps = map waiting kinds }

-- what a file holds once it is closed: it is sealed in a mode that writes, and the frames that wait are made a block before
abbrev pub closed_as : Mode → Editing → Editing
closed_as reading e = e
closed_as encoding e = encoded_whole e
closed_as mode e = sealed_to e

-- .. and the state in which all frames that were given are put; the flag is whether they are written by blocks
abbrev pub all_put : Bool → Editing → Editing
all_put true e = encoded_whole e
all_put false e = e

abbrev pub closed_bytes : OpenFile → List ℕ
closed_bytes file = (closed_as file.mode file.editing).bytes

-- the files once the open one is closed
abbrev pub files_with : Files → Option OpenFile → Files
files_with files None = files
files_with files (Some file) = put files file.name (Some (closed_bytes file))

abbrev pub files_closed : Desk → Files
files_closed desk = files_with desk.store.files desk.open_file

-- the taps then: those that are on wait again
abbrev pub taps_with : List Gauge → Option OpenFile → List Gauge
taps_with taps None = taps
taps_with taps (Some file) = after_rest file.taps

abbrev pub taps_closed : Desk → List Gauge
taps_closed desk = taps_with desk.store.taps desk.open_file

abbrev pub store_closed : Desk → Store
store_closed desk = record { files = files_closed desk; taps = taps_closed desk }

-- whether the open file has this name
abbrev pub has_name : Option OpenFile → List ℕ → Bool
has_name None n = false
has_name (Some file) n = bytes_eq n file.name

-- .. and was made, to be written
abbrev pub makes_name : Option OpenFile → List ℕ → Bool
makes_name None n = false
makes_name (Some file) n = makes file.mode && bytes_eq n file.name

-- the mode of a file, or pinned where it is to stay open
abbrev pub open_as : Bool → Mode → Mode
open_as true mode = pinned
open_as false mode = mode
