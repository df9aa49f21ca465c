-- What is done for a command, and what it uses at most.
use Rattle.std.specs.Prelude.{◌≡◌, ℕ, List, Bool, false, Option, Some, ◌≤◌, ℤ, true, None}
use Rattle.std.specs.Str.{bytes_eq}
use Rattle.snd_rules.specs.declared.work.Work.{Work}
use Rattle.snd_rules.specs.declared.work.Work.TheVariants as work
use Rattle.snd_command.specs.Said.{Said}
use Rattle.snd_rules.specs.Script.{asked_by, written_by, writes_name}
use Rattle.snd_layout.specs.Params.{params_of}
use Rattle.snd_meters.specs.Gauge.{Gauge}
use Rattle.snd_rules.specs.Desk.{Mode, Store, closed_desk, makes, reads, updates, writes}
use Rattle.snd_rules.specs.Edit.{Edited, Opening, edit_closed, make_edit, open_edit, refused}
use Rattle.snd_rules.specs.Rules.{Rule, auto_rule, get_bext_rule, get_chunk_rule, get_chunks_rule, get_cues_rule, get_strings_rule, in_mode, is_close, promote_rule, read_rule, refused_rule, reserve_rule, rule_of, seek_read_rule, seek_rule, seek_write_in, set_bext_rule, set_chunk_rule, set_cue_rule, set_string_rule, tap_rule, tell_rule, trim_in, truncate_in, unless_pinned, untap_rule, update_rule, write_in}
use Rattle.snd_rules.specs.SmallBlocks.{HasSmallBlocks}
use Rattle.snd_lines.specs.declared.refusal.Refusal.TheVariants as refusal
use Rattle.snd_rules.specs.declared.work.Asking.{Asking}
use Rattle.snd_rules.specs.declared.work.Asking.TheVariants as asking
use Rattle.snd_rules.specs.declared.work.Setting.{Setting}
use Rattle.snd_rules.specs.declared.work.Setting.TheVariants as setting
use Rattle.snd_rules.specs.declared.work.Work.TheVariants.{Open, Update, Make, Close, Tell, SeekRead, SeekWrite, SeekBoth, Read, Write, Truncate, Trim, BringUp, Auto, Promote, Set, Ask, Tap, Untap}

-- the rule of what is set, and of what is asked
abbrev pub setting_rule : Setting → Rule
setting_rule (setting.Chunk id hex) = set_chunk_rule id.0 hex.now
setting_rule (setting.Text key text) = set_string_rule key text.now
setting_rule (setting.Field key text) = set_bext_rule key text.now
setting_rule (setting.Points places) = set_cue_rule places.now.items
setting_rule setting.Reservation = reserve_rule

abbrev pub asking_rule : Asking → Rule
asking_rule (asking.Chunk id) = get_chunk_rule id.0
asking_rule asking.Chunks = get_chunks_rule
asking_rule asking.Texts = get_strings_rule
asking_rule asking.Broadcast = get_bext_rule
asking_rule asking.Points = get_cues_rule

-- the rule of what is done on an open file, unless it is closed
abbrev pub work_rule : Mode → List Gauge → Work → Rule
work_rule mode taps Tell = tell_rule mode
work_rule mode taps (SeekRead n) = in_mode (reads mode) (seek_read_rule n)
work_rule mode taps (SeekWrite n) = seek_write_in mode n
work_rule mode taps (SeekBoth n) = seek_rule mode n
work_rule mode taps (Read n) = in_mode (reads mode) (read_rule n)
work_rule mode taps (Write xs) = write_in mode xs.now
work_rule mode taps (Truncate n) = truncate_in mode n
work_rule mode taps Trim = trim_in mode
work_rule mode taps BringUp = in_mode (writes mode) update_rule
work_rule mode taps (Auto on) = unless_pinned true mode (in_mode (writes mode) (auto_rule on))
work_rule mode taps Promote = in_mode (updates mode) promote_rule
work_rule mode taps (Set setting) = in_mode (makes mode) (setting_rule setting)
work_rule mode taps (Ask asking) = asking_rule asking
work_rule mode taps (Tap kind) = tap_rule taps kind
work_rule mode taps (Untap kind) = untap_rule taps kind
work_rule mode taps work = unless_pinned true mode (refused_rule refusal.AlreadyOpen)

-- with none open
abbrev pub work_closed : Work → Store → Edited
work_closed (Open name) store = open_edit store name.now Opening.for_reading (store.files name.now)
work_closed (Update name) store = open_edit store name.now Opening.for_updating (store.files name.now)
work_closed (Make kind codec channels rate name) store = make_edit store name.now kind (params_of channels rate codec)
work_closed work store = refused refusal.NotOpen (closed_desk store)

abbrev pub work_closes : Work → Bool
work_closes Close = true
work_closes work = false

-- the name that a command has, and the one of the file that is opened
abbrev pub name_of : Said → Option (List ℕ)
name_of (Said.open_read name) = Some name
name_of (Said.open_update name) = Some name
name_of (Said.create kind codec channels rate name) = Some name
name_of said = None

abbrev pub work_name : Work → Option (List ℕ)
work_name (Open name) = Some name.now
work_name (Update name) = Some name.now
work_name (Make kind codec channels rate name) = Some name.now
work_name work = None

-- what is made has small blocks
abbrev pub MakesSmall : Work → Type 0
MakesSmall (Make kind codec channels rate name) = HasSmallBlocks channels codec
MakesSmall work = Unit {0}

-- bytes asked to open a file, and written to make one
abbrev pub work_asks : Work → ℕ
work_asks (work.Open name) = 16384
work_asks (work.Update name) = 16384
work_asks other = 0

abbrev pub work_makes : Work → ℕ
work_makes (work.Make kind codec channels rate name) = 2048
work_makes other = 0

-- the file of this name is opened to be written, or made
abbrev pub work_writes : Work → List ℕ → Bool
work_writes (work.Update name) n = bytes_eq n name.now
work_writes (work.Make kind codec channels rate name) n = bytes_eq n name.now
work_writes other n = false

-- this is done for what is said
pub record WorksFor (said : Said) (work : Work) : Type 0 where
  pub rule : (mode : Mode) (taps : List Gauge) → is_close said ≡ false → rule_of mode taps said ≡ work_rule mode taps work
  pub closed : (store : Store) → edit_closed store said ≡ work_closed work store
  pub named : (n : List ℕ) → work_name work ≡ Some n → name_of said ≡ Some n
  pub closes : is_close said ≡ work_closes work
  pub small : MakesSmall work
  pub asked : work_asks work ≤ asked_by said
  pub made : work_makes work ≤ written_by said
  pub writes : (n : List ℕ) → writes_name said n ≡ false → work_writes work n ≡ false

-- something is set, which a file in other modes refuses
abbrev pub work_sets : Work → Bool
work_sets (Set setting) = true
work_sets work = false

-- the file is turned into RF64, which a file that was made refuses
abbrev pub work_promotes : Work → Bool
work_promotes Promote = true
work_promotes work = false

-- these cue points are set
abbrev pub SetsFor : Work → List ℕ → Type 0
SetsFor (Set (setting.Points places)) ns = places.now.items ≡ ns
SetsFor work ns = ⊥

-- these numbers are written
abbrev pub WritesFor : Work → List ℤ → Type 0
WritesFor (Write numbers) xs = numbers.now ≡ xs
WritesFor work xs = ⊥
