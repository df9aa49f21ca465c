-- What a line says: a command as plain data, with lists for the slices and the vectors.
use Rattle.std.specs.Prelude.{ℕ, ℤ, Bool, List}
use Rattle.snd_layout.specs.declared.kind.Kind.{Kind}
use Rattle.snd_meta.specs.declared.bext.BextKey.{BextKey}
use Rattle.snd_meta.specs.declared.info.InfoKey.{InfoKey}
use Rattle.snd_command.specs.declared.tables.CodecWord.{CodecWord}
use Rattle.snd_taps.specs.declared.tap.TapKind.{TapKind}
use Rattle.snd_command.specs.declared.command.Command.{Command}
use Rattle.snd_command.specs.declared.command.Command.TheVariants as command

pub data Said : Type 0 where
  open_read : List ℕ → Said
  open_update : List ℕ → Said
  create : Kind → CodecWord → ℕ → ℕ → List ℕ → Said
  info : Said
  close : Said
  seek_read : ℕ → Said
  seek_write : ℕ → Said
  seek_both : ℕ → Said
  read : ℕ → Said
  write : List ℤ → Said
  truncate : ℕ → Said
  trim : Said
  update : Said
  auto : Bool → Said
  reserve : Said
  promote : Said
  set_chunk : List ℕ → List ℕ → Said
  set_string : InfoKey → List ℕ → Said
  set_bext : BextKey → List ℕ → Said
  set_cue : List ℕ → Said
  get_chunk : List ℕ → Said
  get_chunks : Said
  get_strings : Said
  get_bext : Said
  get_cues : Said
  tap : TapKind → Said
  untap : TapKind → Said

-- what a command says
abbrev pub said_of : Command → Said
said_of (command.OpenRead name) = open_read name.now
said_of (command.OpenUpdate name) = open_update name.now
said_of (command.Create kind codec channels rate name) = create kind codec channels rate name.now
said_of command.Info = info
said_of command.Close = close
said_of (command.SeekRead to) = seek_read to
said_of (command.SeekWrite to) = seek_write to
said_of (command.SeekBoth to) = seek_both to
said_of (command.Read count) = read count
said_of (command.Write samples) = write samples.now.items
said_of (command.Truncate to) = truncate to
said_of command.Trim = trim
said_of command.Update = update
said_of (command.Auto on) = auto on
said_of command.Reserve = reserve
said_of command.Promote = promote
said_of (command.SetChunk id hex) = set_chunk id.0 hex.now
said_of (command.SetString key text) = set_string key text.now
said_of (command.SetBext key text) = set_bext key text.now
said_of (command.SetCue places) = set_cue places.now.items
said_of (command.GetChunk id) = get_chunk id.0
said_of command.GetChunks = get_chunks
said_of command.GetStrings = get_strings
said_of command.GetBext = get_bext
said_of command.GetCues = get_cues
said_of (command.Tap kind) = tap kind
said_of (command.Untap kind) = untap kind
