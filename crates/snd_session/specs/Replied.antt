-- What is said where no content decides it, also over a disk that tells nothing.
use Rattle.std.specs.Prelude.{◌≡◌, ◌==◌, ◌||◌, ℕ, List, [], Bool, true, Option, Result, is_some}
use Rattle.snd_edits.specs.Editing.{Editing}
use Rattle.snd_edits.specs.Known.{Known}
use Rattle.snd_rules.specs.Edit.{edit_by}
use Rattle.snd_rules.specs.Rules.{Rule}
use Rattle.snd_rules.specs.Stepped.{IsSaid, refusal_by}
use Rattle.snd_rules.specs.declared.reply.Reply.{Reply}
use Rattle.snd_rules.specs.declared.reply.StepFault.{StepFault}

-- a file of which this is known, and that holds nothing
abbrev pub known_editing : Known → Editing
known_editing h = record {
  bytes = [];
  shape = h.shape;
  frames = [];
  place = h.place;
  write_place = h.write_place;
  automatic = h.automatic;
  written = h.written;
  given = [];
}

-- no content decides the answer: nothing is asked of the disk, or the command is refused by what is known
abbrev pub is_decided : Rule → Known → Bool
is_decided rule h = (rule.asked == 0) || is_some (refusal_by rule h)

-- .. and then what is said is what would be said of that file
abbrev pub SaysKnown : Rule → Result Reply StepFault → Known → Option (List ℕ) → Option (List ℕ) → Type 0
SaysKnown rule result h old new = is_decided rule h ≡ true → IsSaid result (edit_by rule (known_editing h)).answer old new
