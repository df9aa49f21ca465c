-- What is printed, and the status that is answered.
use Rattle.std.specs.Prelude.{ℕ, List, [], ◌++◌, codes, max}
use Rattle.snd_deinterleave.specs.Outputs.{DoneAll, said_of as said_of_all}
use Rattle.snd_rules.specs.Replies.{ok_line}
use Rattle.snd_tools.specs.Done.{Done, Said, said_of}
use Rattle.snd_app.specs.Text.{refusal}

pub record Outcome : Type 0 where
  pub out : List ℕ
  pub err : List ℕ
  pub status : ℕ

abbrev pub bad_words : Outcome
bad_words = record { out = []; err = codes "snd: bad words\n"; status = 2 }

-- one outcome behind another, of which the greater status counts
abbrev pub and_then : Outcome → Outcome → Outcome
and_then one other = record { out = one.out ++ other.out; err = one.err ++ other.err; status = max one.status other.status }

-- a text on `out`
abbrev pub says : List ℕ → Outcome
says text = record { out = text; err = []; status = 0 }

-- a tool says how many frames it made, or which file it refused, and why
abbrev pub outcome_said : Said → Outcome
outcome_said (Said.made frames) = says (ok_line frames)
outcome_said (Said.refused name why) = record { out = []; err = refusal name why; status = 1 }

abbrev pub outcome_of_tool : Done → Outcome
outcome_of_tool todo = outcome_said (said_of todo)

-- .. also one that makes several files
abbrev pub outcome_of_all : DoneAll → Outcome
outcome_of_all todo = outcome_said (said_of_all todo)
