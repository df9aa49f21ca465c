-- A conversion and its plan, as the code says them.
use Rattle.std.specs.Prelude.{List, [], Option, Result, Ok, Err, unwrap_or}
use Rattle.snd_layout.specs.declared.refusal.OpenRefusal.{OpenRefusal}
use Rattle.snd_rack.specs.Stage.{Stated}
use Rattle.snd_words.specs.Asked.{Converting}
use Rattle.snd_words.specs.declared.convert.Conversion.{Conversion}
use Rattle.snd_convert.specs.Plan.{Planned}
use Rattle.snd_convert.specs.declared.plan.Plan.{Plan}

-- no items stand for no rack
abbrev pub items_of : Option (List Stated) → List Stated
items_of rack = unwrap_or rack []

abbrev pub asked_of : Conversion → Converting
asked_of c = record { rate = c.rate; order = c.order; codec = c.codec; rack = items_of c.rack; input = c.input.now; output = c.output.now }

abbrev pub planned_by : Plan → Planned
planned_by plan = record { kind = plan.kind; params = plan.params }

abbrev pub plan_by : Result Plan OpenRefusal → Result Planned OpenRefusal
plan_by (Ok plan) = Ok (planned_by plan)
plan_by (Err why) = Err why
