use Rattle.std.proofs.Common.{◌∙◌, sym}
use Rattle.snd_plan.specs.Disks.{given, held_length, needs, plan_state}
use Rattle.snd_plan.proofs.Read.{given_held, has_more, kept_held, same_needs}
use Rattle.snd_plan.proofs.laws.what_is_given_is_read.Goals as goal

pub returns-clause-now : goal.returns-clause-now
returns-clause-now c = λ old new at bytes place n size held more is.
    given_held (given old) (given new) (at, bytes) place (needs old place n) (needs new place n) more
    (same_needs place n (plan_state old).size (plan_state new).size (held_length old) (held_length new) size held) is

pub returns-clause-still : goal.returns-clause-still
returns-clause-still c = λ old new at bytes place n size held more is.
    kept_held (given old) (given new) (at, bytes) place (needs old place n) (needs new place n) more
    (same_needs place n (plan_state old).size (plan_state new).size (held_length old) (held_length new) size held) is

pub returns-clause-file : goal.returns-clause-file
returns-clause-file c = λ old new at bytes b held more file has. record {
  size = file.size ∙ sym held;
  has = has_more b (given old) (given new) at bytes more file.has has;
}
