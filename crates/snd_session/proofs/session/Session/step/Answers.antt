use Rattle.snd_session.proofs.session.Session.step.Goals as goal

pub returns : goal.returns
returns g c =
    let steps = c.carry_out.ensures.steps in
    let taps = c.carry_out.ensures.taps in
    record {
      stands = steps.stands;
      said = steps.said;
      replies = steps.replies;
      silent = steps.silent;
      cause = steps.cause;
      memory = steps.memory;
      knows = steps.knows;
      taps = taps;
      leaves = steps.leaves;
      reads = steps.reads;
      safe = steps.safe;
      rests = steps.rests;
      begins = steps.begins;
      asked = steps.asked;
      written = steps.written;
    }
