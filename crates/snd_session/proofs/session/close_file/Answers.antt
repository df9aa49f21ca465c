use Rattle.std.proofs.Common.{rules}
use Rattle.snd_session.proofs.Resting.{closes_in_place}
use Rattle.snd_session.proofs.session.close_file.Goals as goal

pub returns-in-Ok-clause-closes : goal.returns-in-Ok-clause-closes
returns-in-Ok-clause-closes g c = record {
  same = search rules;
  sealed = search rules;
  stable = search rules;
  told = search rules;
  cause = search rules;
  tells = search rules;
  time = search rules;
  leaves = λ writing opened e rest. closes_in_place g.D.Disk g.M.Mode.ENCODES opened e _ _ rest.state (c.in-Ok.ensures.leaves writing opened e rest);
  written = search rules;
  asked = search rules;
}

pub returns-in-Err-clause-closes : goal.returns-in-Err-clause-closes
returns-in-Err-clause-closes g c = record {
  same = search rules;
  sealed = search rules;
  stable = search rules;
  told = search rules;
  cause = search rules;
  tells = search rules;
  time = search rules;
  leaves = λ writing opened e rest. closes_in_place g.D.Disk g.M.Mode.ENCODES opened e _ _ rest.state (c.in-Err.ensures.leaves writing opened e rest);
  written = search rules;
  asked = search rules;
}
