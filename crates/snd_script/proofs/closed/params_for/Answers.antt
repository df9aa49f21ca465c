use Rattle.std.proofs.Common.{rules}
use Rattle.snd_script.proofs.Misfits.{misfit_is_refused}
use Rattle.snd_rules.proofs.Public.{kind_is_made}
use Rattle.snd_script.proofs.closed.params_for.Goals as goal

pub returns-in_err-fit : goal.returns-in_err-fit
returns-in_err-fit c = record {
  made = misfit_is_refused c.args.kind _ c.in_ok-params.params c.in_err-fit.field-0.0 c.from_residual-in_err-fit.result (search rules) (search rules) (search rules);
}

pub returns : goal.returns
returns c = record {
  made = (search rules, kind_is_made c.args.kind c.args.channels c.args.rate c.args.codec c.in_ok-params.params c.requires.small (search rules) (search rules));
}
