use Rattle.std.proofs.Common.{rules, ◌≡◌, codes, arith}
use Rattle.snd_meta.specs.Cue.{cue_body, named}
use Rattle.snd_tags.proofs.Composed.{sets_failed, sets_put}
use Rattle.snd_tags.proofs.set.set_points.Goals as goal

pub returns-in_err-body_held : goal.returns-in_err-body_held
returns-in_err-body_held g c =
    let s = sets_failed g.D.Disk c.args.file.now c.body_held.new.file (codes "cue ") (λ _. cue_body (named 1 c.args.places.now)) c.in_err-body_held.field-0.0 c.from_residual.result (search rules) c.in_err-body_held.ensures.failed in
    record {
      loan = s.loan;
      fits = s.fits;
      left = s.left;
      sets = s.sets;
      puts = s.puts;
      tells = s.tells;
      time = s.time;
      faults = s.faults;
      written = s.written;
      asked = record { later = s.asked.later; most = omega (arith, s.asked.most) };
    }

pub returns : goal.returns
returns g c =
    let made : c.deref.result.now ≡ cue_body (named 1 c.args.places.now) = search rules in
    let s = sets_put g.D.Disk c.args.file.now c.put_body.new.file (codes "cue ") (λ _. cue_body (named 1 c.args.places.now)) _ c.deref.result.now c.put_body.result c.put_body.ensures (λ e here. made) in
    record {
      loan = s.loan;
      fits = s.fits;
      left = s.left;
      sets = s.sets;
      puts = s.puts;
      tells = s.tells;
      time = s.time;
      faults = s.faults;
      written = s.written;
      asked = record { later = s.asked.later; most = omega (arith, s.asked.most) };
    }
