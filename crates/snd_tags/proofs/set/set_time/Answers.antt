use Rattle.std.proofs.Common.{rules, ◌≡◌, ◌∙◌, ap, codes, arith}
use Rattle.snd_edits.specs.TagDrafts.{bext_timed, timed_anew}
use Rattle.snd_tags.specs.Steps.{bytes_in, no_memory}
use Rattle.snd_tags.proofs.Composed.{fails_after, put_after, sets_failed, sets_put}
use Rattle.snd_tags.proofs.set.set_time.Goals as goal

pub returns-in_err-held : goal.returns-in_err-held
returns-in_err-held g c =
    let s = sets_failed g.D.Disk c.args.file.now c.body_held.new.file (codes "bext") (bext_timed c.args.time) c.in_err-held.field-0.0 c.from_residual.result (search rules) c.in_err-held.ensures.failed in
    record {
      loan = s.loan;
      fits = s.fits;
      left = s.left;
      sets = s.sets;
      puts = s.puts;
      tells = s.tells;
      time = s.time;
      faults = s.faults;
      written = s.written;
      asked = record { later = s.asked.later; most = omega (arith, s.asked.most) };
    }

pub returns-in_err-body : goal.returns-in_err-body
returns-in_err-body g c =
    let fails = fails_after g.D.Disk c.args.file.now c.body_held.new.file c.in_ok-held.ensures.read in
    let s = sets_failed g.D.Disk c.args.file.now c.body_held.new.file (codes "bext") (bext_timed c.args.time) no_memory c.from_residual-in_err-body.result (search rules) fails in
    record {
      loan = s.loan;
      fits = s.fits;
      left = s.left;
      sets = s.sets;
      puts = s.puts;
      tells = s.tells;
      time = s.time;
      faults = s.faults;
      written = s.written;
      asked = record { later = s.asked.later; most = omega (arith, s.asked.most) };
    }

pub returns : goal.returns
returns g c =
    let made : c.deref.result.now ≡ timed_anew c.args.time (bytes_in c.in_ok-held.held) = search rules in
    let puts = put_after g.D.Disk c.args.file.now c.body_held.new.file c.put_body.new.file _ (codes "bext") c.deref.result.now c.put_body.result c.in_ok-held.ensures.read c.put_body.ensures in
    let s = sets_put g.D.Disk c.args.file.now c.put_body.new.file (codes "bext") (bext_timed c.args.time) _ c.deref.result.now c.put_body.result puts (λ e here. made ∙ ap (timed_anew c.args.time) (c.in_ok-held.ensures.body e here)) in
    record {
      loan = s.loan;
      fits = s.fits;
      left = s.left;
      sets = s.sets;
      puts = s.puts;
      tells = s.tells;
      time = s.time;
      faults = s.faults;
      written = s.written;
      asked = record { later = s.asked.later; most = omega (arith, s.asked.most) };
    }
