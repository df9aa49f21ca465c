use Rattle.std.proofs.Common.{◌≡◌, ◌+◌, ◌-◌, pos, drop, get_or, arith, rules, ap}
use Rattle.std.proofs.lemmas.List.{drop_more}
use Rattle.snd_ms_adpcm.specs.Microsoft.{ms_error_sum, ms_error}
use Rattle.snd_ms_adpcm.proofs.microsoft_writer.error_sum_of.Goals as goal

pub loop-n-preserved : goal.loop-n-preserved
loop-n-preserved c =
    let n = c.loop-n.n in
    let samples = c.args.samples.now in
    let x = get_or samples n (pos 0) in
    let newer = get_or samples (n - 1) (pos 0) in
    let older = get_or samples (n - 2) (pos 0) in
    let more : ms_error_sum c.args.number newer older (drop n samples) ≡ ms_error c.args.number newer older x + ms_error_sum c.args.number x newer (drop (n + 1) samples) =
    ap (ms_error_sum c.args.number newer older) (drop_more samples n (pos 0) (omega arith)) in
    let error : c.error_of-sum.result ≡ ms_error c.args.number newer older x = search rules in
    let one : n + 1 - 1 ≡ n = omega arith in
    let two : n + 1 - 2 ≡ n - 1 = omega arith in
    record { so_far = rw (one, two) (omega (arith, more, error, c.loop-n.invariant.so_far)); small = omega arith }
