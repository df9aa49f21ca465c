use Rattle.std.proofs.Common.{◌+◌, ◌-◌, ◌*◌, refl, arith}
use Rattle.snd_container.specs.Fixed.{byte_count, samples_bytes}
use Rattle.snd_frames.proofs.PartlyPut.{none_partly, partly_then, tells_put}
use Rattle.snd_frames.proofs.PutBlocks.{bytes_split, no_samples_written, none_put, puts_then, samples_written}
use Rattle.snd_frames.proofs.writes.write_blocks.Goals as goal

pub loop-done-init : goal.loop-done-init
loop-done-init g c = record {
  within = omega arith;
  done = no_samples_written c.args.form (g.D.Disk.state c.args.disk.now) c.args.at c.requires.there (g.met.D.Disk.size_told c.args.disk.now);
  puts = none_put g.D.Disk.state g.D.Disk.left_between c.args.disk.now c.args.at _;
  partly = none_partly g.D.Disk g.met.D.Disk.only_now c.args.at (samples_bytes c.args.form c.args.from.now) c.args.disk.now;
  calm = refl;
}

pub loop-done-preserved : goal.loop-done-preserved
loop-done-preserved g c =
    let w = byte_count c.args.form in
    let done = c.loop-done.done in
    let n = c.in_ok-done.done in
    let more = c.in_ok-done.ensures.more in record {
      within = more.1;
      done = samples_written c.args.form (g.D.Disk.state c.args.disk.now) (g.D.Disk.state c.loop-done.disk) (g.D.Disk.state c.write_next.new.disk) c.args.at c.args.from.now done n
          (omega (arith, more.0)) more.1 c.loop-done.invariant.done c.in_ok-done.ensures.done;
      puts = puts_then g.D.Disk.state g.D.Disk.left_between c.args.disk.now c.loop-done.disk c.write_next.new.disk c.args.at (w * done) (c.args.at + w * done) (w * (n - done)) (w * n)
          refl (bytes_split w done n (omega (arith, more.0))) c.loop-done.invariant.puts c.in_ok-done.ensures.puts;
      partly = partly_then g.D.Disk c.args.at (samples_bytes c.args.form c.args.from.now) c.args.disk.now c.loop-done.disk c.write_next.new.disk
          (tells_put g.D.Disk.state g.D.Disk.left_between c.args.at (w * done) c.args.disk.now c.loop-done.disk c.loop-done.invariant.puts) c.loop-done.invariant.partly c.write_next.ensures.partly;
      calm = omega (arith, c.in_ok-done.ensures.faults.ok, c.loop-done.invariant.calm);
    }

pub returns-in_err-done-clause-partly : goal.returns-in_err-done-clause-partly
returns-in_err-done-clause-partly g c =
    partly_then g.D.Disk c.args.at (samples_bytes c.args.form c.args.from.now) c.args.disk.now c.loop-done.disk c.write_next.new.disk
    (tells_put g.D.Disk.state g.D.Disk.left_between c.args.at _ c.args.disk.now c.loop-done.disk c.loop-done.invariant.puts) c.loop-done.invariant.partly c.write_next.ensures.partly
