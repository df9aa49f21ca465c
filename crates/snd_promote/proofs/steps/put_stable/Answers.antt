use Rattle.std.proofs.Common.{◌≡◌, ◌∙◌, [], ◌∷◌, arith}
use Rattle.snd_disk.proofs.Public.{goes_on_then, runs_join}
use Rattle.snd_disk.specs.Bytes.{over}
use Rattle.snd_disk.specs.Device.{IsStable}
use Rattle.snd_promote.proofs.Contents.{on_ok}
use Rattle.snd_promote.proofs.Faults.{broken_tells, done_mixed, done_tells}
use Rattle.snd_promote.specs.Steps.{HasPut}
use Rattle.snd_promote.proofs.steps.put_stable.Goals as goal

pub returns-in_err-put_bytes-clause-puts : goal.returns-in_err-put_bytes-clause-puts
returns-in_err-put_bytes-clause-puts g c = record {
  mixed = c.in_err-put_bytes.ensures.broken.contents;
  tells = broken_tells g.D.Disk.state c.args.at c.args.bytes.now c.args.disk.now c.put_bytes.new.disk _ c.in_err-put_bytes.ensures.broken;
  run = c.put_bytes.ensures.run;
  time = c.put_bytes.ensures.time;
  written = c.put_bytes.ensures.written;
  asked = c.put_bytes.ensures.asked;
}

pub returns-clause-puts : goal.returns-clause-puts
returns-clause-puts g c = record {
  mixed = done_mixed g.D.Disk.state c.args.at c.args.bytes.now c.args.disk.now c.put_bytes.new.disk _ c.settle.new.disk c.in_ok-put_bytes.ensures.done c.settle.ensures.same;
  tells = done_tells g.D.Disk.state c.args.at c.args.bytes.now c.args.disk.now c.put_bytes.new.disk _ c.settle.new.disk c.in_ok-put_bytes.ensures.done c.settle.ensures.same;
  run = λ b told.
      runs_join g.D.Disk.state g.D.Disk.may_leave g.D.Disk.left_between c.args.disk.now c.put_bytes.new.disk c.settle.new.disk (over b c.args.at c.args.bytes.now ∷ []) [] (c.put_bytes.ensures.run b told) c.settle.ensures.run;
  time =
      goes_on_then (g.D.Disk.state c.args.disk.now).clock (g.D.Disk.state c.put_bytes.new.disk).clock (g.D.Disk.state c.settle.new.disk).clock (g.D.Disk.left_between c.args.disk.now) (g.D.Disk.left_between c.put_bytes.new.disk)
      (g.D.Disk.left_between c.settle.new.disk) c.put_bytes.ensures.time c.settle.ensures.time;
  written = record { later = omega (arith, c.put_bytes.ensures.written.later, c.settle.ensures.written); most = omega (arith, c.put_bytes.ensures.written.most, c.settle.ensures.written) };
  asked = c.settle.ensures.asked ∙ c.put_bytes.ensures.asked;
}

pub returns-clause-put : goal.returns-clause-put
returns-clause-put g c =
    let size : (g.D.Disk.state c.settle.new.disk).size ≡ (g.D.Disk.state c.args.disk.now).size = c.settle.ensures.same.size ∙ c.in_ok-put_bytes.ensures.done.size ∙ omega (arith, c.requires) in
    on_ok c.settle.result (IsStable g.D.Disk.state g.D.Disk.may_leave c.settle.new.disk) (HasPut g.D.Disk c.args.at c.args.bytes.now c.args.disk.now c.settle.new.disk)
    (λ stable. record { contents = c.settle.ensures.same.contents ∙ c.in_ok-put_bytes.ensures.done.contents; size = size; stable = stable }) c.settle.ensures.stable
