use Rattle.snd_layout.proofs.Replaced.{laid}
use Rattle.snd_layout.proofs.laying.write_whole.Goals as goal

pub returns-clause-done : goal.returns-clause-done
returns-clause-done g c =
    laid (g.D.Disk.state c.args.disk.now) (g.D.Disk.state c.empty.new.disk) (g.D.Disk.state c.fill.new.disk) c.args.bytes.now c.in_ok-empty.ensures.done c.in_ok-fill.ensures.done
