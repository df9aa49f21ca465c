use Rattle.std.proofs.Common.{◌∙◌, ap, subst, ℕ, List, length}
use Rattle.snd_container.proofs.Public.{count_of_bytes}
use Rattle.snd_block_writer.specs.Puts.{LeavesPartly}
use Rattle.snd_frames.specs.Writing.{PutsAt}
use Rattle.snd_frames.proofs.writes.write_block.Goals as goal

pub returns-clause-puts : goal.returns-clause-puts
returns-clause-puts g c =
    subst (λ (m : ℕ). PutsAt g.D.Disk.state g.D.Disk.left_between c.args.at m c.args.disk.now c.write_bytes.new.disk)
    (ap length c.put_samples.ensures ∙ (count_of_bytes c.args.form c.args.from.now).0) c.write_bytes.ensures.puts

pub returns-clause-partly : goal.returns-clause-partly
returns-clause-partly g c =
    subst (λ (s : List ℕ). LeavesPartly g.D.Disk c.args.at s c.args.disk.now c.write_bytes.new.disk) c.put_samples.ensures c.write_bytes.ensures.partly
