use Rattle.std.proofs.Common.{rules, ◌≡◌, ◌*◌, ℕ, subst, List, length, take}
use Rattle.snd_container.specs.Fixed.{samples_bytes}
use Rattle.snd_block_writer.specs.Puts.{LeavesPartly}
use Rattle.snd_frames.proofs.writes.write_run.Goals as goal

pub returns-clause-partly : goal.returns-clause-partly
returns-clause-partly g c =
    let held : take (2 * length c.args.from.now) c.args.block.now ≡ samples_bytes c.args.form c.args.from.now = search rules in
    subst (λ (s : List ℕ). LeavesPartly g.D.Disk c.args.at s c.args.disk.now c.write_bytes.new.disk) held c.write_bytes.ensures.partly
