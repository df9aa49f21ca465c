use Rattle.std.proofs.Common.{rules, subst, List, ℕ, ◌<◌}
use Rattle.std.proofs.lemmas.Bool.{lt-ltb}
use Rattle.snd_container.specs.Values.{closing}
use Rattle.snd_layout.specs.Shape.{end}
use Rattle.snd_block_writer.specs.Puts.{LeavesPartly}
use Rattle.snd_frames.proofs.FramesPut.{closing_is}
use Rattle.snd_frames.proofs.PartlyPut.{puts_partly}
use Rattle.snd_frames.proofs.updates.close_behind.Goals as goal

pub returns-in_err-put_closing-clause-partly : goal.returns-in_err-put_closing-clause-partly
returns-in_err-put_closing-clause-partly g c =
    let h = c.args.layout.now in
    let more : h.frames < c.args.to = search rules in
    subst (λ (s : List ℕ). LeavesPartly g.D.Disk (end h c.args.to) s c.args.disk.now c.put_closing.new.disk) (closing_is h c.args.to (lt-ltb h.frames c.args.to more))
    (puts_partly g.D.Disk g.met.D.Disk.is_left c.args.disk.now c.put_closing.new.disk (end h c.args.to) (closing h c.args.to) c.put_closing.ensures.run)

pub returns-clause-partly : goal.returns-clause-partly
returns-clause-partly g c =
    let h = c.args.layout.now in
    let more : h.frames < c.args.to = search rules in
    subst (λ (s : List ℕ). LeavesPartly g.D.Disk (end h c.args.to) s c.args.disk.now c.put_closing.new.disk) (closing_is h c.args.to (lt-ltb h.frames c.args.to more))
    (puts_partly g.D.Disk g.met.D.Disk.is_left c.args.disk.now c.put_closing.new.disk (end h c.args.to) (closing h c.args.to) c.put_closing.ensures.run)
