use Rattle.std.proofs.Common.{◌≡◌, ◌∙◌, length}
use Rattle.snd_voc.proofs.Parting.{more_is}
use Rattle.snd_voc.proofs.layout.goes_on.Goals as goal

pub returns-clause-told : goal.returns-clause-told
returns-clause-told g c = λ b told.
    let size : c.args.size ≡ length b = c.requires.size ∙ g.met.D.Disk.size_told c.args.disk.now b told in
    more_is b c.read_from.new.into c.args.place c.args.size (c.in_ok-read_from.ensures.told b told) size c.if-place-size.false
