use Rattle.std.proofs.Common.{◌∙◌, []}
use Rattle.snd_wave.proofs.Changed.{plain_head_laid}
use Rattle.snd_layout.proofs.Replaced.{holds_head}
use Rattle.snd_wave.specs.Written.{wave_head}
use Rattle.snd_wave.proofs.head.lay_head.Goals as goal

pub returns-in-Ok-clause-laid : goal.returns-in-Ok-clause-laid
returns-in-Ok-clause-laid g c =
    let head = c.as_slice.ensures.value ∙ c.plain_head-head.ensures in
    holds_head (g.D.Disk.state c.args.disk.now) (g.D.Disk.state c.write_whole.new.disk) c.as_slice.result.now (wave_head c.args.params []) c.in-Ok.ensures.done head

pub returns-in-Ok-clause-head : goal.returns-in-Ok-clause-head
returns-in-Ok-clause-head g c =
    plain_head_laid (g.D.Disk.state c.args.disk.now) (g.D.Disk.state c.write_whole.new.disk) c.plain_layout.result c.args.params c.are_good.ensures c.requires c.plain_layout.ensures (returns-in-Ok-clause-laid g c)
