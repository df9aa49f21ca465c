use Rattle.std.proofs.Common.{rules}
use Rattle.snd_rules.specs.Rules.{seek_read_rule}
use Rattle.snd_lines.specs.declared.refusal.Refusal.TheVariants.{SeekRange}
use Rattle.snd_session.proofs.Followed.{refused_on}
use Rattle.snd_session.proofs.carry.seek_read.Goals as goal

pub returns-in-Err : goal.returns-in-Err
returns-in-Err g c =
    let said = rw c.seek_refusal.ensures at c.refuse.ensures.said in
    refused_on g.D.Disk g.O.Sink (seek_read_rule c.args.to) c.refuse.result c.args.file.now c.args.out.now c.seek_read.new.self c.refuse.new.out SeekRange
    c.seek_read.ensures.loan (search rules) c.refuse.ensures.sent said (search rules) c.in-Err.ensures.stands c.seek_read.ensures.same_disk
