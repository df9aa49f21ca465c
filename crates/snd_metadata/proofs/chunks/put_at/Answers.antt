use Rattle.std.proofs.Common.{rules, ◌<◌, length}
use Rattle.snd_metadata.proofs.Lists.{put_split}
use Rattle.snd_metadata.proofs.chunks.put_at.Goals as goal

pub returns-then-at-len-clause-put : goal.returns-then-at-len-clause-put
returns-then-at-len-clause-put c =
    let within : c.args.at < length c.args.plan.now.items = search rules in
    put_split c.args.at c.args.chunk c.args.plan.now.items within
