use Rattle.std.proofs.Common.{rules, ◌≡◌, Some, sym, subst, arith}
use Rattle.snd_blocks.specs.Cache.{Caches}
use Rattle.snd_blocks.specs.declared.buffer.BlockCache.{BlockCache}
use Rattle.snd_edits.proofs.Public.{good_read}
use Rattle.snd_frames.proofs.frames.read_any.Goals as goal

pub returns-in_ok-read_from-in-None-clause-good : goal.returns-in_ok-read_from-in-None-clause-good
returns-in_ok-read_from-in-None-clause-good g c = λ b told.
    let s = c.args.layout.now in
    good_read b s c.args.place c.args.count c.read_from.new.into c.keeps_rules.ensures.params.some_channel (omega (arith, c.requires.room, c.read_from.auto.into)) (c.in_ok-read_from-in-None.ensures.told b told)

pub read_blocks-requires-clause-cached : goal.read_blocks-requires-clause-cached
read_blocks-requires-clause-cached g c =
    let is : c.args.cache.now ≡ Some c.in-Some.cache = search rules in
    subst (λ (cache : BlockCache). Caches g.D.Disk.state c.args.disk.now c.args.layout.now cache) (sym c.deref_mut.ensures.value) (c.requires.cached c.in-Some.cache is)
