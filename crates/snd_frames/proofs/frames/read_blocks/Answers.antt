use Rattle.std.proofs.Common.{◌≡◌, ◌∙◌, ap, sym, ℕ, ◌+◌, ◌*◌, ◌/◌, Bool, cond, length, arith}
use Rattle.snd_layout.specs.Blocks.{block_align, block_frames}
use Rattle.snd_edits.specs.Reading.{bytes_of_frames, bytes_to_read}
use Rattle.snd_edits.proofs.Public.{blocks_bad, blocks_good, blocks_told, count_of, fits_blocks, if_ok}
use Rattle.snd_frames.proofs.frames.read_blocks.Goals as goal

pub returns-clause-told : goal.returns-clause-told
returns-clause-told g c =
    let s = c.args.layout.now in
    let size : length c.read_cached.new.into ≡ c.args.count * s.params.channels = omega (arith, c.requires.room, c.read_cached.auto.into) in
    let all = count_of (length c.read_cached.new.into) s.params.channels c.args.count c.keeps_rules.ensures.params.some_channel size in
    if_ok c.read_cached.result c.read_cached.ensures.told (λ v has b told. blocks_told b s c.args.place c.args.count c.requires.blocks c.read_cached.new.into all (has b told))

pub returns-clause-good : goal.returns-clause-good
returns-clause-good g c =
    let s = c.args.layout.now in
    let size : length c.read_cached.new.into ≡ c.args.count * s.params.channels = omega (arith, c.requires.room, c.read_cached.auto.into) in
    let all = count_of (length c.read_cached.new.into) s.params.channels c.args.count c.keeps_rules.ensures.params.some_channel size in
    if_ok c.read_cached.result c.read_cached.ensures.told (λ v has b told. blocks_good b s c.args.place c.args.count c.requires.blocks c.read_cached.new.into all (has b told))

pub returns-clause-bad : goal.returns-clause-bad
returns-clause-bad g c = λ is b told.
    let s = c.args.layout.now in
    let all = count_of (length c.args.into.now) s.params.channels c.args.count c.keeps_rules.ensures.params.some_channel c.requires.room in
    blocks_bad b s c.args.place c.args.count c.requires.blocks (length c.args.into.now) all (c.read_cached.ensures.bad is b told)

pub returns-clause-in_range : goal.returns-clause-in_range
returns-clause-in_range g c = if_ok c.read_cached.result c.read_cached.ensures.range (λ v small. fits_blocks c.args.layout.now.params.codec c.read_cached.new.into c.requires.blocks small)

pub returns-clause-asked : goal.returns-clause-asked
returns-clause-asked g c =
    let s = c.args.layout.now in
    let p = s.params in
    let all = count_of (length c.args.into.now) p.channels c.args.count c.keeps_rules.ensures.params.some_channel c.requires.room in
    let few : (length c.args.into.now / p.channels / block_frames p.codec + 2) * block_align p.channels p.codec ≡ bytes_to_read p c.args.count =
    ap (λ (n : ℕ). (n / block_frames p.codec + 2) * block_align p.channels p.codec) all
    ∙ sym (ap (λ (t : Bool). cond t ((c.args.count / block_frames p.codec + 2) * block_align p.channels p.codec) (bytes_of_frames p c.args.count)) c.requires.blocks) in
    record { later = c.read_cached.ensures.asked.later; most = omega (arith, few, c.read_cached.ensures.asked.most) }
