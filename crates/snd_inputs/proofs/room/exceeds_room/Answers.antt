use Rattle.std.proofs.Common.{rules, ◌≡◌, ap, ℕ, ◌/◌}
use Rattle.std.proofs.lemmas.Bool.{le-ltb, lt-ltb}
use Rattle.snd_inputs.proofs.Rooms.{exceeds_by_count, exceeds_room, full_by, some_block}
use Rattle.snd_layout.specs.Blocks.{block_align, block_frames}
use Rattle.snd_layout.specs.Params.{AreParams}
use Rattle.snd_inputs.specs.Rooms.{is_past_count}
use Rattle.snd_inputs.proofs.room.exceeds_room.Goals as goal

pub returns-then-full : goal.returns-then-full
returns-then-full c =
    let p = c.args.params in
    let per : c.from.result ≡ block_frames p.codec = search rules in
    let align : c.from-3.result ≡ block_align p.channels p.codec = search rules in
    let most : c.from-2.result / c.from-3.result ≡ c.args.room / c.from-3.result = ap (λ (m : ℕ). m / c.from-3.result) c.from-2.ensures in
    let good : AreParams p = search rules in
    let full = full_by p c.args.room c.args.frames c.from.result c.from-3.result c.div_ceil-blocks.result (c.from-2.result / c.from-3.result) (some_block c.args.kind p good c.requires) per align c.div_ceil-blocks.ensures most in
    exceeds_room c.args.kind p c.args.room c.args.frames _ full (lt-ltb _ _ c.if-full.true)

pub returns-else-full : goal.returns-else-full
returns-else-full c =
    let p = c.args.params in
    let per : c.from.result ≡ block_frames p.codec = search rules in
    let align : c.from-3.result ≡ block_align p.channels p.codec = search rules in
    let most : c.from-2.result / c.from-3.result ≡ c.args.room / c.from-3.result = ap (λ (m : ℕ). m / c.from-3.result) c.from-2.ensures in
    let good : AreParams p = search rules in
    let full = full_by p c.args.room c.args.frames c.from.result c.from-3.result c.div_ceil-blocks.result (c.from-2.result / c.from-3.result) (some_block c.args.kind p good c.requires) per align c.div_ceil-blocks.ensures most in
    let past : c.is_past_count.result ≡ is_past_count c.args.kind p.codec c.args.frames = search rules in
    exceeds_by_count c.args.kind p c.args.room c.args.frames _ full (le-ltb _ _ c.if-full.false) c.is_past_count.result past
