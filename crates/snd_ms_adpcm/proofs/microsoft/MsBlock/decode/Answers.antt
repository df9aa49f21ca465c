use Rattle.std.proofs.Common.{◌≡◌, ◌*◌, drop, sym, ap, ◌∙◌, length, arith, rules}
use Rattle.snd_ima_adpcm.specs.Frames.{high_half_first, firsts, seconds}
use Rattle.snd_ms_adpcm.specs.Microsoft.{ms_block, ms_numbers}
use Rattle.snd_ms_adpcm.proofs.MsCodes.{of_head}
use Rattle.snd_ima_adpcm.proofs.Public.{alternating-same, written_over}
use Rattle.snd_ms_adpcm.proofs.microsoft.MsBlock.decode.Goals as goal

pub returns-then-channels-eq1-clause-samples : goal.returns-then-channels-eq1-clause-samples
returns-then-channels-eq1-clause-samples c =
    let one : c.args.channels ≡ 1 = c.if-channels-eq1.true in
    let codes : c.split_at.result.1.now ≡ drop (7 * 1) c.args.bytes.now = c.split_at.ensures.back ∙ ap (λ k. drop (7 * k) c.args.bytes.now) (c.from.ensures ∙ one) in
    let s = c.of_head.ensures in
    let same : length c.decode_mono.new.into ≡ length c.make_room.new.into.items = search rules in
    written_over c.make_room.new.into.items c.decode_mono.new.into same ∙ c.decode_mono.ensures.samples ∙ of_head 1 0 c.args.bytes.now _ c.of_head.result s.newer s.older s.delta s.newer_by s.older_by (ap high_half_first codes) ∙ ap (λ k. ms_block k c.args.bytes.now) (sym one)

pub returns-else-channels-eq1-clause-samples : goal.returns-else-channels-eq1-clause-samples
returns-else-channels-eq1-clause-samples c =
    let two : c.args.channels ≡ 2 = omega arith in
    let codes : c.split_at.result.1.now ≡ drop (7 * 2) c.args.bytes.now = c.split_at.ensures.back ∙ ap (λ k. drop (7 * k) c.args.bytes.now) (c.from.ensures ∙ two) in
    let l = c.of_head-left.ensures in
    let r = c.of_head-right.ensures in
    let left = of_head 2 0 c.args.bytes.now _ c.of_head-left.result l.newer l.older l.delta l.newer_by l.older_by (ap (λ bytes. firsts (high_half_first bytes)) codes) in
    let right = of_head 2 1 c.args.bytes.now _ c.of_head-right.result r.newer r.older r.delta r.newer_by r.older_by (ap (λ bytes. seconds (high_half_first bytes)) codes) in
    let same : length c.decode_stereo.new.into ≡ length c.make_room-else-channels-eq1.new.into.items = search rules in
    written_over c.make_room-else-channels-eq1.new.into.items c.decode_stereo.new.into same ∙ c.decode_stereo.ensures.samples ∙ alternating-same _ _ _ _ left right ∙ ap (λ k. ms_block k c.args.bytes.now) (sym two)

pub returns-else-channels-eq1-clause-count : goal.returns-else-channels-eq1-clause-count
returns-else-channels-eq1-clause-count c =
    let two : c.args.channels ≡ 2 = omega arith in
    let same : length c.decode_stereo.new.into ≡ length c.make_room-else-channels-eq1.new.into.items = search rules in
    let room : length c.make_room-else-channels-eq1.new.into.items ≡ ms_numbers 2 (length c.args.bytes.now) = search rules in
    ap length (written_over c.make_room-else-channels-eq1.new.into.items c.decode_stereo.new.into same) ∙ same ∙ room ∙ ap (λ k. ms_numbers k (length c.args.bytes.now)) (sym two)
