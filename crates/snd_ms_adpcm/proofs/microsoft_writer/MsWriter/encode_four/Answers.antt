use Rattle.std.proofs.Common.{◌≡◌, ◌∙◌, ap, ◌+◌, ◌*◌, ◌/◌, length, arith, rules}
use Rattle.snd_ms_adpcm.proofs.LaneCodes.{coded_begins, four_blocks, four_put, four_sizes, first_lane, second_lane, third_lane, fourth_lane, fifth_lane, sixth_lane, seventh_lane, eighth_lane}
use Rattle.snd_ms_adpcm.proofs.microsoft_writer.MsWriter.encode_four.Goals as goal

pub encode_beside-requires-clause-one : goal.encode_beside-requires-clause-one
encode_beside-requires-clause-one c =
    let ha = c.begin-a.result in
    let hb = c.begin-b.result in
    let hc = c.begin-c.result in
    let hd = c.begin-d.result in
    let l = c.of-lanes in
    coded_begins c.split_at.result.0.now l.result 0 1 ha.left ha.right c.begin-a.new.into
    (first_lane l.result ha.left ha.right hb.left hb.right hc.left hc.right hd.left hd.right l.ensures.newer_by l.ensures.older_by l.ensures.newer l.ensures.older l.ensures.delta)
    (second_lane l.result ha.left ha.right hb.left hb.right hc.left hc.right hd.left hd.right l.ensures.newer_by l.ensures.older_by l.ensures.newer l.ensures.older l.ensures.delta)
    c.begin-a.ensures.begun c.begin-a.ensures.room

pub encode_beside-requires-clause-two : goal.encode_beside-requires-clause-two
encode_beside-requires-clause-two c =
    let ha = c.begin-a.result in
    let hb = c.begin-b.result in
    let hc = c.begin-c.result in
    let hd = c.begin-d.result in
    let l = c.of-lanes in
    coded_begins c.split_at-2.result.0.now l.result 2 3 hb.left hb.right c.begin-b.new.into
    (third_lane l.result ha.left ha.right hb.left hb.right hc.left hc.right hd.left hd.right l.ensures.newer_by l.ensures.older_by l.ensures.newer l.ensures.older l.ensures.delta)
    (fourth_lane l.result ha.left ha.right hb.left hb.right hc.left hc.right hd.left hd.right l.ensures.newer_by l.ensures.older_by l.ensures.newer l.ensures.older l.ensures.delta)
    c.begin-b.ensures.begun c.begin-b.ensures.room

pub encode_beside-requires-clause-three : goal.encode_beside-requires-clause-three
encode_beside-requires-clause-three c =
    let ha = c.begin-a.result in
    let hb = c.begin-b.result in
    let hc = c.begin-c.result in
    let hd = c.begin-d.result in
    let l = c.of-lanes in
    coded_begins c.split_at-3.result.0.now l.result 4 5 hc.left hc.right c.begin-c.new.into
    (fifth_lane l.result ha.left ha.right hb.left hb.right hc.left hc.right hd.left hd.right l.ensures.newer_by l.ensures.older_by l.ensures.newer l.ensures.older l.ensures.delta)
    (sixth_lane l.result ha.left ha.right hb.left hb.right hc.left hc.right hd.left hd.right l.ensures.newer_by l.ensures.older_by l.ensures.newer l.ensures.older l.ensures.delta)
    c.begin-c.ensures.begun c.begin-c.ensures.room

pub encode_beside-requires-clause-four : goal.encode_beside-requires-clause-four
encode_beside-requires-clause-four c =
    let ha = c.begin-a.result in
    let hb = c.begin-b.result in
    let hc = c.begin-c.result in
    let hd = c.begin-d.result in
    let l = c.of-lanes in
    coded_begins c.split_at-3.result.1.now l.result 6 7 hd.left hd.right c.begin-d.new.into
    (seventh_lane l.result ha.left ha.right hb.left hb.right hc.left hc.right hd.left hd.right l.ensures.newer_by l.ensures.older_by l.ensures.newer l.ensures.older l.ensures.delta)
    (eighth_lane l.result ha.left ha.right hb.left hb.right hc.left hc.right hd.left hd.right l.ensures.newer_by l.ensures.older_by l.ensures.newer l.ensures.older l.ensures.delta)
    c.begin-d.ensures.begun c.begin-d.ensures.room

pub returns : goal.returns
returns c =
    let n = length c.args.samples.now / 4 in
    let p = c.split_at.ensures in
    let q = c.split_at-2.ensures in
    let r = c.split_at-3.ensures in
    let e = c.encode_beside in
    let all : length c.args.samples.now ≡ 4 * n = omega (arith, c.requires.parts) in
    let sizes = four_sizes n c.args.samples.now _ _ _ _ _ _ all p.front p.back q.front q.back r.front r.back in
    let room : length c.make_byte_room.new.into.items ≡ 4 * (n / 2 + 12) = search rules in
    let one : length e.new.one ≡ length c.begin-a.new.into = search rules in
    let two : length e.new.two ≡ length c.begin-b.new.into = search rules in
    let three : length e.new.three ≡ length c.begin-c.new.into = search rules in
    let four : length e.new.four ≡ length c.begin-d.new.into = search rules in
    four_put c.make_byte_room.new.into.items e.new.one e.new.two e.new.three e.new.four _ _ _ _ (n / 2 + 12) room
    (one ∙ c.begin-a.ensures.room ∙ ap (λ k. k / 2 + 12) sizes.0) (two ∙ c.begin-b.ensures.room ∙ ap (λ k. k / 2 + 12) sizes.1)
    (three ∙ c.begin-c.ensures.room ∙ ap (λ k. k / 2 + 12) sizes.2) (four ∙ c.begin-d.ensures.room ∙ ap (λ k. k / 2 + 12) sizes.3)
    e.ensures.one e.ensures.two e.ensures.three e.ensures.four
    ∙ four_blocks n c.args.samples.now _ _ _ _ _ _ all p.front p.back q.front q.back r.front r.back
