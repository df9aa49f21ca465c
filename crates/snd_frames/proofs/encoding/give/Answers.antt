use Rattle.std.proofs.Common.{rules, ◌≡◌, ◌∙◌, ap, sym, subst, refl, ℕ, ◌≤◌, Bool, true, false, cond, List, ◌++◌, Some, option_map, length, arith}
use Rattle.snd_disk.specs.Bytes.{over}
use Rattle.snd_container.specs.Values.{closed_end}
use Rattle.snd_layout.specs.Blocks.{block_frames}
use Rattle.snd_layout.specs.Container.{HasRoomFor}
use Rattle.snd_layout.specs.Shape.{Shape, end}
use Rattle.snd_block_writer.specs.Coded.{coded, whole}
use Rattle.snd_block_writer.proofs.Public.{puts_as}
use Rattle.snd_block_writer.specs.Writing.{next_place}
use Rattle.snd_patch.proofs.Public.{updates_more, updates_then}
use Rattle.snd_patch.specs.Images.{LeavesSealing}
use Rattle.snd_patch.specs.Sealed.{counted, sealed}
use Rattle.snd_patch.specs.Steps.{MayCount, Updates}
use Rattle.snd_edits.specs.Edits.{sealed_where}
use Rattle.snd_edits.specs.Encoding.{counting_whole, most_encoded, over_blocks, whole_frames}
use Rattle.snd_edits.specs.Pacing.{KeepsPace}
use Rattle.snd_frames.proofs.BlocksUnderWay.{given_partly, given_sealing}
use Rattle.snd_edits.proofs.Public.{are_16_bits, blocks_of, data_more, may_encode, sealed_closed, whole_least}
use Rattle.snd_frames.proofs.Giving.{counted_whole, ends_whole, ends_within, is_there, most_written, paces_on, puts_behind, whole_more}
use Rattle.snd_frames.proofs.Written.{updates_before}
use Rattle.snd_frames.proofs.encoding.give.Goals as goal

pub write-requires-clause-range : goal.write-requires-clause-range
write-requires-clause-range g c = are_16_bits c.args.layout.now.params.codec c.args.from.now c.requires.fits.blocks c.requires.in_range

pub write-requires-clause-there : goal.write-requires-clause-there
write-requires-clause-there g c =
    let h = c.args.layout.now in
    let form = blocks_of h c.keeps_rules.ensures.rule c.requires.fits.blocks c.keeps_rules.ensures.params in
    let start : c.layout.inside.start ≡ h.start = search rules in
    omega (arith, start, is_there h form c.args.writer.now c.args.to c.args.from.now c.requires.whole c.requires.more c.requires.pace, c.requires.held)

pub write-requires-clause-fits : goal.write-requires-clause-fits
write-requires-clause-fits g c =
    let h = c.args.layout.now in
    let form = blocks_of h c.keeps_rules.ensures.rule c.requires.fits.blocks c.keeps_rules.ensures.params in
    let may = may_encode h c.args.to c.args.to form.some_frames c.requires.fits c.requires.room_ends (omega arith) in
    let start : c.layout.inside.start ≡ h.start = search rules in
    omega (arith, start, may.1, ends_within h form c.args.writer.now c.args.to c.args.from.now c.requires.whole c.requires.more c.requires.pace)

pub returns-in_err-write-clause-updates : goal.returns-in_err-write-clause-updates
returns-in_err-write-clause-updates g c =
    let h = c.args.layout.now in
    let form = blocks_of h c.keeps_rules.ensures.rule c.requires.fits.blocks c.keeps_rules.ensures.params in
    let w = c.args.writer.now in
    let xs = c.args.from.now in
    let most = most_written h form w c.args.to xs c.requires.whole c.requires.more c.requires.pace in
    let start : c.layout.inside.start ≡ h.start = search rules in
    let place : next_place c.layout.inside.start w ≡ end h h.frames = omega (arith, start, is_there h form w c.args.to xs c.requires.whole c.requires.more c.requires.pace) in
    updates_more g.D.Disk.state g.D.Disk.left_between h h.frames c.args.disk.now c.write.new.disk _ (most_encoded c.args.automatic h (length xs)) (omega (arith, most))
    (puts_behind g.D.Disk h h.frames _ (next_place c.layout.inside.start w) _ c.args.disk.now c.write.new.disk place c.write.ensures.puts c.write.ensures.written)

pub count-requires-clause-room : goal.count-requires-clause-room
count-requires-clause-room g c =
    let h = c.args.layout.now in
    let form = blocks_of h c.keeps_rules.ensures.rule c.requires.fits.blocks c.keeps_rules.ensures.params in
    (may_encode h c.args.to _ form.some_frames c.requires.fits c.requires.room_ends (omega arith)).0

pub count-requires-clause-on_disk : goal.count-requires-clause-on_disk
count-requires-clause-on_disk g c =
    let h = c.args.layout.now in
    let form = blocks_of h c.keeps_rules.ensures.rule c.requires.fits.blocks c.keeps_rules.ensures.params in
    (may_encode h c.args.to _ form.some_frames c.requires.fits c.requires.room_ends (omega arith)).1

pub returns-then-not-automatic-clause-pace : goal.returns-then-not-automatic-clause-pace
returns-then-not-automatic-clause-pace g c =
    let h = c.args.layout.now in
    let form = blocks_of h c.keeps_rules.ensures.rule c.requires.fits.blocks c.keeps_rules.ensures.params in
    let w = c.args.writer.now in
    let xs = c.args.from.now in
    let to = c.args.to in
    let start : c.layout.inside.start ≡ h.start = search rules in
    let per : c.from.result ≡ block_frames h.params.codec = search rules in
    let laid : c.count.new.layout ≡ counting_whole h to = c.count.ensures ∙ ap (λ (n : ℕ). record h { frames = n }) (counted_whole h.params to c.from.result per) in
    let paces : KeepsPace (counting_whole h to) to c.write.new.self = subst (KeepsPace (counting_whole h to) to) (sym c.in_ok-write.ensures.takes) (paces_on h form w to xs c.requires.whole c.requires.more c.requires.pace) in
    subst (λ (l : Shape). KeepsPace l to c.write.new.self) (sym laid) paces

pub returns-then-not-automatic-clause-contents : goal.returns-then-not-automatic-clause-contents
returns-then-not-automatic-clause-contents g c = λ ys b stands told.
    let h = c.args.layout.now in
    let form = blocks_of h c.keeps_rules.ensures.rule c.requires.fits.blocks c.keeps_rules.ensures.params in
    let w = c.args.writer.now in
    let xs = c.args.from.now in
    let to = c.args.to in
    let start : c.layout.inside.start ≡ h.start = search rules in
    let per : c.from.result ≡ block_frames h.params.codec = search rules in
    let laid : c.count.new.layout ≡ counting_whole h to = c.count.ensures ∙ ap (λ (n : ℕ). record h { frames = n }) (counted_whole h.params to c.from.result per) in
    let before = subst (λ (n : ℕ). (g.D.Disk.state c.args.disk.now).contents ≡ Some (over b n (coded h.params (whole h.params ys)))) (sym start) told in
    let got : (g.D.Disk.state c.write.new.disk).contents ≡ Some (over_blocks b h (whole h.params (ys ++ xs))) =
    subst (λ (n : ℕ). (g.D.Disk.state c.write.new.disk).contents ≡ Some (over b n (coded h.params (whole h.params (ys ++ xs))))) start (c.in_ok-write.ensures.holds h.params ys b stands before) in
    let by_hand : c.args.automatic ≡ false = search rules in
    subst (λ (t : Bool). (g.D.Disk.state c.write.new.disk).contents ≡ Some (sealed_where t (over_blocks b h (whole h.params (ys ++ xs))) (counting_whole h to) (whole_frames h.params to))) (sym by_hand) got

pub returns-then-not-automatic-clause-held : goal.returns-then-not-automatic-clause-held
returns-then-not-automatic-clause-held g c =
    let h = c.args.layout.now in
    let form = blocks_of h c.keeps_rules.ensures.rule c.requires.fits.blocks c.keeps_rules.ensures.params in
    let w = c.args.writer.now in
    let xs = c.args.from.now in
    let to = c.args.to in
    let start : c.layout.inside.start ≡ h.start = search rules in
    let per : c.from.result ≡ block_frames h.params.codec = search rules in
    let laid : c.count.new.layout ≡ counting_whole h to = c.count.ensures ∙ ap (λ (n : ℕ). record h { frames = n }) (counted_whole h.params to c.from.result per) in
    let reach : end h (whole_frames h.params to) ≤ (g.D.Disk.state c.write.new.disk).size =
    omega (arith, start, c.write.ensures.there, ap (next_place h.start) c.in_ok-write.ensures.takes, ends_whole h form w to xs c.requires.whole c.requires.more c.requires.pace) in
    subst (λ (l : Shape). end l l.frames ≤ (g.D.Disk.state c.write.new.disk).size) (sym laid) reach

pub returns-then-not-automatic-clause-updates : goal.returns-then-not-automatic-clause-updates
returns-then-not-automatic-clause-updates g c =
    let h = c.args.layout.now in
    let form = blocks_of h c.keeps_rules.ensures.rule c.requires.fits.blocks c.keeps_rules.ensures.params in
    let w = c.args.writer.now in
    let xs = c.args.from.now in
    let to = c.args.to in
    let start : c.layout.inside.start ≡ h.start = search rules in
    let per : c.from.result ≡ block_frames h.params.codec = search rules in
    let laid : c.count.new.layout ≡ counting_whole h to = c.count.ensures ∙ ap (λ (n : ℕ). record h { frames = n }) (counted_whole h.params to c.from.result per) in
    let place : next_place c.layout.inside.start w ≡ end h h.frames = omega (arith, start, is_there h form w to xs c.requires.whole c.requires.more c.requires.pace) in
    let put = puts_behind g.D.Disk h h.frames _ (next_place c.layout.inside.start w) _ c.args.disk.now c.write.new.disk place c.write.ensures.puts c.write.ensures.written in
    let most = most_written h form w to xs c.requires.whole c.requires.more c.requires.pace in
    updates_more g.D.Disk.state g.D.Disk.left_between h h.frames c.args.disk.now c.write.new.disk _ (most_encoded c.args.automatic h (length xs)) (omega (arith, most)) put

pub seal-requires : goal.seal-requires
seal-requires g c =
    let h = c.args.layout.now in
    let form = blocks_of h c.keeps_rules.ensures.rule c.requires.fits.blocks c.keeps_rules.ensures.params in
    let w = c.args.writer.now in
    let xs = c.args.from.now in
    let to = c.args.to in
    let start : c.layout.inside.start ≡ h.start = search rules in
    let per : c.from.result ≡ block_frames h.params.codec = search rules in
    let laid : c.count.new.layout ≡ counting_whole h to = c.count.ensures ∙ ap (λ (n : ℕ). record h { frames = n }) (counted_whole h.params to c.from.result per) in
    let reach : end h (whole_frames h.params to) ≤ (g.D.Disk.state c.write.new.disk).size =
    omega (arith, start, c.write.ensures.there, ap (next_place h.start) c.in_ok-write.ensures.takes, ends_whole h form w to xs c.requires.whole c.requires.more c.requires.pace) in
    let may = may_encode h to (whole_frames h.params to) form.some_frames c.requires.fits c.requires.room_ends (whole_least h form to) in
    record { counts = subst (λ (l : Shape). MayCount l l.frames (g.D.Disk.state c.write.new.disk).size) (sym laid) (record { room = record { in_room = may.0.in_room; on_disk = may.0.on_disk; counted = may.0.counted }; on_disk = may.1; there = reach }) }

pub count-requires-in-Err-clause-room : goal.count-requires-in-Err-clause-room
count-requires-in-Err-clause-room g c =
    let h = c.args.layout.now in
    let form = blocks_of h c.keeps_rules.ensures.rule c.requires.fits.blocks c.keeps_rules.ensures.params in
    let w = c.args.writer.now in
    let xs = c.args.from.now in
    let to = c.args.to in
    let start : c.layout.inside.start ≡ h.start = search rules in
    let per : c.from.result ≡ block_frames h.params.codec = search rules in
    let laid : c.count.new.layout ≡ counting_whole h to = c.count.ensures ∙ ap (λ (n : ℕ). record h { frames = n }) (counted_whole h.params to c.from.result per) in
    let before : c.layout.inside.frames ≡ h.frames = search rules in
    let within : h.frames ≤ to = omega (arith, whole_more h form w to xs c.requires.whole c.requires.more c.requires.pace, whole_least h form to) in
    let may = may_encode h to h.frames form.some_frames c.requires.fits c.requires.room_ends within in
    subst (λ (n : ℕ). HasRoomFor c.seal.new.layout n) (sym before) (subst (λ (l : Shape). HasRoomFor l h.frames) (sym (c.in-Err.ensures.kept ∙ laid)) (record { in_room = may.0.in_room; on_disk = may.0.on_disk; counted = may.0.counted }))

pub returns-in-Ok-clause-pace : goal.returns-in-Ok-clause-pace
returns-in-Ok-clause-pace g c =
    let h = c.args.layout.now in
    let form = blocks_of h c.keeps_rules.ensures.rule c.requires.fits.blocks c.keeps_rules.ensures.params in
    let w = c.args.writer.now in
    let xs = c.args.from.now in
    let to = c.args.to in
    let start : c.layout.inside.start ≡ h.start = search rules in
    let per : c.from.result ≡ block_frames h.params.codec = search rules in
    let laid : c.count.new.layout ≡ counting_whole h to = c.count.ensures ∙ ap (λ (n : ℕ). record h { frames = n }) (counted_whole h.params to c.from.result per) in
    let paces : KeepsPace (counting_whole h to) to c.write.new.self = subst (KeepsPace (counting_whole h to) to) (sym c.in_ok-write.ensures.takes) (paces_on h form w to xs c.requires.whole c.requires.more c.requires.pace) in
    subst (λ (l : Shape). KeepsPace l to c.write.new.self) (sym (c.in-Ok.ensures.layout ∙ ap (λ (l : Shape). counted l l.frames) laid))
    (record { numbers = paces.numbers; size = paces.size; blocks = paces.blocks; waiting = paces.waiting })

pub returns-in-Ok-clause-contents : goal.returns-in-Ok-clause-contents
returns-in-Ok-clause-contents g c = λ ys b stands told.
    let h = c.args.layout.now in
    let form = blocks_of h c.keeps_rules.ensures.rule c.requires.fits.blocks c.keeps_rules.ensures.params in
    let w = c.args.writer.now in
    let xs = c.args.from.now in
    let to = c.args.to in
    let start : c.layout.inside.start ≡ h.start = search rules in
    let per : c.from.result ≡ block_frames h.params.codec = search rules in
    let laid : c.count.new.layout ≡ counting_whole h to = c.count.ensures ∙ ap (λ (n : ℕ). record h { frames = n }) (counted_whole h.params to c.from.result per) in
    let before = subst (λ (n : ℕ). (g.D.Disk.state c.args.disk.now).contents ≡ Some (over b n (coded h.params (whole h.params ys)))) (sym start) told in
    let got : (g.D.Disk.state c.write.new.disk).contents ≡ Some (over_blocks b h (whole h.params (ys ++ xs))) =
    subst (λ (n : ℕ). (g.D.Disk.state c.write.new.disk).contents ≡ Some (over b n (coded h.params (whole h.params (ys ++ xs))))) start (c.in_ok-write.ensures.holds h.params ys b stands before) in
    let automatic : c.args.automatic ≡ true = search rules in
    let sealing : (g.D.Disk.state c.seal.new.disk).contents ≡ Some (sealed (over_blocks b h (whole h.params (ys ++ xs))) (counting_whole h to) (whole_frames h.params to)) =
    c.in-Ok.ensures.contents
    ∙ ap (option_map (λ (l : List ℕ). sealed l c.count.new.layout c.count.new.layout.frames)) got
    ∙ ap (λ (l : Shape). Some (sealed (over_blocks b h (whole h.params (ys ++ xs))) l l.frames)) laid in
    subst (λ (t : Bool). (g.D.Disk.state c.seal.new.disk).contents ≡ Some (sealed_where t (over_blocks b h (whole h.params (ys ++ xs))) (counting_whole h to) (whole_frames h.params to))) (sym automatic) sealing

pub returns-in-Ok-clause-closed : goal.returns-in-Ok-clause-closed
returns-in-Ok-clause-closed g c = λ automatic.
    let h = c.args.layout.now in
    let form = blocks_of h c.keeps_rules.ensures.rule c.requires.fits.blocks c.keeps_rules.ensures.params in
    let w = c.args.writer.now in
    let xs = c.args.from.now in
    let to = c.args.to in
    let start : c.layout.inside.start ≡ h.start = search rules in
    let per : c.from.result ≡ block_frames h.params.codec = search rules in
    let laid : c.count.new.layout ≡ counting_whole h to = c.count.ensures ∙ ap (λ (n : ℕ). record h { frames = n }) (counted_whole h.params to c.from.result per) in
    let free : c.count.new.layout.trailing ≡ false = ap (λ (l : Shape). l.trailing) laid ∙ c.requires.fits.free in
    subst (λ (l : Shape). closed_end l l.frames ≤ (g.D.Disk.state c.seal.new.disk).size) (sym c.in-Ok.ensures.layout)
    (sealed_closed _ c.count.new.layout c.count.new.layout.frames _ c.in-Ok.ensures.size free)

pub returns-in-Ok-clause-updates : goal.returns-in-Ok-clause-updates
returns-in-Ok-clause-updates g c =
    let h = c.args.layout.now in
    let form = blocks_of h c.keeps_rules.ensures.rule c.requires.fits.blocks c.keeps_rules.ensures.params in
    let w = c.args.writer.now in
    let xs = c.args.from.now in
    let to = c.args.to in
    let start : c.layout.inside.start ≡ h.start = search rules in
    let per : c.from.result ≡ block_frames h.params.codec = search rules in
    let laid : c.count.new.layout ≡ counting_whole h to = c.count.ensures ∙ ap (λ (n : ℕ). record h { frames = n }) (counted_whole h.params to c.from.result per) in
    let place : next_place c.layout.inside.start w ≡ end h h.frames = omega (arith, start, is_there h form w to xs c.requires.whole c.requires.more c.requires.pace) in
    let put = puts_behind g.D.Disk h h.frames _ (next_place c.layout.inside.start w) _ c.args.disk.now c.write.new.disk place c.write.ensures.puts c.write.ensures.written in
    let most = most_written h form w to xs c.requires.whole c.requires.more c.requires.pace in
    let sealed_so : Updates g.D.Disk.state g.D.Disk.left_between (counting_whole h to) (whole_frames h.params to) 64 c.write.new.disk c.seal.new.disk =
    subst (λ (l : Shape). Updates g.D.Disk.state g.D.Disk.left_between l l.frames 64 c.write.new.disk c.seal.new.disk) laid
    (record { beside = c.seal.ensures.beside; tells = c.seal.ensures.tells; time = c.seal.ensures.time; written = c.seal.ensures.written; asked = c.seal.ensures.asked }) in
    let sealing : Updates g.D.Disk.state g.D.Disk.left_between h (whole_frames h.params to) 64 c.write.new.disk c.seal.new.disk =
    record { beside = sealed_so.beside; tells = sealed_so.tells; time = sealed_so.time; written = sealed_so.written; asked = sealed_so.asked } in
    let automatic : c.args.automatic ≡ true = search rules in
    let more : end h h.frames ≤ end h (whole_frames h.params to) = omega (arith, data_more h.params h.frames (whole_frames h.params to) form.some_frames (whole_more h form w to xs c.requires.whole c.requires.more c.requires.pace)) in
    let behind = updates_before g.D.Disk.state g.D.Disk.left_between h h.frames (whole_frames h.params to) 64 c.write.new.disk c.seal.new.disk more sealing in
    updates_then g.D.Disk.state g.D.Disk.left_between h h.frames c.args.disk.now c.write.new.disk c.seal.new.disk _ 64 (most_encoded c.args.automatic h (length xs))
    (omega (arith, most, ap {B = ℕ} (λ (t : Bool). cond t 64 0) automatic)) put behind

pub returns-in-Err-clause-updates : goal.returns-in-Err-clause-updates
returns-in-Err-clause-updates g c =
    let h = c.args.layout.now in
    let form = blocks_of h c.keeps_rules.ensures.rule c.requires.fits.blocks c.keeps_rules.ensures.params in
    let w = c.args.writer.now in
    let xs = c.args.from.now in
    let to = c.args.to in
    let start : c.layout.inside.start ≡ h.start = search rules in
    let per : c.from.result ≡ block_frames h.params.codec = search rules in
    let laid : c.count.new.layout ≡ counting_whole h to = c.count.ensures ∙ ap (λ (n : ℕ). record h { frames = n }) (counted_whole h.params to c.from.result per) in
    let place : next_place c.layout.inside.start w ≡ end h h.frames = omega (arith, start, is_there h form w to xs c.requires.whole c.requires.more c.requires.pace) in
    let put = puts_behind g.D.Disk h h.frames _ (next_place c.layout.inside.start w) _ c.args.disk.now c.write.new.disk place c.write.ensures.puts c.write.ensures.written in
    let most = most_written h form w to xs c.requires.whole c.requires.more c.requires.pace in
    let sealed_so : Updates g.D.Disk.state g.D.Disk.left_between (counting_whole h to) (whole_frames h.params to) 64 c.write.new.disk c.seal.new.disk =
    subst (λ (l : Shape). Updates g.D.Disk.state g.D.Disk.left_between l l.frames 64 c.write.new.disk c.seal.new.disk) laid
    (record { beside = c.seal.ensures.beside; tells = c.seal.ensures.tells; time = c.seal.ensures.time; written = c.seal.ensures.written; asked = c.seal.ensures.asked }) in
    let sealing : Updates g.D.Disk.state g.D.Disk.left_between h (whole_frames h.params to) 64 c.write.new.disk c.seal.new.disk =
    record { beside = sealed_so.beside; tells = sealed_so.tells; time = sealed_so.time; written = sealed_so.written; asked = sealed_so.asked } in
    let automatic : c.args.automatic ≡ true = search rules in
    let more : end h h.frames ≤ end h (whole_frames h.params to) = omega (arith, data_more h.params h.frames (whole_frames h.params to) form.some_frames (whole_more h form w to xs c.requires.whole c.requires.more c.requires.pace)) in
    let behind = updates_before g.D.Disk.state g.D.Disk.left_between h h.frames (whole_frames h.params to) 64 c.write.new.disk c.seal.new.disk more sealing in
    updates_then g.D.Disk.state g.D.Disk.left_between h h.frames c.args.disk.now c.write.new.disk c.seal.new.disk _ 64 (most_encoded c.args.automatic h (length xs))
    (omega (arith, most, ap {B = ℕ} (λ (t : Bool). cond t 64 0) automatic)) put behind

pub returns-in_err-write-clause-leaves : goal.returns-in_err-write-clause-leaves
returns-in_err-write-clause-leaves g c = λ automatic apart ys b stands again told stable.
    let h = c.args.layout.now in
    let form = blocks_of h c.keeps_rules.ensures.rule c.requires.fits.blocks c.keeps_rules.ensures.params in
    let start : c.layout.inside.start ≡ h.start = search rules in
    given_partly g.D.Disk h form c.args.writer.now c.args.to c.args.from.now c.requires.whole c.requires.more c.requires.pace ys stands b c.args.disk.now c.write.new.disk told stable
    (puts_as g.D.Disk c.args.disk.now c.write.new.disk _ _ _ _ (ap (λ (m : ℕ). next_place m c.args.writer.now) start) refl c.write.ensures.puts)

pub returns-in-Ok-clause-leaves : goal.returns-in-Ok-clause-leaves
returns-in-Ok-clause-leaves g c = λ automatic apart ys b stands again told stable.
    let h = c.args.layout.now in
    let form = blocks_of h c.keeps_rules.ensures.rule c.requires.fits.blocks c.keeps_rules.ensures.params in
    let w = c.args.writer.now in
    let xs = c.args.from.now in
    let to = c.args.to in
    let start : c.layout.inside.start ≡ h.start = search rules in
    let per : c.from.result ≡ block_frames h.params.codec = search rules in
    let laid : c.count.new.layout ≡ counting_whole h to = c.count.ensures ∙ ap (λ (n : ℕ). record h { frames = n }) (counted_whole h.params to c.from.result per) in
    let before : (g.D.Disk.state c.args.disk.now).contents ≡ Some (over b c.layout.inside.start (coded h.params (whole h.params ys))) =
    told ∙ ap (λ (l : List ℕ). Some l) (sym again) ∙ ap (λ (n : ℕ). Some (over b n (coded h.params (whole h.params ys)))) (sym start) in
    let put : (g.D.Disk.state c.write.new.disk).contents ≡ Some (over_blocks b h (whole h.params (ys ++ xs))) =
    subst (λ (n : ℕ). (g.D.Disk.state c.write.new.disk).contents ≡ Some (over b n (coded h.params (whole h.params (ys ++ xs))))) start (c.in_ok-write.ensures.holds h.params ys b stands before) in
    given_sealing g.D.Disk h form w to xs c.requires.whole c.requires.more c.requires.pace ys stands b c.args.disk.now c.write.new.disk told stable
    (puts_as g.D.Disk c.args.disk.now c.write.new.disk _ _ _ _ (ap (λ (m : ℕ). next_place m w) start) refl c.write.ensures.puts) c.seal.new.disk apart put
    (subst (λ (l : Shape). LeavesSealing g.D.Disk l l.frames c.write.new.disk c.seal.new.disk) laid c.seal.ensures.leaves)

pub returns-in-Err-clause-leaves : goal.returns-in-Err-clause-leaves
returns-in-Err-clause-leaves g c = λ automatic apart ys b stands again told stable.
    let h = c.args.layout.now in
    let form = blocks_of h c.keeps_rules.ensures.rule c.requires.fits.blocks c.keeps_rules.ensures.params in
    let w = c.args.writer.now in
    let xs = c.args.from.now in
    let to = c.args.to in
    let start : c.layout.inside.start ≡ h.start = search rules in
    let per : c.from.result ≡ block_frames h.params.codec = search rules in
    let laid : c.count.new.layout ≡ counting_whole h to = c.count.ensures ∙ ap (λ (n : ℕ). record h { frames = n }) (counted_whole h.params to c.from.result per) in
    let before : (g.D.Disk.state c.args.disk.now).contents ≡ Some (over b c.layout.inside.start (coded h.params (whole h.params ys))) =
    told ∙ ap (λ (l : List ℕ). Some l) (sym again) ∙ ap (λ (n : ℕ). Some (over b n (coded h.params (whole h.params ys)))) (sym start) in
    let put : (g.D.Disk.state c.write.new.disk).contents ≡ Some (over_blocks b h (whole h.params (ys ++ xs))) =
    subst (λ (n : ℕ). (g.D.Disk.state c.write.new.disk).contents ≡ Some (over b n (coded h.params (whole h.params (ys ++ xs))))) start (c.in_ok-write.ensures.holds h.params ys b stands before) in
    given_sealing g.D.Disk h form w to xs c.requires.whole c.requires.more c.requires.pace ys stands b c.args.disk.now c.write.new.disk told stable
    (puts_as g.D.Disk c.args.disk.now c.write.new.disk _ _ _ _ (ap (λ (m : ℕ). next_place m w) start) refl c.write.ensures.puts) c.seal.new.disk apart put
    (subst (λ (l : Shape). LeavesSealing g.D.Disk l l.frames c.write.new.disk c.seal.new.disk) laid c.seal.ensures.leaves)

pub returns-then-not-automatic-clause-leaves : goal.returns-then-not-automatic-clause-leaves
returns-then-not-automatic-clause-leaves g c = λ automatic.
    absurd (let by_hand : c.args.automatic ≡ false = search rules in let both = sym by_hand ∙ automatic in cc)
