use Rattle.std.proofs.Common.{rules, ◌≡◌, ◌∙◌, ap, sym, subst, refl, ℕ, ℤ, ◌+◌, ◌*◌, ◌≤◌, List, Some, length, arith}
use Rattle.snd_disk.specs.Bytes.{over}
use Rattle.snd_layout.specs.Blocks.{block_align}
use Rattle.snd_layout.specs.Shape.{Shape, end}
use Rattle.snd_block_writer.specs.Coded.{coded, rest, whole}
use Rattle.snd_block_writer.specs.Writing.{Writing, block_size, new_blocks, next_place, padding}
use Rattle.snd_block_writer.proofs.Public.{is_filled, none_put, one_new, puts_as}
use Rattle.snd_patch.proofs.Public.{updates_more}
use Rattle.snd_patch.specs.Steps.{MayCount}
use Rattle.snd_edits.specs.Encoding.{over_blocks}
use Rattle.snd_edits.proofs.Public.{blocks_of, last_ends, may_encode, next_at_end, none_ends, whole_all}
use Rattle.snd_frames.proofs.Giving.{puts_behind}
use Rattle.snd_frames.proofs.encoding.finish_blocks.Goals as goal

pub finish-requires-clause-there : goal.finish-requires-clause-there
finish-requires-clause-there g c =
    let h = c.args.layout.now in
    let w = c.args.writer.now in
    let form = blocks_of h c.keeps_rules.ensures.rule c.requires.fits.blocks c.keeps_rules.ensures.params in
    let start : c.layout.inside.start ≡ h.start = search rules in
    omega (arith, start, next_at_end h form w c.args.place c.requires.pace c.keeps_rule.ensures.few, c.requires.held)

pub finish-requires-clause-fits : goal.finish-requires-clause-fits
finish-requires-clause-fits g c =
    let h = c.args.layout.now in
    let w = c.args.writer.now in
    let form = blocks_of h c.keeps_rules.ensures.rule c.requires.fits.blocks c.keeps_rules.ensures.params in
    let start : c.layout.inside.start ≡ h.start = search rules in
    let may = may_encode h c.args.place c.args.place form.some_frames c.requires.fits c.requires.room_ends (omega arith) in
    let some : 1 ≤ length w.waiting = search rules in
    omega (arith, start, may.1, last_ends h form w c.args.place c.requires.pace c.keeps_rule.ensures.few some)

pub returns-in_err-finish-clause-updates : goal.returns-in_err-finish-clause-updates
returns-in_err-finish-clause-updates g c =
    let h = c.args.layout.now in
    let w = c.args.writer.now in
    let form = blocks_of h c.keeps_rules.ensures.rule c.requires.fits.blocks c.keeps_rules.ensures.params in
    let start : c.layout.inside.start ≡ h.start = search rules in
    let place : next_place c.layout.inside.start w ≡ end h h.frames = omega (arith, start, next_at_end h form w c.args.place c.requires.pace c.keeps_rule.ensures.few) in
    updates_more g.D.Disk.state g.D.Disk.left_between h h.frames c.args.disk.now c.finish.new.disk _ (block_align h.params.channels h.params.codec) (omega (arith, c.requires.pace.size))
    (puts_behind g.D.Disk h h.frames _ (next_place c.layout.inside.start w) _ c.args.disk.now c.finish.new.disk place c.finish.ensures.puts c.finish.ensures.written)

pub returns-clause-updates : goal.returns-clause-updates
returns-clause-updates g c =
    let h = c.args.layout.now in
    let w = c.args.writer.now in
    let form = blocks_of h c.keeps_rules.ensures.rule c.requires.fits.blocks c.keeps_rules.ensures.params in
    let start : c.layout.inside.start ≡ h.start = search rules in
    let place : next_place c.layout.inside.start w ≡ end h h.frames = omega (arith, start, next_at_end h form w c.args.place c.requires.pace c.keeps_rule.ensures.few) in
    updates_more g.D.Disk.state g.D.Disk.left_between h h.frames c.args.disk.now c.finish.new.disk _ (block_align h.params.channels h.params.codec) (omega (arith, c.requires.pace.size))
    (puts_behind g.D.Disk h h.frames _ (next_place c.layout.inside.start w) _ c.args.disk.now c.finish.new.disk place c.finish.ensures.puts c.finish.ensures.written)

pub returns-clause-may : goal.returns-clause-may
returns-clause-may g c =
    let h = c.args.layout.now in
    let w = c.args.writer.now in
    let form = blocks_of h c.keeps_rules.ensures.rule c.requires.fits.blocks c.keeps_rules.ensures.params in
    let start : c.layout.inside.start ≡ h.start = search rules in
    let some : 1 ≤ length w.waiting = search rules in
    let may = may_encode h c.args.place c.args.place form.some_frames c.requires.fits c.requires.room_ends (omega arith) in
    let one : new_blocks w (length (padding w)) ≡ 1 = one_new w (length (padding w)) c.keeps_rule.ensures.form (is_filled w c.keeps_rule.ensures some) in
    let last = last_ends h form w c.args.place c.requires.pace c.keeps_rule.ensures.few some in
    let blocks : (w.blocks + new_blocks w (length (padding w))) * block_size w ≡ w.blocks * block_size w + block_size w =
    ap (λ (n : ℕ). (w.blocks + n) * block_size w) one ∙ (let e : (w.blocks + 1) * block_size w ≡ w.blocks * block_size w + block_size w = omega arith in e) in
    let there : end h c.args.place ≤ (g.D.Disk.state c.finish.new.disk).size =
    omega (arith, start, c.finish.ensures.there, ap (next_place h.start) c.in_ok-finish.ensures.takes, blocks, last) in
    subst (λ (l : Shape). MayCount l l.frames (g.D.Disk.state c.finish.new.disk).size) (sym c.count.ensures)
    (record { room = record { in_room = may.0.in_room; on_disk = may.0.on_disk; counted = may.0.counted }; on_disk = may.1; there = there })

pub returns-clause-contents : goal.returns-clause-contents
returns-clause-contents g c = λ ys b stands told.
    let h = c.args.layout.now in
    let w = c.args.writer.now in
    let form = blocks_of h c.keeps_rules.ensures.rule c.requires.fits.blocks c.keeps_rules.ensures.params in
    let start : c.layout.inside.start ≡ h.start = search rules in
    let before = subst (λ (n : ℕ). (g.D.Disk.state c.args.disk.now).contents ≡ Some (over b n (coded h.params (whole h.params ys)))) (sym start) told in
    subst (λ (n : ℕ). (g.D.Disk.state c.finish.new.disk).contents ≡ Some (over b n (coded h.params ys))) start (c.in_ok-finish.ensures.holds h.params ys b stands before)

pub returns-then-waiting-eq0-clause-layout : goal.returns-then-waiting-eq0-clause-layout
returns-then-waiting-eq0-clause-layout g c =
    let h = c.args.layout.now in
    let w = c.args.writer.now in
    let form = blocks_of h c.keeps_rules.ensures.rule c.requires.fits.blocks c.keeps_rules.ensures.params in
    let none : length w.waiting ≡ 0 = search rules in
    let same : c.args.place ≡ h.frames = none_ends h form w c.args.place c.requires.pace c.keeps_rule.ensures.few none in
    ap (λ (n : ℕ). record h { frames = n }) (sym same)

pub returns-then-waiting-eq0-clause-may : goal.returns-then-waiting-eq0-clause-may
returns-then-waiting-eq0-clause-may g c =
    let h = c.args.layout.now in
    let w = c.args.writer.now in
    let form = blocks_of h c.keeps_rules.ensures.rule c.requires.fits.blocks c.keeps_rules.ensures.params in
    let none : length w.waiting ≡ 0 = search rules in
    let same : c.args.place ≡ h.frames = none_ends h form w c.args.place c.requires.pace c.keeps_rule.ensures.few none in
    let may = may_encode h c.args.place h.frames form.some_frames c.requires.fits c.requires.room_ends (omega (arith, same)) in
    record { room = may.0; on_disk = may.1; there = c.requires.held }

pub returns-then-waiting-eq0-clause-contents : goal.returns-then-waiting-eq0-clause-contents
returns-then-waiting-eq0-clause-contents g c = λ ys b stands told.
    let h = c.args.layout.now in
    let w = c.args.writer.now in
    let form = blocks_of h c.keeps_rules.ensures.rule c.requires.fits.blocks c.keeps_rules.ensures.params in
    let none : length w.waiting ≡ 0 = search rules in
    let same : c.args.place ≡ h.frames = none_ends h form w c.args.place c.requires.pace c.keeps_rule.ensures.few none in
    let waits : length (rest h.params ys) ≡ 0 = ap (λ (v : Writing). length v.waiting) (sym stands) ∙ none in
    subst (λ (l : List ℤ). (g.D.Disk.state c.args.disk.now).contents ≡ Some (over_blocks b h l)) (whole_all h.params form ys waits) told

pub returns-then-waiting-eq0-clause-puts : goal.returns-then-waiting-eq0-clause-puts
returns-then-waiting-eq0-clause-puts g c = none_put g.D.Disk g.met.D.Disk.only_now c.args.disk.now _ _

pub returns-in_err-finish-clause-puts : goal.returns-in_err-finish-clause-puts
returns-in_err-finish-clause-puts g c =
    let start : c.layout.inside.start ≡ c.args.layout.now.start = search rules in
    puts_as g.D.Disk c.args.disk.now c.finish.new.disk _ _ _ _ (ap (λ (m : ℕ). next_place m c.args.writer.now) start) refl c.finish.ensures.puts

pub returns-clause-puts : goal.returns-clause-puts
returns-clause-puts g c =
    let start : c.layout.inside.start ≡ c.args.layout.now.start = search rules in
    puts_as g.D.Disk c.args.disk.now c.finish.new.disk _ _ _ _ (ap (λ (m : ℕ). next_place m c.args.writer.now) start) refl c.finish.ensures.puts
