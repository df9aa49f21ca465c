use Rattle.std.proofs.Common.{◌≡◌, ◌∙◌, ap, sym, subst, ℕ, ◌+◌, List, Some, option_map, arith}
use Rattle.snd_layout.specs.Blocks.{block_align}
use Rattle.snd_layout.specs.Shape.{Shape}
use Rattle.snd_patch.proofs.Public.{updates_more, updates_then}
use Rattle.snd_block_writer.specs.Coded.{whole}
use Rattle.snd_patch.specs.Images.{LeavesSealing}
use Rattle.snd_patch.specs.Sealed.{sealed}
use Rattle.snd_patch.specs.Steps.{Updates}
use Rattle.snd_edits.specs.Encoding.{over_blocks}
use Rattle.snd_frames.proofs.BlocksUnderWay.{last_partly, last_sealing}
use Rattle.snd_edits.proofs.Public.{blocks_of, counted_within, data_more}
use Rattle.snd_frames.proofs.Written.{updates_before}
use Rattle.snd_frames.proofs.encoding.seal_all.Goals as goal

pub returns-in_err-finish_blocks-clause-updates : goal.returns-in_err-finish_blocks-clause-updates
returns-in_err-finish_blocks-clause-updates g c =
    let h = c.args.layout.now in
    updates_more g.D.Disk.state g.D.Disk.left_between h h.frames c.args.disk.now c.finish_blocks.new.disk _ (64 + block_align h.params.channels h.params.codec) (omega arith) c.finish_blocks.ensures.updates

pub returns-clause-contents : goal.returns-clause-contents
returns-clause-contents g c = λ ys b stands told.
    let h = c.args.layout.now in
    c.in_ok-seal.ensures.contents
    ∙ ap (option_map (λ (l : List ℕ). sealed l c.finish_blocks.new.layout c.finish_blocks.new.layout.frames)) (c.in_ok-finish_blocks.ensures.contents ys b stands told)
    ∙ ap (λ (s : Shape). Some (sealed (over_blocks b h ys) s s.frames)) c.in_ok-finish_blocks.ensures.layout

pub returns-in_err-seal-clause-updates : goal.returns-in_err-seal-clause-updates
returns-in_err-seal-clause-updates g c =
    let h = c.args.layout.now in
    let place = c.args.place in
    let form = blocks_of h c.keeps_rules.ensures.rule c.requires.fits.blocks c.keeps_rules.ensures.params in
    let all : Updates g.D.Disk.state g.D.Disk.left_between (record h { frames = place }) place 64 c.finish_blocks.new.disk c.seal.new.disk =
    subst (λ (l : Shape). Updates g.D.Disk.state g.D.Disk.left_between l l.frames 64 c.finish_blocks.new.disk c.seal.new.disk) c.in_ok-finish_blocks.ensures.layout
    (record { beside = c.seal.ensures.beside; tells = c.seal.ensures.tells; time = c.seal.ensures.time; written = c.seal.ensures.written; asked = c.seal.ensures.asked }) in
    let here : Updates g.D.Disk.state g.D.Disk.left_between h place 64 c.finish_blocks.new.disk c.seal.new.disk =
    record { beside = all.beside; tells = all.tells; time = all.time; written = all.written; asked = all.asked } in
    let within = data_more h.params h.frames place form.some_frames (counted_within h place c.args.writer.now c.keeps_rules.ensures.params.some_channel c.requires.pace) in
    let behind = updates_before g.D.Disk.state g.D.Disk.left_between h h.frames place 64 c.finish_blocks.new.disk c.seal.new.disk (omega (arith, within)) here in
    updates_then g.D.Disk.state g.D.Disk.left_between h h.frames c.args.disk.now c.finish_blocks.new.disk c.seal.new.disk _ 64 (64 + block_align h.params.channels h.params.codec) (omega arith) c.finish_blocks.ensures.updates behind

pub returns-clause-updates : goal.returns-clause-updates
returns-clause-updates g c =
    let h = c.args.layout.now in
    let place = c.args.place in
    let form = blocks_of h c.keeps_rules.ensures.rule c.requires.fits.blocks c.keeps_rules.ensures.params in
    let all : Updates g.D.Disk.state g.D.Disk.left_between (record h { frames = place }) place 64 c.finish_blocks.new.disk c.seal.new.disk =
    subst (λ (l : Shape). Updates g.D.Disk.state g.D.Disk.left_between l l.frames 64 c.finish_blocks.new.disk c.seal.new.disk) c.in_ok-finish_blocks.ensures.layout
    (record { beside = c.seal.ensures.beside; tells = c.seal.ensures.tells; time = c.seal.ensures.time; written = c.seal.ensures.written; asked = c.seal.ensures.asked }) in
    let here : Updates g.D.Disk.state g.D.Disk.left_between h place 64 c.finish_blocks.new.disk c.seal.new.disk =
    record { beside = all.beside; tells = all.tells; time = all.time; written = all.written; asked = all.asked } in
    let within = data_more h.params h.frames place form.some_frames (counted_within h place c.args.writer.now c.keeps_rules.ensures.params.some_channel c.requires.pace) in
    let behind = updates_before g.D.Disk.state g.D.Disk.left_between h h.frames place 64 c.finish_blocks.new.disk c.seal.new.disk (omega (arith, within)) here in
    updates_then g.D.Disk.state g.D.Disk.left_between h h.frames c.args.disk.now c.finish_blocks.new.disk c.seal.new.disk _ 64 (64 + block_align h.params.channels h.params.codec) (omega arith) c.finish_blocks.ensures.updates behind

pub returns-in_err-finish_blocks-clause-leaves : goal.returns-in_err-finish_blocks-clause-leaves
returns-in_err-finish_blocks-clause-leaves g c = λ apart ys b stands again told stable.
    let h = c.args.layout.now in
    let form = blocks_of h c.keeps_rules.ensures.rule c.requires.fits.blocks c.keeps_rules.ensures.params in
    last_partly g.D.Disk h form c.args.writer.now c.args.place c.requires.pace ys stands b c.args.disk.now c.finish_blocks.new.disk told stable c.finish_blocks.ensures.puts

pub returns-in_err-seal-clause-leaves : goal.returns-in_err-seal-clause-leaves
returns-in_err-seal-clause-leaves g c = λ apart ys b stands again told stable.
    let h = c.args.layout.now in
    let form = blocks_of h c.keeps_rules.ensures.rule c.requires.fits.blocks c.keeps_rules.ensures.params in
    let before : (g.D.Disk.state c.args.disk.now).contents ≡ Some (over_blocks b h (whole h.params ys)) = told ∙ ap (λ (l : List ℕ). Some l) (sym again) in
    last_sealing g.D.Disk h form c.args.writer.now c.args.place c.requires.pace ys stands b c.args.disk.now c.finish_blocks.new.disk told stable c.finish_blocks.ensures.puts c.seal.new.disk apart
    (c.in_ok-finish_blocks.ensures.contents ys b stands before) (subst (λ (l : Shape). LeavesSealing g.D.Disk l l.frames c.finish_blocks.new.disk c.seal.new.disk) c.in_ok-finish_blocks.ensures.layout c.seal.ensures.leaves)

pub returns-clause-leaves : goal.returns-clause-leaves
returns-clause-leaves g c = λ apart ys b stands again told stable.
    let h = c.args.layout.now in
    let form = blocks_of h c.keeps_rules.ensures.rule c.requires.fits.blocks c.keeps_rules.ensures.params in
    let before : (g.D.Disk.state c.args.disk.now).contents ≡ Some (over_blocks b h (whole h.params ys)) = told ∙ ap (λ (l : List ℕ). Some l) (sym again) in
    last_sealing g.D.Disk h form c.args.writer.now c.args.place c.requires.pace ys stands b c.args.disk.now c.finish_blocks.new.disk told stable c.finish_blocks.ensures.puts c.seal.new.disk apart
    (c.in_ok-finish_blocks.ensures.contents ys b stands before) (subst (λ (l : Shape). LeavesSealing g.D.Disk l l.frames c.finish_blocks.new.disk c.seal.new.disk) c.in_ok-finish_blocks.ensures.layout c.seal.ensures.leaves)
