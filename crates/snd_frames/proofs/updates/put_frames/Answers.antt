use Rattle.std.proofs.Common.{◌≡◌, ◌∙◌, ap, ◌+◌, ◌≤◌, Some, option_map, length, arith}
use Rattle.snd_layout.specs.Shape.{end}
use Rattle.snd_patch.proofs.Public.{updates_then}
use Rattle.snd_frames.specs.Given.{given}
use Rattle.snd_edits.specs.Edits.{closed_behind, coded, over_data}
use Rattle.snd_edits.specs.Writing.{most_fields}
use Rattle.snd_frames.proofs.FramesPut.{data_partly, fields_under_way, reached_put, shut_partly, under_way}
use Rattle.snd_edits.proofs.Public.{still_kept_up}
use Rattle.snd_frames.proofs.Written.{puts_update, updates_before}
use Rattle.snd_frames.proofs.updates.put_frames.Goals as goal

pub bring_up-requires-clause-kept_up : goal.bring_up-requires-clause-kept_up
bring_up-requires-clause-kept_up g c = λ auto free.
    still_kept_up c.args.layout.now c.args.to (g.D.Disk.state c.args.disk.now).size (g.D.Disk.state c.write_any.new.disk).size (g.D.Disk.state c.close_behind.new.disk).size
    c.requires.linear c.requires.more (c.requires.kept_up auto free) (omega (arith, c.in_ok-write_any.ensures.done.size)) c.in_ok-close_behind.ensures.size

pub returns-clause-updates : goal.returns-clause-updates
returns-clause-updates g c =
    let h = c.args.layout.now in
    let state = g.D.Disk.state in
    let between = g.D.Disk.left_between in
    let n = length (coded h.params (given c.args.layout.now c.args.from)) in
    let place = c.args.place in
    let before : end h place ≤ end h c.args.to = omega (arith, c.requires.within) in
    updates_then state between h place c.args.disk.now c.close_behind.new.disk c.bring_up.new.disk (n + 8) (most_fields c.args.automatic) _ (omega arith)
    (updates_then state between h place c.args.disk.now c.write_any.new.disk c.close_behind.new.disk n 8 _ (omega arith)
    (puts_update state between h place n c.args.disk.now c.write_any.new.disk c.write_any.ensures.puts)
    (updates_before state between h place c.args.to 8 c.write_any.new.disk c.close_behind.new.disk before c.close_behind.ensures.updates))
    (updates_before state between h place c.args.to (most_fields c.args.automatic) c.close_behind.new.disk c.bring_up.new.disk before c.bring_up.ensures.updates)

pub returns-in_err-write_any-clause-leaves : goal.returns-in_err-write_any-clause-leaves
returns-in_err-write_any-clause-leaves g c = λ apart b told stable.
    let h = c.args.layout.now in
    under_way g.D.Disk h c.args.to b (closed_behind (over_data b h c.args.place (given c.args.layout.now c.args.from)) h c.args.to) c.args.disk.now c.write_any.new.disk
    (data_partly h c.args.place c.args.to (given c.args.layout.now c.args.from) c.requires.within b
    (reached_put h c.args.place c.args.to (given c.args.layout.now c.args.from) b (g.D.Disk.state c.args.disk.now).size (g.met.D.Disk.size_told c.args.disk.now b told) c.requires.held c.requires.reaches)
    g.D.Disk c.args.disk.now c.write_any.new.disk told stable c.write_any.ensures.partly)

pub returns-in_err-close_behind-clause-leaves : goal.returns-in_err-close_behind-clause-leaves
returns-in_err-close_behind-clause-leaves g c = λ apart b told stable.
    let h = c.args.layout.now in
    let then : (g.D.Disk.state c.write_any.new.disk).contents ≡ Some (over_data b h c.args.place (given c.args.layout.now c.args.from)) =
    c.in_ok-write_any.ensures.done.contents ∙ ap (option_map (λ l. over_data l h c.args.place (given c.args.layout.now c.args.from))) told in
    under_way g.D.Disk h c.args.to b (closed_behind (over_data b h c.args.place (given c.args.layout.now c.args.from)) h c.args.to) c.args.disk.now c.close_behind.new.disk
    (shut_partly h c.args.place c.args.to (given c.args.layout.now c.args.from) c.requires.within b
    (reached_put h c.args.place c.args.to (given c.args.layout.now c.args.from) b (g.D.Disk.state c.args.disk.now).size (g.met.D.Disk.size_told c.args.disk.now b told) c.requires.held c.requires.reaches)
    g.D.Disk c.args.disk.now c.write_any.new.disk told stable c.write_any.ensures.partly c.close_behind.new.disk then c.close_behind.ensures.partly)

pub returns-clause-leaves : goal.returns-clause-leaves
returns-clause-leaves g c = λ apart b told stable.
    let h = c.args.layout.now in
    let then : (g.D.Disk.state c.write_any.new.disk).contents ≡ Some (over_data b h c.args.place (given c.args.layout.now c.args.from)) =
    c.in_ok-write_any.ensures.done.contents ∙ ap (option_map (λ l. over_data l h c.args.place (given c.args.layout.now c.args.from))) told in
    let shut : (g.D.Disk.state c.close_behind.new.disk).contents ≡ Some (closed_behind (over_data b h c.args.place (given c.args.layout.now c.args.from)) h c.args.to) =
    c.in_ok-close_behind.ensures.contents ∙ ap (option_map (λ l. closed_behind l h c.args.to)) then in
    fields_under_way h c.args.place c.args.to (given c.args.layout.now c.args.from) c.requires.within b
    (reached_put h c.args.place c.args.to (given c.args.layout.now c.args.from) b (g.D.Disk.state c.args.disk.now).size (g.met.D.Disk.size_told c.args.disk.now b told) c.requires.held c.requires.reaches)
    g.D.Disk c.args.disk.now c.write_any.new.disk told stable c.write_any.ensures.partly c.close_behind.new.disk then c.close_behind.ensures.partly
    c.bring_up.new.disk apart shut c.bring_up.ensures.leaves
