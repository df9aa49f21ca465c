use Rattle.std.proofs.Common.{◌≡◌, ◌∙◌, Some, sym, subst, ℕ, List, length, arith}
use Rattle.snd_container.specs.Sound.{fixed_of}
use Rattle.snd_layout.specs.Shape.{end}
use Rattle.snd_block_writer.specs.Puts.{LeavesPartly}
use Rattle.snd_edits.specs.Edits.{coded}
use Rattle.snd_frames.specs.Writing.{PutsAt}
use Rattle.snd_edits.proofs.Public.{coded_is, end_before, end_is, length-coded}
use Rattle.snd_frames.proofs.Written.{written_data}
use Rattle.snd_frames.proofs.updates.write_data.Goals as goal

pub write_run-requires-clause-there : goal.write_run-requires-clause-there
write_run-requires-clause-there g c =
    let h = c.args.layout.now in
    let is : fixed_of h.params.codec ≡ Some c.in-Some.form = sym c.in-Some.ensures.form in
    omega (arith, c.place_of.ensures, end_is h c.in-Some.form c.args.place is, end_before h c.in-Some.form c.args.place h.frames is c.requires.placed, c.requires.held)

pub write_run-requires-clause-fits : goal.write_run-requires-clause-fits
write_run-requires-clause-fits g c =
    let h = c.args.layout.now in
    let is : fixed_of h.params.codec ≡ Some c.in-Some.form = sym c.in-Some.ensures.form in
    omega (arith, c.place_of.ensures, end_is h c.in-Some.form c.args.place is, length-coded h.params c.in-Some.form c.args.from.now is, c.requires.fits)

pub returns-clause-done : goal.returns-clause-done
returns-clause-done g c =
    let h = c.args.layout.now in
    let is : fixed_of h.params.codec ≡ Some c.in-Some.form = sym c.in-Some.ensures.form in
    written_data c.write_run.result _ _ c.place_of.result (end h c.args.place) _ _ (c.place_of.ensures ∙ end_is h c.in-Some.form c.args.place is) (coded_is h.params c.in-Some.form c.args.from.now is) c.write_run.ensures.done

pub returns-clause-puts : goal.returns-clause-puts
returns-clause-puts g c =
    let h = c.args.layout.now in
    let is : fixed_of h.params.codec ≡ Some c.in-Some.form = sym c.in-Some.ensures.form in
    let at : c.place_of.result ≡ end h c.args.place = c.place_of.ensures ∙ end_is h c.in-Some.form c.args.place is in
    subst (λ (m : ℕ). PutsAt g.D.Disk.state g.D.Disk.left_between m (length (coded h.params c.args.from.now)) c.args.disk.now c.write_run.new.disk) at
    (subst (λ (m : ℕ). PutsAt g.D.Disk.state g.D.Disk.left_between c.place_of.result m c.args.disk.now c.write_run.new.disk) (sym (length-coded h.params c.in-Some.form c.args.from.now is)) c.write_run.ensures.puts)

pub returns-clause-partly : goal.returns-clause-partly
returns-clause-partly g c =
    let h = c.args.layout.now in
    let is : fixed_of h.params.codec ≡ Some c.in-Some.form = sym c.in-Some.ensures.form in
    let at : c.place_of.result ≡ end h c.args.place = c.place_of.ensures ∙ end_is h c.in-Some.form c.args.place is in
    subst (λ (m : ℕ). LeavesPartly g.D.Disk m (coded h.params c.args.from.now) c.args.disk.now c.write_run.new.disk) at
    (subst (λ (s : List ℕ). LeavesPartly g.D.Disk c.place_of.result s c.args.disk.now c.write_run.new.disk) (coded_is h.params c.in-Some.form c.args.from.now is) c.write_run.ensures.partly)
