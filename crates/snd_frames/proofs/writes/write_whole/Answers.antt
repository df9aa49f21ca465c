use Rattle.std.proofs.Common.{rules, ◌≡◌, sym, subst, ℕ, List, length}
use Rattle.std.proofs.lemmas.List.{nil_from_length}
use Rattle.snd_disk.specs.State.{IsWritten}
use Rattle.snd_container.specs.declared.fixed.Fixed.TheVariants.{MuLaw}
use Rattle.snd_frames.proofs.PartlyPut.{none_partly}
use Rattle.snd_frames.proofs.PutBlocks.{no_samples_written, none_put}
use Rattle.snd_frames.proofs.writes.write_whole.Goals as goal

pub returns-then-is_empty-clause-done : goal.returns-then-is_empty-clause-done
returns-then-is_empty-clause-done g c =
    let none : length c.args.bytes.now ≡ 0 = search rules in
    let s = g.D.Disk.state c.args.disk.now in
    subst (λ (b : List ℕ). IsWritten c.args.at b s s) (sym (nil_from_length c.args.bytes.now none)) (no_samples_written MuLaw s c.args.at c.requires.there (g.met.D.Disk.size_told c.args.disk.now))

pub returns-then-is_empty-clause-puts : goal.returns-then-is_empty-clause-puts
returns-then-is_empty-clause-puts g c = none_put g.D.Disk.state g.D.Disk.left_between c.args.disk.now c.args.at _

pub returns-then-is_empty-clause-partly : goal.returns-then-is_empty-clause-partly
returns-then-is_empty-clause-partly g c = none_partly g.D.Disk g.met.D.Disk.only_now c.args.at c.args.bytes.now c.args.disk.now
