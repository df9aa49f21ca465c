use Rattle.std.proofs.Common.{◌≡◌, ◌∙◌, ap, sym, subst, ℕ, ◌+◌, ◌<◌, ◌≤◌, ◌^◌, ℤ, List, Bor, length}
use Rattle.std.specs.Prelude.{is_none, false}
use Rattle.std.specs.Result.{OnOk}
use Rattle.snd_container.specs.Sound.{fixed_of}
use Rattle.snd_disk.specs.State.{IsWritten}
use Rattle.snd_layout.specs.Shape.{Shape, end}
use Rattle.snd_block_writer.specs.Puts.{LeavesPartly}
use Rattle.snd_edits.specs.Edits.{coded}
use Rattle.snd_frames.specs.Given.{HoldsGiven, MayBeGiven, coded_given, given}
use Rattle.snd_frames.specs.Putting.{PutsData}
use Rattle.snd_edits.specs.Reading.{FitCodec}
use Rattle.snd_frames.specs.Writing.{PutsAt}
use Rattle.snd_frames.specs.declared.given.Given.{Given}
use Rattle.snd_frames.specs.declared.given.Given.TheVariants.{Bytes}
use Rattle.snd_edits.proofs.Public.{bytes_given}
use Rattle.snd_frames.proofs.updates.write_any.Goals as goal

pub write_data-requires : goal.write_data-requires
write_data-requires g c =
    let h = c.args.layout.now in
    let is : given h c.args.from ≡ c.in-Numbers.numbers.now = ap (given h) c.in-Numbers.is in
    record {
      linear = c.requires.linear;
      fit = subst (FitCodec h.params.codec) is c.requires.fit;
      coded = subst (λ (f : Given). HoldsGiven h f c.args.block.now) c.in-Numbers.is c.requires.coded;
      placed = c.requires.placed;
      held = c.requires.held;
      fits = subst (λ (xs : List ℤ). end h c.args.place + length (coded h.params xs) < 2 ^ 63) is c.requires.fits;
    }

-- the bytes that are given are those of their numbers
ready : (h : Shape) (from : Given) (bytes : Bor (List ℕ)) → from ≡ Bytes bytes → is_none (fixed_of h.params.codec) ≡ false → 1 ≤ h.params.channels → MayBeGiven h from → bytes.now ≡ coded_given h from
ready h from bytes is fixed some may =
    let are = subst (MayBeGiven h) is may in
    sym (ap (coded_given h) is ∙ bytes_given h.params bytes.now fixed some are.0 are.1)

pub write_ready-requires : goal.write_ready-requires
write_ready-requires g c =
    let h = c.args.layout.now in
    let same = ready h c.args.from c.in-Bytes.bytes c.in-Bytes.is c.requires.linear c.keeps_rules.ensures.params.some_channel c.requires.given in
    record {
      linear = c.requires.linear;
      placed = c.requires.placed;
      held = c.requires.held;
      fits = subst (λ (s : List ℕ). end h c.args.place + length s < 2 ^ 63) (sym same) c.requires.fits;
    }

pub returns-in-Numbers-clause-done : goal.returns-in-Numbers-clause-done
returns-in-Numbers-clause-done g c =
    let h = c.args.layout.now in
    let is : given h c.args.from ≡ c.in-Numbers.numbers.now = ap (given h) c.in-Numbers.is in
    subst (λ (xs : List ℤ). OnOk c.write_data.result (IsWritten (end h c.args.place) (coded h.params xs) (g.D.Disk.state c.args.disk.now) (g.D.Disk.state c.write_data.new.disk))) (sym is) c.write_data.ensures.done

pub returns-in-Numbers-clause-puts : goal.returns-in-Numbers-clause-puts
returns-in-Numbers-clause-puts g c =
    let h = c.args.layout.now in
    let is : given h c.args.from ≡ c.in-Numbers.numbers.now = ap (given h) c.in-Numbers.is in
    subst (λ (xs : List ℤ). PutsAt g.D.Disk.state g.D.Disk.left_between (end h c.args.place) (length (coded h.params xs)) c.args.disk.now c.write_data.new.disk) (sym is) c.write_data.ensures.puts

pub returns-in-Numbers-clause-partly : goal.returns-in-Numbers-clause-partly
returns-in-Numbers-clause-partly g c =
    let h = c.args.layout.now in
    let is : given h c.args.from ≡ c.in-Numbers.numbers.now = ap (given h) c.in-Numbers.is in
    subst (λ (xs : List ℤ). PutsData g.D.Disk h c.args.place xs c.args.disk.now c.write_data.new.disk) (sym is) c.write_data.ensures.partly

pub returns-in-Bytes-clause-done : goal.returns-in-Bytes-clause-done
returns-in-Bytes-clause-done g c =
    let h = c.args.layout.now in
    let same = ready h c.args.from c.in-Bytes.bytes c.in-Bytes.is c.requires.linear c.keeps_rules.ensures.params.some_channel c.requires.given in
    subst (λ (s : List ℕ). OnOk c.write_ready.result (IsWritten (end h c.args.place) s (g.D.Disk.state c.args.disk.now) (g.D.Disk.state c.write_ready.new.disk))) same c.write_ready.ensures.done

pub returns-in-Bytes-clause-puts : goal.returns-in-Bytes-clause-puts
returns-in-Bytes-clause-puts g c =
    let h = c.args.layout.now in
    let same = ready h c.args.from c.in-Bytes.bytes c.in-Bytes.is c.requires.linear c.keeps_rules.ensures.params.some_channel c.requires.given in
    subst (λ (s : List ℕ). PutsAt g.D.Disk.state g.D.Disk.left_between (end h c.args.place) (length s) c.args.disk.now c.write_ready.new.disk) same c.write_ready.ensures.puts

pub returns-in-Bytes-clause-partly : goal.returns-in-Bytes-clause-partly
returns-in-Bytes-clause-partly g c =
    let h = c.args.layout.now in
    let same = ready h c.args.from c.in-Bytes.bytes c.in-Bytes.is c.requires.linear c.keeps_rules.ensures.params.some_channel c.requires.given in
    subst (λ (s : List ℕ). LeavesPartly g.D.Disk (end h c.args.place) s c.args.disk.now c.write_ready.new.disk) same c.write_ready.ensures.partly
