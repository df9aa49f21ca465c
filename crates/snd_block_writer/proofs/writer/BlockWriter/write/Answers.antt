use Rattle.std.proofs.Common.{◌≡◌, ℤ, List, [], take, refl, sym, subst, ap, ◌∙◌, arith}
use Rattle.std.proofs.lemmas.List.{take_all}
use Rattle.snd_disk.specs.State.{IsWritten}
use Rattle.snd_blocks.specs.Calls.{AreBlocks}
use Rattle.snd_block_writer.specs.Puts.{Puts}
use Rattle.snd_block_writer.specs.Writing.{Writing, given_more, more_bytes, next_place}
use Rattle.snd_block_writer.proofs.Parts.{bytes_none, fits_there, given_next, given_none, puts_all, puts_next, writes_few, written_next}
use Rattle.snd_block_writer.proofs.Putting.{none_put, none_written, written_as}
use Rattle.snd_block_writer.proofs.Standing.{holds_more, stands_more}
use Rattle.snd_block_writer.proofs.writer.BlockWriter.write.Goals as goal

pub loop-done-init : goal.loop-done-init
loop-done-init g c =
    let w = c.args.self.now in
    let s = g.D.Disk.state c.args.disk.now in
    let at = next_place c.args.start w in record {
      within = omega arith;
      taken = given_none w c.keeps_rule.ensures;
      done = written_as s s at at [] (more_bytes w []) refl (sym (bytes_none w c.keeps_rule.ensures)) (none_written s at c.requires.there (g.met.D.Disk.size_told c.args.disk.now));
      puts = none_put g.D.Disk g.met.D.Disk.only_now c.args.disk.now at (more_bytes w []);
      there = c.requires.there;
      calm = refl;
    }

pub take_part-requires-clause-fits : goal.take_part-requires-clause-fits
take_part-requires-clause-fits g c =
    fits_there c.args.self.now c.keeps_rule.ensures c.args.from.now c.loop-done.done c.next_part.result c.loop-done.self c.loop-done.invariant.taken c.args.start _ c.requires.fits

pub returns-in_err-take_part-clause-puts : goal.returns-in_err-take_part-clause-puts
returns-in_err-take_part-clause-puts g c =
    puts_all c.args.self.now c.keeps_rule.ensures c.args.from.now c.loop-done.done c.next_part.result c.loop-done.self c.loop-done.invariant.taken
    g.D.Disk c.args.disk.now c.loop-done.disk c.take_part.new.disk c.args.start c.loop-done.invariant.puts c.take_part.ensures.puts

pub returns-in_err-take_part-clause-written : goal.returns-in_err-take_part-clause-written
returns-in_err-take_part-clause-written g c =
    writes_few c.args.self.now c.keeps_rule.ensures c.args.from.now _ _ (returns-in_err-take_part-clause-puts g c).written

pub loop-done-preserved : goal.loop-done-preserved
loop-done-preserved g c =
    let w = c.args.self.now in
    let rule = c.keeps_rule.ensures in
    let done = c.loop-done.done in
    let k = c.next_part.result in
    let v = c.loop-done.self in
    let is = c.loop-done.invariant.taken in record {
      within = omega (arith, c.next_part.ensures.most, c.loop-done-test.true);
      taken = c.in_ok-take_part.ensures.takes ∙ given_next w rule c.args.from.now done k v is;
      done = written_next w rule c.args.from.now done k v is c.args.start (g.D.Disk.state c.args.disk.now) (g.D.Disk.state c.loop-done.disk) (g.D.Disk.state c.take_part.new.disk) c.loop-done.invariant.done c.in_ok-take_part.ensures.done;
      puts = puts_next w rule c.args.from.now done k v is g.D.Disk c.args.disk.now c.loop-done.disk c.take_part.new.disk c.args.start c.loop-done.invariant.puts c.take_part.ensures.puts;
      there = c.take_part.ensures.there;
      calm = omega (arith, c.in_ok-take_part.ensures.faults.ok, c.loop-done.invariant.calm);
    }

-- at the end all is taken
pub returns-clause-takes : goal.returns-clause-takes
returns-clause-takes g c =
    c.loop-done.invariant.taken ∙ ap (given_more c.args.self.now) (take_all c.loop-done.done c.args.from.now c.loop-done-test.false)

pub returns-clause-stands : goal.returns-clause-stands
returns-clause-stands g c = λ p ys stands.
    let form : AreBlocks p = subst AreBlocks (ap (λ (u : Writing). u.params) stands) c.keeps_rule.ensures.form in
    returns-clause-takes g c ∙ stands_more p form c.args.self.now c.args.from.now ys stands

pub returns-clause-holds : goal.returns-clause-holds
returns-clause-holds g c = λ p ys b stands told.
    let w = c.args.self.now in
    let xs = c.args.from.now in
    let all : take c.loop-done.done xs ≡ xs = take_all c.loop-done.done xs c.loop-done-test.false in
    let form : AreBlocks p = subst AreBlocks (ap (λ (u : Writing). u.params) stands) c.keeps_rule.ensures.form in
    let s = g.D.Disk.state c.args.disk.now in
    let t = g.D.Disk.state c.loop-done.disk in
    let done : IsWritten (next_place c.args.start w) (more_bytes w xs) s t = written_as s t _ _ _ _ refl (ap (more_bytes w) all) c.loop-done.invariant.done in
    holds_more p form s t c.args.start w xs ys b stands done told

pub returns-clause-written : goal.returns-clause-written
returns-clause-written g c =
    let w = c.args.self.now in
    let xs = c.args.from.now in
    let all : take c.loop-done.done xs ≡ xs = take_all c.loop-done.done xs c.loop-done-test.false in
    let puts : Puts g.D.Disk (next_place c.args.start w) (more_bytes w xs) c.args.disk.now c.loop-done.disk =
    subst (λ (l : List ℤ). Puts g.D.Disk (next_place c.args.start w) (more_bytes w l) c.args.disk.now c.loop-done.disk) all c.loop-done.invariant.puts in
    writes_few w c.keeps_rule.ensures xs _ _ puts.written
