use Rattle.std.proofs.Common.{rules, ◌≡◌, ◌+◌, ◌≤◌, ◌++◌, [], length, refl, sym, ◌∙◌, arith}
use Rattle.snd_block_writer.specs.Coded.{block_numbers}
use Rattle.snd_block_writer.specs.Writing.{Writing, more_bytes, next_place, padding}
use Rattle.snd_block_writer.proofs.Filling.{fills_block, fills_up, given_last_none, holds_all, last_none, last_size, none_waits, some_wait, stands_filled}
use Rattle.snd_block_writer.proofs.Given.{block_given, block_made, is_reached, same_writing}
use Rattle.snd_block_writer.proofs.Putting.{none_put, none_written, puts_as, written_as}
use Rattle.snd_block_writer.proofs.writer.BlockWriter.finish.Goals as goal

-- nothing waits

pub returns-then-is_empty-clause-stands : goal.returns-then-is_empty-clause-stands
returns-then-is_empty-clause-stands g c = λ p ys stands.
    let w = c.args.self.now in
    let none : length w.waiting ≡ 0 = none_waits w _ c.self.view_is (search rules) in
    given_last_none w c.keeps_rule.ensures none ∙ stands_filled w c.keeps_rule.ensures p ys stands

pub returns-then-is_empty-clause-done : goal.returns-then-is_empty-clause-done
returns-then-is_empty-clause-done g c =
    let w = c.args.self.now in
    let s = g.D.Disk.state c.args.disk.now in
    let at = next_place c.args.start w in
    let none : length w.waiting ≡ 0 = none_waits w _ c.self.view_is (search rules) in
    written_as s s at at [] (more_bytes w (padding w)) refl (sym (last_none w c.keeps_rule.ensures none)) (none_written s at c.requires.there (g.met.D.Disk.size_told c.args.disk.now))

pub returns-then-is_empty-clause-holds : goal.returns-then-is_empty-clause-holds
returns-then-is_empty-clause-holds g c = λ p ys b stands told.
    let s = g.D.Disk.state c.args.disk.now in
    holds_all c.args.self.now c.keeps_rule.ensures p ys stands s s c.args.start b (returns-then-is_empty-clause-done g c) told

pub returns-then-is_empty-clause-puts : goal.returns-then-is_empty-clause-puts
returns-then-is_empty-clause-puts g c = none_put g.D.Disk g.met.D.Disk.only_now c.args.disk.now _ _

-- a block is written, or the disk fails

pub returns-in_err-put_block-clause-puts : goal.returns-in_err-put_block-clause-puts
returns-in_err-put_block-clause-puts g c =
    let w = c.args.self.now in
    let rule = c.keeps_rule.ensures in
    let v : Writing = record { params = c.self.inside.params; blocks = c.self.inside.blocks; indices = c.self.inside.ima; waiting = c.self.inside.waiting.items } in
    let is : v ≡ w = c.self.view_is in
    let some : 1 ≤ length w.waiting = some_wait v w is (search rules) in
    let full : length v.waiting + length (padding w) ≡ block_numbers v.params = fills_block v w is rule some in
    let items : c.fill_up.new.numbers.items ≡ v.waiting ++ padding w = fills_up v w is rule some _ c.block_numbers-numbers.result c.block_numbers-numbers.ensures.value (search rules) in
    let made = block_made v w (padding w) c.fill_up.new.numbers.items is c.self.invariant.form full items in
    puts_as g.D.Disk c.args.disk.now c.put_block.new.disk _ _ _ _ c.next_place-at.ensures made c.put_block.ensures.puts

pub returns-in_err-put_block-clause-written : goal.returns-in_err-put_block-clause-written
returns-in_err-put_block-clause-written g c =
    let written = (returns-in_err-put_block-clause-puts g c).written in
    record { later = written.later; most = omega (arith, written.most, last_size c.args.self.now c.keeps_rule.ensures) }

pub returns-clause-takes : goal.returns-clause-takes
returns-clause-takes g c =
    let w = c.args.self.now in
    let rule = c.keeps_rule.ensures in
    let v : Writing = record { params = c.self.inside.params; blocks = c.self.inside.blocks; indices = c.self.inside.ima; waiting = c.self.inside.waiting.items } in
    let is : v ≡ w = c.self.view_is in
    let some : 1 ≤ length w.waiting = some_wait v w is (search rules) in
    let full : length v.waiting + length (padding w) ≡ block_numbers v.params = fills_block v w is rule some in
    let items : c.fill_up.new.numbers.items ≡ v.waiting ++ padding w = fills_up v w is rule some _ c.block_numbers-numbers.result c.block_numbers-numbers.ensures.value (search rules) in
    same_writing v.params _ _ _ _ _ _ refl c.in_ok-put_block.ensures.indices c.in_ok-put_block.ensures.empty ∙ block_given v w (padding w) c.fill_up.new.numbers.items is c.self.invariant.form full items

pub returns-clause-stands : goal.returns-clause-stands
returns-clause-stands g c = λ p ys stands. returns-clause-takes g c ∙ stands_filled c.args.self.now c.keeps_rule.ensures p ys stands

pub returns-clause-done : goal.returns-clause-done
returns-clause-done g c =
    let w = c.args.self.now in
    let rule = c.keeps_rule.ensures in
    let v : Writing = record { params = c.self.inside.params; blocks = c.self.inside.blocks; indices = c.self.inside.ima; waiting = c.self.inside.waiting.items } in
    let is : v ≡ w = c.self.view_is in
    let some : 1 ≤ length w.waiting = some_wait v w is (search rules) in
    let full : length v.waiting + length (padding w) ≡ block_numbers v.params = fills_block v w is rule some in
    let items : c.fill_up.new.numbers.items ≡ v.waiting ++ padding w = fills_up v w is rule some _ c.block_numbers-numbers.result c.block_numbers-numbers.ensures.value (search rules) in
    let made = block_made v w (padding w) c.fill_up.new.numbers.items is c.self.invariant.form full items in
    written_as (g.D.Disk.state c.args.disk.now) (g.D.Disk.state c.put_block.new.disk) _ _ _ _ c.next_place-at.ensures made c.in_ok-put_block.ensures.done

pub returns-clause-holds : goal.returns-clause-holds
returns-clause-holds g c = λ p ys b stands told.
    holds_all c.args.self.now c.keeps_rule.ensures p ys stands (g.D.Disk.state c.args.disk.now) (g.D.Disk.state c.put_block.new.disk) c.args.start b (returns-clause-done g c) told

pub returns-clause-puts : goal.returns-clause-puts
returns-clause-puts g c =
    let w = c.args.self.now in
    let rule = c.keeps_rule.ensures in
    let v : Writing = record { params = c.self.inside.params; blocks = c.self.inside.blocks; indices = c.self.inside.ima; waiting = c.self.inside.waiting.items } in
    let is : v ≡ w = c.self.view_is in
    let some : 1 ≤ length w.waiting = some_wait v w is (search rules) in
    let full : length v.waiting + length (padding w) ≡ block_numbers v.params = fills_block v w is rule some in
    let items : c.fill_up.new.numbers.items ≡ v.waiting ++ padding w = fills_up v w is rule some _ c.block_numbers-numbers.result c.block_numbers-numbers.ensures.value (search rules) in
    let made = block_made v w (padding w) c.fill_up.new.numbers.items is c.self.invariant.form full items in
    puts_as g.D.Disk c.args.disk.now c.put_block.new.disk _ _ _ _ c.next_place-at.ensures made c.put_block.ensures.puts

pub returns-clause-written : goal.returns-clause-written
returns-clause-written g c =
    let written = (returns-clause-puts g c).written in
    record { later = written.later; most = omega (arith, written.most, last_size c.args.self.now c.keeps_rule.ensures) }

pub returns-clause-there : goal.returns-clause-there
returns-clause-there g c =
    is_reached c.args.start _ _ c.args.self.now _ (padding c.args.self.now) c.keeps_rule.ensures.form (returns-clause-takes g c) (returns-clause-done g c).size
