use Rattle.std.proofs.Common.{rules, ◌≡◌, ◌++◌, ℕ, List, [], length, refl, sym, subst, ◌∙◌, arith}
use Rattle.snd_disk.specs.State.{IsWritten}
use Rattle.snd_blocks.specs.Calls.{AreBlocks}
use Rattle.snd_block_writer.specs.Writing.{Writing, more_bytes, next_place}
use Rattle.snd_block_writer.proofs.Given.{block_fits, block_given, block_made, is_full, is_reached, none_new, same_writing}
use Rattle.snd_block_writer.proofs.Together.{part_blocks, part_none, part_room}
use Rattle.snd_block_writer.proofs.Putting.{none_put, none_written, puts_as, written_as}
use Rattle.snd_block_writer.proofs.writer.BlockWriter.take_part.Goals as goal

pub take_blocks-requires-clause-none : goal.take_blocks-requires-clause-none
take_blocks-requires-clause-none g c = part_none c.args.self.now (length c.args.part.now) c.requires.part (omega (arith, c.block_numbers-numbers.ensures.value))

pub take_blocks-requires-clause-whole : goal.take_blocks-requires-clause-whole
take_blocks-requires-clause-whole g c = part_blocks c.args.self.now (length c.args.part.now) c.requires.part (omega (arith, c.block_numbers-numbers.ensures.value))

pub returns-then-len-numbers-clause-done : goal.returns-then-len-numbers-clause-done
returns-then-len-numbers-clause-done g c =
    let w = c.args.self.now in
    let none : more_bytes w c.args.part.now ≡ [] = none_new w c.args.part.now (search rules) in
    let s = g.D.Disk.state c.args.disk.now in
    subst (λ (l : List ℕ). IsWritten (next_place c.args.start w) l s s) (sym none)
    (none_written s (next_place c.args.start w) c.requires.there (g.met.D.Disk.size_told c.args.disk.now))

pub returns-then-len-numbers-clause-puts : goal.returns-then-len-numbers-clause-puts
returns-then-len-numbers-clause-puts g c = none_put g.D.Disk g.met.D.Disk.only_now c.args.disk.now _ _

pub put_block-requires-clause-fits : goal.put_block-requires-clause-fits
put_block-requires-clause-fits g c =
    let v : Writing = record { params = c.self.inside.params; blocks = c.self.inside.blocks; indices = c.self.inside.ima; waiting = c.self.inside.waiting.items } in
    let items : c.try_extend_from_slice.new.self.items ≡ v.waiting ++ c.args.part.now = search rules in
    let room = part_room c.args.self.now (length c.args.part.now) c.requires.part (omega (arith, c.if-len-numbers.false, c.block_numbers-numbers.ensures.value, c.len.ensures)) in
    let full = is_full v c.args.self.now c.args.part.now c.self.view_is c.try_extend_from_slice.new.self.items c.block_numbers-numbers.result c.len.result items room c.block_numbers-numbers.ensures.value c.len.ensures.value c.if-len-numbers.false in
    block_fits v c.args.self.now c.args.part.now c.self.view_is c.args.start c.next_place-at.result _ c.self.invariant.form full c.next_place-at.ensures c.requires.fits

pub returns-in_err-put_block-clause-puts : goal.returns-in_err-put_block-clause-puts
returns-in_err-put_block-clause-puts g c =
    let v : Writing = record { params = c.self.inside.params; blocks = c.self.inside.blocks; indices = c.self.inside.ima; waiting = c.self.inside.waiting.items } in
    let items : c.try_extend_from_slice.new.self.items ≡ v.waiting ++ c.args.part.now = search rules in
    let room = part_room c.args.self.now (length c.args.part.now) c.requires.part (omega (arith, c.if-len-numbers.false, c.block_numbers-numbers.ensures.value, c.len.ensures)) in
    let full = is_full v c.args.self.now c.args.part.now c.self.view_is c.try_extend_from_slice.new.self.items c.block_numbers-numbers.result c.len.result items room c.block_numbers-numbers.ensures.value c.len.ensures.value c.if-len-numbers.false in
    let made = block_made v c.args.self.now c.args.part.now c.try_extend_from_slice.new.self.items c.self.view_is c.self.invariant.form full items in
    puts_as g.D.Disk c.args.disk.now c.put_block.new.disk _ _ _ _ c.next_place-at.ensures made c.put_block.ensures.puts

pub returns-clause-takes : goal.returns-clause-takes
returns-clause-takes g c =
    let v : Writing = record { params = c.self.inside.params; blocks = c.self.inside.blocks; indices = c.self.inside.ima; waiting = c.self.inside.waiting.items } in
    let items : c.try_extend_from_slice.new.self.items ≡ v.waiting ++ c.args.part.now = search rules in
    let room = part_room c.args.self.now (length c.args.part.now) c.requires.part (omega (arith, c.if-len-numbers.false, c.block_numbers-numbers.ensures.value, c.len.ensures)) in
    let full = is_full v c.args.self.now c.args.part.now c.self.view_is c.try_extend_from_slice.new.self.items c.block_numbers-numbers.result c.len.result items room c.block_numbers-numbers.ensures.value c.len.ensures.value c.if-len-numbers.false in
    same_writing v.params _ _ _ _ _ _ refl c.in_ok-put_block.ensures.indices c.in_ok-put_block.ensures.empty
    ∙ block_given v c.args.self.now c.args.part.now c.try_extend_from_slice.new.self.items c.self.view_is c.self.invariant.form full items

pub returns-clause-done : goal.returns-clause-done
returns-clause-done g c =
    let v : Writing = record { params = c.self.inside.params; blocks = c.self.inside.blocks; indices = c.self.inside.ima; waiting = c.self.inside.waiting.items } in
    let items : c.try_extend_from_slice.new.self.items ≡ v.waiting ++ c.args.part.now = search rules in
    let room = part_room c.args.self.now (length c.args.part.now) c.requires.part (omega (arith, c.if-len-numbers.false, c.block_numbers-numbers.ensures.value, c.len.ensures)) in
    let full = is_full v c.args.self.now c.args.part.now c.self.view_is c.try_extend_from_slice.new.self.items c.block_numbers-numbers.result c.len.result items room c.block_numbers-numbers.ensures.value c.len.ensures.value c.if-len-numbers.false in
    let made = block_made v c.args.self.now c.args.part.now c.try_extend_from_slice.new.self.items c.self.view_is c.self.invariant.form full items in
    written_as (g.D.Disk.state c.args.disk.now) (g.D.Disk.state c.put_block.new.disk) _ _ _ _ c.next_place-at.ensures made c.in_ok-put_block.ensures.done

pub returns-clause-puts : goal.returns-clause-puts
returns-clause-puts g c =
    let v : Writing = record { params = c.self.inside.params; blocks = c.self.inside.blocks; indices = c.self.inside.ima; waiting = c.self.inside.waiting.items } in
    let items : c.try_extend_from_slice.new.self.items ≡ v.waiting ++ c.args.part.now = search rules in
    let room = part_room c.args.self.now (length c.args.part.now) c.requires.part (omega (arith, c.if-len-numbers.false, c.block_numbers-numbers.ensures.value, c.len.ensures)) in
    let full = is_full v c.args.self.now c.args.part.now c.self.view_is c.try_extend_from_slice.new.self.items c.block_numbers-numbers.result c.len.result items room c.block_numbers-numbers.ensures.value c.len.ensures.value c.if-len-numbers.false in
    let made = block_made v c.args.self.now c.args.part.now c.try_extend_from_slice.new.self.items c.self.view_is c.self.invariant.form full items in
    puts_as g.D.Disk c.args.disk.now c.put_block.new.disk _ _ _ _ c.next_place-at.ensures made c.put_block.ensures.puts

pub returns-clause-there : goal.returns-clause-there
returns-clause-there g c =
    let form : AreBlocks c.args.self.now.params = subst (λ (u : Writing). AreBlocks u.params) c.self.view_is c.self.invariant.form in
    is_reached c.args.start _ _ c.args.self.now _ c.args.part.now form (returns-clause-takes g c) (returns-clause-done g c).size
