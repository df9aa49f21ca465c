use Rattle.std.proofs.Common.{◌≡◌, ◌∙◌, refl, subst}
use Rattle.snd_blocks.specs.Calls.{AreBlocks}
use Rattle.snd_block_writer.specs.Writing.{Writing, more_bytes}
use Rattle.snd_block_writer.proofs.Given.{is_reached, same_writing}
use Rattle.snd_block_writer.proofs.Putting.{puts_as, written_as}
use Rattle.snd_block_writer.proofs.Together.{blocks_fit, blocks_given, blocks_made}
use Rattle.snd_block_writer.proofs.writer.BlockWriter.take_blocks.Goals as goal

pub write_bytes-requires : goal.write_bytes-requires
write_bytes-requires g c =
    let w = c.args.self.now in
    let v : Writing = record { params = c.self.inside.params; blocks = c.self.inside.blocks; indices = c.self.inside.ima; waiting = c.self.inside.waiting.items } in
    blocks_fit v w c.args.part.now c.self.view_is c.requires.none c.self.invariant.form c.encode_blocks-count.result c.encode_blocks-count.ensures.count
    c.args.start c.next_place-at.result _ c.as_slice.result.now (c.as_slice.ensures.value ∙ c.encode_blocks-count.ensures.bytes) c.next_place-at.ensures c.requires.fits

pub returns-in_err-write_bytes-clause-puts : goal.returns-in_err-write_bytes-clause-puts
returns-in_err-write_bytes-clause-puts g c =
    let w = c.args.self.now in
    let v : Writing = record { params = c.self.inside.params; blocks = c.self.inside.blocks; indices = c.self.inside.ima; waiting = c.self.inside.waiting.items } in
    let made : c.as_slice.result.now ≡ more_bytes w c.args.part.now =
    c.as_slice.ensures.value ∙ c.encode_blocks-count.ensures.bytes
    ∙ blocks_made v w c.args.part.now c.self.view_is c.requires.none c.self.invariant.form c.encode_blocks-count.result c.encode_blocks-count.ensures.count in
    puts_as g.D.Disk c.args.disk.now c.write_bytes.new.disk _ _ _ _ c.next_place-at.ensures made c.write_bytes.ensures.puts

pub returns-clause-takes : goal.returns-clause-takes
returns-clause-takes g c =
    let w = c.args.self.now in
    let v : Writing = record { params = c.self.inside.params; blocks = c.self.inside.blocks; indices = c.self.inside.ima; waiting = c.self.inside.waiting.items } in
    same_writing v.params _ _ _ _ _ _ refl c.encode_blocks-count.ensures.indices refl
    ∙ blocks_given v w c.args.part.now c.self.view_is c.requires.none c.self.invariant.form c.encode_blocks-count.result c.encode_blocks-count.ensures.count

pub returns-clause-done : goal.returns-clause-done
returns-clause-done g c =
    let w = c.args.self.now in
    let v : Writing = record { params = c.self.inside.params; blocks = c.self.inside.blocks; indices = c.self.inside.ima; waiting = c.self.inside.waiting.items } in
    let made : c.as_slice.result.now ≡ more_bytes w c.args.part.now =
    c.as_slice.ensures.value ∙ c.encode_blocks-count.ensures.bytes
    ∙ blocks_made v w c.args.part.now c.self.view_is c.requires.none c.self.invariant.form c.encode_blocks-count.result c.encode_blocks-count.ensures.count in
    written_as (g.D.Disk.state c.args.disk.now) (g.D.Disk.state c.write_bytes.new.disk) _ _ _ _ c.next_place-at.ensures made c.in_ok-write_bytes.ensures.done

pub returns-clause-puts : goal.returns-clause-puts
returns-clause-puts g c =
    let w = c.args.self.now in
    let v : Writing = record { params = c.self.inside.params; blocks = c.self.inside.blocks; indices = c.self.inside.ima; waiting = c.self.inside.waiting.items } in
    let made : c.as_slice.result.now ≡ more_bytes w c.args.part.now =
    c.as_slice.ensures.value ∙ c.encode_blocks-count.ensures.bytes
    ∙ blocks_made v w c.args.part.now c.self.view_is c.requires.none c.self.invariant.form c.encode_blocks-count.result c.encode_blocks-count.ensures.count in
    puts_as g.D.Disk c.args.disk.now c.write_bytes.new.disk _ _ _ _ c.next_place-at.ensures made c.write_bytes.ensures.puts

pub returns-clause-there : goal.returns-clause-there
returns-clause-there g c =
    let form : AreBlocks c.args.self.now.params = subst (λ (u : Writing). AreBlocks u.params) c.self.view_is c.self.invariant.form in
    is_reached c.args.start _ _ c.args.self.now _ c.args.part.now form (returns-clause-takes g c) (returns-clause-done g c).size
