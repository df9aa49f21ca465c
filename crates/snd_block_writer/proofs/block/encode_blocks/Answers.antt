use Rattle.std.proofs.Common.{◌∙◌, ◌/◌, ◌<◌, ◌≤◌, length, arith, rules}
use Rattle.snd_block_writer.specs.Coded.{block_numbers}
use Rattle.snd_block_writer.proofs.Together.{four_room, four_together, four_whole, is_four, is_one, none_carried}
use Rattle.snd_block_writer.proofs.block.encode_blocks.Goals as goal

pub returns-then-numbers-block-clause-bytes : goal.returns-then-numbers-block-clause-bytes
returns-then-numbers-block-clause-bytes c =
    let p = c.args.params in
    let xs = c.args.numbers.now in
    let many : block_numbers p < length xs = search rules in
    let four = is_four p (length xs) c.requires.whole many in
    c.encode_four.ensures ∙ four_together p four.1 (length xs / 4) c.args.ima.now xs (omega (arith, four.0))

pub returns-then-numbers-block-clause-indices : goal.returns-then-numbers-block-clause-indices
returns-then-numbers-block-clause-indices c =
    let p = c.args.params in
    let many : block_numbers p < length c.args.numbers.now = search rules in
    none_carried p (is_four p (length c.args.numbers.now) c.requires.whole many).1 (block_numbers p) 4 c.args.ima.now c.args.numbers.now

pub encode_four-requires-clause-whole : goal.encode_four-requires-clause-whole
encode_four-requires-clause-whole c =
    let p = c.args.params in
    let xs = c.args.numbers.now in
    let many : block_numbers p < length xs = search rules in
    let four = is_four p (length xs) c.requires.whole many in
    four_whole p c.requires.form four.1 (length xs) four.0

pub encode_four-requires-clause-room : goal.encode_four-requires-clause-room
encode_four-requires-clause-room c =
    let p = c.args.params in
    let xs = c.args.numbers.now in
    let many : block_numbers p < length xs = search rules in
    let four = is_four p (length xs) c.requires.whole many in
    four_room p c.requires.form four.1 (length xs) four.0

pub encode-requires-clause-whole : goal.encode-requires-clause-whole
encode-requires-clause-whole c =
    let few : length c.args.numbers.now ≤ block_numbers c.args.params = search rules in
    is_one c.args.params (length c.args.numbers.now) c.requires.form c.requires.whole few
