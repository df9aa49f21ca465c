use Rattle.snd_ima_adpcm.specs.Blocks.{joined}
use Rattle.snd_ima_adpcm.specs.Laws.{ima_rule}
use Rattle.snd_ima_adpcm.specs.Ima.{ima_numbers}
use Rattle.snd_ima_adpcm.proofs.BlockLaws.{calls_give_list, filled-whole, ima_numbers-positive}
use Rattle.snd_ima_adpcm.proofs.laws.ima_calls_give_blocks.Goals as goal

pub returns-clause-filled : goal.returns-clause-filled
returns-clause-filled c = λ channels align samples calls known accepted all same.
    calls_give_list (ima_rule channels) (ima_numbers channels align) (0, 0) samples calls (ima_numbers-positive channels align known) all same

pub returns-clause-joined : goal.returns-clause-joined
returns-clause-joined c = λ channels align calls known accepted all.
    let positive = ima_numbers-positive channels align known in
    calls_give_list (ima_rule channels) (ima_numbers channels align) (0, 0) (joined calls) calls positive all (filled-whole (ima_numbers channels align) calls positive all)
