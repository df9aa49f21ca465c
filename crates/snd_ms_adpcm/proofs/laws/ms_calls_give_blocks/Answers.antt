use Rattle.snd_ima_adpcm.specs.Blocks.{joined}
use Rattle.snd_ms_adpcm.specs.Laws.{ms_rule}
use Rattle.snd_ms_adpcm.specs.Microsoft.{ms_numbers}
use Rattle.snd_ima_adpcm.proofs.Public.{calls_give_list, filled-whole}
use Rattle.snd_ms_adpcm.proofs.BlockLaws.{ms_numbers-positive}
use Rattle.snd_ms_adpcm.proofs.laws.ms_calls_give_blocks.Goals as goal

pub returns-clause-filled : goal.returns-clause-filled
returns-clause-filled c = λ channels align samples calls known accepted all same.
    calls_give_list (ms_rule channels) (ms_numbers channels align) tt samples calls (ms_numbers-positive channels align known) all same

pub returns-clause-joined : goal.returns-clause-joined
returns-clause-joined c = λ channels align calls known accepted all.
    let positive = ms_numbers-positive channels align known in
    calls_give_list (ms_rule channels) (ms_numbers channels align) tt (joined calls) calls positive all (filled-whole (ms_numbers channels align) calls positive all)
