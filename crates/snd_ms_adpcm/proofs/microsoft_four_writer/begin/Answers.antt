use Rattle.std.proofs.Common.{◌≡◌, length, rules, arith}
use Rattle.std.proofs.lemmas.List.{length-take-le}
use Rattle.snd_ms_adpcm.proofs.microsoft_four_writer.begin.Goals as goal

pub copy_from_slice-requires : goal.copy_from_slice-requires
copy_from_slice-requires c =
    let long : length c.bytes.result ≡ 14 = search rules in
    omega (arith, long, length-take-le 14 c.args.into.now (omega (arith, c.requires.room, c.requires.least)))
