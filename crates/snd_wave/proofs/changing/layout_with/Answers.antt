use Rattle.std.proofs.Common.{rules, arith}
use Rattle.snd_wave.proofs.Made.{no_bytes_yet}
use Rattle.snd_wave.proofs.changing.layout_with.Goals as goal

pub invariant_of-result : goal.invariant_of-result
invariant_of-result c = record {
  fits = search rules;
  inner_size = search rules;
  outer_size = search rules;
  side_size = search rules;
  inner_end = search rules;
  outer_end = search rules;
  side_end = search rules;
  sound_start = search rules;
  pieces_placed = search rules;
  data_end = search rules;
  in_room = λ known. omega (arith, no_bytes_yet c.args.params c.are_good.ensures c.requires.fits);
  declared_fits = search rules;
  reserved = c.requires.reserve;
}
