use Rattle.std.proofs.Common.{◌≡◌, ◌++◌, drop, length}
use Rattle.std.specs.List.{filter_map, list_all}
use Rattle.snd_rack.specs.Spec.{number_in, parts}
use Rattle.snd_rack.proofs.Listed.{says}
use Rattle.snd_rack.proofs.spec.places_of.Given as goal

abbrev pub invariant-loop-at : goal.invariant-loop-at
invariant-loop-at l = record {
  places : l.places.items ++ filter_map (number_in 0 255) (drop l.at (parts 46 l.text)) ≡ filter_map (number_in 0 255) (parts 46 l.text);
  each : list_all (says (number_in 0 255)) (drop l.at (parts 46 l.text)) ≡ list_all (says (number_in 0 255)) (parts 46 l.text);
  count : length l.places.items ≡ l.at;
}
