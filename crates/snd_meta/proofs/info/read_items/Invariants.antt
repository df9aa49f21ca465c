use Rattle.std.proofs.Common.{◌≡◌, ◌≤◌, [], option_map, length}
use Rattle.snd_meta.specs.Info.{completed, items_of, IsInfo}
use Rattle.snd_meta.proofs.info.read_items.Given as goal

abbrev pub invariant-loop-rest : goal.invariant-loop-rest
invariant-loop-rest l = record {
  same : option_map (completed l.list) (items_of l.rest) ≡ option_map (completed []) (items_of l.items);
  info : IsInfo l.list;
  short : length l.rest ≤ 65536;
}

abbrev pub decreases-loop-rest : goal.decreases-loop-rest
decreases-loop-rest l = length l.rest
