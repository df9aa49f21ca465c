use Rattle.std.proofs.Common.{◌≡◌, false, take}
use Rattle.std.specs.List.{list_any}
use Rattle.snd_meters.specs.Gauge.{gauge_of, stands}
use Rattle.snd_meters.proofs.meters.Meters.find.Given as goal

abbrev pub invariant-loop-at : goal.invariant-loop-at
invariant-loop-at g l = record {
  none_yet : list_any (λ s. stands l.is_on l.kind (gauge_of s.is_on ((goal.Tap-dyn g (s.tap.vtable, s.tap.value)).meter s.tap.value))) (take l.at l.slot-items) ≡ false;
  same : l.slot-items ≡ l.self.slots.items;
}
