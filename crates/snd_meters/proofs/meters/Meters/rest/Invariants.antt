use Rattle.std.proofs.Common.{◌≡◌, take, drop, map, length}
use Rattle.snd_meters.specs.Gauge.{gauge_of, rested_gauge}
use Rattle.snd_meters.proofs.meters.Meters.rest.Given as goal

abbrev pub invariant-loop-each : goal.invariant-loop-each
invariant-loop-each g l = record {
  so_far : map (λ s. gauge_of s.is_on ((goal.Tap-dyn g (s.tap.vtable, s.tap.value)).meter s.tap.value)) (take l.each-index l.each-items)
      ≡ map (λ s. rested_gauge (gauge_of s.is_on ((goal.Tap-dyn g (s.tap.vtable, s.tap.value)).meter s.tap.value))) (take l.each-index l.fn.self.slots.items);
  rest : drop l.each-index l.each-items ≡ drop l.each-index l.fn.self.slots.items;
  same_length : length l.each-items ≡ length l.fn.self.slots.items;
}
