use Rattle.std.proofs.Common.{◌≡◌, take, drop, map, length}
use Rattle.snd_pcm.specs.Groups.{groups}
use Rattle.snd_meters.specs.Gauge.{gauge_of, fed_gauge}
use Rattle.snd_meters.proofs.meters.Meters.feed.Given as goal

abbrev pub invariant-loop-slot : goal.invariant-loop-slot
invariant-loop-slot g l = record {
  so_far : map (λ s. gauge_of s.is_on ((goal.Tap-dyn g (s.tap.vtable, s.tap.value)).meter s.tap.value)) (take l.slot-index l.slot-items)
      ≡ map (λ s. fed_gauge (groups l.channels l.numbers) (gauge_of s.is_on ((goal.Tap-dyn g (s.tap.vtable, s.tap.value)).meter s.tap.value))) (take l.slot-index l.fn.self.slots.items);
  rest : drop l.slot-index l.slot-items ≡ drop l.slot-index l.fn.self.slots.items;
  same_length : length l.slot-items ≡ length l.fn.self.slots.items;
}
