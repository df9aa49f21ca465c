use Rattle.std.proofs.Common.{◌≡◌, map}
use Rattle.snd_meters.specs.Gauge.{gauge_of, waiting}
use Rattle.snd_meters.proofs.meters.Meters.new.Given as goal

abbrev pub invariant-loop-tap : goal.invariant-loop-tap
invariant-loop-tap g l =
    map (λ s. gauge_of s.is_on ((goal.Tap-dyn g (s.tap.vtable, s.tap.value)).meter s.tap.value)) l.slots.items
    ≡ map (λ b. waiting ((goal.Tap-dyn g (b.vtable, b.value)).meter b.value).kind) l.yielded
