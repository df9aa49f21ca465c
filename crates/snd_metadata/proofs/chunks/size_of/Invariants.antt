use Rattle.std.proofs.Common.{◌≡◌, ◌+◌, ◌*◌, ◌≤◌, drop}
use Rattle.snd_metadata.specs.Planned.{sizes_planned}
use Rattle.snd_metadata.proofs.chunks.size_of.Given as goal

abbrev pub invariant-loop-chunk : goal.invariant-loop-chunk
invariant-loop-chunk l = record {
  so_far : l.size + sizes_planned (drop l.chunk-index l.plan) ≡ sizes_planned l.plan;
  few : l.size ≤ 65544 * l.chunk-index;
}
