use Rattle.std.proofs.Common.{◌≡◌, ◌/◌, ◌++◌, length}
use Rattle.snd_pcm.specs.Groups.{groups}
use Rattle.snd_rack.specs.Passing.{EachMay, each_by, joined, next_by, passed_block}
use Rattle.snd_rack.proofs.stage.Stage.apply_all.Given as goal

abbrev pub invariant-loop-samples : goal.invariant-loop-samples
invariant-loop-samples g l = record {
  size : l.samples-iterator.size ≡ l.channels;
  samples : l.spare.items ++ joined (each_by (g.Self.Stage.stage l.self) (groups l.channels l.samples-iterator.rest.now))
      ≡ passed_block (g.Self.Stage.stage l.fn.self) l.channels l.fn.block.items;
  state : next_by (length l.samples-iterator.rest.now / l.channels) (g.Self.Stage.stage l.self) ≡ next_by (length l.fn.block.items / l.channels) (g.Self.Stage.stage l.fn.self);
  may : EachMay (g.Self.Stage.stage l.self) (groups l.channels l.samples-iterator.rest.now);
}
