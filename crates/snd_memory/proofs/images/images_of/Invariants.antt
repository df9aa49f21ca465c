use Rattle.std.proofs.Common.{◌≡◌, take}
use Rattle.std.specs.List.{All}
use Rattle.snd_memory.specs.Past.{contents_by, image_of, image_between}
use Rattle.snd_memory.proofs.images.images_of.Given as goal

abbrev pub invariant-loop-k : goal.invariant-loop-k
invariant-loop-k l = record {
  contents : l.bytes.items ≡ contents_by (take l.k l.past) l.first;
  images : All (λ v. image_of l.first (take l.k l.past) v.items) l.images.items;
  listed : All (λ v. image_between l.first l.past l.from l.to v.items) l.listed.items;
}
