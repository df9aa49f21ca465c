-- The blocks that a handle has read last, on a disk whose contents stay.
use Rattle.std.proofs.Common.{◌≡◌, ◌∙◌, sym}
use Rattle.std.specs.Global.{Box}
use Rattle.std.specs.Prelude.{Option}
use Rattle.snd_disk.specs.State.{State}
use Rattle.snd_blocks.specs.Cache.{Caches}
use Rattle.snd_blocks.specs.declared.buffer.BlockCache.{BlockCache}
use Rattle.snd_layout.specs.Shape.{Shape}
use Rattle.snd_frames.specs.Caching.{CachesIn}

-- a cache stands for a disk whose contents stay
pub same_cache : {D : Type 0} (state : D → State) (old new : D) (s : Shape) (c : BlockCache) → (state new).contents ≡ (state old).contents → Caches state old s c → Caches state new s c
same_cache state old new s c same caches = record { right = λ n b is told. caches.right n b is (sym same ∙ told); whole = caches.whole; range = caches.range }

pub still_cached : {D : Type 0} (state : D → State) (old new : D) (s : Shape) (cache : Option (Box BlockCache)) → (state new).contents ≡ (state old).contents
    → CachesIn state old s cache → CachesIn state new s cache
still_cached state old new s cache same caches = λ c is. same_cache state old new s c.value same (caches c is)
