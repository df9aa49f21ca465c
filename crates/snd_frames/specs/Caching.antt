-- The blocks that a handle has read last.
use Rattle.std.specs.Prelude.{◌≡◌, Option, None, Some}
use Rattle.std.specs.Global.{Box}
use Rattle.snd_blocks.specs.Cache.{Caches, count_cached}
use Rattle.snd_blocks.specs.declared.buffer.BlockCache.{BlockCache}
use Rattle.snd_disk.specs.State.{State}
use Rattle.snd_layout.specs.Shape.{Shape}

-- where there is a cache, what it holds are blocks of the file
abbrev pub CachesIn : {D : Type 0} → (D → State) → D → Shape → Option (Box BlockCache) → Type 0
CachesIn state disk s cache = (c : Box BlockCache) → cache ≡ Some c → Caches state disk s c.value

-- .. as it begins, none
abbrev pub IsEmpty : Option (Box BlockCache) → Type 0
IsEmpty cache = (c : Box BlockCache) → cache ≡ Some c → count_cached c.value ≡ 0
