-- What a crash may leave after a list of calls on a file that was synced.
use Rattle.std.specs.Prelude.{◌≡◌, ℕ, ◌+◌, ◌≤◌, ◌/◌, List, [], ◌∷◌, length, take, get_or, map, max, nat_lt, nat_le, if◌then◌else◌}
use Rattle.std.specs.List.{range_with_len}
use Rattle.snd_disk.specs.Bytes.{Mix, over}
use Rattle.snd_memory.specs.declared.call.Call.{Call}
use Rattle.snd_memory.specs.declared.call.Call.TheVariants.{Write, Cut, Sync}
use Rattle.snd_memory.specs.declared.call.End.{End}
use Rattle.snd_memory.specs.declared.call.End.TheVariants.{Done, Broken}
use Rattle.snd_memory.specs.declared.call.Made.{Made}

-- how many sectors n bytes take
abbrev pub sectors_of : ℕ → ℕ
sectors_of n = (n + 511) / 512

-- y, where the sectors below k are those of z
abbrev pub with_sectors_of : List ℕ → List ℕ → ℕ → List ℕ
with_sectors_of y z k = map (λ i. if nat_lt (i / 512) k then get_or z i 0 else get_or y i 0) (range_with_len 0 (length y))

-- .. and z as a whole where these are all its sectors and all of y's
abbrev pub partly : List ℕ → List ℕ → ℕ → List ℕ
partly y z k = if nat_le (sectors_of (max (length y) (length z))) k then z else with_sectors_of y z k

-- what stands of b where m was meant
abbrev pub reached : End → List ℕ → List ℕ → List ℕ
reached Done b m = m
reached (Broken sectors) b m = partly b m sectors

-- the contents after one call, and after a list of calls
abbrev pub contents_of : Call → End → List ℕ → List ℕ
contents_of (Write at from) end b = reached end b (over b at from.items)
contents_of (Cut len) end b = reached end b (take len b)
contents_of Sync end b = b

abbrev pub contents_after : Made → List ℕ → List ℕ
contents_after c b = contents_of c.call c.end b

abbrev pub contents_by : List Made → List ℕ → List ℕ
contents_by [] b = b
contents_by (c ∷ calls) b = contents_by calls (contents_after c b)

-- the images after one call: a sync that succeeds leaves the contents alone, one that fails leaves what was;
-- a write or a cut leaves the mixes of an earlier image and what was meant
abbrev pub image_after : Call → End → List ℕ → (List ℕ → Type 0) → List ℕ → Type 0
image_after (Write at from) end b before x = (y : List ℕ) × before y × Mix y (over b at from.items) x
image_after (Cut len) end b before x = (y : List ℕ) × before y × Mix y (take len b) x
image_after Sync Done b before x = x ≡ b
image_after Sync (Broken sectors) b before x = before x

-- the images after a list of calls, from the contents and the images before them
abbrev pub image_by : List Made → List ℕ → (List ℕ → Type 0) → List ℕ → Type 0
image_by [] b before x = before x
image_by (c ∷ calls) b before x = image_by calls (contents_after c b) (image_after c.call c.end b before) x

-- .. where the first contents were synced
abbrev pub image_of : List ℕ → List Made → List ℕ → Type 0
image_of first calls = image_by calls first (λ x. x ≡ first)

-- .. after some number of calls between two numbers
abbrev pub image_between : List ℕ → List Made → ℕ → ℕ → List ℕ → Type 0
image_between first calls s t x = (k : ℕ) × (s ≤ k) × (k ≤ t) × (k ≤ length calls) × image_of first (take k calls) x
