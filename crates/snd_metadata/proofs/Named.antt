-- Chunks of a plan.
use Rattle.std.proofs.Common.{◌≡◌, refl, ℕ, List}
use Rattle.snd_metadata.specs.Chunks.{is_extension}
use Rattle.snd_metadata.specs.Planned.{chunk_planned, names_extension}
use Rattle.snd_metadata.specs.declared.chunks.PlannedChunk.{PlannedChunk}
use Rattle.snd_metadata.specs.declared.chunks.PlannedChunk.TheVariants.{Given, Kept}

-- whether one is a broadcast extension is seen by its identifier
pub named_so : (b : List ℕ) (chunk : PlannedChunk) → is_extension (chunk_planned b chunk) ≡ names_extension chunk
named_so b (Kept place piece) = refl
named_so b (Given id body) = refl
