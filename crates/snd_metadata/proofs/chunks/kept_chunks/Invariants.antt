use Rattle.std.proofs.Common.{◌≡◌, ◌≤◌, ℕ, List, All, length, map, take}
use Rattle.snd_carry.specs.Carried.{body_bytes}
use Rattle.snd_chunks.specs.Heads.{chunk_read}
use Rattle.snd_metadata.specs.Chunks.{kept_pieces}
use Rattle.snd_metadata.specs.Planned.{MayStand, bytes_planned, chunk_planned}
use Rattle.snd_metadata.proofs.chunks.kept_chunks.Given as goal

abbrev pub invariant-loop-place : goal.invariant-loop-place
invariant-loop-place l = record {
  kept : (b : List ℕ) → map (chunk_planned b) l.plan.items ≡ map (chunk_read b) (kept_pieces (take l.place l.pieces));
  counted : length l.plan.items ≡ length (kept_pieces (take l.place l.pieces));
  each : All (MayStand l.pieces) l.plan.items;
  once : bytes_planned l.plan.items ≤ body_bytes (take l.place l.pieces);
}
