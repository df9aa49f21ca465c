use Rattle.std.proofs.Common.{refl, subst, sym, ℕ, List, [], ◌∷◌, ◌++◌, OnOk, length, arith}
use Rattle.snd_layout.specs.declared.piece.Piece.{Piece}
use Rattle.snd_file.specs.Handle.{known_of}
use Rattle.snd_output.specs.Made.{IsChunk}
use Rattle.snd_chunks.specs.Heads.{new_piece}
use Rattle.snd_metadata.specs.Making.{HasPut, PutsPlanned}
use Rattle.snd_metadata.specs.Planned.{MayStand}
use Rattle.snd_metadata.specs.declared.chunks.PlannedChunk.{PlannedChunk}
use Rattle.snd_metadata.specs.declared.chunks.PlannedChunk.TheVariants.{Given}
use Rattle.snd_metadata.proofs.Filling.{on_both, on_three, put_given, put_kept}
use Rattle.snd_metadata.proofs.make.put_planned.Goals as goal

pub returns-in-Kept-clause-puts : goal.returns-in-Kept-clause-puts
returns-in-Kept-clause-puts g c =
    subst (λ (x : PlannedChunk). OnOk c.carry_chunk.result (PutsPlanned g.D.Disk.state g.E.Disk.state x c.args.from.now c.args.to.now c.carry_chunk.new.to)) (sym c.in-Kept.is)
    (on_three c.carry_chunk.result _ _ _ _
    (λ carries holds chunk. put_kept g.D.Disk.state g.E.Disk.state c.args.from.now c.args.to.now c.carry_chunk.new.to c.in-Kept.place c.in-Kept.piece carries holds chunk)
    c.carry_chunk.ensures.carries c.carry_chunk.ensures.holds c.carry_chunk.ensures.chunk)

pub returns-in-Given-clause-puts : goal.returns-in-Given-clause-puts
returns-in-Given-clause-puts g c =
    let pieces : List Piece = (known_of c.args.from.now).shape.pieces in
    let may : MayStand pieces (Given c.in-Given.id c.in-Given.body) = subst (MayStand pieces) c.in-Given.is c.requires.stands in
    let is : IsChunk (new_piece c.in-Given.id.0 c.in-Given.body.items) = record { four = may.1; other = may.0; few = omega (arith, may.2); id = may.3; body = may.4 } in
    subst (λ (x : PlannedChunk). OnOk c.put_chunk.result (PutsPlanned g.D.Disk.state g.E.Disk.state x c.args.from.now c.args.to.now c.put_chunk.new.to)) (sym c.in-Given.is)
    (on_both c.put_chunk.result _ _ _
    (λ stands holds r kind p cs s meta was. (
      subst (λ (b : List ℕ). HasPut g.E.Disk.state kind p (cs ++ new_piece c.in-Given.id.0 b ∷ []) c.put_chunk.new.to) c.deref.ensures.value
          (put_given g.D.Disk.state g.E.Disk.state c.args.from.now c.args.to.now c.put_chunk.new.to (length (known_of c.args.to.now).shape.pieces) c.in-Given.id.0 c.deref.result.now refl stands holds kind p cs meta was),
      is,
    ))
    c.put_chunk.ensures.stands c.put_chunk.ensures.holds)
