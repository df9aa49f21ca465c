use Rattle.std.proofs.Common.{rules, ◌≡◌, ◌∙◌, sym, subst, ℕ, ◌<◌, List, false, true, length, take, get_or}
use Rattle.std.proofs.lemmas.List.Elements.{All-get_or, All-take}
use Rattle.std.proofs.lemmas.Option.{slice_get-get_or}
use Rattle.std.specs.List.{All}
use Rattle.snd_disk.proofs.Public.{only_reads_then}
use Rattle.snd_layout.specs.Shape.{IsPlaced}
use Rattle.snd_layout.specs.declared.piece.Piece.{Piece}
use Rattle.snd_edits.specs.TagsHeld.{is_info}
use Rattle.snd_tags.proofs.Searches.{find_at_end, find_at_place, find_past, no_piece}
use Rattle.snd_tags.proofs.look.info_piece.Goals as goal

-- each element of a front passes what each element of the list does
placed_at : (pieces front : List Piece) (i : ℕ) → front ≡ take 256 pieces → All IsPlaced pieces → i < length front → IsPlaced (get_or front i no_piece)
placed_at pieces front i is placed within = All-get_or IsPlaced front i no_piece within (subst (All IsPlaced) (sym is) (All-take IsPlaced 256 pieces placed))

pub is_info-requires : goal.is_info-requires
is_info-requires g c = placed_at c.args.pieces.now c.front-piece-items.result.now c.loop-piece.piece-index (search rules) (search rules) (search rules)

pub returns-then-branch-clause-placed : goal.returns-then-branch-clause-placed
returns-then-branch-clause-placed g c = placed_at c.args.pieces.now c.front-piece-items.result.now c.loop-piece.piece-index (search rules) (search rules) (search rules)

pub loop-piece-preserved : goal.loop-piece-preserved
loop-piece-preserved g c =
    let front = c.front-piece-items.result.now in
    let i = c.loop-piece.piece-index in
    record {
      passed = λ b told.
          let says : false ≡ is_info b (get_or front i no_piece) = sym c.if-branch.false ∙ c.in_ok-is_info.ensures.says b (c.loop-piece.invariant.reads.keeps.contents ∙ told) in
          c.loop-piece.invariant.passed b told ∙ find_past (is_info b) front i (get_or front i no_piece) (slice_get-get_or front i no_piece (search rules)) (sym says);
      calm = search rules;
      reads = only_reads_then _ _ _ _ _ _ _ _ _ c.loop-piece.invariant.reads c.in_ok-is_info.ensures.reads;
      asked = search rules;
    }

pub returns-then-branch-clause-found : goal.returns-then-branch-clause-found
returns-then-branch-clause-found g c = λ b told.
    let front = c.front-piece-items.result.now in
    let i = c.loop-piece.piece-index in
    let says : true ≡ is_info b (get_or front i no_piece) = sym c.if-branch.true ∙ c.in_ok-is_info.ensures.says b (c.loop-piece.invariant.reads.keeps.contents ∙ told) in
    c.loop-piece.invariant.passed b told ∙ find_at_place (is_info b) front i (get_or front i no_piece) (slice_get-get_or front i no_piece (search rules)) (sym says)

pub returns-clause-found : goal.returns-clause-found
returns-clause-found g c = λ b told.
    c.loop-piece.invariant.passed b told ∙ find_at_end (is_info b) c.front-piece-items.result.now c.loop-piece.piece-index (search rules)
