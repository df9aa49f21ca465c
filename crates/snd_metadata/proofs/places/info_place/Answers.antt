use Rattle.std.proofs.Common.{◌≡◌, ◌∙◌, ap, sym, ℕ, ◌+◌, true, false, List, ◌∷◌, drop, map, arith}
use Rattle.std.proofs.lemmas.List.{drop_more}
use Rattle.snd_chunks.specs.Written.{NewChunk}
use Rattle.snd_disk.proofs.Public.{only_reads_then}
use Rattle.snd_inputs.proofs.Public.{asks_less, asks_then}
use Rattle.snd_metadata.specs.Chunks.{is_info_list}
use Rattle.snd_metadata.specs.Planned.{chunk_planned}
use Rattle.snd_metadata.specs.declared.chunks.PlannedChunk.{PlannedChunk}
use Rattle.snd_metadata.proofs.Lists.{map_here, place_here, place_past}
use Rattle.snd_metadata.proofs.places.info_place.Goals as goal

pub returns-then-branch-clause-place : goal.returns-then-branch-clause-place
returns-then-branch-clause-place g c = λ e stands.
    let plan : List PlannedChunk = c.args.plan.now in
    let at : ℕ = c.loop-at.at in
    let x : PlannedChunk = c.index-plan-at.result in
    let f : PlannedChunk → NewChunk = chunk_planned e.bytes in
    let front : drop at plan ≡ x ∷ drop (at + 1) plan = drop_more plan at x (omega arith) ∙ ap (λ (y : PlannedChunk). y ∷ drop (at + 1) plan) (sym c.index-plan-at.is) in
    let is : is_info_list (f x) ≡ true = sym (c.in_ok-is_info_list.ensures.says e (c.loop-at.invariant.stands e stands)) ∙ c.if-branch.true in
    omega (arith, c.loop-at.invariant.passed e stands, place_here is_info_list (map f plan) at (f x) (map_here f plan at x front) is)

pub loop-at-preserved : goal.loop-at-preserved
loop-at-preserved g c =
    let plan : List PlannedChunk = c.args.plan.now in
    let at : ℕ = c.loop-at.at in
    let x : PlannedChunk = c.index-plan-at.result in
    let front : drop at plan ≡ x ∷ drop (at + 1) plan = drop_more plan at x (omega arith) ∙ ap (λ (y : PlannedChunk). y ∷ drop (at + 1) plan) (sym c.index-plan-at.is) in
    let was = c.loop-at.invariant in
    let looks = c.in_ok-is_info_list.ensures.looks in
    record {
      loan = looks.loan ∙ was.loan;
      same = looks.known ∙ was.same;
      passed = λ e stands.
          let f : PlannedChunk → NewChunk = chunk_planned e.bytes in
          let other : is_info_list (f x) ≡ false = sym (c.in_ok-is_info_list.ensures.says e (was.stands e stands)) ∙ c.if-branch.false in
          omega (arith, was.passed e stands, place_past is_info_list (map f plan) at (f x) (map_here f plan at x front) other);
      stands = λ e stands. looks.stands e (was.stands e stands);
      calm = looks.faults ∙ was.calm;
      asked = asks_then _ _ _ _ _ _ was.asked c.is_info_list.ensures.asked (omega arith);
      reads = only_reads_then _ _ _ _ _ _ _ _ _ was.reads looks.reads;
    }

pub returns-then-branch-clause-asked : goal.returns-then-branch-clause-asked
returns-then-branch-clause-asked g c = asks_then _ _ _ _ _ _ c.loop-at.invariant.asked c.is_info_list.ensures.asked (omega arith)

pub returns-in_err-is_info_list-clause-asked : goal.returns-in_err-is_info_list-clause-asked
returns-in_err-is_info_list-clause-asked g c = asks_then _ _ _ _ _ _ c.loop-at.invariant.asked c.is_info_list.ensures.asked (omega arith)

pub returns-clause-asked : goal.returns-clause-asked
returns-clause-asked g c = asks_less _ _ _ _ (omega arith) c.loop-at.invariant.asked
