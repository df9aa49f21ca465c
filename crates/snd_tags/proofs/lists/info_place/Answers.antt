use Rattle.std.proofs.Common.{rules, ◌≡◌, ◌∙◌, ap, sym, inl, inr, ⊎_elim, Bool, false, true, Some, take}
use Rattle.std.specs.Prelude.{◌&&◌, codes, slice_get}
use Rattle.snd_disk.proofs.Public.{only_reads_then}
use Rattle.snd_layout.specs.Shape.{Shape}
use Rattle.snd_tags.specs.Bodies.{begins_info}
use Rattle.snd_edits.specs.TagsHeld.{is_info}
use Rattle.snd_file.specs.Handle.{known_of}
use Rattle.snd_edits.specs.Pieces.{has_name}
use Rattle.snd_tags.proofs.Searches.{find_at_place, find_past, front_get, says_of}
use Rattle.snd_tags.proofs.lists.info_place.Goals as goal

pub loop-place-preserved-then-not-is_list : goal.loop-place-preserved-then-not-is_list
loop-place-preserved-then-not-is_list g c =
    let pieces = (known_of c.args.file.now).shape.pieces in
    let piece = c.in-Some.piece in
    let place = c.loop-place.place in
    let here : slice_get pieces place ≡ Some piece = search rules in
    let near : slice_get (take 256 pieces) place ≡ Some piece = front_get 256 pieces place piece (search rules) here in
    let other : has_name (codes "LIST") piece ≡ false = search rules in
    record {
      loan = c.loop-place.invariant.loan;
      same = c.loop-place.invariant.same;
      working = ⊎_elim (λ whole. inl whole) (λ same. inr (sym (find_past (has_name (codes "LIST")) (take 256 pieces) place piece near other) ∙ same)) c.loop-place.invariant.working;
      passed = λ e stands.
          c.loop-place.invariant.passed e stands
          ∙ find_past (is_info e.bytes) (take 256 pieces) place piece near (ap (λ (t : Bool). t && begins_info e.bytes piece) other);
      stands = c.loop-place.invariant.stands;
      calm = c.loop-place.invariant.calm;
      reads = c.loop-place.invariant.reads;
      asked = search rules;
    }

pub loop-place-preserved : goal.loop-place-preserved
loop-place-preserved g c =
    let pieces = (known_of c.args.file.now).shape.pieces in
    let piece = c.in-Some.piece in
    let place = c.loop-place.place in
    let here : slice_get pieces place ≡ Some piece = search rules in
    let near : slice_get (take 256 pieces) place ≡ Some piece = front_get 256 pieces place piece (search rules) here in
    let list : has_name (codes "LIST") piece ≡ true = search rules in
    record {
      loan = search rules;
      same = search rules;
      working = inl (search rules);
      passed = λ e stands.
          let there : slice_get e.shape.pieces place ≡ Some piece = ap (λ (h : Shape). slice_get h.pieces place) (sym stands.shape) ∙ here in
          let says : false ≡ begins_info e.bytes piece = sym c.if-branch.false ∙ says_of e.bytes e.shape.pieces place piece c.in_ok-begins_info.field-0 there (c.in_ok-begins_info.ensures.says e (c.loop-place.invariant.stands e stands)) in
          c.loop-place.invariant.passed e stands ∙ find_past (is_info e.bytes) (take 256 pieces) place piece near (ap (λ (t : Bool). t && begins_info e.bytes piece) list ∙ sym says);
      stands = λ e stands. c.in_ok-begins_info.ensures.stands e (c.loop-place.invariant.stands e stands);
      calm = search rules;
      reads = only_reads_then _ _ _ _ _ _ _ _ _ c.loop-place.invariant.reads c.in_ok-begins_info.ensures.reads;
      asked = search rules;
    }

pub returns-then-branch-clause-found : goal.returns-then-branch-clause-found
returns-then-branch-clause-found g c = λ e stands.
    let pieces = (known_of c.args.file.now).shape.pieces in
    let piece = c.in-Some.piece in
    let place = c.loop-place.place in
    let here : slice_get pieces place ≡ Some piece = search rules in
    let near : slice_get (take 256 pieces) place ≡ Some piece = front_get 256 pieces place piece (search rules) here in
    let list : has_name (codes "LIST") piece ≡ true = search rules in
    let there : slice_get e.shape.pieces place ≡ Some piece = ap (λ (h : Shape). slice_get h.pieces place) (sym stands.shape) ∙ here in
    let says : true ≡ begins_info e.bytes piece = sym c.if-branch.true ∙ says_of e.bytes e.shape.pieces place piece c.in_ok-begins_info.field-0 there (c.in_ok-begins_info.ensures.says e (c.loop-place.invariant.stands e stands)) in
    c.loop-place.invariant.passed e stands ∙ find_at_place (is_info e.bytes) (take 256 pieces) place piece near (ap (λ (t : Bool). t && begins_info e.bytes piece) list ∙ sym says) ∙ sym there
