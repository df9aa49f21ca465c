use Rattle.std.proofs.Common.{◌≡◌, ◌∙◌, ℕ, List, [], ◌∷◌, Option, Some, Ok, true, false, length, slice_get, get_or, take, rules, arith, ap, subst, sym, inl, inr}
use Rattle.std.proofs.lemmas.Bool.{cases_lt}
use Rattle.std.proofs.lemmas.Option.{get_or_from_slice_get}
use Rattle.snd_inputs.proofs.Asking.{asks_next, each_front, each_then, one_more}
use Rattle.snd_inputs.proofs.Lists.{bad_first, bad_none, input_at, length-inputs}
use Rattle.snd_inputs.proofs.Reading.{reads_then}
use Rattle.snd_inputs.specs.Asking.{AsksForEach}
use Rattle.snd_inputs.specs.Inputs.{input_in, is_bad}
use Rattle.snd_inputs.proofs.checking.first_bad.Goals as goal

pub check_input-requires : goal.check_input-requires
check_input-requires g c = c.loop-at.invariant.reads.back c.in-Some.name.now ∙ c.requires c.in-Some.name.now

pub returns-in_err-bad-clause-reads : goal.returns-in_err-bad-clause-reads
returns-in_err-bad-clause-reads g c = reads_then g.S.Shelf _ _ _ c.loop-at.invariant.reads c.check_input.ensures.reads

pub returns-in_err-bad-clause-asked : goal.returns-in_err-bad-clause-asked
returns-in_err-bad-clause-asked g c =
    let there : slice_get c.args.names.now c.loop-at.at ≡ Some c.in-Some.name.now = search rules in
    asks_next g.S.Shelf.state 1 16384 c.args.names.now c.loop-at.at c.in-Some.name.now there c.args.shelf.now c.loop-at.shelf c.check_input.new.shelf c.loop-at.invariant.reads.files c.loop-at.invariant.asked c.check_input.ensures.asked

pub returns-then-bad-clause-found : goal.returns-then-bad-clause-found
returns-then-bad-clause-found g c = λ files told es all.
    let name = c.in-Some.name.now in
    let there : slice_get c.args.names.now c.loop-at.at ≡ Some name = search rules in
    let mid = c.loop-at.invariant.reads.files files told in
    let this = input_at files c.args.names.now es c.loop-at.at name all there in
    let opened : input_in (mid.0 name) ≡ Ok this.0 = ap (λ (o : Option (List ℕ)). input_in o) (mid.2 name) ∙ this.2 in
    let bad : is_bad this.0 ≡ true = sym (c.in_ok-bad.ensures.found mid.0 mid.1 this.0 opened) ∙ c.if-bad.true in
    bad_first es c.loop-at.at this.0 this.1 bad (c.loop-at.invariant.good files es told all)

pub returns-then-bad-clause-reads : goal.returns-then-bad-clause-reads
returns-then-bad-clause-reads g c = reads_then g.S.Shelf _ _ _ c.loop-at.invariant.reads c.check_input.ensures.reads

pub returns-then-bad-clause-asked : goal.returns-then-bad-clause-asked
returns-then-bad-clause-asked g c =
    let there : slice_get c.args.names.now c.loop-at.at ≡ Some c.in-Some.name.now = search rules in
    asks_next g.S.Shelf.state 1 16384 c.args.names.now c.loop-at.at c.in-Some.name.now there c.args.shelf.now c.loop-at.shelf c.check_input.new.shelf c.loop-at.invariant.reads.files c.loop-at.invariant.asked c.check_input.ensures.asked

pub loop-at-preserved : goal.loop-at-preserved
loop-at-preserved g c =
    let name = c.in-Some.name.now in
    let inv = c.loop-at.invariant in
    let there : slice_get c.args.names.now c.loop-at.at ≡ Some name = search rules in
    record {
      good = λ files es told all k d lt.
          let mid = inv.reads.files files told in
          let this = input_at files c.args.names.now es c.loop-at.at name all there in
          let opened : input_in (mid.0 name) ≡ Ok this.0 = ap (λ (o : Option (List ℕ)). input_in o) (mid.2 name) ∙ this.2 in
          let good : is_bad this.0 ≡ false = sym (c.in_ok-bad.ensures.found mid.0 mid.1 this.0 opened) ∙ c.if-bad.false in
          elim (cases_lt k c.loop-at.at) [
            | inl before ↦ inv.good files es told all k d before
            | inr past ↦
                let here : k ≡ c.loop-at.at = omega (arith, lt, past) in
                ap (λ (n : ℕ). is_bad (get_or es n d)) here ∙ ap is_bad (get_or_from_slice_get es c.loop-at.at this.0 d this.1) ∙ good
          ];
      calm = c.in_ok-bad.ensures.faults ∙ inv.calm;
      reads = reads_then g.S.Shelf _ _ _ inv.reads c.check_input.ensures.reads;
      asked = subst (λ (l : List (List ℕ)). AsksForEach 1 16384 g.S.Shelf.state l c.args.shelf.now c.check_input.new.shelf) (sym (one_more c.args.names.now c.loop-at.at name there))
          (each_then g.S.Shelf.state 1 16384 (take c.loop-at.at c.args.names.now) (name ∷ []) c.args.shelf.now c.loop-at.shelf c.check_input.new.shelf inv.reads.files inv.asked c.check_input.ensures.asked);
    }

pub returns-clause-found : goal.returns-clause-found
returns-clause-found g c = λ files told es all.
    let past : length c.args.names.now ≡ c.loop-at.at = search rules in
    let count = length-inputs files c.args.names.now es all in
    bad_none es (λ k d lt. c.loop-at.invariant.good files es told all k d (omega (arith, past, count, lt)))

pub returns-clause-asked : goal.returns-clause-asked
returns-clause-asked g c = each_front g.S.Shelf.state 1 16384 c.args.names.now c.loop-at.at c.args.shelf.now c.loop-at.shelf c.loop-at.invariant.asked
