use Rattle.std.proofs.Common.{◌≡◌, ◌∙◌, ℕ, List, All, Option, Some, Result, Ok, Err, IfOk, slice_get, take, rules, arith, ap, subst, sym}
use Rattle.std.proofs.lemmas.List.{take_all}
use Rattle.std.proofs.lemmas.List.Elements.{All-push}
use Rattle.snd_layout.specs.Shape.{Shape}
use Rattle.snd_lines.specs.declared.refusal.Refusal.{Refusal}
use Rattle.snd_inputs.proofs.Lists.{refused_at, seen_err, seen_next}
use Rattle.snd_inputs.proofs.Reading.{reads_then}
use Rattle.snd_inputs.specs.Inputs.{input_in, inputs_in}
use Rattle.snd_inputs.specs.Looking.{IsReadable, all_seen, seen_of}
use Rattle.snd_inputs.proofs.looking.look_all.Goals as goal

pub returns-in_err-layout-clause-reads : goal.returns-in_err-layout-clause-reads
returns-in_err-layout-clause-reads g c = reads_then g.S.Shelf _ _ _ c.loop-at.invariant.reads c.look.ensures.reads

pub returns-in-Err-clause-seen : goal.returns-in-Err-clause-seen
returns-in-Err-clause-seen g c = λ files told.
    let there : slice_get c.args.names.now c.loop-at.at ≡ Some c.in-Some.name.now = search rules in
    let mid = c.loop-at.invariant.reads.files files told in
    let refused : input_in (mid.0 c.in-Some.name.now) ≡ Err c.in-Err.why = seen_err (input_in (mid.0 c.in-Some.name.now)) c.in-Err.why (sym c.in-Err.is ∙ c.in_ok-layout.ensures.seen mid.0 mid.1) in
    sym (ap all_seen (refused_at files c.args.names.now c.loop-at.at c.in-Some.name.now c.in-Err.why c.loop-at.layouts.items there (c.loop-at.invariant.so_far files told)
    (ap (λ (o : Option (List ℕ)). input_in o) (sym (mid.2 c.in-Some.name.now)) ∙ refused)))

pub returns-in-Err-clause-readable : goal.returns-in-Err-clause-readable
returns-in-Err-clause-readable g c = tt

pub returns-in-Err-clause-reads : goal.returns-in-Err-clause-reads
returns-in-Err-clause-reads g c = reads_then g.S.Shelf _ _ _ c.loop-at.invariant.reads c.look.ensures.reads

pub returns-in_default-push-clause-reads : goal.returns-in_default-push-clause-reads
returns-in_default-push-clause-reads g c = reads_then g.S.Shelf _ _ _ c.loop-at.invariant.reads c.look.ensures.reads

pub loop-at-preserved : goal.loop-at-preserved
loop-at-preserved g c =
    let there : slice_get c.args.names.now c.loop-at.at ≡ Some c.in-Some.name.now = search rules in
    let calm : (g.S.Shelf.state c.look.new.shelf).faults ≡ (g.S.Shelf.state c.loop-at.shelf).faults = c.in_ok-layout.ensures.faults in
    record {
      so_far = λ files told.
          let mid = c.loop-at.invariant.reads.files files told in
          let seen : seen_of (input_in (files c.in-Some.name.now)) ≡ Ok c.in-Ok.layout =
          ap (λ (o : Option (List ℕ)). seen_of (input_in o)) (sym (mid.2 c.in-Some.name.now)) ∙ sym (sym c.in-Ok.is ∙ c.in_ok-layout.ensures.seen mid.0 mid.1) in
          seen_next files c.args.names.now c.loop-at.at c.in-Some.name.now c.in-Ok.layout c.loop-at.layouts.items there (c.loop-at.invariant.so_far files told) seen
          ∙ ap (λ (l : List Shape). Ok l) (sym c.in-Ok-push.ensures.items);
      readable = subst (All IsReadable) (sym c.in-Ok-push.ensures.items)
          (All-push IsReadable c.loop-at.layouts.items c.in-Ok.layout c.loop-at.invariant.readable (subst (λ (r : Result Shape Refusal). IfOk r IsReadable) c.in-Ok.is c.in_ok-layout.ensures.readable));
      calm = calm ∙ c.loop-at.invariant.calm;
      reads = reads_then g.S.Shelf _ _ _ c.loop-at.invariant.reads c.look.ensures.reads;
      asked = record {
        later = omega (arith, c.loop-at.invariant.asked.later, c.look.ensures.asked.later);
        most = omega (arith, c.loop-at.invariant.asked.most, c.look.ensures.asked.most);
      };
    }

pub returns-clause-seen : goal.returns-clause-seen
returns-clause-seen g c = λ files told.
    let all : take c.loop-at.at c.args.names.now ≡ c.args.names.now = take_all c.loop-at.at c.args.names.now (search rules) in
    sym (ap (λ (l : List (List ℕ)). all_seen (inputs_in files l)) (sym all) ∙ c.loop-at.invariant.so_far files told)

pub returns-clause-readable : goal.returns-clause-readable
returns-clause-readable g c = c.loop-at.invariant.readable
