use Rattle.std.proofs.Common.{◌≡◌, ◌<◌, ◌≤◌, ◌∙◌, ℕ, List, Some, inl, max, slice_get, take, rules, arith, ap, subst}
use Rattle.std.proofs.lemmas.List.{take_all}
use Rattle.snd_app.specs.Outcome.{outcome_of_infos}
use Rattle.snd_app.specs.Run.{Prints, told_by}
use Rattle.snd_app.proofs.Infos.{any_rises_from, calm_then, images_then, kept_then, looks_then, so_far_next, stopped_there}
use Rattle.snd_app.proofs.program.run_infos.Goals as goal

pub returns-then-stops-clause-outcome : goal.returns-then-stops-clause-outcome
returns-then-stops-clause-outcome g c = λ files script told.
    let there : slice_get c.args.names.now c.loop-at.at ≡ Some c.in-Some.name.now = search rules in
    let high : 3 ≤ c.run_info-one.result = search rules in
    let mid = c.loop-at.invariant.files files told in
    stopped_there c.args.names.now c.loop-at.at c.in-Some.name.now there files _ _ _ _ _ _ (c.loop-at.invariant.so_far files told).1
    c.run_info-one.result _ _ _ mid.0 mid.2 (c.run_info-one.ensures.outcome mid.0 script mid.1) _ (c.loop-at.invariant.calm script) high _

pub returns-then-stops-clause-fault : goal.returns-then-stops-clause-fault
returns-then-stops-clause-fault g c = λ is script. any_rises_from _ _ _ (c.loop-at.invariant.calm script) (c.run_info-one.ensures.fault is script)

pub returns-then-stops-clause-images : goal.returns-then-stops-clause-images
returns-then-stops-clause-images g c =
    images_then g.S.Shelf.state g.S.Shelf.may_leave g.S.Shelf.left_between _ _ _ c.loop-at.invariant.files c.loop-at.invariant.images c.run_info-one.ensures.images

pub loop-at-preserved : goal.loop-at-preserved
loop-at-preserved g c =
    let there : slice_get c.args.names.now c.loop-at.at ≡ Some c.in-Some.name.now = search rules in
    let few : c.run_info-one.result < 3 = search rules in
    let most : c.max-status.result ≡ max c.run_info-one.result c.loop-at.status = search rules in
    record {
      so_far = λ files told.
          let mid = c.loop-at.invariant.files files told in
          let so_far = c.loop-at.invariant.so_far files told in
          so_far_next c.args.names.now c.loop-at.at c.in-Some.name.now there files _ _ _ _ _ _ so_far.1
          c.run_info-one.result _ _ _ mid.0 mid.2 (c.run_info-one.ensures.outcome mid.0 0 mid.1) c.loop-at.status c.max-status.result so_far.0 most few;
      low = omega (arith, most, few, c.loop-at.invariant.low);
      calm = λ script. calm_then _ _ _ (c.loop-at.invariant.calm script) (c.run_info-one.ensures.calm (λ is. omega (arith, is, few)) script);
      all_in = c.run_info-one.ensures.back;
      files = kept_then (g.S.Shelf.state c.args.shelf.now) (g.S.Shelf.state c.loop-at.shelf) (g.S.Shelf.state c.run_info-one.new.shelf) c.loop-at.invariant.files c.run_info-one.ensures.files;
      images = images_then g.S.Shelf.state g.S.Shelf.may_leave g.S.Shelf.left_between _ _ _ c.loop-at.invariant.files c.loop-at.invariant.images c.run_info-one.ensures.images;
      looks = looks_then c.loop-at.at _ _ _ c.loop-at.invariant.looks c.run_info-one.ensures.looks;
    }

pub returns-clause-outcome : goal.returns-clause-outcome
returns-clause-outcome g c = λ files script told.
    let all : take c.loop-at.at c.args.names.now ≡ c.args.names.now = take_all c.loop-at.at c.args.names.now (search rules) in
    let so_far = c.loop-at.invariant.so_far files told in
    inl (
      so_far.0 ∙ ap (λ l. (outcome_of_infos l files).status) all,
      c.loop-at.invariant.calm script,
      subst (λ (l : List (List ℕ)). Prints (outcome_of_infos l files) (told_by g.O.Sink c.args.out.now c.loop-at.out) (told_by g.E.Sink c.args.err.now c.loop-at.err)) all so_far.1,
      c.loop-at.invariant.files files told,
    )
