use Rattle.std.proofs.Common.{◌≡◌, ◌∙◌, ℕ, List, Some, ap, length, map, rules, slice_get, sym, arith}
use Rattle.std.specs.Option.{option_map}
use Rattle.std.proofs.lemmas.List.{length-map}
use Rattle.std.proofs.lemmas.Option.{slice_get-map}
use Rattle.snd_rack.specs.Setting.{stated}
use Rattle.snd_rack.specs.Stage.{Stated, kind_of}
use Rattle.snd_rack.proofs.Placed.{chosen_on, left_on, map_brought, none_left_of, take_whole}
use Rattle.snd_rack.proofs.boxes.choose.Goals as goal

-- the kind of an item
wanted : (items : List Stated) (at : ℕ) (s : Stated) → slice_get items at ≡ Some s → slice_get (map kind_of items) at ≡ Some (kind_of s)
wanted items at s there = slice_get-map kind_of items at ∙ ap (option_map kind_of) there

pub returns-in_default-find-clause-answer : goal.returns-in_default-find-clause-answer
returns-in_default-find-clause-answer g c =
    let s : Stated = stated c.in-Some.setting in
    let there : slice_get c.args.spec.now c.loop-at.at ≡ Some s = search rules in
    sym (none_left_of _ (kind_of s) (map kind_of c.args.spec.now) _ c.loop-at.at c.kind.ensures (wanted c.args.spec.now c.loop-at.at s there) c.in_default-find.ensures)
    ∙ c.loop-at.invariant.left

pub loop-at-preserved : goal.loop-at-preserved
loop-at-preserved g c =
    let s : Stated = stated c.in-Some.setting in
    let there : slice_get c.args.spec.now c.loop-at.at ≡ Some s = search rules in
    let here = wanted c.args.spec.now c.loop-at.at s there in
    let made = ap (map (λ b. ((goal.Stage-dyn g (b.vtable, b.value)).stage b.value).kind)) c.bring.ensures.order ∙ map_brought _ c.loop-at.at c.in-Some-find.found c.loop-at.stages in
    record {
      chosen = chosen_on _ (kind_of s) (map kind_of c.args.spec.now) _ _ c.loop-at.at c.in-Some-find.found c.kind.ensures here c.in-Some-find.ensures made c.loop-at.invariant.chosen;
      left = left_on _ (kind_of s) (map kind_of c.args.spec.now) _ _ c.loop-at.at c.in-Some-find.found c.kind.ensures here c.in-Some-find.ensures made _ c.loop-at.invariant.left;
      same = c.bring.ensures.same ∙ c.loop-at.invariant.same;
    }

pub returns-clause-chosen : goal.returns-clause-chosen
returns-clause-chosen g c = λ yes.
    let size : length (map kind_of c.args.spec.now) ≡ length c.args.spec.now = length-map c.args.spec.now kind_of in
    let whole : c.loop-at.at ≡ length c.args.spec.now = omega arith in
    take_whole _ c.loop-at.stages (map kind_of c.args.spec.now) c.loop-at.at (length c.args.spec.now) whole size c.loop-at.invariant.chosen
