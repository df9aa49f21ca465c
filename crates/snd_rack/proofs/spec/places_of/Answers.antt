use Rattle.std.proofs.Common.{rules, ◌≡◌, ◌+◌, ◌∷◌, ◌++◌, [], ℕ, List, Some, None, drop, option_map, slice_get, sym, ap, ◌∙◌, arith, append_assoc}
use Rattle.std.specs.List.{filter_map, list_all}
use Rattle.std.proofs.lemmas.List.{drop_all}
use Rattle.snd_rack.specs.Spec.{number_in, parts, places_of}
use Rattle.snd_rack.proofs.Listed.{all_said, none_there, not_said, one_not, read_on, said_on, says, too_many, whole}
use Rattle.snd_rack.proofs.spec.places_of.Goals as goal

pub returns-then-count-gt-MOST_PLACES : goal.returns-then-count-gt-MOST_PLACES
unfolding places_of
returns-then-count-gt-MOST_PLACES c = sym (too_many (number_in 0 255) 256 (parts 46 c.args.text.now) (omega arith))

pub returns-in_err-part : goal.returns-in_err-part
returns-in_err-part c =
    let none : slice_get (parts 46 c.args.text.now) c.loop-at.at ≡ None = search rules in
    absurd (none_there (parts 46 c.args.text.now) c.loop-at.at (omega arith) none)

pub returns-in_err-place : goal.returns-in_err-place
unfolding places_of
returns-in_err-place c =
    let ps : List (List ℕ) = parts 46 c.args.text.now in
    let there : slice_get ps c.loop-at.at ≡ Some c.in_ok-part.part.now = search rules in
    let none : number_in 0 255 c.in_ok-part.part.now ≡ None = search rules in
    ap (option_map (λ places. places.items)) c.from_residual-in_err-place.ensures
    ∙ sym (one_not (number_in 0 255) 256 ps (sym c.loop-at.invariant.each ∙ not_said (number_in 0 255) ps c.loop-at.at c.in_ok-part.part.now there none))

pub loop-at-preserved : goal.loop-at-preserved
loop-at-preserved c =
    let ps : List (List ℕ) = parts 46 c.args.text.now in
    let there : slice_get ps c.loop-at.at ≡ Some c.in_ok-part.part.now = search rules in
    let some : number_in 0 255 c.in_ok-part.part.now ≡ Some c.in_ok-place.place = search rules in
    record {
      places = ap (λ l. l ++ filter_map (number_in 0 255) (drop (c.loop-at.at + 1) ps)) c.push.ensures.items
          ∙ append_assoc c.loop-at.places.items (c.in_ok-place.place ∷ []) (filter_map (number_in 0 255) (drop (c.loop-at.at + 1) ps))
          ∙ ap (λ l. c.loop-at.places.items ++ l) (sym (read_on (number_in 0 255) ps c.loop-at.at c.in_ok-part.part.now c.in_ok-place.place there some))
          ∙ c.loop-at.invariant.places;
      each = sym (said_on (number_in 0 255) ps c.loop-at.at c.in_ok-part.part.now c.in_ok-place.place there some) ∙ c.loop-at.invariant.each;
      count = omega arith;
    }

pub returns : goal.returns
unfolding places_of
returns c =
    let ps : List (List ℕ) = parts 46 c.args.text.now in
    let out : drop c.loop-at.at ps ≡ [] = drop_all c.loop-at.at ps (omega arith) in
    let each = sym c.loop-at.invariant.each ∙ ap (list_all (says (number_in 0 255))) out in
    let places = c.loop-at.invariant.places in
    ap Some (whole c.loop-at.places.items (filter_map (number_in 0 255) (drop c.loop-at.at ps)) _ (ap (filter_map (number_in 0 255)) out) places)
    ∙ sym (all_said (number_in 0 255) 256 ps (omega arith) each)
