use Rattle.std.proofs.Common.{rules, ◌≡◌, ℕ, List, Some, None, [], drop, option_map, slice_get, sym, ap, ◌∙◌, arith}
use Rattle.std.specs.List.{list_all}
use Rattle.std.proofs.lemmas.List.{drop_all}
use Rattle.snd_rack.specs.Spec.{item_of, parts, rack_of}
use Rattle.snd_rack.specs.Setting.{stated}
use Rattle.snd_rack.proofs.Listed.{all_said, none_there, not_said, one_not, says, too_many}
use Rattle.snd_rack.proofs.spec.RackSpec.read.Goals as goal

pub returns-then-count-gt-MOST_ITEMS : goal.returns-then-count-gt-MOST_ITEMS
unfolding rack_of
returns-then-count-gt-MOST_ITEMS c = sym (too_many item_of 8 (parts 44 c.args.text.now) (omega arith))

pub returns-in_err-item : goal.returns-in_err-item
returns-in_err-item c =
    let none : slice_get (parts 44 c.args.text.now) c.loop-at.at ≡ None = search rules in
    absurd (none_there (parts 44 c.args.text.now) c.loop-at.at (omega arith) none)

pub returns-in_default : goal.returns-in_default
unfolding rack_of
returns-in_default c =
    let ps : List (List ℕ) = parts 44 c.args.text.now in
    let there : slice_get ps c.loop-at.at ≡ Some c.in_ok-item.item.now = search rules in
    let none : item_of c.in_ok-item.item.now ≡ None = sym c.item_of.ensures ∙ ap (option_map stated) c.in_default.is in
    sym (one_not item_of 8 ps (sym c.loop-at.invariant ∙ not_said item_of ps c.loop-at.at c.in_ok-item.item.now there none))

pub returns : goal.returns
unfolding rack_of
returns c =
    let ps : List (List ℕ) = parts 44 c.args.text.now in
    let out : drop c.loop-at.at ps ≡ [] = drop_all c.loop-at.at ps (omega arith) in
    sym (all_said item_of 8 ps (omega arith) (sym c.loop-at.invariant ∙ ap (list_all (says item_of)) out))
