use Rattle.std.proofs.Common.{rules, ◌≡◌, ℕ, List, Some, None, option_map, slice_get, sym, ap, ◌∙◌}
use Rattle.std.specs.Option.{option_and_then}
use Rattle.snd_rack.specs.Spec.{item_of, parts}
use Rattle.snd_rack.specs.Setting.{stated}
use Rattle.snd_rack.proofs.Listed.{get_said}
use Rattle.snd_rack.proofs.Settled.{settled_of}
use Rattle.snd_rack.proofs.spec.RackSpec.get.Goals as goal

pub returns-in_err-item-clause-value : goal.returns-in_err-item-clause-value
returns-in_err-item-clause-value c =
    let ps : List (List ℕ) = parts 44 c.self.inside.text.now in
    let none : slice_get ps c.args.at ≡ None = search rules in
    ap (option_map stated) c.from_residual.ensures
    ∙ sym (ap (option_and_then item_of) none) ∙ sym (get_said item_of ps c.args.at c.self.invariant.each) ∙ ap (λ l. slice_get l c.args.at) c.self.view_is

pub returns-clause-value : goal.returns-clause-value
returns-clause-value c =
    let ps : List (List ℕ) = parts 44 c.self.inside.text.now in
    let some : slice_get ps c.args.at ≡ Some c.in_ok-item.item.now = search rules in
    c.item_of.ensures
    ∙ sym (ap (option_and_then item_of) some) ∙ sym (get_said item_of ps c.args.at c.self.invariant.each) ∙ ap (λ l. slice_get l c.args.at) c.self.view_is

pub returns-clause-settled : goal.returns-clause-settled
returns-clause-settled c = settled_of c.in_ok-item.item.now c.item_of.result c.item_of.ensures
