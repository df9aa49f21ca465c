use Rattle.std.proofs.Common.{◌≡◌, ◌∙◌, [], ℕ, List, ap, length, arith, rules, subst, sym}
use Rattle.snd_container.proofs.Widths.{IsSingle, few_in_side, no_side, side_value_fits}
use Rattle.snd_container.specs.Values.{side_value}
use Rattle.snd_layout.specs.Container.{FitsField}
use Rattle.snd_layout.specs.Shape.{Shape}
use Rattle.snd_container.proofs.fields.side_bytes.Goals as goal

pub returns-in-Wave-clause-fits : goal.returns-in-Wave-clause-fits
returns-in-Wave-clause-fits c =
    let value : c.side_bytes.result.items ≡ side_value c.args.layout.now c.args.frames = search rules in
    subst (λ (v : List ℕ). FitsField c.args.layout.now.side v) (sym value) (side_value_fits c.args.layout.now c.args.frames c.keeps_rule.ensures)

pub returns-in-Wave-clause-few : goal.returns-in-Wave-clause-few
returns-in-Wave-clause-few c =
    let value : c.side_bytes.result.items ≡ side_value c.args.layout.now c.args.frames = search rules in
    omega (arith, ap length value, few_in_side c.args.layout.now c.args.frames c.keeps_rule.ensures)

pub returns-in-Rf64-clause-fits : goal.returns-in-Rf64-clause-fits
returns-in-Rf64-clause-fits c =
    let value : c.side_bytes-in-Rf64.result.items ≡ side_value c.args.layout.now c.args.frames = search rules in
    subst (λ (v : List ℕ). FitsField c.args.layout.now.side v) (sym value) (side_value_fits c.args.layout.now c.args.frames c.keeps_rule.ensures)

pub returns-in-Rf64-clause-few : goal.returns-in-Rf64-clause-few
returns-in-Rf64-clause-few c =
    let value : c.side_bytes-in-Rf64.result.items ≡ side_value c.args.layout.now c.args.frames = search rules in
    omega (arith, ap length value, few_in_side c.args.layout.now c.args.frames c.keeps_rule.ensures)

pub returns-in-W64-clause-fits : goal.returns-in-W64-clause-fits
returns-in-W64-clause-fits c =
    let value : c.side_bytes-in-W64.result.items ≡ side_value c.args.layout.now c.args.frames = search rules in
    subst (λ (v : List ℕ). FitsField c.args.layout.now.side v) (sym value) (side_value_fits c.args.layout.now c.args.frames c.keeps_rule.ensures)

pub returns-in-W64-clause-few : goal.returns-in-W64-clause-few
returns-in-W64-clause-few c =
    let value : c.side_bytes-in-W64.result.items ≡ side_value c.args.layout.now c.args.frames = search rules in
    omega (arith, ap length value, few_in_side c.args.layout.now c.args.frames c.keeps_rule.ensures)

pub returns-in-Svx-clause-fits : goal.returns-in-Svx-clause-fits
returns-in-Svx-clause-fits c =
    let value : c.side_bytes-in-Svx.result.items ≡ side_value c.args.layout.now c.args.frames = search rules in
    subst (λ (v : List ℕ). FitsField c.args.layout.now.side v) (sym value) (side_value_fits c.args.layout.now c.args.frames c.keeps_rule.ensures)

pub returns-in-Svx-clause-few : goal.returns-in-Svx-clause-few
returns-in-Svx-clause-few c =
    let value : c.side_bytes-in-Svx.result.items ≡ side_value c.args.layout.now c.args.frames = search rules in
    omega (arith, ap length value, few_in_side c.args.layout.now c.args.frames c.keeps_rule.ensures)

pub returns-in-Au-clause-value : goal.returns-in-Au-clause-value
returns-in-Au-clause-value c =
    let none : c.new.result.items ≡ [] = search rules in
    none ∙ sym (no_side c.args.layout.now c.args.frames (subst IsSingle (ap (λ (s : Shape). s.kind) c.layout.view_is) c.in-Au.is))
