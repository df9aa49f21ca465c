use Rattle.std.proofs.Common.{◌≡◌, ◌∙◌, [], ℕ, List, ap, length, arith, rules, subst, sym}
use Rattle.snd_container.proofs.Widths.{IsSingle, few_in_outer, no_outer, outer_value_fits}
use Rattle.snd_container.specs.Values.{outer_value}
use Rattle.snd_layout.specs.Container.{FitsField}
use Rattle.snd_layout.specs.Shape.{Shape}
use Rattle.snd_container.proofs.fields.outer_bytes.Goals as goal

pub returns-in-Wave-clause-fits : goal.returns-in-Wave-clause-fits
returns-in-Wave-clause-fits c =
    let value : c.outer_bytes.result.items ≡ outer_value c.args.layout.now c.args.frames = search rules in
    subst (λ (v : List ℕ). FitsField c.args.layout.now.outer v) (sym value) (outer_value_fits c.args.layout.now c.args.frames c.keeps_rule.ensures)

pub returns-in-Wave-clause-few : goal.returns-in-Wave-clause-few
returns-in-Wave-clause-few c =
    let value : c.outer_bytes.result.items ≡ outer_value c.args.layout.now c.args.frames = search rules in
    omega (arith, ap length value, few_in_outer c.args.layout.now c.args.frames c.keeps_rule.ensures)

pub returns-in-Rf64-clause-fits : goal.returns-in-Rf64-clause-fits
returns-in-Rf64-clause-fits c =
    let value : c.outer_bytes-in-Rf64.result.items ≡ outer_value c.args.layout.now c.args.frames = search rules in
    subst (λ (v : List ℕ). FitsField c.args.layout.now.outer v) (sym value) (outer_value_fits c.args.layout.now c.args.frames c.keeps_rule.ensures)

pub returns-in-Rf64-clause-few : goal.returns-in-Rf64-clause-few
returns-in-Rf64-clause-few c =
    let value : c.outer_bytes-in-Rf64.result.items ≡ outer_value c.args.layout.now c.args.frames = search rules in
    omega (arith, ap length value, few_in_outer c.args.layout.now c.args.frames c.keeps_rule.ensures)

pub returns-in-W64-clause-fits : goal.returns-in-W64-clause-fits
returns-in-W64-clause-fits c =
    let value : c.outer_bytes-in-W64.result.items ≡ outer_value c.args.layout.now c.args.frames = search rules in
    subst (λ (v : List ℕ). FitsField c.args.layout.now.outer v) (sym value) (outer_value_fits c.args.layout.now c.args.frames c.keeps_rule.ensures)

pub returns-in-W64-clause-few : goal.returns-in-W64-clause-few
returns-in-W64-clause-few c =
    let value : c.outer_bytes-in-W64.result.items ≡ outer_value c.args.layout.now c.args.frames = search rules in
    omega (arith, ap length value, few_in_outer c.args.layout.now c.args.frames c.keeps_rule.ensures)

pub returns-in-Svx-clause-fits : goal.returns-in-Svx-clause-fits
returns-in-Svx-clause-fits c =
    let value : c.outer_bytes-in-Svx.result.items ≡ outer_value c.args.layout.now c.args.frames = search rules in
    subst (λ (v : List ℕ). FitsField c.args.layout.now.outer v) (sym value) (outer_value_fits c.args.layout.now c.args.frames c.keeps_rule.ensures)

pub returns-in-Svx-clause-few : goal.returns-in-Svx-clause-few
returns-in-Svx-clause-few c =
    let value : c.outer_bytes-in-Svx.result.items ≡ outer_value c.args.layout.now c.args.frames = search rules in
    omega (arith, ap length value, few_in_outer c.args.layout.now c.args.frames c.keeps_rule.ensures)

pub returns-in-Au-clause-value : goal.returns-in-Au-clause-value
returns-in-Au-clause-value c =
    let none : c.new.result.items ≡ [] = search rules in
    none ∙ sym (no_outer c.args.layout.now c.args.frames (subst IsSingle (ap (λ (s : Shape). s.kind) c.layout.view_is) c.in-Au.is))
