use Rattle.std.proofs.Common.{◌≡◌, ap, length, arith, rules}
use Rattle.snd_container.proofs.Widths.{few_in_inner, inner_value_fits}
use Rattle.snd_container.specs.Values.{inner_value}
use Rattle.snd_container.proofs.fields.inner_bytes.Goals as goal

pub returns-in-Wave-clause-fits : goal.returns-in-Wave-clause-fits
returns-in-Wave-clause-fits c =
    let value : c.inner_bytes.result.items ≡ inner_value c.args.layout.now c.args.frames = search rules in
    omega (arith, ap length value, inner_value_fits c.args.layout.now c.args.frames c.keeps_rule.ensures)

pub returns-in-Wave-clause-few : goal.returns-in-Wave-clause-few
returns-in-Wave-clause-few c =
    let value : c.inner_bytes.result.items ≡ inner_value c.args.layout.now c.args.frames = search rules in
    omega (arith, ap length value, few_in_inner c.args.layout.now c.args.frames c.keeps_rule.ensures)

pub returns-in-Rf64-clause-fits : goal.returns-in-Rf64-clause-fits
returns-in-Rf64-clause-fits c =
    let value : c.inner_bytes-in-Rf64.result.items ≡ inner_value c.args.layout.now c.args.frames = search rules in
    omega (arith, ap length value, inner_value_fits c.args.layout.now c.args.frames c.keeps_rule.ensures)

pub returns-in-Rf64-clause-few : goal.returns-in-Rf64-clause-few
returns-in-Rf64-clause-few c =
    let value : c.inner_bytes-in-Rf64.result.items ≡ inner_value c.args.layout.now c.args.frames = search rules in
    omega (arith, ap length value, few_in_inner c.args.layout.now c.args.frames c.keeps_rule.ensures)

pub returns-in-W64-clause-fits : goal.returns-in-W64-clause-fits
returns-in-W64-clause-fits c =
    let value : c.inner_bytes-in-W64.result.items ≡ inner_value c.args.layout.now c.args.frames = search rules in
    omega (arith, ap length value, inner_value_fits c.args.layout.now c.args.frames c.keeps_rule.ensures)

pub returns-in-W64-clause-few : goal.returns-in-W64-clause-few
returns-in-W64-clause-few c =
    let value : c.inner_bytes-in-W64.result.items ≡ inner_value c.args.layout.now c.args.frames = search rules in
    omega (arith, ap length value, few_in_inner c.args.layout.now c.args.frames c.keeps_rule.ensures)

pub returns-in-Au-clause-fits : goal.returns-in-Au-clause-fits
returns-in-Au-clause-fits c =
    let value : c.inner_bytes-in-Au.result.items ≡ inner_value c.args.layout.now c.args.frames = search rules in
    omega (arith, ap length value, inner_value_fits c.args.layout.now c.args.frames c.keeps_rule.ensures)

pub returns-in-Au-clause-few : goal.returns-in-Au-clause-few
returns-in-Au-clause-few c =
    let value : c.inner_bytes-in-Au.result.items ≡ inner_value c.args.layout.now c.args.frames = search rules in
    omega (arith, ap length value, few_in_inner c.args.layout.now c.args.frames c.keeps_rule.ensures)

pub returns-in-Voc-clause-fits : goal.returns-in-Voc-clause-fits
returns-in-Voc-clause-fits c =
    let value : c.inner_bytes-in-Voc.result.items ≡ inner_value c.args.layout.now c.args.frames = search rules in
    omega (arith, ap length value, inner_value_fits c.args.layout.now c.args.frames c.keeps_rule.ensures)

pub returns-in-Voc-clause-few : goal.returns-in-Voc-clause-few
returns-in-Voc-clause-few c =
    let value : c.inner_bytes-in-Voc.result.items ≡ inner_value c.args.layout.now c.args.frames = search rules in
    omega (arith, ap length value, few_in_inner c.args.layout.now c.args.frames c.keeps_rule.ensures)

pub returns-in-Svx-clause-fits : goal.returns-in-Svx-clause-fits
returns-in-Svx-clause-fits c =
    let value : c.inner_bytes-in-Svx.result.items ≡ inner_value c.args.layout.now c.args.frames = search rules in
    omega (arith, ap length value, inner_value_fits c.args.layout.now c.args.frames c.keeps_rule.ensures)

pub returns-in-Svx-clause-few : goal.returns-in-Svx-clause-few
returns-in-Svx-clause-few c =
    let value : c.inner_bytes-in-Svx.result.items ≡ inner_value c.args.layout.now c.args.frames = search rules in
    omega (arith, ap length value, few_in_inner c.args.layout.now c.args.frames c.keeps_rule.ensures)

pub returns-in-Sphere-clause-fits : goal.returns-in-Sphere-clause-fits
returns-in-Sphere-clause-fits c =
    let value : c.inner_bytes-in-Sphere.result.items ≡ inner_value c.args.layout.now c.args.frames = search rules in
    omega (arith, ap length value, inner_value_fits c.args.layout.now c.args.frames c.keeps_rule.ensures)

pub returns-in-Sphere-clause-few : goal.returns-in-Sphere-clause-few
returns-in-Sphere-clause-few c =
    let value : c.inner_bytes-in-Sphere.result.items ≡ inner_value c.args.layout.now c.args.frames = search rules in
    omega (arith, ap length value, few_in_inner c.args.layout.now c.args.frames c.keeps_rule.ensures)
