use Rattle.std.proofs.Common.{◌≡◌, ap, length, arith, rules}
use Rattle.snd_container.proofs.Widths.{few_in_closing}
use Rattle.snd_container.specs.Values.{closing}
use Rattle.snd_container.proofs.fields.closing_bytes.Goals as goal

pub returns-in-Wave-clause-few : goal.returns-in-Wave-clause-few
returns-in-Wave-clause-few c =
    let value : c.closing_bytes.result.items ≡ closing c.args.layout.now c.args.frames = search rules in
    omega (arith, ap length value, few_in_closing c.args.layout.now c.args.frames)

pub returns-in-Rf64-clause-few : goal.returns-in-Rf64-clause-few
returns-in-Rf64-clause-few c =
    let value : c.closing_bytes-in-Rf64.result.items ≡ closing c.args.layout.now c.args.frames = search rules in
    omega (arith, ap length value, few_in_closing c.args.layout.now c.args.frames)

pub returns-in-W64-clause-few : goal.returns-in-W64-clause-few
returns-in-W64-clause-few c =
    let value : c.closing_bytes-in-W64.result.items ≡ closing c.args.layout.now c.args.frames = search rules in
    omega (arith, ap length value, few_in_closing c.args.layout.now c.args.frames)

pub returns-in-Au-clause-few : goal.returns-in-Au-clause-few
returns-in-Au-clause-few c =
    let value : c.closing_bytes-in-Au.result.items ≡ closing c.args.layout.now c.args.frames = search rules in
    omega (arith, ap length value, few_in_closing c.args.layout.now c.args.frames)

pub returns-in-Voc-clause-few : goal.returns-in-Voc-clause-few
returns-in-Voc-clause-few c =
    let value : c.closing_bytes-in-Voc.result.items ≡ closing c.args.layout.now c.args.frames = search rules in
    omega (arith, ap length value, few_in_closing c.args.layout.now c.args.frames)

pub returns-in-Svx-clause-few : goal.returns-in-Svx-clause-few
returns-in-Svx-clause-few c =
    let value : c.closing_bytes-in-Svx.result.items ≡ closing c.args.layout.now c.args.frames = search rules in
    omega (arith, ap length value, few_in_closing c.args.layout.now c.args.frames)

pub returns-in-Sphere-clause-few : goal.returns-in-Sphere-clause-few
returns-in-Sphere-clause-few c =
    let value : c.closing_bytes-in-Sphere.result.items ≡ closing c.args.layout.now c.args.frames = search rules in
    omega (arith, ap length value, few_in_closing c.args.layout.now c.args.frames)
