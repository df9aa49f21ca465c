use Rattle.std.proofs.Common.{◌≡◌, ◌∙◌, ◌-◌, ap, length, arith, sym}
use Rattle.snd_fields.proofs.Numbers.{length-bytes_of}
use Rattle.snd_fields.specs.declared.field.Order.TheVariants.{Little, Big}
use Rattle.snd_layout.specs.Shape.{Shape}
use Rattle.snd_layout.specs.declared.kind.Kind.TheVariants.{Wave, Rf64, Svx}
use Rattle.snd_container.proofs.WholeSizes.{fits_rf64, fits_svx, fits_wave, to_rf64, to_svx, to_wave}
use Rattle.snd_container.proofs.fields.outer_to.Goals as goal

pub returns-in-Wave-clause-value : goal.returns-in-Wave-clause-value
returns-in-Wave-clause-value c =
    let kind : c.args.layout.now.kind ≡ Wave = sym (ap (λ (s : Shape). s.kind) c.layout.view_is) ∙ c.in-Wave.is in
    c.outer_to.ensures ∙ sym (to_wave c.args.layout.now c.keeps_rule.ensures c.args.end kind)

pub returns-in-Wave-clause-fits : goal.returns-in-Wave-clause-fits
returns-in-Wave-clause-fits c =
    let kind : c.args.layout.now.kind ≡ Wave = sym (ap (λ (s : Shape). s.kind) c.layout.view_is) ∙ c.in-Wave.is in
    fits_wave c.args.layout.now c.keeps_rule.ensures c.outer_to.result.items kind (ap length c.outer_to.ensures ∙ length-bytes_of Little 4 (c.args.end - 8))

pub returns-in-Wave-clause-few : goal.returns-in-Wave-clause-few
returns-in-Wave-clause-few c = omega (arith, ap length c.outer_to.ensures, length-bytes_of Little 4 (c.args.end - 8))

pub returns-in-Rf64-clause-value : goal.returns-in-Rf64-clause-value
returns-in-Rf64-clause-value c =
    let kind : c.args.layout.now.kind ≡ Rf64 = sym (ap (λ (s : Shape). s.kind) c.layout.view_is) ∙ c.in-Rf64.is in
    c.outer_to-in-Rf64.ensures ∙ sym (to_rf64 c.args.layout.now c.keeps_rule.ensures c.args.end kind)

pub returns-in-Rf64-clause-fits : goal.returns-in-Rf64-clause-fits
returns-in-Rf64-clause-fits c =
    let kind : c.args.layout.now.kind ≡ Rf64 = sym (ap (λ (s : Shape). s.kind) c.layout.view_is) ∙ c.in-Rf64.is in
    fits_rf64 c.args.layout.now c.keeps_rule.ensures c.outer_to-in-Rf64.result.items kind (ap length c.outer_to-in-Rf64.ensures ∙ length-bytes_of Little 8 (c.args.end - 8))

pub returns-in-Rf64-clause-few : goal.returns-in-Rf64-clause-few
returns-in-Rf64-clause-few c = omega (arith, ap length c.outer_to-in-Rf64.ensures, length-bytes_of Little 8 (c.args.end - 8))

pub returns-in-Svx-clause-value : goal.returns-in-Svx-clause-value
returns-in-Svx-clause-value c =
    let kind : c.args.layout.now.kind ≡ Svx = sym (ap (λ (s : Shape). s.kind) c.layout.view_is) ∙ c.in-Svx.is in
    c.outer_to-in-Svx.ensures ∙ sym (to_svx c.args.layout.now c.keeps_rule.ensures c.args.end kind)

pub returns-in-Svx-clause-fits : goal.returns-in-Svx-clause-fits
returns-in-Svx-clause-fits c =
    let kind : c.args.layout.now.kind ≡ Svx = sym (ap (λ (s : Shape). s.kind) c.layout.view_is) ∙ c.in-Svx.is in
    fits_svx c.args.layout.now c.keeps_rule.ensures c.outer_to-in-Svx.result.items kind (ap length c.outer_to-in-Svx.ensures ∙ length-bytes_of Big 4 (c.args.end - 8))

pub returns-in-Svx-clause-few : goal.returns-in-Svx-clause-few
returns-in-Svx-clause-few c = omega (arith, ap length c.outer_to-in-Svx.ensures, length-bytes_of Big 4 (c.args.end - 8))
