use Rattle.std.proofs.Common.{rules, ap, ◌∙◌, take, drop}
use Rattle.std.proofs.lemmas.List.{take_rest}
use Rattle.snd_fields.specs.Field.{number}
use Rattle.snd_fields.specs.declared.field.Order.TheVariants.{Little}
use Rattle.snd_meta.specs.Text.{text_of}
use Rattle.snd_meta.proofs.Broadcasting.{bext_kept, read_fields}
use Rattle.snd_meta.proofs.bext.Bext.read.Goals as goal

pub returns-clause-read : goal.returns-clause-read
returns-clause-read c =
    let body = c.args.body.now in
    read_fields body _ c.if-body-lt602.false
    (c.field_at.ensures ∙ ap (λ p. text_of (take 256 (drop p body))) c.place.ensures)
    (c.field_at-2.ensures ∙ ap (λ p. text_of (take 32 (drop p body))) c.place-2.ensures)
    (c.field_at-3.ensures ∙ ap (λ p. text_of (take 32 (drop p body))) c.place-3.ensures)
    (c.field_at-4.ensures ∙ ap (λ p. text_of (take 10 (drop p body))) c.place-4.ensures)
    (c.field_at-5.ensures ∙ ap (λ p. text_of (take 8 (drop p body))) c.place-5.ensures)
    (c.u64_at.ensures ∙ ap (λ p. number Little body p 8) c.place-6.ensures)
    c.u16_at.ensures c.bytes_at.ensures c.bytes_at-2.ensures
    (c.in_ok-until_zero.ensures ∙ ap text_of (take_rest body 602))

pub returns-clause-again : goal.returns-clause-again
returns-clause-again c = bext_kept c.args.body.now _ (search rules) (returns-clause-read c)
