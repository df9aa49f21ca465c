use Rattle.std.proofs.Common.{◌≡◌, ◌∙◌, ap, sym, refl, rules}
use Rattle.snd_fields.specs.Field.{bytes_of}
use Rattle.snd_fields.specs.declared.field.Order.TheVariants.{Little}
use Rattle.snd_layout.specs.Params.{Parameters}
use Rattle.snd_voc.specs.Written.{bits_of, code_of, file_head}
use Rattle.snd_voc.proofs.Laying.{head_put}
use Rattle.snd_voc.proofs.head.plain_head.Goals as goal

pub returns : goal.returns
unfolding file_head
returns c =
    let rate : c.args.params.now.rate ≡ c.params.inside.rate = ap (λ (p : Parameters). p.rate) (sym c.params.view_is) in
    let codec : c.args.params.now.codec ≡ c.params.inside.codec = ap (λ (p : Parameters). p.codec) (sym c.params.view_is) in
    let channels : c.args.params.now.channels ≡ c.params.inside.channels = ap (λ (p : Parameters). p.channels) (sym c.params.view_is) in
    head_put c.args.params.now c.new-head.result.items c.put_all.new.into.items c.put_all-2.new.into.items c.put_all-3.new.into.items c.put_all-4.new.into.items (bytes_of Little 4 c.params.inside.rate) c.bits_of-bits.result c.params.inside.channels c.code_of-code.result
    c.new-head.ensures c.put_all.ensures.items c.put_all-2.ensures.items (rw rate refl) (search rules)
    (c.bits_of-bits.ensures ∙ ap bits_of (sym codec)) (sym channels) (c.code_of-code.ensures ∙ ap code_of (sym codec)) c.put_all-4.ensures.items
