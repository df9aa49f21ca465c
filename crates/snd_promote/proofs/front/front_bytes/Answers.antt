use Rattle.std.proofs.Common.{◌≡◌, ◌∙◌, ◌+◌, ◌-◌, ◌%◌, ◌++◌, ap, rules}
use Rattle.std.specs.Prelude.{unwrap_or}
use Rattle.snd_fields.specs.Field.{bytes_of}
use Rattle.snd_fields.specs.declared.field.Order.TheVariants.{Little}
use Rattle.snd_layout.specs.Params.{data_bytes}
use Rattle.snd_layout.specs.Shape.{Shape}
use Rattle.snd_ds64.proofs.Public.{front_put}
use Rattle.snd_promote.proofs.front.front_bytes.Goals as goal

pub returns-clause-items : goal.returns-clause-items
returns-clause-items c =
    let start : c.layout.inside.start ≡ c.args.layout.now.start = ap (λ (s : Shape). s.start) c.layout.view_is in
    let frames : c.layout.inside.frames ≡ c.args.layout.now.frames = ap (λ (s : Shape). s.frames) c.layout.view_is in
    let kept : unwrap_or c.layout.inside.reserve 0 ≡ unwrap_or c.args.layout.now.reserve 0 = ap (λ (s : Shape). unwrap_or s.reserve 0) c.layout.view_is in
    let size : c.from.result ≡ unwrap_or c.layout.inside.reserve 0 = search rules in
    front_put c.args.layout.now c.args.layout.now.frames c.data_bytes-bytes.result (c.layout.inside.start + c.data_bytes-bytes.result + c.data_bytes-bytes.result % 2 - 8) c.from.result
    c.new-front.result.items c.put_all.new.into.items c.put_number.new.into.items c.put_all-2.new.into.items c.put_all-3.new.into.items c.put_number-2.new.into.items c.put_long.new.into.items c.put_long-2.new.into.items
    c.put_long-3.new.into.items c.put_number-3.new.into.items (c.data_bytes-bytes.ensures ∙ ap (data_bytes c.args.layout.now.params) frames)
    (ap (λ k. k + c.data_bytes-bytes.result + c.data_bytes-bytes.result % 2 - 8) start) (size ∙ kept) c.new-front.ensures c.put_all.ensures.items c.put_number.ensures.items c.put_all-2.ensures.items c.put_all-3.ensures.items
    c.put_number-2.ensures.items c.put_long.ensures.items c.put_long-2.ensures.items (c.put_long-3.ensures.items ∙ ap (λ k. c.put_long-2.new.into.items ++ bytes_of Little 8 k) frames) c.put_number-3.ensures.items
