use Rattle.std.proofs.Common.{◌≡◌, ◌∙◌, ◌++◌, ℕ, ap}
use Rattle.snd_fields.specs.Field.{bytes_of}
use Rattle.snd_fields.specs.declared.field.Order.TheVariants.{Little}
use Rattle.snd_wave.proofs.PlainHeads.{lead_put, no_lead_put}
use Rattle.snd_wave.proofs.head.put_lead.Goals as goal

pub returns-in-Some-clause-items : goal.returns-in-Some-clause-items
returns-in-Some-clause-items c =
    let few : c.in-Some.size ≡ 28 = rw c.in-Some.is at c.requires.size in
    rw c.in-Some.is
    (lead_put c.in-Some.size c.args.into.now.items c.put_all.new.into.items c.put_number.new.into.items c.put_all-in-Some.new.into.items few
    c.put_all.ensures.items (c.put_number.ensures.items ∙ ap (λ (k : ℕ). c.put_all.new.into.items ++ bytes_of Little 4 k) c.from.ensures) c.put_all-in-Some.ensures.items)

pub returns-in_default-clause-items : goal.returns-in_default-clause-items
returns-in_default-clause-items c = rw c.in_default.is (no_lead_put c.args.into.now.items)
