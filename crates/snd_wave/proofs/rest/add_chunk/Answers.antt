use Rattle.std.proofs.Common.{ℕ, List, ◌++◌, ap, ◌∙◌, length}
use Rattle.snd_wave.proofs.Putting.{chunk_added, even_pad, odd_pad}
use Rattle.snd_wave.proofs.rest.add_chunk.Goals as goal

pub returns-in_ok-push : goal.returns-in_ok-push
returns-in_ok-push c =
    chunk_added c.args.order c.args.into.now.items c.args.id.0 c.args.body.now c.new-head.result.items c.put_all.new.into.items c.put_number.new.into.items c.extend_from_slice.new.self.items c.extend_from_slice-2.new.self.items c.push.new.self.items
    c.new-head.ensures c.put_all.ensures.items c.put_number.ensures.items (c.in_ok-extend_from_slice.ensures.items ∙ ap (λ (l : List ℕ). c.args.into.now.items ++ l) c.as_slice.ensures.value) c.in_ok-extend_from_slice-2.ensures.items
    (c.in_ok-push.ensures.items ∙ odd_pad (length c.args.body.now) c.extend_from_slice-2.new.self.items c.if-body-eq1.true)

pub returns-else-body-eq1 : goal.returns-else-body-eq1
returns-else-body-eq1 c =
    chunk_added c.args.order c.args.into.now.items c.args.id.0 c.args.body.now c.new-head.result.items c.put_all.new.into.items c.put_number.new.into.items c.extend_from_slice.new.self.items c.extend_from_slice-2.new.self.items c.extend_from_slice-2.new.self.items
    c.new-head.ensures c.put_all.ensures.items c.put_number.ensures.items (c.in_ok-extend_from_slice.ensures.items ∙ ap (λ (l : List ℕ). c.args.into.now.items ++ l) c.as_slice.ensures.value) c.in_ok-extend_from_slice-2.ensures.items
    (even_pad (length c.args.body.now) c.extend_from_slice-2.new.self.items c.if-body-eq1.false)
