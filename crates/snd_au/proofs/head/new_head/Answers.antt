use Rattle.std.proofs.Common.{rules, ◌≡◌, ◌∙◌, ap, ◌++◌}
use Rattle.snd_layout.specs.Params.{Parameters}
use Rattle.snd_au.proofs.Joined.{head_put}
use Rattle.snd_au.specs.Written.{encoding_of, mark}
use Rattle.snd_au.proofs.head.new_head.Goals as goal

pub returns : goal.returns
returns c =
    let marked : c.put_all.new.into.items ≡ c.new-head.result.items ++ mark c.args.order = search rules in
    let encoding : c.from.result ≡ c.encoding_of.result = search rules in
    let codec : c.encoding_of.result ≡ encoding_of c.params.inside.codec = search rules in
    let rate : c.from-2.result ≡ c.params.inside.rate = search rules in
    let channels : c.from-3.result ≡ c.params.inside.channels = search rules in
    head_put c.args.order c.args.params.now c.from.result c.from-2.result c.from-3.result c.new-head.result.items c.put_all.new.into.items c.put_number.new.into.items c.put_number-2.new.into.items c.put_number-3.new.into.items
    c.put_number-4.new.into.items c.put_number-5.new.into.items c.new-head.ensures marked c.put_number.ensures.items c.put_number-2.ensures.items c.put_number-3.ensures.items c.put_number-4.ensures.items c.put_number-5.ensures.items
    (encoding ∙ codec ∙ ap (λ (p : Parameters). encoding_of p.codec) c.params.view_is) (rate ∙ ap (λ (p : Parameters). p.rate) c.params.view_is) (channels ∙ ap (λ (p : Parameters). p.channels) c.params.view_is)
