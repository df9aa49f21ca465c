use Rattle.std.proofs.Common.{ap, ◌∙◌}
use Rattle.snd_sphere.specs.Written.{sphere_head}
use Rattle.snd_sphere.proofs.Laid.{filled, joined}
use Rattle.snd_sphere.proofs.head.head_of.Goals as goal

pub returns : goal.returns
unfolding sphere_head
returns c =
    filled c.put_all-5.new.into.items _ c.put_spaces.new.into.items
    (joined _ c.put_all.new.into.items c.put_all-2.new.into.items c.put_all-3.new.into.items c.put_all-4.new.into.items c.put_all-5.new.into.items _ _ _ _ _ _ _ _
    c.new-head.ensures c.put_all.ensures.items c.put_all-2.ensures.items c.put_all-3.ensures.items c.put_all-4.ensures.items c.put_all-5.ensures.items
    (c.as_bytes.ensures.value ∙ c.format.ensures.text) (c.as_bytes-2.ensures.value ∙ c.format-2.ensures.text) c.coding_lines.ensures.lines)
    c.put_spaces.ensures ∙ ap sphere_head c.params.view_is
