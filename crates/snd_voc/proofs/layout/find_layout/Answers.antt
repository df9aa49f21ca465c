use Rattle.std.proofs.Common.{◌∙◌, None, Ok, ap, rules}
use Rattle.snd_voc.specs.Layout.{first_place, voc_layout, walk, with_sound}
use Rattle.snd_layout.proofs.Answered.{opens_on, passed_from, passed_on}
use Rattle.snd_voc.proofs.Parting.{placed_err, placed_ok}
use Rattle.snd_voc.proofs.layout.find_layout.Goals as goal

pub returns-in_err-place-clause-told : goal.returns-in_err-place-clause-told
returns-in_err-place-clause-told g c =
    passed_on g.D.Disk.state c.args.disk.now first_place voc_layout c.from_residual.result c.in_err-place.field-0.0 (search rules) placed_err c.in_err-place.ensures.told

pub returns-in_err-sound-clause-told : goal.returns-in_err-sound-clause-told
returns-in_err-sound-clause-told g c =
    passed_from g.D.Disk.state c.args.disk.now c.read_place.new.disk (λ b. walk b 256 c.in_ok-place.place None) voc_layout c.from_residual-in_err-sound.result c.in_err-sound.field-0.0 (search rules) c.read_place.ensures.reads.keeps.contents
    (λ b refusal told walked. placed_ok b c.in_ok-place.place (c.in_ok-place.ensures.told b told) ∙ ap (with_sound b) walked) c.in_err-sound.ensures.told

pub returns-clause-told : goal.returns-clause-told
returns-clause-told g c =
    opens_on g.D.Disk.state c.args.disk.now c.find_sound.new.disk (λ b. with_sound b (Ok c.in_ok-sound.sound)) voc_layout c.layout_at.result (c.find_sound.ensures.reads.keeps.contents ∙ c.read_place.ensures.reads.keeps.contents)
    (λ b told. placed_ok b c.in_ok-place.place (c.in_ok-place.ensures.told b told) ∙ ap (with_sound b) (c.in_ok-sound.ensures.told b (c.read_place.ensures.reads.keeps.contents ∙ told))) c.layout_at.ensures.told
