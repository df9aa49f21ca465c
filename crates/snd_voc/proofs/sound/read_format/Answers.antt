use Rattle.std.proofs.Common.{◌≡◌, ◌∙◌, Ok, Err, length, get_or, sym, ap, refl, rules}
use Rattle.snd_layout.specs.declared.refusal.OpenRefusal.{OpenRefusal}
use Rattle.snd_layout.specs.declared.refusal.OpenRefusal.TheVariants.{NoFormat}
use Rattle.snd_voc.specs.Layout.{older_format, sound_format}
use Rattle.snd_layout.proofs.Answered.{opens_on, refusal_found}
use Rattle.snd_voc.proofs.Parting.{format_gone, newer_there, older_there}
use Rattle.snd_voc.proofs.sound.read_format.Goals as goal

pub returns-then-not-has_format-clause-told : goal.returns-then-not-has_format-clause-told
returns-then-not-has_format-clause-told g c = λ refusal b by told.
    let same : NoFormat ≡ refusal = cc in
    let size : c.args.size ≡ length b = c.requires.size ∙ g.met.D.Disk.size_told c.args.disk.now b told in
    format_gone b c.args.head.now c.args.size c.args.sound (c.requires.head b told) size c.u24_at.result c.u24_at.ensures (search rules) ∙ ap (λ (r : OpenRefusal). Err r) same

pub returns-then-sound-eq1-clause-told : goal.returns-then-sound-eq1-clause-told
returns-then-sound-eq1-clause-told g c =
    opens_on g.D.Disk.state c.args.disk.now c.args.disk.now (λ b. older_format b c.args.sound.extension (get_or c.args.head.now 4 0) (get_or c.args.head.now 5 0)) (λ b. sound_format b c.args.sound) c.read_older.result refl
    (λ b told.
    let size : c.args.size ≡ length b = c.requires.size ∙ g.met.D.Disk.size_told c.args.disk.now b told in
    older_there b c.args.head.now c.args.size c.args.sound (c.requires.head b told) size c.u24_at.result c.u24_at.ensures (search rules) (search rules)) c.read_older.ensures.told

pub returns-in_err-newer_of-clause-told : goal.returns-in_err-newer_of-clause-told
returns-in_err-newer_of-clause-told g c =
    refusal_found g.D.Disk.state c.args.disk.now (λ b. sound_format b c.args.sound) c.in_err-newer_of.field-0.0 c.from_residual.result (search rules) (λ b told.
    let is : Err c.in_err-newer_of.field-0.0 ≡ c.newer_of.result = search rules in
    let size : c.args.size ≡ length b = c.requires.size ∙ g.met.D.Disk.size_told c.args.disk.now b told in
    newer_there b c.args.head.now c.args.size c.args.sound (c.requires.head b told) size c.u24_at.result c.u16_at-code.result c.u32_at-rate.result c.newer_of.result c.u24_at.ensures (search rules) (search rules) c.u16_at-code.ensures c.u32_at-rate.ensures c.newer_of.ensures.value ∙ sym is)

pub returns-clause-told : goal.returns-clause-told
returns-clause-told g c = λ b told.
    let is : Ok c.in_ok-newer_of.field-0 ≡ c.newer_of.result = search rules in
    let size : c.args.size ≡ length b = c.requires.size ∙ g.met.D.Disk.size_told c.args.disk.now b told in
    newer_there b c.args.head.now c.args.size c.args.sound (c.requires.head b told) size c.u24_at.result c.u16_at-code.result c.u32_at-rate.result c.newer_of.result c.u24_at.ensures (search rules) (search rules) c.u16_at-code.ensures c.u32_at-rate.ensures c.newer_of.ensures.value ∙ sym is
