use Rattle.std.proofs.Common.{◌≡◌, ◌∙◌, Ok, length, ap, rules}
use Rattle.snd_disk.proofs.Public.{only_reads_then}
use Rattle.snd_voc.specs.Layout.{sound_format, with_format, with_sound}
use Rattle.snd_layout.proofs.Answered.{passed_from}
use Rattle.snd_voc.proofs.Parting.{laid_out}
use Rattle.snd_voc.proofs.layout.layout_at.Goals as goal

pub returns-in_err-params-clause-told : goal.returns-in_err-params-clause-told
returns-in_err-params-clause-told g c =
    passed_from g.D.Disk.state c.args.disk.now c.read_from.new.disk (λ b. sound_format b c.args.sound) (λ b. with_sound b (Ok c.args.sound)) c.from_residual-in_err-params.result c.in_err-params.field-0.0 (search rules) c.read_from.ensures.reads.keeps.contents
    (λ b refusal told is. ap (with_format b c.args.sound) is) c.in_err-params.ensures.told

pub returns-clause-told : goal.returns-clause-told
returns-clause-told g c = λ b told.
    let size : c.args.size ≡ length b = c.requires.size ∙ g.met.D.Disk.size_told c.args.disk.now b told in
    let told_read = c.read_from.ensures.reads.keeps.contents ∙ told in
    let told_formed = c.read_format.ensures.reads.keeps.contents ∙ told_read in
    laid_out b c.read_from.new.into c.args.size c.args.sound (c.in_ok-read_from.ensures.told b told) size c.in_ok-params.params c.u24_at.result c.data_len-declared.result c.in_ok-trailing.trailing c.layout_of.result
    (c.in_ok-params.ensures.told b told_read) c.u24_at.ensures c.data_len-declared.ensures (search rules)
    (c.in_ok-trailing.ensures.told b told_formed ∙ (search rules)) c.layout_of.ensures.value

pub returns-clause-reads : goal.returns-clause-reads
returns-clause-reads g c =
    only_reads_then _ _ _ _ _ _ _ _ _ (only_reads_then _ _ _ _ _ _ _ _ _ c.read_from.ensures.reads c.read_format.ensures.reads) c.goes_on.ensures.reads
