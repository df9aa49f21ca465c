use Rattle.std.proofs.Common.{◌≡◌, ◌∙◌, Ok, Err, sym, rules}
use Rattle.snd_voc.specs.Layout.{older_format}
use Rattle.snd_layout.proofs.Answered.{refusal_found}
use Rattle.snd_voc.proofs.Parting.{older_is}
use Rattle.snd_voc.proofs.sound.read_older.Goals as goal

pub returns-in_err-older_of-2-clause-told : goal.returns-in_err-older_of-2-clause-told
returns-in_err-older_of-2-clause-told g c =
    refusal_found g.D.Disk.state c.args.disk.now (λ b. older_format b c.args.extension c.args.constant c.args.codec) c.in_err-older_of-2.field-0.0 c.from_residual-in_err-older_of-2.result (search rules) (λ b told.
    let is : Err c.in_err-older_of-2.field-0.0 ≡ c.older_of-2.result = search rules in
    older_is b c.read_from.new.into c.args.extension c.in-Some.block c.args.constant c.args.codec c.u16_at-constant.result c.extended_rate-rate.result c.older_of-2.result c.in-Some.is (c.in_ok-read_from.ensures.told b told)
    c.u16_at-constant.ensures c.extended_rate-rate.ensures c.older_of-2.ensures.value ∙ sym is)

pub returns-clause-told : goal.returns-clause-told
returns-clause-told g c = λ b told.
    let is : Ok c.in_ok-older_of-2.field-0 ≡ c.older_of-2.result = search rules in
    older_is b c.read_from.new.into c.args.extension c.in-Some.block c.args.constant c.args.codec c.u16_at-constant.result c.extended_rate-rate.result c.older_of-2.result c.in-Some.is (c.in_ok-read_from.ensures.told b told)
    c.u16_at-constant.ensures c.extended_rate-rate.ensures c.older_of-2.ensures.value ∙ sym is
