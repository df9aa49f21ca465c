use Rattle.std.proofs.Common.{◌≡◌, ◌∙◌, [], None, false, ap, sym, subst, rules}
use Rattle.std.proofs.lemmas.Result.{on_ok_weaker}
use Rattle.snd_disk.specs.Device.{Tells}
use Rattle.snd_file.specs.Handle.{known_of}
use Rattle.snd_inputs.proofs.Public.{told_as}
use Rattle.snd_inputs.specs.Rooms.{is_full}
use Rattle.snd_layout.specs.Fit.{fit_refusal}
use Rattle.snd_layout.specs.Params.{Parameters}
use Rattle.snd_layout.specs.Shape.{Shape}
use Rattle.snd_layout.specs.declared.kind.Kind.TheVariants.{Wave}
use Rattle.snd_output.specs.Made.{made_file}
use Rattle.snd_output.specs.Widths.{joined}
use Rattle.snd_salvage.proofs.Making.{codec_is, may_append}
use Rattle.snd_salvage.specs.Making.{file_made}
use Rattle.snd_salvage.proofs.make.make.Goals as goal

pub fill-filled-requires-clause-alike : goal.fill-filled-requires-clause-alike
fill-filled-requires-clause-alike g c =
    let p = c.params_of-params.result in
    let params : (known_of c.args.from.now).shape.params ≡ p = sym c.params_of-params.ensures.params in
    let fits : fit_refusal Wave p ≡ None = ap (fit_refusal Wave) (sym params) ∙ c.requires.fits in
    ap (λ (q : Parameters). q.codec) params ∙ sym (codec_is p (known_of c.args.from.now) (known_of c.in-Ok.to) params c.params_of-params.ensures.good fits c.in-Ok.ensures.fresh c.in-Ok.ensures.shape)

pub fill-filled-requires-clause-may : goal.fill-filled-requires-clause-may
fill-filled-requires-clause-may g c =
    let p = c.params_of-params.result in
    let params : (known_of c.args.from.now).shape.params ≡ p = sym c.params_of-params.ensures.params in
    let fits : fit_refusal Wave p ≡ None = ap (fit_refusal Wave) (sym params) ∙ c.requires.fits in
    let room : is_full Wave p (known_of c.args.from.now).shape.frames ≡ false = ap (λ (q : Parameters). is_full Wave q (known_of c.args.from.now).shape.frames) (sym params) ∙ c.requires.room in
    may_append p (known_of c.args.from.now) (known_of c.in-Ok.to) params c.params_of-params.ensures.good fits c.in-Ok.ensures.fresh c.in-Ok.ensures.shape c.requires.unread room

pub returns-in-Ok-finish-clause-made : goal.returns-in-Ok-finish-clause-made
returns-in-Ok-finish-clause-made g c =
    on_ok_weaker c.fill-filled.result
    (λ fills b e tells stands.
    let p = c.params_of-params.result in
    let begun = c.in-Ok.ensures.begun b tells in
    let full = fills p e begun.0 stands begun.1 begun.2 in
    let same : p ≡ e.shape.params = c.params_of-params.ensures.params ∙ ap (λ (h : Shape). h.params) stands.shape in
    told_as g.E.Disk.state c.in-Ok-finish.back.now _ (file_made e) (search rules)
    (subst (λ (q : Parameters). Tells g.E.Disk.state c.in-Ok-finish.back.now (made_file Wave q [] (joined e.frames))) same (c.in-Ok-finish.ensures.made Wave p [] (joined e.frames) full.0 full.1 full.2)))
    c.fill-filled.ensures.fills
