use Rattle.std.proofs.Common.{◌≡◌, ◌∙◌, ℕ, true, false, ap, sym, refl, rules}
use Rattle.snd_inputs.specs.Rooms.{is_full}
use Rattle.snd_layout.specs.Params.{Parameters}
use Rattle.snd_layout.specs.Shape.{Shape}
use Rattle.snd_layout.specs.declared.kind.Kind.TheVariants.{Wave}
use Rattle.snd_output.specs.Widths.{joined}
use Rattle.snd_salvage.proofs.Doing.{full_refused, room_made}
use Rattle.snd_salvage.proofs.salvaging.salvage_file.Goals as goal

pub returns-then-is_full-clause-done : goal.returns-then-is_full-clause-done
returns-then-is_full-clause-done g c = λ files e told stands.
    let params : c.params_of-params.result ≡ e.shape.params = c.params_of-params.ensures.params ∙ ap (λ (h : Shape). h.params) stands.shape in
    let frames : c.frames-frames.result ≡ e.shape.frames = c.frames-frames.ensures ∙ ap (λ (h : Shape). h.frames) stands.shape in
    let judged : c.is_full.result ≡ is_full Wave c.params_of-params.result c.frames-frames.result = search rules in
    let full : is_full Wave e.shape.params e.shape.frames ≡ true =
    sym (judged ∙ ap (λ (p : Parameters). is_full Wave p c.frames-frames.result) params ∙ ap (λ (n : ℕ). is_full Wave e.shape.params n) frames) ∙ c.if-is_full.true in
    full_refused g.S.Shelf.state c.args.shelf.now files c.args.output.now e.shape.params e.shape.frames (joined e.frames) full (files, told, λ n. refl)

pub returns-in-Ok-clause-done : goal.returns-in-Ok-clause-done
returns-in-Ok-clause-done g c = λ files e told stands.
    let params : c.params_of-params.result ≡ e.shape.params = c.params_of-params.ensures.params ∙ ap (λ (h : Shape). h.params) stands.shape in
    let frames : c.frames-frames.result ≡ e.shape.frames = c.frames-frames.ensures ∙ ap (λ (h : Shape). h.frames) stands.shape in
    let judged : c.is_full.result ≡ is_full Wave c.params_of-params.result c.frames-frames.result = search rules in
    let room : is_full Wave e.shape.params e.shape.frames ≡ false =
    sym (judged ∙ ap (λ (p : Parameters). is_full Wave p c.frames-frames.result) params ∙ ap (λ (n : ℕ). is_full Wave e.shape.params n) frames) ∙ c.if-is_full.false in
    room_made g.S.Shelf.state c.make_under.new.shelf files c.args.output.now e.shape.params e.shape.frames (joined e.frames) c.frames-frames.result frames room (c.in-Ok.ensures.made files e told stands)
