use Rattle.std.proofs.Common.{◌≡◌, ◌∙◌, ap, subst, sym, ℕ, List}
use Rattle.snd_layout.specs.Shape.{Shape}
use Rattle.snd_file.specs.Handle.{known_of}
use Rattle.snd_words.specs.Stated.{Stated}
use Rattle.snd_metadata.specs.Making.{chunks_planned}
use Rattle.snd_metadata.specs.Planned.{IsReady}
use Rattle.snd_metadata.specs.Retagged.{chunks_made}
use Rattle.snd_metadata.proofs.Asking.{asks_made}
use Rattle.snd_metadata.proofs.Doing.{halted_so, output_made}
use Rattle.snd_metadata.proofs.retag.retag_file.Goals as goal

pub returns-in-Err-clause-done : goal.returns-in-Err-clause-done
returns-in-Err-clause-done g c =
    halted_so g.D.Disk.state g.S.Shelf.state c.args.change.now c.args.file.now c.args.shelf.now c.in-Err.halt c.answer_of.result c.answer_of.ensures c.in-Err.ensures.plans

pub returns-in-Ok-make_under-clause-done : goal.returns-in-Ok-make_under-clause-done
returns-in-Ok-make_under-clause-done g c = λ files e told stands.
    let settings : List Stated = c.args.change.now.settings in
    let input : List ℕ = c.args.change.now.input.now in
    let output : List ℕ = c.args.change.now.output.now in
    let plans = c.in-Ok.ensures.plans e stands input output in
    let same : c.frames-frames.result ≡ e.shape.frames = c.frames-frames.ensures ∙ ap (λ (h : Shape). h.frames) stands.shape in
    let chunks : chunks_planned e c.deref.result.now ≡ chunks_made settings e = ap (λ l. chunks_planned e l) c.deref.ensures.value ∙ plans.1 in
    output_made g.S.Shelf.state c.make_under.new.shelf files settings input output e c.deref.result.now c.frames-frames.result plans.0 chunks same
    (c.in-Ok-make_under.ensures.made files e told (c.in-Ok.ensures.looks.stands e stands))

pub returns-in-Ok-make_under-clause-asked : goal.returns-in-Ok-make_under-clause-asked
returns-in-Ok-make_under-clause-asked g c =
    let ready : IsReady (known_of c.args.file.now).shape c.deref.result.now = subst (IsReady (known_of c.args.file.now).shape) (sym c.deref.ensures.value) c.in-Ok.ensures.ready in
    asks_made (known_of c.args.file.now) (known_of c.plan_of.new.file) c.deref.result.now _ _ _ c.in-Ok.ensures.looks.known ready c.plan_of.ensures.asked c.make_under.ensures.asked
