use Rattle.std.proofs.Common.{rules, ◌≡◌, ◌∙◌, ap, sym, Ok, Err, Some, List, ℕ}
use Rattle.std.proofs.lemmas.Result.{on_ok_weaker}
use Rattle.snd_layout.specs.Params.{Parameters}
use Rattle.snd_layout.specs.Shape.{Shape}
use Rattle.snd_layout.specs.declared.kind.Kind.{Kind}
use Rattle.snd_file.specs.Handle.{known_of}
use Rattle.snd_edits.specs.Making.{making_of}
use Rattle.snd_output.specs.Made.{made_file}
use Rattle.snd_output.specs.Widths.{joined}
use Rattle.snd_metadata.specs.Making.{chunks_planned, file_planned}
use Rattle.snd_metadata.specs.declared.chunks.PlannedChunk.{PlannedChunk}
use Rattle.snd_inputs.proofs.Public.{told_as}
use Rattle.snd_layout.specs.Blocks.{is_adpcm}
use Rattle.snd_output.proofs.Public.{fault_only, never_is}
use Rattle.snd_metadata.proofs.make.make.Goals as goal

pub returns-in-Ok-finish-clause-made : goal.returns-in-Ok-finish-clause-made
returns-in-Ok-finish-clause-made g c =
    on_ok_weaker c.fill-filled.result
    (λ fills b r tells stands.
    let h : Shape = (known_of c.args.from.now).shape in
    let plan : List PlannedChunk = c.args.plan.now in
    let begun = c.in-Ok.ensures.begun b tells in
    let made : making_of h.kind h.params ≡ Ok begun.0 =
    ap (λ (p : Parameters). making_of h.kind p) (sym c.params_of-params.ensures.params) ∙ ap (λ (k : Kind). making_of k c.params_of-params.result) (sym c.kind.ensures) ∙ begun.3 in
    let full = fills r begun.0 stands made begun.1 in
    let same : made_file h.kind h.params (chunks_planned r plan) (joined r.frames) ≡ file_planned r plan = ap (λ (s : Shape). made_file s.kind s.params (chunks_planned r plan) (joined r.frames)) stands.shape in
    told_as g.E.Disk.state c.in-Ok-finish.back.now _ (file_planned r plan) (search rules)
    (c.in-Ok-finish.ensures.made h.kind h.params (chunks_planned r plan) (joined r.frames) full.0 full.1 full.2 ∙ ap (λ (l : List ℕ). Some l) same))
    c.fill-filled.ensures.fills

pub begin-requires-clause-codec : goal.begin-requires-clause-codec
begin-requires-clause-codec g c = ap (λ (p : Parameters). is_adpcm p.codec) c.params_of-params.ensures.params ∙ c.requires.ready.linear

pub returns-in-Err-finish-clause-unchanged : goal.returns-in-Err-finish-clause-unchanged
returns-in-Err-finish-clause-unchanged g c = never_is {T = Unit {0}} (Err c.in-Err-finish.stop) (fault_only ⊥ c.in-Err-finish.stop c.in-Err-finish.ensures.cause.0)
