use Rattle.std.proofs.Common.{Some, ap, sym, ◌∙◌, refl}
use Rattle.std.specs.Option.{option_map}
use Rattle.std.proofs.lemmas.Option.{slice_get-map, slice_get_read}
use Rattle.snd_rack.proofs.boxes.kind_at.Goals as goal

pub returns : goal.returns
returns g c =
    ap Some c.kind_of.ensures ∙ sym (slice_get-map (λ b. ((goal.Stage-dyn g (b.vtable, b.value)).stage b.value).kind) c.args.stages.now c.args.at
    ∙ ap (option_map (λ b. ((goal.Stage-dyn g (b.vtable, b.value)).stage b.value).kind)) (slice_get_read c.args.stages.now _ c.args.at c.index-stages-at.result refl c.requires c.index-stages-at.is))
