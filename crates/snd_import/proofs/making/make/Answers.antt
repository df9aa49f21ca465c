use Rattle.std.proofs.Common.{◌≡◌, ◌∙◌, ap, sym, subst, [], ℤ, List, false, rules}
use Rattle.std.proofs.lemmas.Result.{on_ok_weaker}
use Rattle.snd_inputs.proofs.Public.{begun_as, begun_at_end, begun_room, told_as}
use Rattle.snd_layout.specs.Blocks.{is_adpcm}
use Rattle.snd_layout.specs.Params.{Parameters}
use Rattle.snd_layout.specs.Shape.{Shape}
use Rattle.snd_edits.specs.Relaid.{shape_with}
use Rattle.snd_file.specs.Handle.{codec_of, known_of}
use Rattle.snd_output.specs.Made.{IsMaking}
use Rattle.snd_output.specs.Widths.{change_numbers}
use Rattle.snd_import.specs.Import.{file_made, numbers_of}
use Rattle.snd_import.proofs.making.make.Goals as goal

pub give_all-given-requires-clause-takes : goal.give_all-given-requires-clause-takes
give_all-given-requires-clause-takes g c =
    let kind = c.args.kind in
    let p = c.args.params in
    let h = shape_with kind p [] in
    let begun = begun_as kind p c.are_good.ensures c.requires.fits in
    let k = known_of c.in-Ok.to in
    let params : k.shape.params ≡ p = ap (λ (s : Shape). s.params) c.in-Ok.ensures.shape ∙ begun.params in
    record {
      at_end = begun_at_end kind p h k begun c.in-Ok.ensures.fresh c.in-Ok.ensures.shape;
      room = begun_room kind p h k begun c.in-Ok.ensures.fresh c.in-Ok.ensures.shape c.args.source.now.frames c.requires.room;
      alike = c.requires.alike ∙ sym (ap (λ (q : Parameters). q.channels) params);
      fixed = ap (λ (q : Parameters). is_adpcm q.codec) params ∙ c.requires.fixed;
    }

pub returns-in-Ok-finish-clause-made : goal.returns-in-Ok-finish-clause-made
returns-in-Ok-finish-clause-made g c =
    on_ok_weaker c.give_all-given.result
    (λ gains b d tells tells'.
    let kind = c.args.kind in
    let p = c.args.params in
    let s = c.args.source.now in
    let begun = c.in-Ok.ensures.begun d tells' in
    let full = gains b tells kind p [] [] begun.0 begun.1 begun.2 in
    let params : (known_of c.in-Ok.to).shape.params ≡ p = ap (λ (h : Shape). h.params) c.in-Ok.ensures.shape ∙ (begun_as kind p c.are_good.ensures c.requires.fits).params in
    let numbers = ap (λ (q : Parameters). change_numbers s.params.codec q.codec (numbers_of s b)) params in
    let making = subst (λ (l : List ℤ). IsMaking kind p [] l full.0) numbers full.2 in
    told_as g.E.Disk.state c.in-Ok-finish.back.now _ (file_made kind p s b) (search rules) (c.in-Ok-finish.ensures.made kind p [] (change_numbers s.params.codec p.codec (numbers_of s b)) full.0 full.1 making))
    c.give_all-given.ensures.gains
