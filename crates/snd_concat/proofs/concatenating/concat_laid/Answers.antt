use Rattle.std.proofs.Common.{◌≡◌, ◌∙◌, ◌<◌, ℕ, List, [], true, false, None, Some, Ok, Err, length, get_or, slice_get, rules, arith, ap, refl, subst, sym}
use Rattle.std.proofs.lemmas.List.{length-map}
use Rattle.snd_inputs.proofs.Public.{done_same, length-inputs, refused_as}
use Rattle.snd_inputs.specs.Rooms.{is_full}
use Rattle.snd_layout.specs.Shape.{Shape}
use Rattle.snd_layout.specs.declared.kind.Kind.{Kind}
use Rattle.snd_lines.specs.declared.refusal.Refusal.TheVariants.{ContainerFull, MixedParams, Open}
use Rattle.snd_edits.specs.Editing.{Editing}
use Rattle.snd_output.specs.Codecs.{params_like}
use Rattle.snd_tools.specs.Done.{Done, Said, files_after, said_of}
use Rattle.snd_tools.specs.Shelves.{HasFiles, IsDone}
use Rattle.snd_concat.specs.Concat.{all_frames, done_if_alike, done_like, first_mixed, made_if_good, shapes_of}
use Rattle.snd_concat.specs.Making.{MayJoin}
use Rattle.std.proofs.lemmas.Result.{IfOk-weaker}
use Rattle.snd_inputs.specs.Inputs.{first_bad}
use Rattle.snd_concat.proofs.Doing.{full_done, like_done, may_join, mixed_within, named, room_done, unfit_done}
use Rattle.snd_concat.proofs.concatenating.concat_laid.Goals as goal

pub returns-in-Some-first_mixed-clause-done : goal.returns-in-Some-first_mixed-clause-done
returns-in-Some-first_mixed-clause-done g c = λ files es told all seen.
    let inputs = c.args.concatenation.now.inputs in
    let output = c.args.concatenation.now.output.now in
    let h = c.in-Some.like.now in
    let hs = c.args.layouts.now in
    let at = c.in-Some-first_mixed.at in
    let first : slice_get hs 0 ≡ Some h = search rules in
    let is : first_mixed h.params hs ≡ Some at = search rules in
    let todo : done_like inputs output es ≡ Done.refuses (get_or inputs at []) MixedParams = like_done inputs output es hs h seen first ∙ ap (done_if_alike inputs output h es) is in
    let within : at < length inputs = omega (arith, mixed_within h hs at is, ap (λ (l : List Shape). length l) seen, length-map es (λ (e : Editing). e.shape), length-inputs files inputs es all) in
    let name : c.name_at.result.now ≡ get_or inputs at [] = c.name_at.ensures (omega (arith, within)) ∙ named inputs output at within in
    subst (λ (d : Done). (Said.refused c.name_at.result.now MixedParams ≡ said_of d) × HasFiles g.S.Shelf.state c.args.shelf.now (files_after d files)) (sym todo)
    (ap (λ (n : List ℕ). Said.refused n MixedParams) name, (files, told, λ n. refl))

pub returns-in-Err-clause-done : goal.returns-in-Err-clause-done
returns-in-Err-clause-done g c = λ files es told all seen.
    let inputs = c.args.concatenation.now.inputs in
    let output = c.args.concatenation.now.output.now in
    let h = c.in-Some.like.now in
    let hs = c.args.layouts.now in
    let first : slice_get hs 0 ≡ Some h = search rules in
    let none : first_mixed h.params hs ≡ None = search rules in
    let unfit : params_like h.kind h.params.channels h.params ≡ Err c.in-Err.why = search rules in
    refused_as g.S.Shelf.state c.args.shelf.now files output (Open c.in-Err.why) (done_like inputs output es) (files, told, λ n. refl) (unfit_done inputs output es hs h seen first none c.in-Err.why unfit)

pub returns-then-is_full-clause-done : goal.returns-then-is_full-clause-done
returns-then-is_full-clause-done g c = λ files es told all seen.
    let inputs = c.args.concatenation.now.inputs in
    let output = c.args.concatenation.now.output.now in
    let h = c.in-Some.like.now in
    let hs = c.args.layouts.now in
    let p = c.in-Ok.params in
    let first : slice_get hs 0 ≡ Some h = search rules in
    let none : first_mixed h.params hs ≡ None = search rules in
    let fit : params_like h.kind h.params.channels h.params ≡ Ok p = search rules in
    let full : is_full h.kind p (all_frames hs) ≡ true = search rules in
    refused_as g.S.Shelf.state c.args.shelf.now files output ContainerFull (done_like inputs output es) (files, told, λ n. refl) (full_done inputs output es hs h seen first none p fit full)

pub returns-clause-done : goal.returns-clause-done
returns-clause-done g c =
    IfOk-weaker c.concat_good.result _ _
    (λ answer done files es told all seen.
    let inputs = c.args.concatenation.now.inputs in
    let output = c.args.concatenation.now.output.now in
    let h = c.in-Some.like.now in
    let hs = c.args.layouts.now in
    let p = c.in-Ok.params in
    let first : slice_get hs 0 ≡ Some h = search rules in
    let none : first_mixed h.params hs ≡ None = search rules in
    let fit : params_like h.kind h.params.channels h.params ≡ Ok p = search rules in
    let has_room : is_full h.kind p (all_frames hs) ≡ false = search rules in
    let same_kind : c.like-inside.inside.0.0 ≡ h.kind = search rules in
    done_same g.S.Shelf.state c.concat_good.new.shelf files answer (made_if_good inputs output h.kind p es (first_bad es)) (done_like inputs output es)
    (room_done inputs output es hs h seen first none p fit has_room) (subst (λ (k : Kind). IsDone g.S.Shelf.state c.concat_good.new.shelf answer (made_if_good inputs output k p es (first_bad es)) files) same_kind
    (done files es told all (subst (λ (k : Kind). MayJoin k p (shapes_of es)) (sym same_kind) (may_join inputs output es hs h seen first none p fit has_room)))))
    c.concat_good.ensures.done
