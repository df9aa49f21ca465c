use Rattle.std.proofs.Common.{◌≡◌, ◌∙◌, ap, refl, subst, sym, ℕ, Bool, List, All, cond, map}
use Rattle.std.proofs.lemmas.Result.{on_ok_weaker}
use Rattle.std.specs.List.{position_or_len}
use Rattle.std.specs.Prelude.{codes}
use Rattle.snd_chunks.specs.Written.{NewChunk}
use Rattle.snd_file.specs.Handle.{known_of}
use Rattle.snd_fields.proofs.Tested.{from_test}
use Rattle.snd_chunks.specs.Heads.{new_piece}
use Rattle.snd_metadata.specs.Chunks.{is_info_list, put_among}
use Rattle.snd_metadata.specs.Planned.{MayStand, chunk_planned, put_in}
use Rattle.snd_metadata.specs.declared.chunks.PlannedChunk.{PlannedChunk}
use Rattle.snd_metadata.proofs.Asking.{given_no_more}
use Rattle.snd_metadata.proofs.Lists.{all_put, map_put}
use Rattle.snd_metadata.proofs.places.put_info_list.Goals as goal

pub returns-clause-put : goal.returns-clause-put
returns-clause-put g c =
    on_ok_weaker c.put_at.result
    (λ is e stands.
    let old : List PlannedChunk = c.args.plan.now.items in
    let f : PlannedChunk → NewChunk = chunk_planned e.bytes in
    let chunk : NewChunk = new_piece (codes "LIST") c.args.body.items in
    let at : c.in_ok-at.at ≡ position_or_len is_info_list (map f old) = c.in_ok-at.ensures.place e stands ∙ ap (λ (l : List PlannedChunk). position_or_len is_info_list (map f l)) c.deref.ensures.value in
    ap (λ (l : List PlannedChunk). map f l) is ∙ map_put f c.in_ok-at.at _ old ∙ ap (λ (n : ℕ). put_in n chunk (map f old)) at
    ∙ sym (ap (λ (t : Bool). cond t (put_among is_info_list chunk (map f old)) (map f old)) c.if-not-changed.false))
    c.put_at.ensures.put

pub returns-clause-stand : goal.returns-clause-stand
returns-clause-stand g c =
    let P : PlannedChunk → Type 0 = MayStand (known_of c.args.file.now).shape.pieces in
    on_ok_weaker c.put_at.result
    (λ is. subst (All P) (sym is) (all_put P c.in_ok-at.at _ c.args.plan.now.items c.requires.stand (refl, refl, c.requires.small, from_test (codes "LIST") refl, c.requires.bytes)))
    c.put_at.ensures.put

pub returns-clause-no_more : goal.returns-clause-no_more
returns-clause-no_more g c =
    on_ok_weaker c.put_at.result (λ is. given_no_more _ _ _ _ is refl) c.put_at.ensures.put
