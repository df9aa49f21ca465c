use Rattle.std.proofs.Common.{◌≡◌, ◌∙◌, ap, refl, subst, sym, ℕ, Bool, List, All, cond, map}
use Rattle.std.proofs.lemmas.Result.{on_ok_weaker}
use Rattle.std.specs.List.{position_or_len}
use Rattle.std.specs.Prelude.{codes}
use Rattle.snd_chunks.specs.Written.{NewChunk}
use Rattle.snd_fields.proofs.Tested.{from_test}
use Rattle.snd_chunks.specs.Heads.{new_piece}
use Rattle.snd_metadata.specs.Chunks.{is_extension, put_among}
use Rattle.snd_metadata.specs.Planned.{MayStand, chunk_planned, names_extension, put_in}
use Rattle.snd_metadata.specs.declared.chunks.PlannedChunk.{PlannedChunk}
use Rattle.snd_metadata.proofs.Asking.{given_no_more}
use Rattle.snd_metadata.proofs.Lists.{all_put, map_put, place_in_map}
use Rattle.snd_metadata.proofs.Named.{named_so}
use Rattle.snd_metadata.proofs.chunks.put_extension.Goals as goal

pub returns-clause-put : goal.returns-clause-put
returns-clause-put c =
    on_ok_weaker c.put_at.result
    (λ is b.
    let old : List PlannedChunk = c.args.plan.now.items in
    let f : PlannedChunk → NewChunk = chunk_planned b in
    let chunk : NewChunk = new_piece (codes "bext") c.args.body.items in
    let at : c.extension_place-at.result ≡ position_or_len is_extension (map f old) =
    c.extension_place-at.ensures.place ∙ ap (λ (l : List PlannedChunk). position_or_len names_extension l) c.deref.ensures.value ∙ sym (place_in_map f is_extension names_extension old (named_so b)) in
    ap (λ (l : List PlannedChunk). map f l) is ∙ map_put f c.extension_place-at.result _ old ∙ ap (λ (n : ℕ). put_in n chunk (map f old)) at
    ∙ sym (ap (λ (t : Bool). cond t (put_among is_extension chunk (map f old)) (map f old)) c.if-not-changed.false))
    c.put_at.ensures.put

pub returns-clause-each : goal.returns-clause-each
returns-clause-each c =
    on_ok_weaker c.put_at.result
    (λ is pieces stand.
    subst (All (MayStand pieces)) (sym is) (all_put (MayStand pieces) c.extension_place-at.result _ c.args.plan.now.items stand (refl, refl, c.requires.small, from_test (codes "bext") refl, c.requires.bytes)))
    c.put_at.ensures.put

pub returns-clause-no_more : goal.returns-clause-no_more
returns-clause-no_more c =
    on_ok_weaker c.put_at.result (λ is. given_no_more _ _ _ _ is refl) c.put_at.ensures.put
