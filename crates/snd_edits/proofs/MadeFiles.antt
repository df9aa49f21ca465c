-- A file that is made is one that may be opened to be updated.
use Rattle.std.proofs.Common.{◌≡◌, ◌∙◌, ap, sym, subst, refl, ⊎_elim, ◌≤◌, true, false, [], All, Option, None, Some, Ok, arith}
use Rattle.std.specs.Prelude.{Result, is_none}
use Rattle.snd_container.proofs.Public.{head_laws, made}
use Rattle.snd_container.specs.Made.{new_file, new_shape}
use Rattle.snd_container.specs.Sound.{fixed_of}
use Rattle.snd_fields.specs.Laws.{IsByte}
use Rattle.snd_block_writer.proofs.Public.{are_blocks}
use Rattle.snd_blocks.specs.Calls.{AreBlocks}
use Rattle.snd_layout.specs.Blocks.{is_adpcm}
use Rattle.snd_layout.specs.Fit.{fit_refusal}
use Rattle.snd_layout.specs.Params.{AreParams, Parameters}
use Rattle.snd_layout.specs.Shape.{Shape}
use Rattle.snd_layout.specs.declared.kind.Kind.{Kind}
use Rattle.snd_layout.specs.declared.refusal.OpenRefusal.{OpenRefusal}
use Rattle.snd_edits.specs.Editing.{Editing, first_editing}
use Rattle.snd_edits.specs.Laws.{IsEncoded, MadeIsEdited, MadeIsEncoded, MadeIsUpdated}
use Rattle.snd_edits.specs.Making.{making_as, making_of}
use Rattle.snd_edits.specs.Pacing.{HasPlaceFor}
use Rattle.snd_edits.specs.Updating.{updating_of}
use Rattle.snd_layout.proofs.Public.{few_channels, is_held}
use Rattle.snd_edits.proofs.EditedFiles.{first_keeps, updated_is_edited}
use Rattle.snd_edits.proofs.Encoded.{given_none}
use Rattle.snd_edits.proofs.EncodedPlaces.{may_encode}
use Rattle.snd_edits.proofs.NewFiles.{begins_new, is_new}
use Rattle.snd_edits.proofs.Opened.{update_ok}
use Rattle.snd_edits.proofs.Rooms.{not_adpcm}

begins : (kind : Kind) (p : Parameters) (e : Editing) → AreParams p → fit_refusal kind p ≡ None → is_none (fixed_of p.codec) ≡ false
    → ◌≡◌ {A = Result Editing OpenRefusal} (Ok (first_editing (new_file kind p) (new_shape kind p))) (Ok e) → All IsByte (new_file kind p) × (updating_of (new_file kind p) ≡ Ok e)
begins kind p e good fits linear is =
    let b = new_file kind p in
    let s = new_shape kind p in
    let new = made kind p good fits in
    let same : first_editing b s ≡ e = cc in
    let linear_too : is_none (fixed_of s.params.codec) ≡ false = ap (λ (q : Parameters). is_none (fixed_of q.codec)) new.params ∙ linear in
    (new.bytes, update_ok b s new.told (not_adpcm s.params.codec linear_too) new.known ∙ ap (λ (g : Editing). Ok g) same)

pub made_is_updated : MadeIsUpdated
unfolding making_of
made_is_updated kind p e good linear is = by_fit (fit_refusal kind p) refl is
  where
    by_fit : (r : Option OpenRefusal) → fit_refusal kind p ≡ r → making_as kind p r ≡ Ok e → All IsByte (new_file kind p) × (updating_of (new_file kind p) ≡ Ok e)
    by_fit (Some refusal) fits given = absurd (cc)
    by_fit None fits given = begins kind p e good fits linear given

pub made_is_edited : MadeIsEdited
made_is_edited kind p e good linear is =
    let begun = made_is_updated kind p e good linear is in
    updated_is_edited (new_file kind p) e begun.0 begun.1

-- the count and the data size are one field where a kind holds blocks
new_joined : (kind : Kind) (p : Parameters) → fit_refusal kind p ≡ None → is_adpcm p.codec ≡ true → 12 ≤ (new_shape kind p).inner.size
new_joined kind p fits blocks = subst (λ (h : Shape). 12 ≤ h.inner.size) ((head_laws kind).bare_shape p) ((head_laws kind).joined p [] fits blocks)

encoded_first : (kind : Kind) (p : Parameters) → AreParams p → fit_refusal kind p ≡ None → is_adpcm p.codec ≡ true → IsEncoded (new_file kind p) (first_editing (new_file kind p) (new_shape kind p))
encoded_first kind p good fits blocks =
    let b = new_file kind p in
    let s = new_shape kind p in
    let new = made kind p good fits in
    let form : AreBlocks p = are_blocks p blocks (few_channels kind p.channels p.codec blocks (is_held kind p fits)) good in
    let form_too : AreBlocks s.params = subst AreBlocks (sym new.params) form in
    let begins = begins_new s p None form.some_frames new.params blocks new.frames new.free (λ w is. absurd (cc)) in
    let place : HasPlaceFor s 0 = begins.place in
    let room = may_encode s 0 s.frames form_too.some_frames place (is_new kind p s good fits refl).room_ends (omega (arith, new.frames)) in
    record {
      keeps = first_keeps b s new.bytes new.told room.0 (λ is. new_joined kind p fits blocks) new.known;
      given = (given_none None b s form_too new.frames (λ w is. absurd (cc))).holds;
      place = place;
    }

pub made_is_encoded : MadeIsEncoded
unfolding making_of
made_is_encoded kind p e good blocks is = by_fit (fit_refusal kind p) refl is
  where
    by_fit : (r : Option OpenRefusal) → fit_refusal kind p ≡ r → making_as kind p r ≡ Ok e → IsEncoded (new_file kind p) e
    by_fit (Some refusal) fits given = absurd (cc)
    by_fit None fits given =
        let begun : ◌≡◌ {A = Result Editing OpenRefusal} (Ok (first_editing (new_file kind p) (new_shape kind p))) (Ok e) = given in
        let same : first_editing (new_file kind p) (new_shape kind p) ≡ e = cc in
        subst (IsEncoded (new_file kind p)) same (encoded_first kind p good fits blocks)
