-- A file of some numbers can be made, and opens again: to be updated, and to be read.
use Rattle.std.proofs.Common.{◌≡◌, ◌∙◌, ap, sym, subst, refl, ⊎_elim, ℕ, ℤ, Bool, false, List, [], Ok, arith}
use Rattle.std.specs.Prelude.{Result}
use Rattle.std.proofs.lemmas.List.{map-id}
use Rattle.snd_container.specs.Made.{new_file, new_shape}
use Rattle.snd_fields.specs.declared.field.Order.TheVariants.{Little}
use Rattle.snd_layout.specs.Shape.{Shape}
use Rattle.snd_layout.specs.declared.codec.Codec.TheVariants.{S16}
use Rattle.snd_layout.specs.declared.error.OpenError.{OpenError}
use Rattle.snd_layout.specs.declared.kind.Kind.{Kind}
use Rattle.snd_layout.specs.declared.kind.Kind.TheVariants.{Wave, Voc}
use Rattle.snd_layout.specs.declared.refusal.OpenRefusal.{OpenRefusal}
use Rattle.snd_edits.proofs.Public.{sealed_reads_back}
use Rattle.snd_edits.specs.Editing.{Editing, first_editing, opening_of}
use Rattle.snd_edits.specs.Edits.{sealed_to, written_to}
use Rattle.snd_edits.specs.Laws.{OpensAgain, as_opened, going_on}
use Rattle.snd_edits.specs.Updating.{updating_of}
use Rattle.snd_edits.specs.WriteCalls.{MayWrite, end_written}
use Rattle.snd_output.proofs.Public.{first_is_making, sound_frames_are as frames_are, sealed_is_made, width_fits, written_is_making}
use Rattle.snd_output.specs.Made.{IsMaking}
use Rattle.snd_patch.specs.Sealed.{counted}
use Rattle.snd_pcm.specs.Groups.{groups}
use Rattle.snd_generate.specs.Edited.{file_of, params}
use Rattle.snd_generate.specs.Generating.{AreNumbers}
use Rattle.snd_generate.specs.Steps.{Holds, shape_of}
use Rattle.snd_generate.proofs.Bytes.{count_of}
use Rattle.snd_generate.proofs.Heads.{data_are, fits, good, no_tail, params_are, room_is, says, unwritten}

-- the state in which it is begun
abbrev begun : Editing
begun = first_editing (new_file Wave params) (new_shape Wave params)

begun_is_making : IsMaking Wave params [] [] begun
begun_is_making = first_is_making Wave params good fits

module _ (n : ℕ) (xs : List ℤ) (are : AreNumbers n xs) where
  in_says : MayWrite xs unwritten 0
  in_says = record {
    frames = record { whole = omega (arith, are.count); in_range = width_fits (S16 Little) xs are.in_range };
    free = λ lt. no_tail;
    in_room = λ lt. let ends : end_written xs unwritten 0 ≡ n = omega (arith, are.count) in omega (arith, ends, are.most, data_are (end_written xs unwritten 0), room_is);
  }

  may_write : MayWrite xs begun.shape begun.write_place
  may_write = subst (λ (s : Shape). MayWrite xs s 0) (sym (begun_is_making.numbers refl).shape) (subst (λ q. MayWrite xs (record says { frames = 0; params = q }) 0) (sym params_are) in_says)

  pub making : (m : Editing) × IsMaking Wave params [] xs m
  making = (written_to xs begun, written_is_making Wave params [] [] xs begun begun_is_making refl may_write)

  abbrev m : Editing
  m = making.0

  bytes_are : (sealed_to m).bytes ≡ file_of xs
  bytes_are = sealed_is_made Wave params [] xs m making.1 refl

  again : OpensAgain (sealed_to m)
  again = sealed_reads_back _ m (making.1.numbers refl).edited

  -- its layout
  shape_is : m.shape ≡ record says { frames = n }
  shape_is = (making.1.numbers refl).shape ∙ ap (λ (k : ℕ). record says { frames = k }) (count_of n xs are.count)

  no_voice : (sealed_to m).shape.kind ≡ Voc → ⊥
  no_voice voice = let no : ◌≡◌ {A = Kind} Wave Voc = sym making.1.kind_is ∙ sym (ap (λ (s : Shape). s.kind) shape_is) ∙ voice in absurd (cc)

  ends_there : again.goes_on ≡ m.shape.trailing
  ends_there = ⊎_elim (λ (voice : (sealed_to m).shape.kind ≡ Voc). absurd (no_voice voice)) (λ (same : again.goes_on ≡ (sealed_to m).shape.trailing). same) again.same

  opened_shape : (going_on again.goes_on (sealed_to m)).shape ≡ shape_of n
  opened_shape = ap (λ (t : Bool). record (counted m.shape m.shape.frames) { trailing = t }) ends_there ∙ ap (λ (s : Shape). counted s s.frames) shape_is

  pub opened_holds : (e : Editing) → updating_of (file_of xs) ≡ Ok e → Holds false n xs e
  opened_holds e is =
      let given : ◌≡◌ {A = Result Editing OpenError} (Ok (as_opened (going_on again.goes_on (sealed_to m)))) (Ok e) = sym again.updates ∙ ap updating_of bytes_are ∙ is in
      let same : as_opened (going_on again.goes_on (sealed_to m)) ≡ e = cc in
      subst (Holds false n xs) same (record { numbers = are; bytes = bytes_are; shape = opened_shape; kept_up = refl })

  -- its frames
  pub opened_frames : (e : Editing) → opening_of (file_of xs) ≡ Ok e → (e.frames ≡ groups 2 xs) × (e.place ≡ 0)
  opened_frames e is =
      let given : ◌≡◌ {A = Result Editing OpenRefusal} (Ok (as_opened (going_on again.goes_on (sealed_to m)))) (Ok e) = sym again.opens ∙ ap opening_of bytes_are ∙ is in
      let same : as_opened (going_on again.goes_on (sealed_to m)) ≡ e = cc in
      (ap (λ (f : Editing). f.frames) (sym same) ∙ frames_are Wave params [] xs m making.1 refl ∙ ap (groups 2) (map-id xs), ap (λ (f : Editing). f.place) (sym same))
