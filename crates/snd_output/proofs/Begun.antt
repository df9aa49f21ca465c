-- A file that is begun is one that is being made.
use Rattle.std.proofs.Common.{◌≡◌, ◌∙◌, ap, sym, subst, refl, inr, ℕ, true, false, List, [], ◌++◌, Option, None, Some, Ok, Err, length, map, arith}
use Rattle.std.specs.Prelude.{Result}
use Rattle.std.proofs.lemmas.List.{append-nil}
use Rattle.snd_container.proofs.Public.{head_laws, made}
use Rattle.snd_container.specs.Made.{new_file, new_shape}
use Rattle.snd_container.specs.Laws.{FileSays}
use Rattle.snd_container.specs.Sound.{kept_of, layout_of}
use Rattle.snd_block_writer.proofs.Public.{are_blocks, none_coded}
use Rattle.snd_layout.specs.Blocks.{is_adpcm}
use Rattle.snd_layout.specs.Fit.{fit_refusal}
use Rattle.snd_layout.specs.Params.{AreParams, Parameters}
use Rattle.snd_layout.specs.Shape.{Shape}
use Rattle.snd_layout.specs.Opened.{IsCause}
use Rattle.snd_layout.specs.declared.error.OpenError.{OpenError}
use Rattle.snd_layout.specs.declared.error.OpenError.TheVariants.{DiskFault, Memory, Refused}
use Rattle.snd_layout.specs.declared.kind.Kind.{Kind}
use Rattle.snd_layout.specs.declared.refusal.OpenRefusal.{OpenRefusal}
use Rattle.snd_edits.specs.Editing.{Editing, first_editing}
use Rattle.snd_edits.specs.Edits.{coded}
use Rattle.snd_edits.specs.Laws.{IsEdited, IsEncoded}
use Rattle.snd_edits.specs.Making.{making_of}
use Rattle.snd_edits.specs.Relaid.{head_with, shape_with}
use Rattle.snd_layout.proofs.Public.{few_channels, is_held}
use Rattle.snd_edits.proofs.Public.{is_fixed, made_is_edited, made_is_encoded, making_ok, making_refused, never_refused}
use Rattle.snd_output.specs.declared.stop.Stop.{Stop}
use Rattle.snd_output.specs.Ends.{IsStopCause, IsUnchanged, stop_of}
use Rattle.snd_output.specs.Laws.{BegunIsMaking}
use Rattle.snd_output.specs.Made.{HoldsBlocks, HoldsNumbers, IsMaking, closing_so_far, frame_count}
use Rattle.snd_output.proofs.MadeBlocks.{none_whole}
use Rattle.snd_output.proofs.Bytes.{coded_none}

-- the head of a new file is the one without chunks
pub new_head : (kind : Kind) (p : Parameters) → new_file kind p ≡ head_with kind p []
new_head kind p = sym ((head_laws kind).bare_head p)

pub new_says : (kind : Kind) (p : Parameters) → new_shape kind p ≡ shape_with kind p []
new_says kind p = sym ((head_laws kind).bare_shape p)

module _ (kind : Kind) (p : Parameters) (good : AreParams p) (fits : fit_refusal kind p ≡ None) where
  abbrev head : List ℕ
  head = head_with kind p []

  abbrev says : Shape
  says = shape_with kind p []

  abbrev first : Editing
  first = first_editing (new_file kind p) (new_shape kind p)

  same : says ≡ new_shape kind p
  same = sym (new_says kind p)

  none : says.frames ≡ 0
  none = ap (λ (s : Shape). s.frames) same ∙ (made kind p good fits).frames

  no_frames : 0 ≡ frame_count p []
  no_frames = let some = good.some_channel in omega (arith, some)

  bytes_are : (n : ℕ) → n ≡ 0 → new_file kind p ≡ head ++ coded p [] ++ closing_so_far says n
  bytes_are n none =
      new_head kind p ∙ sym (append-nil head) ∙ ap (λ (l : List ℕ). head ++ l) (sym (coded_none p))
      ∙ sym (append-nil (head ++ coded p [])) ∙ ap (λ (m : ℕ). head ++ coded p [] ++ closing_so_far says m) (sym none)

  first_numbers : is_adpcm p.codec ≡ false → HoldsNumbers kind p [] [] first
  first_numbers plain = record {
    edited = subst (λ (b : List ℕ). IsEdited b first) (new_head kind p) (made_is_edited kind p first good (is_fixed p.codec plain) (making_ok kind p fits));
    shape = new_says kind p ∙ ap (λ (n : ℕ). record says { frames = n }) (none ∙ no_frames);
    bytes = bytes_are (frame_count p []) (sym no_frames);
  }

  told : FileSays head says
  told = record {
    goes_on = says.trailing;
    told = ap layout_of (sym (new_head kind p)) ∙ (made kind p good fits).told ∙ ap (λ (s : Shape). Ok s) (new_says kind p);
    same = inr refl;
  }

  first_blocks : is_adpcm p.codec ≡ true → HoldsBlocks kind p [] [] first
  first_blocks is =
      let form = are_blocks p is (few_channels kind p.channels p.codec is (is_held kind p fits)) good in
      record {
        form = form;
        told = told;
        encoded = subst (λ (b : List ℕ). IsEncoded b first) (new_head kind p) (made_is_encoded kind p first good is (making_ok kind p fits));
        given = refl;
        shape = new_says kind p ∙ ap (λ (n : ℕ). record says { frames = n }) (none ∙ sym (none_whole p form));
        bytes = new_head kind p ∙ sym (append-nil head) ∙ ap (λ (l : List ℕ). head ++ l) (sym (none_coded p form));
      }

  pub first_is_making : IsMaking kind p [] [] first
  first_is_making =
      let new = made kind p good fits in
      record {
        kind_is = ap (λ (s : Shape). s.kind) same ∙ new.is_kind;
        kept = ap (λ (s : Shape). map (kept_of head) s.pieces) same ∙ ap (map (kept_of head)) new.pieces;
        params = ap (λ (s : Shape). s.params) same ∙ new.params;
        start = ap (λ (s : Shape). s.start) same ∙ new.start ∙ ap length (new_head kind p);
        free = ap (λ (s : Shape). s.trailing) same ∙ new.free;
        whole = let some = good.some_channel in omega (arith, some);
        in_range = λ form is k d lt. absurd (omega (arith, lt));
        numbers = first_numbers;
        blocks = first_blocks;
        write_place = no_frames;
        automatic = refl;
      }

-- what is made holds its parameters
pub may_make : (kind : Kind) (p : Parameters) (e : Editing) → making_of kind p ≡ Ok e → fit_refusal kind p ≡ None
may_make kind p e is = by_fit (fit_refusal kind p) refl
  where
    by_fit : (r : Option OpenRefusal) → fit_refusal kind p ≡ r → fit_refusal kind p ≡ None
    by_fit (Some refusal) refused = absurd (let no : ◌≡◌ {A = Result Editing OpenRefusal} (Err refusal) (Ok e) = sym (making_refused kind p refusal refused) ∙ is in cc)
    by_fit None fits = fits

pub begun_is_making : BegunIsMaking
begun_is_making kind p e good is =
    let fits = may_make kind p e is in
    let given : ◌≡◌ {A = Result Editing OpenRefusal} (Ok (first_editing (new_file kind p) (new_shape kind p))) (Ok e) = sym (making_ok kind p fits) ∙ is in
    let same : first_editing (new_file kind p) (new_shape kind p) ≡ e = cc in
    subst (IsMaking kind p [] []) same (first_is_making kind p good fits)

-- where no refusal is left, the reason that a file is not begun is a fault, or want of memory
counts_by : (kind : Kind) (p : Parameters) → fit_refusal kind p ≡ None → (old new : ℕ) (error : OpenError)
    → ((r : OpenRefusal) → error ≡ Refused r → making_of kind p ≡ Err r) → IsCause old new error → IsStopCause old new (stop_of error)
counts_by kind p fits old new (Refused r) refused cause = absurd (never_refused kind p fits r (refused r refl))
counts_by kind p fits old new (DiskFault step) refused cause = cause
counts_by kind p fits old new Memory refused cause = cause
counts_by kind p fits old new _ refused cause = absurd cause

pub begun_counts : (kind : Kind) (p : Parameters) → fit_refusal kind p ≡ None → (old new : ℕ) (error : OpenError) (stop : Stop) → stop ≡ stop_of error
    → ((r : OpenRefusal) → error ≡ Refused r → making_of kind p ≡ Err r) → IsCause old new error → IsStopCause old new stop
begun_counts kind p fits old new error stop is refused cause =
    subst (IsStopCause old new) (sym is) (counts_by kind p fits old new error refused cause)

-- .. and no file is read
stopped : (error : OpenError) → IsUnchanged {T = Unit {0}} (Err (stop_of error))
stopped Memory = tt
stopped error = tt

pub begun_unchanged : (error : OpenError) (stop : Stop) → stop ≡ stop_of error → IsUnchanged {T = Unit {0}} (Err stop)
begun_unchanged error stop is = subst (λ (s : Stop). IsUnchanged {T = Unit {0}} (Err s)) (sym is) (stopped error)
