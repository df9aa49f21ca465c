-- What a file holds hangs on the bytes that are written of numbers, not on the numbers.
use Rattle.std.proofs.Common.{◌≡◌, ◌∙◌, ap, sym, subst, ℕ, ◌+◌, ◌/◌, ◌%◌, ℤ, true, false, List, ◌++◌, length}
use Rattle.std.proofs.lemmas.List.{length-append}
use Rattle.snd_chunks.specs.Written.{NewChunk}
use Rattle.snd_disk.specs.State.{State}
use Rattle.snd_disk.specs.declared.disk.Disk.{Ghosts}
use Rattle.snd_layout.specs.Blocks.{is_adpcm}
use Rattle.snd_layout.specs.Params.{Parameters}
use Rattle.snd_layout.specs.Shape.{Shape}
use Rattle.snd_layout.specs.declared.codec.Codec.{Codec}
use Rattle.snd_layout.specs.declared.kind.Kind.{Kind}
use Rattle.snd_edits.specs.Editing.{Editing}
use Rattle.snd_edits.specs.Edits.{coded}
use Rattle.snd_file.specs.Handle.{codec_of}
use Rattle.snd_edits.specs.Reading.{FitCodec}
use Rattle.snd_edits.specs.Relaid.{head_with, shape_with}
use Rattle.snd_file.specs.declared.handle.File.{File}
use Rattle.snd_edits.specs.declared.mode.Mode.{Ghosts as ModeGhosts}
use Rattle.snd_output.specs.Appended.{Gains, coded_in}
use Rattle.snd_output.specs.Made.{IsMaking, closing_so_far, frame_count}
use Rattle.snd_output.proofs.Bytes.{coded_joined}
use Rattle.snd_output.proofs.Finished.{making_params}
use Rattle.snd_output.proofs.Lengthened.{fit_joined}

-- a file that is being made of some numbers is being made of others of the same bytes
module _ (kind : Kind) (p : Parameters) (pieces : List NewChunk) (xs ys zs : List ℤ) (e : Editing) (plain : is_adpcm p.codec ≡ false) (as_many : length ys ≡ length zs) (same : coded p ys ≡ coded p zs) where
  sums : length (xs ++ ys) ≡ length (xs ++ zs)
  sums = length-append xs ys ∙ ap (λ (n : ℕ). length xs + n) as_many ∙ sym (length-append xs zs)

  counts : frame_count p (xs ++ ys) ≡ frame_count p (xs ++ zs)
  counts = ap (λ (n : ℕ). n / p.channels) sums

  bytes : coded p (xs ++ ys) ≡ coded p (xs ++ zs)
  bytes = coded_joined p xs ys ∙ ap (λ (l : List ℕ). coded p xs ++ l) same ∙ sym (coded_joined p xs zs)

  pub same_making : FitCodec p.codec xs → FitCodec p.codec zs → IsMaking kind p pieces (xs ++ ys) e → IsMaking kind p pieces (xs ++ zs) e
  same_making first second m =
      let head = head_with kind p pieces in
      let says = shape_with kind p pieces in
      record {
        kind_is = m.kind_is;
        params = m.params;
        start = m.start;
        free = m.free;
        kept = m.kept;
        whole = ap (λ (n : ℕ). n % p.channels) (sym sums) ∙ m.whole;
        in_range = fit_joined p.codec xs zs first second;
        numbers = λ is.
            let holds = m.numbers is in
            record {
              edited = holds.edited;
              shape = holds.shape ∙ ap (λ (n : ℕ). record says { frames = n }) counts;
              bytes = holds.bytes
                  ∙ ap (λ (l : List ℕ). head ++ l ++ closing_so_far says (frame_count p (xs ++ ys))) bytes
                  ∙ ap (λ (n : ℕ). head ++ coded p (xs ++ zs) ++ closing_so_far says n) counts;
            };
        blocks = λ is. absurd (let no : true ≡ false = sym is ∙ plain in cc);
        write_place = m.write_place ∙ counts;
        automatic = m.automatic;
      }

-- so what was given as some numbers was given as others
pub gains_as : {E N : Type 0} {t : Ghosts E} {n : ModeGhosts N} (state : E → State) (to to' : File E N t n) (ys zs : List ℤ) → is_adpcm (codec_of to) ≡ false → length ys ≡ length zs
    → coded_in (codec_of to) ys ≡ coded_in (codec_of to) zs → FitCodec (codec_of to) zs → Gains state ys to to' → Gains state zs to to'
gains_as state to to' ys zs plain as_many same fit gains = λ kind p pieces xs e stands making.
    let is = gains kind p pieces xs e stands making in
    let codec : codec_of to ≡ p.codec = ap (λ (s : Shape). s.params.codec) stands.shape ∙ ap (λ (q : Parameters). q.codec) (making_params kind p pieces xs e making) in (
      is.0,
      is.1,
      same_making kind p pieces xs ys zs is.0 (ap is_adpcm (sym codec) ∙ plain) as_many (subst (λ (q : Codec). coded_in q ys ≡ coded_in q zs) codec same) making.in_range (subst (λ (q : Codec). FitCodec q zs) codec fit) is.2,
    )
