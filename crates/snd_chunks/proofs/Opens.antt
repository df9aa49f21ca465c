-- What a layout was made from, and that it is made from it.
use Rattle.std.proofs.Common.{◌≡◌, List, ℕ, Bool, true, false, not, Option, None, Some, Ok, Err, refl, sym, ap, ◌∙◌}
use Rattle.std.specs.Prelude.{Result}
use Rattle.snd_chunks.specs.declared.chunk.Chunk.{Chunk}
use Rattle.snd_chunks.specs.declared.front.Ending.{Ending}
use Rattle.snd_chunks.specs.declared.front.Ending.TheVariants.{AtSound, Cut, TooMany}
use Rattle.snd_chunks.specs.declared.front.Front.{Front}
use Rattle.snd_chunks.specs.Parts.{body_of, format_chunk, front_refusal, is_format, layout_from, with_chunk, with_format}
use Rattle.snd_layout.specs.Format.{format_of}
use Rattle.snd_layout.specs.Params.{Parameters}
use Rattle.snd_layout.specs.Refusals.{refuse_if}
use Rattle.snd_layout.specs.Shape.{Shape}
use Rattle.snd_layout.specs.declared.refusal.OpenRefusal.{OpenRefusal}
use Rattle.snd_layout.specs.declared.refusal.OpenRefusal.TheVariants.{NoFormat}

pub record OpensBy (says : Parameters → Chunk → Shape) (b : List ℕ) (front : Front) (h : Shape) : Type 0 where
  pub format : Chunk
  pub sound : Chunk
  pub params : Parameters
  pub no_refusal : front_refusal front ≡ None
  pub format_is : format_chunk front.chunks ≡ Some format
  pub sound_is : front.ending ≡ AtSound sound
  pub params_are : format_of (body_of b format) ≡ Ok params
  pub shape : h ≡ says params sound

module _ (says : Parameters → Chunk → Shape) (b : List ℕ) (front : Front) (h : Shape) where
  by_format : front_refusal front ≡ None → (format : Chunk) → format_chunk front.chunks ≡ Some format → (r : Result Parameters OpenRefusal) → format_of (body_of b format) ≡ r
      → (ending : Ending) → front.ending ≡ ending → with_format says r ending ≡ Ok h → OpensBy says b front h
  by_format none format found (Err refusal) read ending ends is = absurd (cc)
  by_format none format found (Ok p) read Cut ends is = absurd (cc)
  by_format none format found (Ok p) read TooMany ends is = absurd (cc)
  by_format none format found (Ok p) read (AtSound sound) ends is =
      record { format = format; sound = sound; params = p; no_refusal = none; format_is = found; sound_is = ends; params_are = read; shape = cc }

  by_chunk : front_refusal front ≡ None → (chunk : Option Chunk) → format_chunk front.chunks ≡ chunk → with_chunk says b front chunk ≡ Ok h → OpensBy says b front h
  by_chunk none None found is = absurd (cc)
  by_chunk none (Some format) found is = by_format none format found (format_of (body_of b format)) refl front.ending refl is

  by_refusal : (refusal : Option OpenRefusal) → front_refusal front ≡ refusal → layout_from says b front refusal ≡ Ok h → OpensBy says b front h
  by_refusal (Some refusal) refused is = absurd (cc)
  by_refusal None refused is = by_chunk refused (format_chunk front.chunks) refl is

  -- a layout was made from parts
  pub opens_by : layout_from says b front (front_refusal front) ≡ Ok h → OpensBy says b front h
  opens_by is = by_refusal (front_refusal front) refl is

  -- and parts make a layout
  pub opened_by : OpensBy says b front h → layout_from says b front (front_refusal front) ≡ Ok h
  opened_by is = rw (is.no_refusal, is.format_is, is.params_are, is.sound_is) (ap (λ (s : Shape). Ok s) (sym is.shape))

-- a walk that found a long format and came to the sound is not refused, whatever the sound's size is
pub refused : (long : Bool) (sound : Chunk) (front : Front) → front.ending ≡ AtSound sound → is_format (format_chunk front.chunks) ≡ long → front_refusal front ≡ refuse_if (not long) NoFormat
refused true sound front ends is = rw (ends, is) refl
refused false sound front ends is = rw (ends, is) refl

pub not_refused : (front front' : Front) (sound sound' : Chunk) → front_refusal front ≡ None → front.ending ≡ AtSound sound → front'.ending ≡ AtSound sound' → front'.chunks ≡ front.chunks → front_refusal front' ≡ None
not_refused front front' sound sound' none ends ends' same =
    refused (is_format (format_chunk front.chunks)) sound' front' ends' (rw same refl) ∙ sym (refused (is_format (format_chunk front.chunks)) sound front ends refl) ∙ none
