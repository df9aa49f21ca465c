-- What a layout was made from, and that it is made from it.
use Rattle.std.proofs.Common.{◌≡◌, List, ℕ, Bool, true, false, not, Option, None, Some, Ok, Err, refl, sym, ap, ◌∙◌}
use Rattle.std.specs.Prelude.{Result}
use Rattle.snd_chunks.specs.declared.chunk.Chunk.{Chunk}
use Rattle.snd_chunks.specs.declared.front.Ending.{Ending}
use Rattle.snd_chunks.specs.declared.front.Ending.TheVariants.{AtSound, Cut, TooMany}
use Rattle.snd_chunks.specs.declared.front.Front.{Front}
use Rattle.snd_layout.specs.Refusals.{refuse_if}
use Rattle.snd_layout.specs.Shape.{Shape}
use Rattle.snd_layout.specs.declared.refusal.OpenRefusal.{OpenRefusal}
use Rattle.snd_layout.specs.declared.refusal.OpenRefusal.TheVariants.{NoFormat}
use Rattle.snd_svx.specs.declared.header.Header.{Header}
use Rattle.snd_svx.specs.Layout.{front_refusal, header_chunk, is_header, layout_from, svx_front, svx_layout, svx_shape, voice_of, with_chunk, with_voice}

pub record Opens (b : List ℕ) (front : Front) (h : Shape) : Type 0 where
  pub chunk : Chunk
  pub sound : Chunk
  pub header : Header
  pub no_refusal : front_refusal front ≡ None
  pub chunk_is : header_chunk front.chunks ≡ Some chunk
  pub sound_is : front.ending ≡ AtSound sound
  pub header_is : voice_of b front.chunks chunk ≡ Ok header
  pub shape : h ≡ svx_shape b front header chunk sound

module _ (b : List ℕ) (front : Front) (h : Shape) (none : front_refusal front ≡ None) where
  by_voice : (chunk : Chunk) → header_chunk front.chunks ≡ Some chunk → (r : Result Header OpenRefusal) → voice_of b front.chunks chunk ≡ r → (ending : Ending) → front.ending ≡ ending
      → with_voice b front chunk r ending ≡ Ok h → Opens b front h
  by_voice chunk found (Err refusal) read ending ends is = absurd (cc)
  by_voice chunk found (Ok header) read Cut ends is = absurd (cc)
  by_voice chunk found (Ok header) read TooMany ends is = absurd (cc)
  by_voice chunk found (Ok header) read (AtSound sound) ends is =
      record { chunk = chunk; sound = sound; header = header; no_refusal = none; chunk_is = found; sound_is = ends; header_is = read; shape = cc }

  by_chunk : (chunk : Option Chunk) → header_chunk front.chunks ≡ chunk → with_chunk b front chunk ≡ Ok h → Opens b front h
  by_chunk None found is = absurd (cc)
  by_chunk (Some chunk) found is = by_voice chunk found (voice_of b front.chunks chunk) refl front.ending refl is

by_refusal : (b : List ℕ) (front : Front) (h : Shape) (refusal : Option OpenRefusal) → front_refusal front ≡ refusal → layout_from b front refusal ≡ Ok h → Opens b front h
by_refusal b front h (Some refusal) refused is = absurd (cc)
by_refusal b front h None refused is = by_chunk b front h refused (header_chunk front.chunks) refl is

-- a layout was made from parts
pub opens : (b : List ℕ) (h : Shape) → svx_layout b ≡ Ok h → Opens b (svx_front b) h
unfolding svx_layout
opens b h is = by_refusal b (svx_front b) h (front_refusal (svx_front b)) refl is

-- and parts make a layout
pub opened : (b : List ℕ) (h : Shape) → Opens b (svx_front b) h → svx_layout b ≡ Ok h
unfolding svx_layout
opened b h is = rw (is.no_refusal, is.chunk_is, is.header_is, is.sound_is) (ap (λ (s : Shape). Ok s) (sym is.shape))

-- a walk that found a long header and came to the body is not refused, whatever the body's size is
pub refused : (long : Bool) (sound : Chunk) (front : Front) → front.ending ≡ AtSound sound → is_header (header_chunk front.chunks) ≡ long → front_refusal front ≡ refuse_if (not long) NoFormat
refused true sound front ends is = rw (ends, is) refl
refused false sound front ends is = rw (ends, is) refl

pub not_refused : (front front' : Front) (sound sound' : Chunk) → front_refusal front ≡ None → front.ending ≡ AtSound sound → front'.ending ≡ AtSound sound' → front'.chunks ≡ front.chunks → front_refusal front' ≡ None
not_refused front front' sound sound' none ends ends' same =
    refused (is_header (header_chunk front.chunks)) sound' front' ends' (rw same refl) ∙ sym (refused (is_header (header_chunk front.chunks)) sound front ends refl) ∙ none
