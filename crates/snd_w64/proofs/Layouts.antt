-- The layout of a file, from its parts.
use Rattle.std.proofs.Common.{◌≡◌, ℕ, ◌+◌, ◌≤◌, List, All, Option, None, Some, Ok, Err, length, refl, sym, ap, ◌∙◌}
use Rattle.std.proofs.lemmas.Bool.{and_parts, leb-true}
use Rattle.std.specs.Prelude.{IfSome, Result, nat_le, option_map}
use Rattle.snd_chunks.proofs.Public.{find_has}
use Rattle.snd_chunks.specs.declared.chunk.Chunk.{Chunk}
use Rattle.snd_chunks.specs.declared.front.Ending.TheVariants.{AtSound}
use Rattle.snd_chunks.specs.declared.front.Front.{Front}
use Rattle.snd_chunks.specs.Walks.{EndsBy}
use Rattle.snd_layout.specs.Format.{format_of}
use Rattle.snd_layout.specs.Params.{Parameters}
use Rattle.snd_layout.specs.Shape.{Shape}
use Rattle.snd_layout.specs.declared.refusal.OpenRefusal.{OpenRefusal}
use Rattle.snd_chunks.specs.declared.parts.Parts.{Parts}
use Rattle.snd_chunks.specs.Parts.{AreParts, IsFact, body_of, fact_chunk, fact_count, front_refusal, is_fact, with_format}
use Rattle.snd_w64.specs.Layout.{shape_of, w64_front, w64_layout, w64_shape, whole_size}
use Rattle.snd_w64.specs.Parts.{ArePlaced, IsFront, with_params}

pub built : (b : List ℕ) (parts : Parts) (p : Parameters) (r : Result Parameters OpenRefusal) (count : Option ℕ) (size whole : ℕ) (layout : Shape)
    → r ≡ Ok p → count ≡ option_map (fact_count 8 b) parts.fact → size ≡ length b → whole ≡ whole_size b
    → layout ≡ shape_of p parts.fact parts.sound count size whole → with_params b parts r ≡ Ok layout
built b parts p r count size whole layout params counted sized found is =
    rw params (ap (λ (s : Shape). Ok s) (sym (is ∙ ap (λ (o : Option ℕ). shape_of p parts.fact parts.sound o size whole) counted
    ∙ ap (λ (n : ℕ). shape_of p parts.fact parts.sound (option_map (fact_count 8 b) parts.fact) n whole) sized
    ∙ ap (shape_of p parts.fact parts.sound (option_map (fact_count 8 b) parts.fact) (length b)) found)))

fact_placed : (chunks : List Chunk) (sound : Chunk) (fact : Option Chunk) → fact ≡ fact_chunk 8 chunks → All (λ chunk. chunk.at + chunk.len + 24 ≤ sound.at) chunks → IfSome fact (IsFact 8 24 sound)
fact_placed chunks sound None is before = tt
fact_placed chunks sound (Some fact) is before =
    let found = find_has (is_fact 8) (λ chunk. chunk.at + chunk.len + 24 ≤ sound.at) chunks fact before (sym is) in
    record { count = leb-true 8 fact.len (and_parts _ (nat_le 8 fact.len) found.1).1; before = found.0 }

pub parts_placed : (size : ℕ) (front : Front) (parts : Parts) → IsFront size front → AreParts 8 front parts → ArePlaced size parts
parts_placed size front parts is are = record {
  format = (find_has _ (EndsBy size) front.chunks parts.format is.whole are.format).0;
  long = are.long;
  fact = fact_placed front.chunks parts.sound parts.fact are.fact (is.before parts.sound are.sound);
  sound = is.sound parts.sound are.sound;
}

pub refusal_is : (b : List ℕ) (front : Front) (refusal : OpenRefusal) → front ≡ w64_front b → front_refusal front ≡ Some refusal → w64_layout b ≡ Err refusal
unfolding w64_layout
refusal_is b front refusal walked is = rw (← walked, is) refl

with_sound : (b : List ℕ) (front : Front) (parts : Parts) (r : Result Parameters OpenRefusal) → parts.fact ≡ fact_chunk 8 front.chunks → with_params b parts r ≡ with_format (w64_shape b front) r (AtSound parts.sound)
with_sound b front parts (Err refusal) fact = refl
with_sound b front parts (Ok p) fact = rw fact refl

with_ending : (b : List ℕ) (front : Front) (r : Result Parameters OpenRefusal) (sound : Chunk) → front.ending ≡ AtSound sound → with_format (w64_shape b front) r (AtSound sound) ≡ with_format (w64_shape b front) r front.ending
with_ending b front r sound is = rw is refl

pub layout_is : (b : List ℕ) (front : Front) (parts : Parts) → front ≡ w64_front b → AreParts 8 front parts → with_params b parts (format_of (body_of b parts.format)) ≡ w64_layout b
unfolding w64_layout
layout_is b front parts walked are =
    with_sound b front parts (format_of (body_of b parts.format)) are.fact ∙ with_ending b front (format_of (body_of b parts.format)) parts.sound are.sound
    ∙ rw (← walked, are.no_refusal, are.format) refl
