-- The layout of a file, from its parts.
use Rattle.std.proofs.Common.{◌≡◌, ℕ, ◌+◌, ◌≤◌, List, All, Option, None, Some, Ok, Err, length, refl, sym, ap, ◌∙◌}
use Rattle.std.proofs.lemmas.Bool.{and_parts, leb-true}
use Rattle.std.specs.Prelude.{IfSome, Result, codes, nat_le, option_map}
use Rattle.snd_chunks.proofs.Public.{find_has}
use Rattle.snd_chunks.specs.declared.chunk.Chunk.{Chunk}
use Rattle.snd_chunks.specs.declared.front.Ending.TheVariants.{AtSound}
use Rattle.snd_chunks.specs.declared.front.Front.{Front}
use Rattle.snd_chunks.specs.Chunks.{chunk_at, front}
use Rattle.snd_chunks.specs.Walks.{EndsBy, IsFront}
use Rattle.snd_fields.specs.Field.{number}
use Rattle.snd_fields.specs.declared.field.Order.TheVariants.{Little}
use Rattle.snd_layout.specs.Format.{format_of}
use Rattle.snd_layout.specs.Params.{Parameters}
use Rattle.snd_layout.specs.Shape.{Shape}
use Rattle.snd_layout.specs.declared.piece.Piece.{Piece}
use Rattle.snd_layout.specs.declared.refusal.OpenRefusal.{OpenRefusal}
use Rattle.snd_wave.specs.declared.ends.Ends.{Ends}
use Rattle.snd_chunks.specs.declared.parts.Parts.{Parts}
use Rattle.snd_chunks.specs.Parts.{AreParts, IsFact, body_of, fact_chunk, fact_count, front_refusal, is_fact, with_format}
use Rattle.snd_wave.specs.Layout.{reserve_of, wave_front, wave_layout, wave_shape}
use Rattle.snd_wave.specs.Parts.{ArePlaced, IsBefore, all_pieces, ends_of, shape_of, with_params}

pub built : (b : List ℕ) (front : Front) (parts : Parts) (p : Parameters) (r : Result Parameters OpenRefusal) (count : Option ℕ) (ends : Ends) (reserve : Option ℕ) (pieces : List Piece) (layout : Shape)
    → r ≡ Ok p → count ≡ option_map (fact_count 4 b) parts.fact → ends ≡ ends_of (length b) (number Little b 4 4) parts.sound → reserve ≡ reserve_of p front.chunks → pieces ≡ all_pieces b front ends
    → layout ≡ shape_of p parts count ends reserve pieces → with_params b front parts r ≡ Ok layout
built b front parts p r count ends reserve pieces layout params counted ended reserved found is =
    rw params (ap (λ (s : Shape). Ok s) (sym (is ∙ rw (found, ended, counted, reserved) refl)))

fact_placed : (chunks : List Chunk) (sound : Chunk) (fact : Option Chunk) → fact ≡ fact_chunk 4 chunks → All (λ chunk. chunk.at + chunk.len + 8 ≤ sound.at) chunks → IfSome fact (IsFact 4 8 sound)
fact_placed chunks sound None is before = tt
fact_placed chunks sound (Some fact) is before =
    let found = find_has (is_fact 4) (λ chunk. chunk.at + chunk.len + 8 ≤ sound.at) chunks fact before (sym is) in
    record { count = leb-true 4 fact.len (and_parts _ (nat_le 4 fact.len) found.1).1; before = found.0 }

pub parts_placed : (size : ℕ) (front : Front) (parts : Parts) → IsFront size 12 257 front → AreParts 4 front parts → ArePlaced size parts
parts_placed size front parts is are = record {
  format = (find_has _ (EndsBy size) front.chunks parts.format is.whole are.format).0;
  long = are.long;
  fact = fact_placed front.chunks parts.sound parts.fact are.fact (is.before parts.sound are.sound);
  sound = is.sound parts.sound are.sound;
}

pub all_before : (size : ℕ) (front : Front) (parts : Parts) → IsFront size 12 257 front → AreParts 4 front parts → All (IsBefore parts.sound) front.chunks
all_before size front parts is are = λ k d lt. record { ends = is.before parts.sound are.sound k d lt; short = is.short k d lt }

pub same_ends : (size size' riff riff' : ℕ) (sound : Chunk) → size ≡ size' → riff ≡ riff' → ends_of size riff sound ≡ ends_of size' riff' sound
same_ends size size' riff riff' sound s r = ap (λ n. ends_of n riff sound) s ∙ ap (λ n. ends_of size' n sound) r

pub refusal_is : (b : List ℕ) (front : Front) (refusal : OpenRefusal) → front ≡ wave_front b → front_refusal front ≡ Some refusal → wave_layout b ≡ Err refusal
unfolding wave_layout
refusal_is b front refusal walked is = rw (← walked, is) refl

with_sound : (b : List ℕ) (front : Front) (parts : Parts) (r : Result Parameters OpenRefusal) → parts.fact ≡ fact_chunk 4 front.chunks → with_params b front parts r ≡ with_format (wave_shape b front) r (AtSound parts.sound)
with_sound b front parts (Err refusal) fact = refl
with_sound b front parts (Ok p) fact = rw fact refl

with_ending : (b : List ℕ) (front : Front) (r : Result Parameters OpenRefusal) (sound : Chunk) → front.ending ≡ AtSound sound → with_format (wave_shape b front) r (AtSound sound) ≡ with_format (wave_shape b front) r front.ending
with_ending b front r sound is = rw is refl

pub layout_is : (b : List ℕ) (front : Front) (parts : Parts) → front ≡ wave_front b → AreParts 4 front parts → with_params b front parts (format_of (body_of b parts.format)) ≡ wave_layout b
unfolding wave_layout
layout_is b front parts walked are =
    with_sound b front parts (format_of (body_of b parts.format)) are.fact ∙ with_ending b front (format_of (body_of b parts.format)) parts.sound are.sound
    ∙ rw (← walked, are.no_refusal, are.format) refl

pub walked : (b : List ℕ) (seen : Front) (id : List ℕ) → id ≡ codes "data" → seen ≡ front (chunk_at Little b) id (length b) 257 12 → seen ≡ wave_front b
unfolding wave_front
walked b seen id is told = told ∙ ap (λ (i : List ℕ). front (chunk_at Little b) i (length b) 257 12) is
