-- What holds of the layout that a list of bytes gives.
use Rattle.std.proofs.Common.{◌≡◌, refl, ℕ, ◌-◌, ◌≤◌, List, All, Option, None, Some, Ok, length, arith}
use Rattle.std.proofs.lemmas.List.Elements.{All-drop, All-take}
use Rattle.std.specs.Prelude.{IfSome, option_map}
use Rattle.snd_chunks.specs.declared.chunk.Chunk.{Chunk}
use Rattle.snd_fields.specs.Laws.{IsByte}
use Rattle.snd_layout.proofs.Formats.{format_fits}
use Rattle.snd_layout.specs.Container.{LiesIn}
use Rattle.snd_layout.specs.Fit.{fit_refusal}
use Rattle.snd_layout.proofs.StatedFormats.{good_params}
use Rattle.snd_layout.specs.Params.{AreParams, data_bytes}
use Rattle.snd_layout.specs.Shape.{Shape}
use Rattle.snd_layout.specs.declared.kind.Kind.TheVariants.{W64}
use Rattle.snd_chunks.specs.Parts.{IsFact, body_of, fact_chunk, fact_count, frame_count, held, reached}
use Rattle.snd_w64.specs.Layout.{w64_front, w64_layout}
use Rattle.snd_w64.specs.Parts.{IsHeld, IsSound}
use Rattle.snd_w64.proofs.Agreements.{Stand, StandsBefore, stand}
use Rattle.snd_w64.proofs.Chains.{head_len}
use Rattle.snd_w64.proofs.Opens.{Opens, opens}
use Rattle.snd_w64.proofs.Shapes.{counted_bytes, is_held, keeps_rule}

-- ---- where the data lie

pub is_sound : (b : List ℕ) (sound : Chunk) → Stand b sound → IsSound (length b) sound
is_sound b sound there = record {
  within = omega (arith, there.at, there.head.within);
  behind = omega (arith, there.at, there.late);
  len = omega (arith, head_len b there.reach.last sound there.head);
}

pub is_fact_of : (sound : Chunk) (fact : Option Chunk) → ((f : Chunk) → fact ≡ Some f → StandsBefore sound f) → IfSome fact (IsFact 8 24 sound)
is_fact_of sound None stands = tt
is_fact_of sound (Some fact) stands =
    let before : StandsBefore sound fact = stands fact refl in
    record { count = before.count; before = before.before }

pub lies_in : (b : List ℕ) (h : Shape) → All IsByte b → w64_layout b ≡ Ok h → LiesIn b h
lies_in b h bytes is =
    let from : Opens b (w64_front b) h = opens b h is in
    let there : Stand b from.sound = stand b from.sound from.sound_is in
    let sound : IsSound (length b) from.sound = is_sound b from.sound there in
    let fits : fit_refusal W64 from.params ≡ None = format_fits (body_of b from.format) from.params from.params_are in
    let body_bytes : All IsByte (body_of b from.format) = All-take IsByte from.format.len _ (All-drop IsByte from.format.at b bytes) in
    let good : AreParams from.params = good_params (body_of b from.format) from.params body_bytes from.params_are in
    let count : Option ℕ = option_map (fact_count 8 b) (fact_chunk 8 (w64_front b).chunks) in
    let few : data_bytes from.params (frame_count from.params (held (length b) from.sound) count) ≤ held (length b) from.sound = counted_bytes from.params (held (length b) from.sound) count good fits in
    let short : held (length b) from.sound ≤ from.sound.len = omega arith in
    let in_file : held (length b) from.sound ≤ reached (length b) - from.sound.at = omega arith in
    let holds : IsHeld (length b) h = rw from.shape (is_held _ from.sound (held (length b) from.sound) (length b) count refl refl refl refl good fits sound in_file) in
    record {
      params = rw from.shape good;
      rule = rw from.shape (keeps_rule _ (fact_chunk 8 (w64_front b).chunks) from.sound (held (length b) from.sound) (length b) count refl refl refl refl refl refl refl refl refl good fits
          (is_fact_of from.sound (fact_chunk 8 (w64_front b).chunks) there.fact) sound short in_file);
      within = rw from.shape (omega (arith, sound.within));
      held = holds.sound;
      room_ends = holds.room_ends;
      declared = rw from.shape (λ known. omega (arith, few, short));
    }
