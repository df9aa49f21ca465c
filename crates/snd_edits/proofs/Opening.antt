-- What opening a file gives, and what its frames are.
use Rattle.std.proofs.Common.{◌≡◌, ◌∙◌, ap, sym, refl, ℕ, ◌*◌, ◌≤◌, List, false, Option, None, Some, Ok, Err, length, take, drop, arith}
use Rattle.std.specs.Prelude.{is_none}
use Rattle.snd_layout.specs.declared.refusal.OpenRefusal.{OpenRefusal}
use Rattle.snd_layout.specs.Params.{data_bytes}
use Rattle.snd_layout.specs.Shape.{Shape, end}
use Rattle.snd_blocks.specs.Sound.{frames_in}
use Rattle.snd_pcm.specs.Groups.{groups}
use Rattle.snd_container.specs.Fixed.{byte_count, samples}
use Rattle.snd_container.specs.declared.fixed.Fixed.{Fixed}
use Rattle.snd_container.specs.Sound.{decoded, decoded_as, layout_of, fixed_of, sound_bytes}
use Rattle.snd_edits.specs.Editing.{Editing, first_editing, frames_read, opening_as, opening_of}
use Rattle.snd_edits.proofs.SoundFrames.{count_frames, linear_bytes}

pub opening_ok : (b : List ℕ) (s : Shape) → layout_of b ≡ Ok s → opening_of b ≡ Ok (first_editing b s)
unfolding opening_of
opening_ok b s is = ap (opening_as b) is

pub opening_refused : (b : List ℕ) (r : OpenRefusal) → layout_of b ≡ Err r → opening_of b ≡ Err r
unfolding opening_of
opening_refused b r is = ap (opening_as b) is

count_as : (b : List ℕ) (s : Shape) (o : Option Fixed) → fixed_of s.params.codec ≡ o → is_none o ≡ false → 1 ≤ s.params.channels → end s s.frames ≤ length b
    → s.frames ≡ length (decoded s.params (sound_bytes b s))
count_as b s None is linear some fits = absurd (cc)
count_as b s (Some form) is linear some fits =
    let size : data_bytes s.params s.frames ≡ byte_count form * (s.params.channels * s.frames) = linear_bytes s.params form s.frames is in
    sym (ap (λ (o : Option Fixed). length (decoded_as o s.params.channels (sound_bytes b s))) is
    ∙ ap (λ (n : ℕ). length (groups s.params.channels (samples form (take n (drop s.start b))))) size
    ∙ count_frames form b s.start s.frames s.params.channels (omega (arith, fits, size)) (omega (arith, some)))

-- the frames that a layout counts are those that its bytes give
pub count_decoded : (b : List ℕ) (s : Shape) → is_none (fixed_of s.params.codec) ≡ false → 1 ≤ s.params.channels → end s s.frames ≤ length b
    → s.frames ≡ length (decoded s.params (sound_bytes b s))
count_decoded b s linear some fits = count_as b s (fixed_of s.params.codec) refl linear some fits

-- the frames of an editing state are those that its bytes give
pub frames_of_bytes : (e : Editing) (s : Shape) (place k : ℕ) → s ≡ e.shape → place ≡ e.place → e.frames ≡ frames_in e.bytes e.shape
    → take k (drop place (frames_in e.bytes s)) ≡ frames_read e k
frames_of_bytes e s place k shape at sound =
    ap (λ (x : Shape). take k (drop place (frames_in e.bytes x))) shape
    ∙ ap (λ (m : ℕ). take k (drop m (frames_in e.bytes e.shape))) at
    ∙ ap (λ l. take k (drop e.place l)) (sym sound)
