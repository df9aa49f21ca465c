-- A file that is being made and gains numbers, some behind others.
use Rattle.std.proofs.Common.{◌≡◌, ◌∙◌, ap, ℕ, ◌+◌, ◌%◌, ◌≤◌, ℤ, List, [], ◌++◌, drop, length, take, sym, subst}
use Rattle.std.proofs.lemmas.List.{append-nil, append_assoc}
use Rattle.snd_disk.specs.State.{State}
use Rattle.snd_disk.specs.declared.disk.Disk.{Ghosts}
use Rattle.snd_edits.specs.declared.mode.Mode.{Ghosts as ModeGhosts}
use Rattle.snd_file.specs.declared.handle.File.{File}
use Rattle.snd_output.specs.Appended.{Gains}
use Rattle.snd_output.specs.Made.{IsMaking}
use Rattle.snd_output.specs.Widths.{change_numbers}
use Rattle.snd_file.specs.Handle.{codec_of}
use Rattle.snd_vox.specs.Vox.{VoxState, vox_start}
use Rattle.snd_layout.specs.declared.codec.Codec.{Codec}
use Rattle.snd_import.proofs.Pieces.{change_joined, front_none, front_sound, front_state, sound_first, sound_none, state_none}
use Rattle.snd_import.specs.Filling.{HasGiven, sound_behind, state_behind}
use Rattle.snd_import.specs.Import.{bytes_in, numbers_of}
use Rattle.snd_import.specs.Source.{IsHeld}
use Rattle.snd_import.specs.declared.source.Coding.TheVariants.{Codes}
use Rattle.snd_import.specs.declared.source.Source.{Source}

module _ {E N : Type 0} {t : Ghosts E} {n : ModeGhosts N} (state : E → State) where
  pub gains_none : (to : File E N t n) → Gains state [] to to
  gains_none to = λ kind p pieces xs e stands making. (e, stands, subst (λ (l : List ℤ). IsMaking kind p pieces l e) (sym (append-nil xs)) making)

  pub gains_then : (first second : List ℤ) (a b c : File E N t n) → Gains state first a b → Gains state second b c → Gains state (first ++ second) a c
  gains_then first second a b c one two = λ kind p pieces xs e stands making.
      let mid = one kind p pieces xs e stands making in
      let last = two kind p pieces (xs ++ first) mid.0 mid.1 mid.2 in
      (last.0, last.1, subst (λ (l : List ℤ). IsMaking kind p pieces l last.0) (append_assoc xs first second) last.2)

  pub gains_same : (numbers numbers' : List ℤ) (a b : File E N t n) → numbers ≡ numbers' → Gains state numbers a b → Gains state numbers' a b
  gains_same numbers numbers' a b is gains = subst (λ (l : List ℤ). Gains state l a b) is gains

-- ---- pieces of a source

abbrev front_of : Source → List ℕ → ℕ → List ℕ
front_of s b i = take (bytes_in s.coding s.params i) (drop s.start b)

abbrev sound_of : Source → VoxState → List ℕ → List ℤ
sound_of s v xs = sound_behind s.coding s.params.codec v xs

module _ {E N : Type 0} {t : Ghosts E} {n : ModeGhosts N} (state : E → State) (s : Source) (b : List ℕ) (held : IsHeld (length b) s) where
  pub given_none : (reader : VoxState) (to : File E N t n) → reader ≡ vox_start → HasGiven state s b 0 reader to to
  given_none reader to first =
      let none : front_of s b 0 ≡ [] = front_none s.coding s.params (drop s.start b) in (
        first ∙ sym (state_none s.coding vox_start) ∙ sym (ap (state_behind s.coding vox_start) none),
        gains_same state [] (change_numbers s.params.codec (codec_of to) (sound_of s vox_start (front_of s b 0))) to to
            (sym (ap (λ (l : List ℕ). change_numbers s.params.codec (codec_of to) (sound_of s vox_start l)) none ∙ ap (change_numbers s.params.codec (codec_of to)) (sound_none s.coding s.params.codec vox_start held.source.fixed)))
            (gains_none state to),
      )

  pub given_next : (i k : ℕ) (reader reader' : VoxState) (a m m' : File E N t n) → i + k ≤ s.frames → (s.coding ≡ Codes → i % 2 ≡ 0) → codec_of m ≡ codec_of a → HasGiven state s b i reader a m
      → (reader' ≡ state_behind s.coding reader (take (bytes_in s.coding s.params k) (drop (s.start + bytes_in s.coding s.params i) b)))
      → Gains state (change_numbers s.params.codec (codec_of m) (sound_of s reader (take (bytes_in s.coding s.params k) (drop (s.start + bytes_in s.coding s.params i) b)))) m m'
      → HasGiven state s b (i + k) reader' a m'
  given_next i k reader reader' a m m' within even same before next gains =
      let piece : List ℕ = take (bytes_in s.coding s.params k) (drop (s.start + bytes_in s.coding s.params i) b) in
      let st : VoxState = state_behind s.coding vox_start (front_of s b i) in
      let to : Codec = codec_of a in
      let first : List ℤ = change_numbers s.params.codec to (sound_of s vox_start (front_of s b i)) in
      let more : Gains state (change_numbers s.params.codec to (sound_of s st piece)) m m' =
      gains_same state _ (change_numbers s.params.codec to (sound_of s st piece)) m m'
      (ap (λ (q : Codec). change_numbers s.params.codec q (sound_of s reader piece)) same ∙ ap (λ (v : VoxState). change_numbers s.params.codec to (sound_of s v piece)) before.0) gains in
      let all : change_numbers s.params.codec to (sound_of s vox_start (front_of s b (i + k))) ≡ first ++ change_numbers s.params.codec to (sound_of s st piece) =
      ap (change_numbers s.params.codec to) (front_sound s b i k held within even vox_start) ∙ change_joined s.params.codec to (sound_of s vox_start (front_of s b i)) (sound_of s st piece) in (
        next ∙ ap (λ (v : VoxState). state_behind s.coding v piece) before.0 ∙ sym (front_state s b i k held within even vox_start),
        gains_same state (first ++ change_numbers s.params.codec to (sound_of s st piece)) _ a m' (sym all) (gains_then state first (change_numbers s.params.codec to (sound_of s st piece)) a m m' before.1 more),
      )

  pub given_all : (i : ℕ) (reader : VoxState) (a m : File E N t n) → i ≡ s.frames → HasGiven state s b i reader a m → Gains state (change_numbers s.params.codec (codec_of a) (numbers_of s b)) a m
  given_all i reader a m all given =
      gains_same state _ (change_numbers s.params.codec (codec_of a) (numbers_of s b)) a m
      (ap (λ (k : ℕ). change_numbers s.params.codec (codec_of a) (sound_of s vox_start (front_of s b k))) all ∙ ap (change_numbers s.params.codec (codec_of a)) (sound_first s.coding s.params.codec (front_of s b s.frames))) given.1
