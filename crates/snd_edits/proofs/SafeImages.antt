-- When an image is safe: what it owes the state before a call and the state to which the call leads.
use Rattle.std.proofs.Common.{◌≡◌, ◌⊎◌, ◌∙◌, ap, sym, subst, refl, inl, inr, ⊎_elim, ℕ, ◌<◌, ◌≤◌, ℤ, false, true, List, [], Ok, length, map, take, drop, arith}
use Rattle.std.proofs.lemmas.List.{ext_get_or, take_all}
use Rattle.std.specs.Prelude.{Result, is_none}
use Rattle.snd_blocks.specs.Sound.{decode, sound_of}
use Rattle.snd_container.specs.Laws.{FileSays}
use Rattle.snd_container.specs.Sound.{Sound, fixed_of, kept_of}
use Rattle.snd_layout.specs.Container.{KeepsHead}
use Rattle.snd_layout.specs.Params.{AreParams, data_bytes}
use Rattle.snd_layout.specs.Shape.{Shape, end}
use Rattle.snd_layout.specs.declared.kind.Kind.TheVariants.{Voc}
use Rattle.snd_layout.specs.declared.piece.Piece.{Piece}
use Rattle.snd_layout.specs.declared.refusal.OpenRefusal.{OpenRefusal}
use Rattle.snd_edits.specs.Editing.{Editing}
use Rattle.snd_edits.specs.Laws.{KeepsFile}
use Rattle.snd_edits.specs.Safe.{acknowledged, chunks_of, frame_at, IsSafe, IsUnwritten, SaysAs}
use Rattle.snd_edits.proofs.EditedFiles.{lies_under}
use Rattle.snd_edits.proofs.EditedSounds.{edited_pieces, image_pieces, sound_by}
use Rattle.snd_edits.proofs.FixedFrames.{count_any, decode_fixed}
use Rattle.snd_edits.proofs.ImageFields.{recounted}
use Rattle.snd_edits.proofs.ImageFrames.{frames_in}
use Rattle.snd_edits.proofs.KeptPieces.{SameTail}

-- the first n frames of a file of any codec; they are those of the bytes, where samples have bytes of their own
abbrev pub frames_of : Shape → ℕ → List ℕ → List (List ℤ)
frames_of h n x = decode h.params n (take (data_bytes h.params n) (drop h.start x))

pub frames_by_place : (h : Shape) (n : ℕ) (x : List ℕ) → is_none (fixed_of h.params.codec) ≡ false → frames_of h n x ≡ frames_in h n x
frames_by_place h n x linear = decode_fixed h.params n (take (data_bytes h.params n) (drop h.start x)) linear

-- what an image says that has the layout of a state, but for the frames and the declared length: its head and, where it goes on
-- behind its data, its tail are that file's
pub record ImageSays (opened : List ℕ) (e : Editing) (x : List ℕ) (n d : ℕ) : Type 0 where
  pub keeps : KeepsFile opened e
  pub told : FileSays x (recounted e.shape n d)
  pub kept : KeepsHead e.shape e.bytes x
  pub there : end e.shape n ≤ length x
  pub tail : e.shape.trailing ≡ true → (e.shape.kind ≡ Voc) ⊎ SameTail e.shape x e.bytes

module _ (opened : List ℕ) (e : Editing) (x : List ℕ) (n d : ℕ) (says : ImageSays opened e x n d) where
  abbrev h : Shape
  h = e.shape

  abbrev of : KeepsFile opened e
  of = says.keeps

  abbrev frames : List (List ℤ)
  frames = frames_of h n x

  count_is : length frames ≡ n
  count_is =
      let good : AreParams h.params = subst (λ (s : Shape). AreParams s.params) (sym of.shape) (lies_under opened e of).params in
      sym (count_any x (recounted h n d) h.kind of.rule.fits good says.there)

  pieces_are : map (kept_of x) h.pieces ≡ chunks_of e
  pieces_are =
      let pieces : h.pieces ≡ of.head.pieces = ap (λ (s : Shape). s.pieces) of.shape in
      let begins : h.start ≤ length x = omega (arith, says.there) in
      let image : map (kept_of x) of.head.pieces ≡ map (kept_of opened) of.head.pieces =
      image_pieces opened e of x begins (λ i lt out. says.kept i lt out ∙ of.kept i lt out)
      (λ goes_on.
      let its = of.stays goes_on in
      let ends : end h h.frames ≡ end of.head of.head.frames = ap (λ (s : Shape). end s s.frames) its.shape in
      ⊎_elim (λ voc. inl voc) (λ mine. inr (mine.0 ∙ its.size, λ i behind. mine.1 i (omega (arith, ends, behind)) ∙ its.behind i behind)) (says.tail goes_on)) in
      ap (λ (l : List Piece). map (kept_of x) l) pieces ∙ image ∙ sym (edited_pieces opened e of) ∙ sym (ap (λ (l : List Piece). map (kept_of e.bytes) l) pieces)

  abbrev sound_is : Sound
  sound_is = record { kind = h.kind; params = h.params; frames = frames; pieces = map (kept_of x) h.pieces }

  opens_as : sound_of x ≡ Ok sound_is
  opens_as = sound_by x (recounted h n d) says.told

  -- by its frames
  pub safe_by : (e' : Editing) → (n ≡ acknowledged e) ⊎ (n ≡ acknowledged e') → ((i : ℕ) → i < n → i < acknowledged e → IsUnwritten e e' i → frame_at frames i ≡ frame_at e.frames i)
      → (acknowledged e < n → frames ≡ take n e'.frames) → IsSafe e e' x
  safe_by e' either stay risen = record {
    sound = sound_is;
    opens = opens_as;
    params = refl;
    head = inl (refl, pieces_are);
    count = ⊎_elim (λ old. inl (count_is ∙ old)) (λ new. inr (count_is ∙ new)) either;
    unwritten = λ i lt within same. stay i (omega (arith, count_is, lt)) within same;
    risen = λ more. risen (omega (arith, count_is, more)) ∙ ap (λ (m : ℕ). take m e'.frames) (sym count_is);
  }

  -- with the frames of the state before the call
  pub safe_old : (e' : Editing) → frames ≡ e.frames → IsSafe e e' x
  safe_old e' same =
      let all : n ≡ acknowledged e = sym count_is ∙ ap (λ (l : List (List ℤ)). length l) same in
      safe_by e' (inl all) (λ i lt within un. ap (λ (l : List (List ℤ)). frame_at l i) same) (λ more. absurd (omega (arith, all, more)))

  -- with those of the state to which it leads
  pub safe_new : (e' : Editing) → frames ≡ e'.frames → IsSafe e e' x
  safe_new e' same =
      let all : n ≡ acknowledged e' = sym count_is ∙ ap (λ (l : List (List ℤ)). length l) same in
      safe_by e' (inr all)
      (λ i lt within un. ⊎_elim (λ gone. absurd (omega (arith, all, lt, gone))) (λ stays. ap (λ (l : List (List ℤ)). frame_at l i) same ∙ stays) un)
      (λ more. same ∙ sym (take_all n e'.frames (omega (arith, all))))

  -- with as many as before, each of which the call writes or leaves
  pub safe_mixed : (e' : Editing) → n ≡ acknowledged e → n ≤ acknowledged e' → ((i : ℕ) → i < n → frame_at e'.frames i ≡ frame_at e.frames i → frame_at frames i ≡ frame_at e.frames i) → IsSafe e e' x
  safe_mixed e' all more stay =
      safe_by e' (inl all) (λ i lt within un. ⊎_elim (λ gone. absurd (omega (arith, more, lt, gone))) (λ stays. stay i lt stays) un) (λ risen. absurd (omega (arith, all, risen)))

-- the sound of a file at rest is that of the state
frames_at_rest : (e : Editing) (x : List ℕ) (safe : IsSafe e e x) → safe.sound.frames ≡ e.frames
frames_at_rest e x safe =
    let count : length safe.sound.frames ≡ length e.frames = ⊎_elim (λ c. c) (λ c. c) safe.count in
    ext_get_or [] safe.sound.frames e.frames count (λ i lt. safe.unwritten i lt (omega (arith, count, lt)) (inr refl))

pub wider : (e e' : Editing) (x : List ℕ) → IsSafe e e x → IsSafe e e' x
wider e e' x safe =
    let frames = frames_at_rest e x safe in
    let count : length safe.sound.frames ≡ acknowledged e = ap (λ (l : List (List ℤ)). length l) frames in
    record {
      sound = safe.sound;
      opens = safe.opens;
      params = safe.params;
      head = inl (⊎_elim (λ k. k) (λ k. k) safe.head);
      count = inl count;
      unwritten = λ i lt within same. ap (λ (l : List (List ℤ)). frame_at l i) frames;
      risen = λ more. absurd (omega (arith, count, more));
    }

pub from_after : (e e' : Editing) (x : List ℕ) → e'.shape.params ≡ e.shape.params → IsSafe e' e' x → IsSafe e e' x
from_after e e' x params safe =
    let frames = frames_at_rest e' x safe in
    let count : length safe.sound.frames ≡ acknowledged e' = ap (λ (l : List (List ℤ)). length l) frames in
    record {
      sound = safe.sound;
      opens = safe.opens;
      params = safe.params ∙ params;
      head = inr (⊎_elim (λ k. k) (λ k. k) safe.head);
      count = inr count;
      unwritten = λ i lt within un. ⊎_elim (λ gone. absurd (omega (arith, count, lt, gone))) (λ stays. ap (λ (l : List (List ℤ)). frame_at l i) frames ∙ stays) un;
      risen = λ more. frames ∙ sym (take_all (length safe.sound.frames) e'.frames (omega (arith, count)));
    }

-- the states of one file have its parameters, its kind and its further chunks
chunks_are : (opened : List ℕ) (e : Editing) (of : KeepsFile opened e) → chunks_of e ≡ map (kept_of opened) of.head.pieces
chunks_are opened e of = ap (λ (s : Shape). map (kept_of e.bytes) s.pieces) of.shape ∙ edited_pieces opened e of

pub same_file : (opened : List ℕ) (e g : Editing) → KeepsFile opened e → KeepsFile opened g → (g.shape.params ≡ e.shape.params) × (g.shape.kind ≡ e.shape.kind) × (chunks_of g ≡ chunks_of e)
same_file opened e g of of_g =
    let one : ◌≡◌ {A = Result Shape OpenRefusal} (Ok (record of_g.head { trailing = of_g.opened.goes_on })) (Ok (record of.head { trailing = of.opened.goes_on })) = sym of_g.opened.told ∙ of.opened.told in
    let head : record of_g.head { trailing = of_g.opened.goes_on } ≡ record of.head { trailing = of.opened.goes_on } = cc in (
      ap (λ (s : Shape). s.params) of_g.shape ∙ ap (λ (s : Shape). s.params) head ∙ sym (ap (λ (s : Shape). s.params) of.shape),
      ap (λ (s : Shape). s.kind) of_g.shape ∙ ap (λ (s : Shape). s.kind) head ∙ sym (ap (λ (s : Shape). s.kind) of.shape),
      chunks_are opened g of_g ∙ ap (λ (s : Shape). map (kept_of opened) s.pieces) head ∙ sym (chunks_are opened e of),
    )

-- what is safe at rest in a state of the same file with the same frames
pub safe_across : (opened : List ℕ) (e g e' : Editing) (x : List ℕ) → KeepsFile opened e → KeepsFile opened g → g.frames ≡ e.frames → IsSafe g g x → IsSafe e e' x
safe_across opened e g e' x of of_g same safe =
    let file = same_file opened e g of of_g in
    let frames : safe.sound.frames ≡ e.frames = frames_at_rest g x safe ∙ same in
    let count : length safe.sound.frames ≡ acknowledged e = ap (λ (l : List (List ℤ)). length l) frames in
    let own : SaysAs g safe.sound = ⊎_elim (λ k. k) (λ k. k) safe.head in
    record {
      sound = safe.sound;
      opens = safe.opens;
      params = safe.params ∙ file.0;
      head = inl (own.0 ∙ file.1, own.1 ∙ file.2);
      count = inl count;
      unwritten = λ i lt within un. ap (λ (l : List (List ℤ)). frame_at l i) frames;
      risen = λ more. absurd (omega (arith, count, more));
    }

-- a file at rest
pub at_rest : (opened : List ℕ) (e : Editing) → KeepsFile opened e → FileSays e.bytes e.shape → IsSafe e e e.bytes
at_rest opened e of told =
    safe_old opened e e.bytes e.shape.frames e.shape.declared
    (record { keeps = of; told = told; kept = λ i lt out. refl; there = of.holds.held; tail = λ goes_on. inr (refl, λ i behind. refl) }) e (sym of.holds.sound)
