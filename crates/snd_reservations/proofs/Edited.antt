-- The promoted file is an edited file of its own, which opens in the state that it is in, and is at rest.
use Rattle.std.proofs.Common.{◌≡◌, ◌∙◌, ap, sym, subst, inl, inr, refl, ℕ, ℤ, ◌+◌, ◌≤◌, Bool, false, true, List, All, Ok, length, map, arith}
use Rattle.snd_blocks.specs.Sound.{frames_in, sound_in, sound_of}
use Rattle.snd_container.specs.Laws.{FileSays}
use Rattle.snd_container.specs.Sound.{Kept, Sound, kept_of, layout_of}
use Rattle.snd_container.specs.Values.{closed_end}
use Rattle.snd_disk.specs.Runs.{HasAt}
use Rattle.snd_fields.specs.Laws.{IsByte}
use Rattle.snd_layout.specs.Blocks.{is_adpcm}
use Rattle.snd_layout.specs.Container.{LiesIn}
use Rattle.snd_layout.specs.Shape.{Shape, end}
use Rattle.snd_layout.specs.declared.kind.Kind.TheVariants.{Rf64, Wave}
use Rattle.snd_patch.proofs.Public.{sealed_length}
use Rattle.snd_patch.specs.Sealed.{counted, sealed}
use Rattle.snd_promote.proofs.Public.{front_sized, same_closing}
use Rattle.snd_ds64.specs.Promoted.{new_front, promoted, promoted_shape}
use Rattle.snd_edits.proofs.Public.{closed_counted, leads_keep_chunks, lies_in, may_count, not_adpcm, opening_ok, sealed_closed, sealed_keeps_file, update_ok}
use Rattle.snd_edits.specs.Editing.{Editing, first_editing, opening_of}
use Rattle.snd_edits.specs.Edits.{sealed_to}
use Rattle.snd_edits.specs.Laws.{IsEdited, KeepsFile, as_opened, seals}
use Rattle.snd_edits.specs.SafeLaws.{Rests}
use Rattle.snd_edits.specs.Updating.{updating_of}
use Rattle.snd_reservations.proofs.Beside.{body_same, pieces_same, promoted_beside, promoted_first, promoted_frames, promoted_length}
use Rattle.snd_reservations.proofs.Ready.{inside, lead, promoted_are_bytes, promoted_told, sealed_is_told, sealed_there}
use Rattle.snd_reservations.specs.Laws.{IsReady, PromotedIsBytes, PromotedIsEdited, PromotedKeepsChunks, PromotedOpens, PromotedRests, PromotedSound}
use Rattle.snd_reservations.specs.States.{promoted_to}

-- the further chunks stay
pub promoted_keeps_chunks : PromotedKeepsChunks
promoted_keeps_chunks file e ed may =
    let h = e.shape in
    let n = e.shape.frames in
    let s = sealed e.bytes h n in
    let early = (lead file e ed may).early in
    let there = sealed_there file e ed may in
    let stays = leads_keep_chunks file e (sealed_to e) ed seals in
    record {
      listed = refl;
      bodies = λ k d lt. body_same s (promoted_to e).bytes h n early there (promoted_length s h n early there) (promoted_beside s h n early there) _ (inside file e ed may k d lt) ∙ stays.bodies k d lt;
    }

-- what closes the data is there in the sealed file
sealed_closes : (file : List ℕ) (e : Editing) → IsReady file e → closed_end e.shape e.shape.frames ≤ length (sealed e.bytes e.shape e.shape.frames)
sealed_closes file e ready =
    let of = ready.edited.keeps in
    let shut : closed_end (counted e.shape e.shape.frames) e.shape.frames ≤ length (sealed e.bytes e.shape e.shape.frames) =
    sealed_closed (length e.bytes) e.shape e.shape.frames (length (sealed e.bytes e.shape e.shape.frames)) (sealed_length e.bytes e.shape e.shape.frames of.rule of.holds.held) ready.may.free in
    subst (λ (k : ℕ). k ≤ length (sealed e.bytes e.shape e.shape.frames)) (closed_counted e.shape e.shape.frames) shut

-- ---- a file that is as long as the sealed one, with its frames, and opens as the promoted one

pub record IsTurned (e : Editing) (p : List ℕ) : Type 0 where
  pub told : layout_of p ≡ Ok (promoted_shape e.shape e.shape.frames)
  pub bytes : All IsByte p
  pub there : end e.shape e.shape.frames ≤ length p
  pub closes : closed_end e.shape e.shape.frames ≤ length p
  pub first : HasAt p 0 (new_front e.shape e.shape.frames)
  pub frames : frames_in p (promoted_shape e.shape e.shape.frames) ≡ e.frames

module _ (file : List ℕ) (e : Editing) (ed : IsEdited file e) (p : List ℕ) (is : IsTurned e p) where
  abbrev h : Shape
  h = e.shape

  abbrev n : ℕ
  n = e.shape.frames

  abbrev g : Shape
  g = promoted_shape e.shape e.shape.frames

  abbrev then : Editing
  then = record e { bytes = p; shape = promoted_shape e.shape e.shape.frames }

  says : FileSays p g
  says = record { goes_on = false; told = is.told; same = inr refl }

  fixed : is_adpcm h.params.codec ≡ false
  fixed = not_adpcm h.params.codec ed.linear

  lies : LiesIn p g
  lies = lies_in p g is.bytes says

  keeps : KeepsFile p then
  keeps = record {
    head = g;
    bytes = is.bytes;
    opened = says;
    known = refl;
    joined = λ blocks. absurd (let no : ◌≡◌ {A = Bool} false true = sym fixed ∙ blocks in cc);
    shape = refl;
    rule = lies.rule;
    kept = λ i lt out. refl;
    stays = λ goes_on. absurd (let no : ◌≡◌ {A = Bool} false true = goes_on in cc);
    holds = record { sound = sym is.frames; count = ed.keeps.holds.count; held = is.there; placed = ed.keeps.holds.placed };
    room = (may_count g n lies.rule ed.linear refl lies.room_ends (inl refl)).0;
    told = λ either. says;
  }

  pub turned_edited : IsEdited p then
  turned_edited = record { keeps = keeps; linear = ed.linear; write_placed = ed.write_placed }

  opens : first_editing p g ≡ as_opened then
  opens = ap (λ (l : List (List ℤ)). record (as_opened then) { frames = l }) is.frames

  pub turned_opens : (opening_of p ≡ Ok (as_opened then)) × (updating_of p ≡ Ok (as_opened then))
  turned_opens = (
    opening_ok p g is.told ∙ ap (λ (x : Editing). Ok x) opens,
    update_ok p g is.told fixed refl ∙ ap (λ (x : Editing). Ok x) opens,
  )

  -- it has its size
  shut : h.kind ≡ Wave → closed_end g n ≤ length p
  shut wave = subst (λ (l : List ℕ). end h n + length l ≤ length p) (sym (same_closing h n wave)) is.closes

  pub turned_rests : h.kind ≡ Wave → Rests then
  turned_rests wave = (
    record { bytes = is.bytes; told = says; there = λ free. inl is.there; whole = refl },
    λ free. record { outer = front_sized h n p is.first; declared = inl refl; closed = shut wave },
  )

-- ---- the promoted file is one

longer : (k : ℕ) (x y : List ℕ) → length y ≡ length x → k ≤ length x → k ≤ length y
longer k x y same le = omega (arith, same, le)

module _ (file : List ℕ) (e : Editing) (ready : IsReady file e) where
  abbrev s : List ℕ
  s = sealed e.bytes e.shape e.shape.frames

  early : 56 ≤ e.shape.start
  early = (lead file e ready.edited ready.may).early

  there : end e.shape e.shape.frames ≤ length s
  there = sealed_there file e ready.edited ready.may

  long : length (promoted s e.shape e.shape.frames) ≡ length s
  long = promoted_length s e.shape e.shape.frames early there

  turned : IsTurned e (promoted s e.shape e.shape.frames)
  turned = record {
    told = promoted_told file e ready.edited ready.may ready.bytes;
    bytes = promoted_are_bytes file e ready.edited ready.may ready.bytes;
    there = longer (end e.shape e.shape.frames) s (promoted s e.shape e.shape.frames) long there;
    closes = longer (closed_end e.shape e.shape.frames) s (promoted s e.shape e.shape.frames) long (sealed_closes file e ready);
    first = promoted_first s e.shape e.shape.frames early there;
    frames = promoted_frames s e.shape e.shape.frames early there ∙ sym (sealed_keeps_file file e ready.edited.keeps).holds.sound;
  }

pub promoted_is_edited : PromotedIsEdited
promoted_is_edited file e ready = turned_edited file e ready.edited (promoted_to e).bytes (turned file e ready)

pub promoted_is_bytes : PromotedIsBytes
promoted_is_bytes file e ready = promoted_are_bytes file e ready.edited ready.may ready.bytes

pub promoted_reads_back : PromotedOpens
promoted_reads_back file e ready = turned_opens file e ready.edited (promoted_to e).bytes (turned file e ready)

pub promoted_rests : PromotedRests
promoted_rests file e ready = turned_rests file e ready.edited (promoted_to e).bytes (turned file e ready) (lead file e ready.edited ready.may).wave

-- the sounds of two files that differ in their kind
sounds : (s p : List ℕ) (h : Shape) (n : ℕ) → layout_of s ≡ Ok (counted h n) → layout_of p ≡ Ok (promoted_shape h n) → frames_in p (promoted_shape h n) ≡ frames_in s (counted h n)
    → map (kept_of p) h.pieces ≡ map (kept_of s) h.pieces → (sound : Sound) × (sound_of s ≡ Ok sound) × (sound_of p ≡ Ok (record sound { kind = Rf64 }))
sounds s p h n said told frames pieces = (
  record { kind = h.kind; params = h.params; frames = frames_in s (counted h n); pieces = map (kept_of s) h.pieces },
  ap (sound_in s) said,
  ap (sound_in p) told
      ∙ ap (λ (l : List (List ℤ)). Ok (record { kind = Rf64; params = h.params; frames = l; pieces = map (kept_of p) h.pieces })) frames
      ∙ ap (λ (l : List Kept). Ok (record { kind = Rf64; params = h.params; frames = frames_in s (counted h n); pieces = l })) pieces,
)

pub promoted_sound : PromotedSound
promoted_sound file e ready =
    let s = sealed e.bytes e.shape e.shape.frames in
    let far = early file e ready in
    let held = there file e ready in
    sounds s (promoted_to e).bytes e.shape e.shape.frames (sealed_is_told file e ready.edited ready.may) (promoted_told file e ready.edited ready.may ready.bytes) (promoted_frames s e.shape e.shape.frames far held)
    (pieces_same s (promoted_to e).bytes e.shape e.shape.frames far held (promoted_length s e.shape e.shape.frames far held) (promoted_beside s e.shape e.shape.frames far held) e.shape.pieces (inside file e ready.edited ready.may))
