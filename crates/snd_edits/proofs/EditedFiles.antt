-- The editing states of a file: where they begin, and what the file says once it is sealed.
use Rattle.std.proofs.Common.{◌≡◌, ◌∙◌, ap, sym, subst, refl, inl, inr, ℕ, ℤ, ◌+◌, ◌^◌, ◌<◌, ◌≤◌, Bool, true, false, cond, List, All, Ok, Err, length, get_or, max, arith}
use Rattle.std.specs.Prelude.{Result, is_none, nat_le, nat_lt}
use Rattle.std.proofs.lemmas.Bool.{cases_Bool, cond_both}
use Rattle.std.proofs.lemmas.List.{length-take}
use Rattle.snd_container.specs.Laws.{FileSays}
use Rattle.snd_container.specs.Sound.{decoded, layout_of, fixed_of, sound_bytes}
use Rattle.snd_container.specs.Values.{closed_end, closing}
use Rattle.snd_disk.proofs.Public.{length-over}
use Rattle.snd_fields.specs.Laws.{IsByte}
use Rattle.snd_layout.specs.Blocks.{is_adpcm}
use Rattle.snd_layout.specs.Params.{data_bytes}
use Rattle.snd_layout.specs.Shape.{KeepsRule, Shape, end, room}
use Rattle.snd_layout.specs.declared.error.OpenError.{OpenError}
use Rattle.snd_layout.specs.declared.kind.Kind.TheVariants.{Wave}
use Rattle.snd_layout.specs.declared.refusal.OpenRefusal.{OpenRefusal}
use Rattle.snd_patch.proofs.Public.{closed_same, order_is_free, over_beside, sealed_keeps, sealed_length, shrunk_keeps, shrunk_length, take_before}
use Rattle.snd_patch.specs.Sealed.{FieldsLieApart, closed, counted, over_closing, patched, sealed, shrunk, with_fewer, with_fields}
use Rattle.snd_layout.specs.Container.{HasRoomFor, KeepsHead, LiesIn}
use Rattle.snd_edits.specs.Editing.{Editing, first_editing, moved_to, opening_as, opening_of}
use Rattle.snd_edits.specs.Edits.{automatic_to, cut_off, moved_write_to, sealed_to}
use Rattle.snd_edits.specs.Laws.{AutomaticReadsBack, HoldsFrames, IsEdited, KeepsFile, OpenedHoldsFrames, OpensAgain, SealedReadsBack, UpdatedIsEdited, as_opened, going_on}
use Rattle.snd_edits.specs.Updating.{updating_as, updating_of}
use Rattle.snd_edits.proofs.FileRules.{lies_in}
use Rattle.snd_edits.proofs.Opened.{update_ok}
use Rattle.snd_edits.proofs.FixedFrames.{count_any, frames_fixed, is_fixed}
use Rattle.snd_edits.proofs.Opening.{opening_ok}
use Rattle.snd_edits.proofs.Rooms.{not_adpcm, not_joined, room_by}
use Rattle.snd_edits.proofs.SealedFrames.{sealed_decoded, sealed_no_less}
use Rattle.snd_edits.proofs.ImageFields.{fields_lie_apart, recounted}
use Rattle.snd_edits.proofs.SealedHeads.{fields_read_back}

-- ---- a layout with another number of frames

pub counted_rule : (h : Shape) (n : ℕ) → KeepsRule h → h.unknown_length ≡ false → end h n + 8 ≤ 2 ^ 63 → (h.trailing ≡ true → n ≡ h.frames) → KeepsRule (counted h n)
counted_rule h n rule known ends stays =
    let size = data_bytes h.params n in
    let fits : (t : Bool) → h.trailing ≡ t → (size ≤ max (room h) (cond t h.declared size)) × (cond t h.declared size < 2 ^ 63) = λ t is. by_end t is in
    record {
      fits = rule.fits;
      inner_size = rule.inner_size;
      outer_size = rule.outer_size;
      side_size = rule.side_size;
      inner_end = rule.inner_end;
      outer_end = rule.outer_end;
      side_end = rule.side_end;
      sound_start = rule.sound_start;
      pieces_placed = rule.pieces_placed;
      data_end = ends;
      in_room = λ open_end. (fits h.trailing refl).0;
      declared_fits = (fits h.trailing refl).1;
      reserved = rule.reserved;
    }
  where
    by_end : (t : Bool) → h.trailing ≡ t → (data_bytes h.params n ≤ max (room h) (cond t h.declared (data_bytes h.params n))) × (cond t h.declared (data_bytes h.params n) < 2 ^ 63)
    by_end true is = (subst (λ (m : ℕ). data_bytes h.params m ≤ max (room h) h.declared) (sym (stays is)) (rule.in_room known), rule.declared_fits)
    by_end false is = (omega arith, omega (arith, ends))

pub counted_stays : (h : Shape) → h.trailing ≡ true → counted h h.frames ≡ h
counted_stays h is = ap (λ (t : Bool). record h { declared = cond t h.declared (data_bytes h.params h.frames) }) is

-- ---- the bytes of a file that is sealed or cut

pub sealed_same : (b : List ℕ) (h : Shape) (n : ℕ) → h.trailing ≡ true → sealed b h n ≡ b
sealed_same b h n is = ap (λ (t : Bool). cond t b (patched (closed b h n) h n)) is

pub longer_closed : (b : List ℕ) (h : Shape) (n : ℕ) → length b ≤ length (closed b h n)
longer_closed b h n = cond_both (nat_lt (length b) (closed_end h n)) (over_closing b h n) b (λ x. length b ≤ length x) (λ is. omega (arith, length-over b (end h n) (closing h n))) (λ other. omega arith)

pub sealed_is : (b : List ℕ) (h : Shape) (n : ℕ) → KeepsRule h → FieldsLieApart h → h.trailing ≡ false → h.start ≤ length (closed b h n) → sealed b h n ≡ with_fields (closed b h n) h n
sealed_is b h n rule apart free long =
    let y = closed b h n in
    ap (λ (t : Bool). cond t b (patched y h n)) free
    ∙ cond_both (nat_le h.declared (data_bytes h.params n)) (with_fields y h n) (with_fewer y h n) (λ x. x ≡ with_fields y h n) (λ is. refl) (λ other. order_is_free y h n rule apart long)

pub sealed_long : (b : List ℕ) (h : Shape) (n : ℕ) → KeepsRule h → end h n ≤ length b → length b ≤ length (sealed b h n)
sealed_long b h n rule there = omega (arith, sealed_length b h n rule there, sealed_no_less (length b) h n)

pub sealed_kept : (file b : List ℕ) (h : Shape) (n : ℕ) → KeepsRule h → KeepsHead h file b → KeepsHead h file (sealed b h n)
sealed_kept file b h n rule kept = λ i lt out. sealed_keeps b h n rule i (omega (arith, lt)) out ∙ kept i lt out

pub shrunk_kept : (file b : List ℕ) (h : Shape) (n : ℕ) → KeepsRule h → KeepsHead h file b → KeepsHead h file (shrunk b h n)
shrunk_kept file b h n rule kept = λ i lt out. shrunk_keeps b h n rule i (omega (arith, lt)) out ∙ kept i lt out

-- what stands before the data where all behind what closes these is cut off
pub off_before : (b : List ℕ) (h : Shape) (n i : ℕ) → i < h.start → get_or (cut_off b h n) i 0 ≡ get_or b i 0
off_before b h n i lt = take_before (over_closing b h n) (closed_end h n) i (omega (arith, lt)) ∙ over_beside b (end h n) (closing h n) i (inl (omega (arith, lt)))

pub off_kept : (file b : List ℕ) (h : Shape) (n : ℕ) → KeepsHead h file b → KeepsHead h file (cut_off b h n)
off_kept file b h n kept = λ i lt out. off_before b h n i lt ∙ kept i lt out

pub off_length : (b : List ℕ) (h : Shape) (n : ℕ) → length (cut_off b h n) ≡ closed_end h n
off_length b h n = length-take (closed_end h n) (over_closing b h n) ∙ omega (arith, length-over b (end h n) (closing h n))

module _ (file : List ℕ) (head : Shape) (bytes : All IsByte file) (opened : FileSays file head) (joined : is_adpcm head.params.codec ≡ true → 12 ≤ head.inner.size) (known : head.unknown_length ≡ false)
    (h : Shape) (shape : h ≡ recounted head h.frames h.declared) (rule : KeepsRule h) (free : h.trailing ≡ false) (n : ℕ) (fits : HasRoomFor head n) (ends : end h n + 8 ≤ 2 ^ 63) where
  apart : FieldsLieApart h
  apart = subst FieldsLieApart (sym shape) (fields_lie_apart file head h.frames h.declared opened).inner

  closed_kept : (b : List ℕ) → KeepsHead h file b → KeepsHead h file (closed b h n)
  closed_kept b kept = λ i lt out. closed_same b h n i (omega (arith, lt)) out ∙ kept i lt out

  sealed_before : (b : List ℕ) → end h n ≤ length b → (i : ℕ) → get_or (sealed b h n) i 0 ≡ get_or (with_fields (closed b h n) h n) i 0
  sealed_before b there i = ap (λ (l : List ℕ). get_or l i 0) (sealed_is b h n rule apart free (omega (arith, there, longer_closed b h n)))

  ends_there : end head n + 8 ≤ 2 ^ 63
  ends_there = subst (λ (s : Shape). end s n + 8 ≤ 2 ^ 63) shape ends

  pub sealed_says : (b : List ℕ) → KeepsHead h file b → end h n ≤ length b → FileSays (sealed b h n) (counted h n)
  sealed_says b kept there =
      fields_read_back file head bytes opened joined known (sealed b h n) (closed b h n) h n shape rule free fits ends_there (closed_kept b kept) (omega (arith, there, longer_closed b h n))
      (λ i lt. sealed_before b there i) (omega (arith, there, sealed_long b h n rule there))

  pub trimmed_says : (b : List ℕ) → KeepsHead h file b → end h n ≤ length b → FileSays (cut_off (sealed b h n) h n) (counted h n)
  trimmed_says b kept there =
      fields_read_back file head bytes opened joined known (cut_off (sealed b h n) h n) (closed b h n) h n shape rule free fits ends_there (closed_kept b kept) (omega (arith, there, longer_closed b h n))
      (λ i lt. off_before (sealed b h n) h n i lt ∙ sealed_before b there i) (omega (arith, off_length (sealed b h n) h n))

  pub shrunk_says : (b : List ℕ) → KeepsHead h file b → end h n ≤ length b → FileSays (shrunk b h n) (counted h n)
  shrunk_says b kept there =
      fields_read_back file head bytes opened joined known (shrunk b h n) b h n shape rule free fits ends_there kept (omega (arith, there))
      (λ i lt. take_before (over_closing (with_fewer b h n) h n) (closed_end h n) i (omega (arith, lt)) ∙ over_beside (with_fewer b h n) (end h n) (closing h n) i (inl (omega (arith, lt)))
      ∙ ap (λ (l : List ℕ). get_or l i 0) (order_is_free b h n rule apart (omega (arith, there))))
      (omega (arith, shrunk_length b h n rule there))

-- ---- where editing begins

-- a state in which editing begins, and the layout of its file
pub record Begins (b : List ℕ) (e : Editing) : Type 0 where
  pub layout : Shape
  pub opened : layout_of b ≡ Ok layout
  pub is : first_editing b layout ≡ e

module _ (b : List ℕ) (e : Editing) where
  opening_begins : opening_of b ≡ Ok e → Begins b e
  unfolding opening_of
  opening_begins is = by_layout (layout_of b) refl is
    where
      by_layout : (r : Result Shape OpenRefusal) → layout_of b ≡ r → opening_as b r ≡ Ok e → Begins b e
      by_layout (Err refusal) found given = absurd (cc)
      by_layout (Ok s) found given = let same : ◌≡◌ {A = Result Editing OpenRefusal} (Ok (first_editing b s)) (Ok e) = given in record { layout = s; opened = found; is = cc }

  pub updating_begins : updating_of b ≡ Ok e → (from : Begins b e) × (is_adpcm from.layout.params.codec ≡ false) × (from.layout.unknown_length ≡ false)
  unfolding updating_of
  updating_begins is = by_layout (layout_of b) refl is
    where
      by_layout : (r : Result Shape OpenRefusal) → layout_of b ≡ r → updating_as b r ≡ Ok e → (from : Begins b e) × (is_adpcm from.layout.params.codec ≡ false) × (from.layout.unknown_length ≡ false)
      by_layout (Err refusal) found given = absurd (cc)
      by_layout (Ok s) found given = elim (cases_Bool (is_adpcm s.params.codec)) [
        | inl blocks ↦ absurd (let h = rw blocks at given in cc)
        | inr whole ↦ elim (cases_Bool s.unknown_length) [
          | inl open_end ↦ absurd (let h = rw (whole, open_end) at given in cc)
          | inr known ↦
              let same : ◌≡◌ {A = Result Editing OpenError} (Ok (first_editing b s)) (Ok e) = sym (update_ok b s found whole known) ∙ is in
              (record { layout = s; opened = found; is = cc }, whole, known)
        ]
      ]

module _ (b : List ℕ) (s : Shape) (bytes : All IsByte b) (opened : layout_of b ≡ Ok s) where
  first_says : FileSays b s
  first_says = record { goes_on = s.trailing; told = opened; same = inr refl }

  lies : LiesIn b s
  lies = lies_in b s bytes first_says

  first_holds : HoldsFrames (first_editing b s)
  first_holds = record { sound = refl; count = count_any b s s.kind lies.rule.fits lies.params lies.held; held = lies.held; placed = omega arith }

  pub first_keeps : HasRoomFor s s.frames → (is_adpcm s.params.codec ≡ true → 12 ≤ s.inner.size) → s.unknown_length ≡ false → KeepsFile b (first_editing b s)
  first_keeps room joined known = record {
    head = s;
    bytes = bytes;
    opened = first_says;
    known = known;
    joined = joined;
    shape = refl;
    rule = lies.rule;
    kept = λ i lt out. refl;
    stays = λ trailing. record { opened = opened; shape = refl; size = refl; behind = λ i behind. refl };
    holds = first_holds;
    room = room;
    told = λ either. first_says;
  }

  pub first_is_edited : is_none (fixed_of s.params.codec) ≡ false → s.unknown_length ≡ false → IsEdited b (first_editing b s)
  first_is_edited linear known = record {
    keeps = first_keeps (room_by s s.frames linear (lies.rule.in_room known) lies.rule.data_end) (not_joined s linear) known;
    linear = linear;
    write_placed = omega arith;
  }

pub opened_holds_frames : OpenedHoldsFrames
opened_holds_frames b e bytes is =
    let from = opening_begins b e is in
    subst HoldsFrames from.is (first_holds b from.layout bytes from.opened)

pub updated_is_edited : UpdatedIsEdited
updated_is_edited b e bytes is =
    let from = updating_begins b e is in
    subst (IsEdited b) from.0.is (first_is_edited b from.0.layout bytes from.0.opened (is_fixed from.0.layout.params.codec from.1) from.2)

-- ---- the file sealed

module _ (file : List ℕ) (e : Editing) (of : KeepsFile file e) where
  abbrev h : Shape
  h = e.shape

  pub lies_under : LiesIn file of.head
  lies_under = lies_in file of.head of.bytes of.opened

  pub is_known : h.unknown_length ≡ false
  is_known = ap (λ (s : Shape). s.unknown_length) of.shape ∙ of.known

  pub is_joined : is_adpcm h.params.codec ≡ true → 12 ≤ h.inner.size
  is_joined = subst (λ (s : Shape). is_adpcm s.params.codec ≡ true → 12 ≤ s.inner.size) (sym of.shape) of.joined

  pub has_room : HasRoomFor h h.frames
  has_room = record {
    in_room = of.rule.in_room is_known;
    on_disk = omega (arith, of.rule.data_end);
    counted = subst (λ (s : Shape). s.kind ≡ Wave → is_adpcm s.params.codec ≡ true → h.frames < 2 ^ 32) (sym of.shape) of.room.counted;
  }

  pub some_channel : 1 ≤ h.params.channels
  some_channel = subst (λ (s : Shape). 1 ≤ s.params.channels) (sym of.shape) lies_under.params.some_channel

  pub room_ends : h.start + room h + 8 ≤ 2 ^ 63
  room_ends = subst (λ (s : Shape). s.start + room s + 8 ≤ 2 ^ 63) (sym of.shape) lies_under.room_ends

  -- where it goes on behind its data, the sealed file is the file
  as_it_was : h.trailing ≡ true → FileSays (sealed e.bytes h h.frames) (counted h h.frames)
  as_it_was is = subst (λ (b : List ℕ). FileSays b (counted h h.frames)) (sym (sealed_same e.bytes h h.frames is)) (subst (FileSays e.bytes) (sym (counted_stays h is)) (of.told (inr is)))

  pub sealed_told : FileSays (sealed e.bytes h h.frames) (counted h h.frames)
  sealed_told = elim (cases_Bool h.trailing) [
    | inl is ↦ as_it_was is
    | inr free ↦ sealed_says file of.head of.bytes of.opened of.joined of.known h of.shape of.rule free h.frames of.room of.rule.data_end e.bytes of.kept of.holds.held
  ]

  sealed_holds : HoldsFrames (sealed_to e)
  sealed_holds =
      let long : end h h.frames ≤ length (sealed e.bytes h h.frames) = omega (arith, of.holds.held, sealed_long e.bytes h h.frames of.rule of.holds.held) in
      record {
        sound = of.holds.sound ∙ sealed_decoded e.bytes h of.rule of.holds.held long;
        count = of.holds.count;
        held = long;
        placed = of.holds.placed;
      }

  pub automatic_keeps : (on : Bool) → KeepsFile file (automatic_to on e)
  automatic_keeps on =
      let holds = sealed_holds in
      record {
        head = of.head;
        bytes = of.bytes;
        opened = of.opened;
        known = of.known;
        joined = of.joined;
        shape = ap (λ (s : Shape). record s { declared = (counted h h.frames).declared }) of.shape;
        rule = counted_rule h h.frames of.rule is_known of.rule.data_end (λ trailing. refl);
        kept = sealed_kept file e.bytes h h.frames of.rule of.kept;
        stays = λ trailing.
            let tail = of.stays trailing in
            let same : sealed e.bytes h h.frames ≡ e.bytes = sealed_same e.bytes h h.frames trailing in
            record { opened = tail.opened; shape = counted_stays h trailing ∙ tail.shape; size = ap length same ∙ tail.size; behind = λ i behind. ap (λ (l : List ℕ). get_or l i 0) same ∙ tail.behind i behind };
        holds = record { sound = holds.sound; count = holds.count; held = holds.held; placed = holds.placed };
        room = of.room;
        told = λ either. sealed_told;
      }

pub sealed_keeps_file : (file : List ℕ) (e : Editing) → KeepsFile file e → KeepsFile file (sealed_to e)
sealed_keeps_file file e of = automatic_keeps file e of e.automatic

-- ---- states whose samples have bytes of their own

module _ (file : List ℕ) (e : Editing) (ed : IsEdited file e) where
  pub is_linear : is_none (fixed_of e.shape.params.codec) ≡ false
  is_linear = ed.linear

  pub head_linear : is_none (fixed_of ed.keeps.head.params.codec) ≡ false
  head_linear = sym (ap (λ (s : Shape). is_none (fixed_of s.params.codec)) ed.keeps.shape) ∙ ed.linear

  -- the frames are those of the bytes
  pub now_decoded : e.frames ≡ decoded e.shape.params (sound_bytes e.bytes e.shape)
  now_decoded = ed.keeps.holds.sound ∙ frames_fixed e.bytes e.shape is_linear

  pub automatic_edited : (on : Bool) → IsEdited file (automatic_to on e)
  automatic_edited on = record { keeps = automatic_keeps file e ed.keeps on; linear = ed.linear; write_placed = ed.write_placed }

pub sealed_is_edited : (file : List ℕ) (e : Editing) → IsEdited file e → IsEdited file (sealed_to e)
sealed_is_edited file e ed = automatic_edited file e ed e.automatic

-- what the bytes say that say what the state does
pub opens_again : (file : List ℕ) (e : Editing) (ed : IsEdited file e) → FileSays e.bytes e.shape → OpensAgain e
opens_again file e ed says =
    let linear = is_linear file e ed in
    let t = says.goes_on in
    let s = record e.shape { trailing = t } in
    let first : first_editing e.bytes s ≡ as_opened (going_on t e) = ap (λ l. record (as_opened (going_on t e)) { frames = l }) (sym ed.keeps.holds.sound) in
    record {
      goes_on = t;
      opens = opening_ok e.bytes s says.told ∙ ap (λ (g : Editing). Ok g) first;
      updates = update_ok e.bytes s says.told (not_adpcm e.shape.params.codec linear) (is_known file e ed.keeps) ∙ ap (λ (g : Editing). Ok g) first;
      same = says.same;
    }

pub sealed_reads_back : SealedReadsBack
sealed_reads_back file e ed = opens_again file (sealed_to e) (sealed_is_edited file e ed) (sealed_told file e ed.keeps)

pub automatic_reads_back : AutomaticReadsBack
automatic_reads_back file e ed on = opens_again file e ed (ed.keeps.told (inl on))

-- what a state owes its file hangs neither on the frame to write next nor on the numbers that were given
pub keeps_beside : (file : List ℕ) (e : Editing) (of : KeepsFile file e) (place write_place : ℕ) (written : Bool) (given : List ℤ) → place ≤ e.shape.frames
    → KeepsFile file (record e { place = place; write_place = write_place; written = written; given = given })
keeps_beside file e of place write_place written given within = record {
  head = of.head;
  bytes = of.bytes;
  opened = of.opened;
  known = of.known;
  joined = of.joined;
  shape = of.shape;
  rule = of.rule;
  kept = of.kept;
  stays = λ trailing. let tail = of.stays trailing in record { opened = tail.opened; shape = tail.shape; size = tail.size; behind = tail.behind };
  holds = record { sound = of.holds.sound; count = of.holds.count; held = of.holds.held; placed = within };
  room = of.room;
  told = of.told;
}

module _ (file : List ℕ) (e : Editing) (ed : IsEdited file e) (to : ℕ) (within : to ≤ e.shape.frames) where
  pub moved_edited : IsEdited file (moved_to to e)
  moved_edited = record { keeps = keeps_beside file e ed.keeps to e.write_place e.written e.given within; linear = ed.linear; write_placed = ed.write_placed }

  pub moved_write_edited : IsEdited file (moved_write_to to e)
  moved_write_edited = record { keeps = keeps_beside file e ed.keeps e.place to e.written e.given ed.keeps.holds.placed; linear = ed.linear; write_placed = within }
