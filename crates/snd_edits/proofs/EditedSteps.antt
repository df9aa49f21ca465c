-- The steps of editing keep what an edited file owes the file that was opened or made.
use Rattle.std.proofs.Common.{◌≡◌, ◌⊎◌, ◌∙◌, ap, sym, subst, refl, inl, inr, ⊎_elim, ℕ, ◌+◌, ◌*◌, ◌/◌, ◌^◌, ◌<◌, ◌≤◌, ℤ, Bool, true, false, ◌||◌, cond, List, length, take, get_or, max, arith}
use Rattle.std.specs.Prelude.{nat_lt}
use Rattle.std.proofs.lemmas.Bool.{cases_Bool, cases_lt, cond_both, le-ltb, ltb-true}
use Rattle.std.proofs.lemmas.List.{length-take}
use Rattle.snd_container.proofs.Public.{declares, outside, voice}
use Rattle.snd_container.specs.Laws.{FileSays}
use Rattle.snd_container.specs.Sound.{kept_numbers}
use Rattle.snd_container.specs.Values.{closed_end, closing}
use Rattle.snd_disk.proofs.Public.{length-over}
use Rattle.snd_layout.specs.Params.{AreParams, data_bytes}
use Rattle.snd_layout.specs.Shape.{KeepsRule, Shape, end, room}
use Rattle.snd_layout.specs.declared.kind.Kind.TheVariants.{Voc}
use Rattle.snd_patch.proofs.Public.{over_beside, shrunk_length}
use Rattle.snd_patch.specs.Sealed.{counted, over_closing, sealed, shrunk}
use Rattle.snd_layout.specs.Container.{HasRoomFor, KeepsHead}
use Rattle.snd_pcm.specs.Groups.{groups}
use Rattle.snd_edits.specs.Editing.{Editing}
use Rattle.snd_edits.specs.Edits.{closed_behind, coded, count_written, cut_off, cut_to, over_data, put_frames, sealed_to, trimmed, trimmed_to, truncated_to, written_bytes, written_shape}
use Rattle.snd_edits.specs.Laws.{HoldsFrames, IsEdited, KeepsFile, LeadsToEdited, MayTruncate, ReachedIsEdited, begins, goes_on, reads, seals, seeks, seeks_to_write, sets_automatic, trims, truncates, writes}
use Rattle.snd_edits.specs.WriteCalls.{MayWrite}
use Rattle.snd_edits.proofs.CutFrames.{cut_decoded, may_count_fewer, off_decoded}
use Rattle.snd_edits.proofs.FileRules.{going_on_rule, says_either}
use Rattle.snd_edits.proofs.EditedFiles.{automatic_edited, counted_rule, counted_stays, head_linear, is_known, is_linear, lies_under, moved_edited, moved_write_edited, off_before, off_kept, off_length, room_ends, sealed_is_edited, sealed_kept, sealed_long, sealed_same, sealed_says, shrunk_kept, shrunk_says, some_channel, trimmed_says, updated_is_edited}
use Rattle.snd_edits.proofs.EditedFrames.{CanPut, end_max, whole_frames, written_count, written_end, written_sound}
use Rattle.snd_edits.proofs.Rooms.{may_count, room_by}
use Rattle.snd_edits.proofs.SealedFrames.{sealed_decoded}
use Rattle.snd_edits.proofs.Sealing.{ends_before}

module _ (file : List ℕ) (e : Editing) (ed : IsEdited file e) where
  abbrev h : Shape
  h = e.shape

  data_is : (n : ℕ) → data_bytes h.params n ≡ data_bytes ed.keeps.head.params n
  data_is n = ap (λ (s : Shape). data_bytes s.params n) ed.keeps.shape

  room_is : room h ≡ room ed.keeps.head
  room_is = ap room ed.keeps.shape

  -- ---- frames cut off

  -- the data of fewer frames are there, and have room
  pub may_cut : (to : ℕ) → to < h.frames → (end h to ≤ length e.bytes) × (data_bytes ed.keeps.head.params to ≤ max (room ed.keeps.head) ed.keeps.head.declared)
  may_cut to fewer =
      let before : end h to ≤ end h h.frames = ends_before h to h.frames (is_linear file e ed) (omega (arith, fewer)) in
      (omega (arith, before, ed.keeps.holds.held), omega (arith, before, data_is to, data_is h.frames, ed.keeps.room.in_room))

  pub cut_edited : (to : ℕ) → to < h.frames → h.trailing ≡ false → IsEdited file (cut_to to e)
  cut_edited to fewer free =
      let linear = is_linear file e ed in
      let known = is_known file e ed.keeps in
      let within : to ≤ h.frames = omega (arith, fewer) in
      let there = (may_cut to fewer).0 in
      let size : length (shrunk e.bytes h to) ≡ closed_end h to = shrunk_length e.bytes h to ed.keeps.rule there in
      let few = (may_cut to fewer).1 in
      let ends : end h to + 8 ≤ 2 ^ 63 = (may_count_fewer h to ed.keeps.rule linear known (room_ends file e ed.keeps) within).1 in
      let room : HasRoomFor ed.keeps.head to = room_by ed.keeps.head to (head_linear file e ed) few (subst (λ (s : Shape). end s to + 8 ≤ 2 ^ 63) ed.keeps.shape ends) in
      let keeps : KeepsFile file (cut_to to e) = record {
        head = ed.keeps.head;
        bytes = ed.keeps.bytes;
        opened = ed.keeps.opened;
        known = ed.keeps.known;
        joined = ed.keeps.joined;
        shape = ap (λ (s : Shape). record s { frames = to; declared = (counted h to).declared }) ed.keeps.shape;
        rule = counted_rule h to ed.keeps.rule known ends (λ trailing. absurd (cc));
        kept = shrunk_kept file e.bytes h to ed.keeps.rule ed.keeps.kept;
        stays = λ trailing. absurd (cc);
        holds = record {
          sound = ap (take to) ed.keeps.holds.sound ∙ cut_decoded e.bytes h to linear ed.keeps.rule (some_channel file e ed.keeps) within ed.keeps.holds.held (omega (arith, size));
          count = let all : to ≡ length (take to e.frames) = omega (arith, length-take to e.frames, ed.keeps.holds.count, within) in all;
          held = omega (arith, size);
          placed = omega arith;
        };
        room = room;
        told = λ either. shrunk_says file ed.keeps.head ed.keeps.bytes ed.keeps.opened ed.keeps.joined ed.keeps.known h ed.keeps.shape ed.keeps.rule free to room ends e.bytes ed.keeps.kept there;
      } in
      record { keeps = keeps; linear = ed.linear; write_placed = omega arith }

  -- ---- all behind the data cut off

  trimmed_free : h.trailing ≡ false → IsEdited file (record e { bytes = trimmed e.bytes h h.frames; shape = counted h h.frames })
  trimmed_free free =
      let long = sealed_long e.bytes h h.frames ed.keeps.rule ed.keeps.holds.held in
      let there : end h h.frames ≤ length (sealed e.bytes h h.frames) = omega (arith, long, ed.keeps.holds.held) in
      let size : length (trimmed e.bytes h h.frames) ≡ closed_end h h.frames = off_length (sealed e.bytes h h.frames) h h.frames in
      let keeps : KeepsFile file (record e { bytes = trimmed e.bytes h h.frames; shape = counted h h.frames }) = record {
        head = ed.keeps.head;
        bytes = ed.keeps.bytes;
        opened = ed.keeps.opened;
        known = ed.keeps.known;
        joined = ed.keeps.joined;
        shape = ap (λ (s : Shape). record s { declared = (counted h h.frames).declared }) ed.keeps.shape;
        rule = counted_rule h h.frames ed.keeps.rule (is_known file e ed.keeps) ed.keeps.rule.data_end (λ trailing. refl);
        kept = off_kept file (sealed e.bytes h h.frames) h h.frames (sealed_kept file e.bytes h h.frames ed.keeps.rule ed.keeps.kept);
        stays = λ trailing. absurd (cc);
        holds = record {
          sound = ed.keeps.holds.sound ∙ sealed_decoded e.bytes h ed.keeps.rule ed.keeps.holds.held there ∙ off_decoded (sealed e.bytes h h.frames) h ed.keeps.rule there (omega (arith, size));
          count = ed.keeps.holds.count;
          held = omega (arith, size);
          placed = ed.keeps.holds.placed;
        };
        room = ed.keeps.room;
        told = λ either. trimmed_says file ed.keeps.head ed.keeps.bytes ed.keeps.opened ed.keeps.joined ed.keeps.known h ed.keeps.shape ed.keeps.rule free h.frames ed.keeps.room ed.keeps.rule.data_end e.bytes ed.keeps.kept ed.keeps.holds.held;
      } in
      record { keeps = keeps; linear = ed.linear; write_placed = ed.write_placed }

  -- a Creative Voice file that goes on behind its data: the head stays as it is
  module _ (goes_on : h.trailing ≡ true) (voc : h.kind ≡ Voc) where
    abbrev cut : List ℕ
    cut = cut_off e.bytes h h.frames

    cut_size : length cut ≡ closed_end h h.frames
    cut_size = off_length e.bytes h h.frames

    -- its head declares no whole frame more than it has
    pub few_declared : h.declared < data_bytes h.params (h.frames + 1)
    few_declared =
        let tail = ed.keeps.stays goes_on in
        let same = tail.shape in
        subst (λ (s : Shape). s.declared < data_bytes s.params (s.frames + 1)) (sym same)
        ((declares ed.keeps.head.kind file ed.keeps.head tail.opened (subst (λ (s : Shape). s.kind ≡ Voc) same voc)).0 ed.keeps.bytes (subst (λ (s : Shape). s.trailing ≡ true) same goes_on))

    pub cut_says : FileSays cut (record h { trailing = false })
    cut_says =
        let says = voice h.kind e.bytes cut h (ed.keeps.told (inr goes_on)) voc few_declared (omega (arith, cut_size)) (λ i lt. off_before e.bytes h h.frames i lt) in
        says_either cut h false says voc

    cut_behind_keeps : KeepsFile file (record e { bytes = cut; shape = record h { trailing = false } })
    cut_behind_keeps = record {
      head = record ed.keeps.head { trailing = false };
      bytes = ed.keeps.bytes;
      opened = says_either file ed.keeps.head false ed.keeps.opened (ap (λ (s : Shape). s.kind) (sym ed.keeps.shape) ∙ voc);
      known = ed.keeps.known;
      joined = ed.keeps.joined;
      shape = ap (λ (s : Shape). record s { trailing = false }) ed.keeps.shape;
      rule = going_on_rule h false ed.keeps.rule;
      kept = off_kept file e.bytes h h.frames ed.keeps.kept;
      stays = λ trailing. absurd (cc);
      holds = record {
        sound = ed.keeps.holds.sound ∙ off_decoded e.bytes h ed.keeps.rule ed.keeps.holds.held (omega (arith, cut_size));
        count = ed.keeps.holds.count;
        held = omega (arith, cut_size);
        placed = ed.keeps.holds.placed;
      };
      room = record { in_room = ed.keeps.room.in_room; on_disk = ed.keeps.room.on_disk; counted = ed.keeps.room.counted };
      told = λ either. cut_says;
    }

    pub cut_behind_edited : IsEdited file (record e { bytes = cut; shape = record h { trailing = false } })
    cut_behind_edited = record { keeps = cut_behind_keeps; linear = ed.linear; write_placed = ed.write_placed }

    -- sealing leaves it as it is
    pub trimmed_voice : record e { bytes = cut; shape = record h { trailing = false } } ≡ trimmed_to e
    trimmed_voice =
        ap (λ (b : List ℕ). record e { bytes = cut_off b h h.frames; shape = record h { trailing = false } }) (sym (sealed_same e.bytes h h.frames goes_on))
        ∙ ap (λ (s : Shape). record e { bytes = trimmed e.bytes h h.frames; shape = record s { trailing = false } }) (sym (counted_stays h goes_on))

truncated_is_edited : (file : List ℕ) (e : Editing) (to : ℕ) → IsEdited file e → MayTruncate to e.shape → IsEdited file (truncated_to to e)
truncated_is_edited file e to ed may =
    cond_both (nat_lt to e.shape.frames) (cut_to to e) (sealed_to e) (IsEdited file)
    (λ is. let fewer = ltb-true to e.shape.frames is in cut_edited file e ed to fewer (may.free fewer))
    (λ other. sealed_is_edited file e ed)

trimmed_is_edited : (file : List ℕ) (e : Editing) → IsEdited file e → (e.shape.trailing ≡ true → e.shape.kind ≡ Voc) → IsEdited file (trimmed_to e)
trimmed_is_edited file e ed may = elim (cases_Bool e.shape.trailing) [
  | inl trails ↦ subst (IsEdited file) (trimmed_voice file e ed trails (may trails)) (cut_behind_edited file e ed trails (may trails))
  | inr free ↦
      subst (λ (s : Shape). IsEdited file (record e { bytes = trimmed e.bytes e.shape e.shape.frames; shape = s }))
      (ap (λ (t : Bool). record (counted e.shape e.shape.frames) { trailing = t }) free) (trimmed_free file e ed free)
]

-- ---- frames written

-- a layout with more frames, of which the head does not say
pub more_frames : (h : Shape) (n : ℕ) → KeepsRule h → h.unknown_length ≡ false → end h n + 8 ≤ 2 ^ 63 → (n ≡ h.frames) ⊎ (data_bytes h.params n ≤ room h) → KeepsRule (record h { frames = n })
more_frames h n rule known ends grows = record {
  fits = rule.fits;
  inner_size = rule.inner_size;
  outer_size = rule.outer_size;
  side_size = rule.side_size;
  inner_end = rule.inner_end;
  outer_end = rule.outer_end;
  side_end = rule.side_end;
  sound_start = rule.sound_start;
  pieces_placed = rule.pieces_placed;
  data_end = ends;
  in_room = λ open_end. ⊎_elim (λ same. subst (λ (m : ℕ). data_bytes h.params m ≤ max (room h) h.declared) (sym same) (rule.in_room known)) (λ few. omega (arith, few)) grows;
  declared_fits = rule.declared_fits;
  reserved = rule.reserved;
}

module _ (file : List ℕ) (e : Editing) (ed : IsEdited file e) (xs : List ℤ) (may : MayWrite xs e.shape e.write_place) where
  abbrev s : Shape
  s = e.shape

  abbrev w : ℕ
  w = e.write_place

  abbrev k : ℕ
  k = length xs / s.params.channels

  abbrev n : ℕ
  n = count_written s w k

  -- the bytes with the frames over the data, and then with what closes these
  abbrev put : List ℕ
  put = over_data e.bytes s w xs

  abbrev shut : List ℕ
  shut = closed_behind put s n

  whole : length xs ≡ s.params.channels * k
  whole = whole_frames (length xs) s.params.channels k (some_channel file e ed.keeps) may.frames.whole refl

  pub grows : (n ≡ s.frames) ⊎ (data_bytes s.params n ≤ room s)
  grows = elim (cases_lt s.frames (w + k)) [
    | inl lt ↦ let last : w + k ≡ n = omega (arith, lt) in inr (subst (λ (m : ℕ). data_bytes s.params m ≤ room s) last (may.in_room lt))
    | inr le ↦ inl (omega (arith, le))
  ]

  pub stays : s.trailing ≡ true → n ≡ s.frames
  stays trailing = elim (cases_lt s.frames (w + k)) [
    | inl lt ↦ absurd (let free : s.trailing ≡ false = may.free lt in cc)
    | inr le ↦ omega (arith, le)
  ]

  ends : end s n + 8 ≤ 2 ^ 63
  ends = (may_count s n ed.keeps.rule (is_linear file e ed) (is_known file e ed.keeps) (room_ends file e ed.keeps) grows).1

  pub last_end : end s w + length (coded s.params xs) ≡ end s (w + k)
  last_end = written_end s xs w k (is_linear file e ed) whole

  put_length : length put ≡ max (length e.bytes) (end s (w + k))
  put_length = length-over e.bytes (end s w) (coded s.params xs) ∙ omega (arith, last_end)

  put_there : end s n ≤ length put
  put_there = omega (arith, put_length, end_max s s.frames (w + k), ed.keeps.holds.held)

  pub shut_longer : length put ≤ length shut
  shut_longer = cond_both (nat_lt s.frames n) (over_closing put s n) put (λ x. length put ≤ length x) (λ is. omega (arith, length-over put (end s n) (closing s n))) (λ other. omega arith)

  pub shut_there : end s n ≤ length shut
  shut_there = omega (arith, put_there, shut_longer)

  -- what stands before the data stays
  put_before : (i : ℕ) → i < s.start → get_or put i 0 ≡ get_or e.bytes i 0
  put_before i lt = over_beside e.bytes (end s w) (coded s.params xs) i (inl (omega (arith, lt)))

  pub shut_before : (i : ℕ) → i < s.start → get_or shut i 0 ≡ get_or e.bytes i 0
  shut_before i lt =
      cond_both (nat_lt s.frames n) (over_closing put s n) put (λ x. get_or x i 0 ≡ get_or put i 0) (λ is. over_beside put (end s n) (closing s n) i (inl (omega (arith, lt)))) (λ other. refl)
      ∙ put_before i lt

  pub shut_kept : KeepsHead s file shut
  shut_kept = λ i lt out. shut_before i lt ∙ ed.keeps.kept i lt out

  pub few : data_bytes ed.keeps.head.params n ≤ max (room ed.keeps.head) ed.keeps.head.declared
  few = ⊎_elim (λ same. subst (λ (m : ℕ). data_bytes ed.keeps.head.params m ≤ max (room ed.keeps.head) ed.keeps.head.declared) (sym same) ed.keeps.room.in_room)
      (λ fits. omega (arith, fits, data_is file e ed n, room_is file e ed)) grows

  -- where the file goes on behind its data only these change
  put_size : s.trailing ≡ true → length put ≡ length e.bytes
  put_size trailing =
      let before : end s (w + k) ≤ end s s.frames = ends_before s (w + k) s.frames (is_linear file e ed) (omega (arith, stays trailing)) in
      omega (arith, put_length, before, ed.keeps.holds.held)

  put_behind : s.trailing ≡ true → (i : ℕ) → end s s.frames ≤ i → get_or put i 0 ≡ get_or e.bytes i 0
  put_behind trailing i behind =
      let before : end s (w + k) ≤ end s s.frames = ends_before s (w + k) s.frames (is_linear file e ed) (omega (arith, stays trailing)) in
      over_beside e.bytes (end s w) (coded s.params xs) i (inr (omega (arith, last_end, before, behind)))

  put_says : s.trailing ≡ true → FileSays put s
  put_says trailing =
      let good : AreParams s.params = subst (λ (h : Shape). AreParams h.params) (sym ed.keeps.shape) (lies_under file e ed.keeps).params in
      let says = ed.keeps.told (inr trailing) in
      let told = outside s.kind e.bytes put (record s { trailing = says.goes_on }) says.told good (put_size trailing) (λ i place. ⊎_elim (λ early. put_before i early) (λ late. put_behind trailing i late) place) in
      record { goes_on = says.goes_on; told = told; same = says.same }

  shut_same : s.trailing ≡ true → shut ≡ put
  shut_same trailing = ap (λ (t : Bool). cond t (over_closing put s n) put) (le-ltb s.frames n (omega (arith, stays trailing)))

  shut_says : s.trailing ≡ true → FileSays shut s
  shut_says trailing = subst (λ (b : List ℕ). FileSays b s) (sym (shut_same trailing)) (put_says trailing)

  pub shut_size : s.trailing ≡ true → length shut ≡ length e.bytes
  shut_size trailing = ap length (shut_same trailing) ∙ put_size trailing

  pub shut_behind : s.trailing ≡ true → (i : ℕ) → end s s.frames ≤ i → get_or shut i 0 ≡ get_or e.bytes i 0
  shut_behind trailing i behind = ap (λ (l : List ℕ). get_or l i 0) (shut_same trailing) ∙ put_behind trailing i behind

  shut_stays : s.trailing ≡ true → (length shut ≡ length file) × ((i : ℕ) → end ed.keeps.head ed.keeps.head.frames ≤ i → get_or shut i 0 ≡ get_or file i 0)
  shut_stays trailing =
      let tail = ed.keeps.stays trailing in
      let same : end s s.frames ≡ end ed.keeps.head ed.keeps.head.frames = ap (λ (h : Shape). end h h.frames) tail.shape in
      (shut_size trailing ∙ tail.size, λ i behind. shut_behind trailing i (omega (arith, same, behind)) ∙ tail.behind i behind)

  room_then : HasRoomFor ed.keeps.head n
  room_then = room_by ed.keeps.head n (head_linear file e ed) few (subst (λ (h : Shape). end h n + 8 ≤ 2 ^ 63) ed.keeps.shape ends)

  sealed_said : FileSays (sealed shut s n) (counted s n)
  sealed_said = elim (cases_Bool s.trailing) [
    | inl trailing ↦
        subst (λ (b : List ℕ). FileSays b (counted s n)) (sym (sealed_same shut s n trailing)) (subst (FileSays shut) (sym (ap (counted s) (stays trailing) ∙ counted_stays s trailing)) (shut_says trailing))
    | inr free ↦ sealed_says file ed.keeps.head ed.keeps.bytes ed.keeps.opened ed.keeps.joined ed.keeps.known s ed.keeps.shape ed.keeps.rule free n room_then ends shut shut_kept shut_there
  ]

  -- the state then, where each write seals the file or none does
  abbrev pub then : Bool → Editing
  then t = record {
    bytes = written_bytes t e.bytes s w n xs;
    shape = written_shape t s n;
    frames = put_frames e.frames w (groups s.params.channels (kept_numbers s.params xs));
    place = e.place;
    write_place = w + k;
    automatic = t;
    written = e.written || nat_lt 0 k;
    given = e.given;
  }

  can : CanPut s e.bytes w k xs
  can = record { rule = ed.keeps.rule; linear = is_linear file e ed; some = some_channel file e ed.keeps; fits = ed.keeps.holds.held; within = ed.write_placed; whole = whole; fit = may.frames.in_range }

  then_holds : (t : Bool) → end s n ≤ length (written_bytes t e.bytes s w n xs) → (written_shape t s n).frames ≡ n → end (written_shape t s n) n ≡ end s n → HoldsFrames (then t)
  then_holds t long frames same = record {
    sound = written_sound (record e { automatic = t }) k xs can ed.keeps.holds.sound long;
    count = written_count (record e { automatic = t }) k xs can ed.keeps.holds.count;
    held = subst (λ (m : ℕ). end (written_shape t s n) m ≤ length (written_bytes t e.bytes s w n xs)) (sym frames) (omega (arith, same, long));
    placed = omega (arith, frames, ed.keeps.holds.placed);
  }

  then_keeps : (t : Bool) → KeepsFile file (then t)
  then_keeps true = record {
    head = ed.keeps.head;
    bytes = ed.keeps.bytes;
    opened = ed.keeps.opened;
    known = ed.keeps.known;
    joined = ed.keeps.joined;
    shape = ap (λ (h : Shape). record h { frames = n; declared = (counted s n).declared }) ed.keeps.shape;
    rule = counted_rule s n ed.keeps.rule (is_known file e ed.keeps) ends stays;
    kept = sealed_kept file shut s n ed.keeps.rule shut_kept;
    stays = λ trailing.
        let tail = shut_stays trailing in
        let same : sealed shut s n ≡ shut = sealed_same shut s n trailing in
        record {
          opened = (ed.keeps.stays trailing).opened;
          shape = ap (counted s) (stays trailing) ∙ counted_stays s trailing ∙ (ed.keeps.stays trailing).shape;
          size = ap length same ∙ tail.0;
          behind = λ i behind. ap (λ (l : List ℕ). get_or l i 0) same ∙ tail.1 i behind;
        };
    holds = then_holds true (omega (arith, shut_there, sealed_long shut s n ed.keeps.rule shut_there)) refl refl;
    room = room_then;
    told = λ either. sealed_said;
  }
  then_keeps false = record {
    head = ed.keeps.head;
    bytes = ed.keeps.bytes;
    opened = ed.keeps.opened;
    known = ed.keeps.known;
    joined = ed.keeps.joined;
    shape = ap (λ (h : Shape). record h { frames = n }) ed.keeps.shape;
    rule = more_frames s n ed.keeps.rule (is_known file e ed.keeps) ends grows;
    kept = shut_kept;
    stays = λ trailing.
        let tail = shut_stays trailing in
        record { opened = (ed.keeps.stays trailing).opened; shape = ap (λ (m : ℕ). record s { frames = m }) (stays trailing) ∙ (ed.keeps.stays trailing).shape; size = tail.0; behind = tail.1 };
    holds = then_holds false shut_there refl refl;
    room = room_then;
    told = ⊎_elim (λ never. absurd (cc)) (λ trailing. subst (λ (m : ℕ). FileSays shut (record s { frames = m })) (sym (stays trailing)) (shut_says trailing));
  }

  pub then_edited : (t : Bool) → IsEdited file (then t)
  then_edited true = record { keeps = then_keeps true; linear = ed.linear; write_placed = omega arith }
  then_edited false = record { keeps = then_keeps false; linear = ed.linear; write_placed = omega arith }

-- ---- each step, and all of them

pub leads_to_edited : LeadsToEdited
leads_to_edited file e _ ed (writes xs may) = then_edited file e ed xs may e.automatic
leads_to_edited file e _ ed seals = sealed_is_edited file e ed
leads_to_edited file e _ ed (sets_automatic on) = automatic_edited file e ed on
leads_to_edited file e _ ed (truncates to may) = truncated_is_edited file e to ed may
leads_to_edited file e _ ed (trims may) = trimmed_is_edited file e ed may
leads_to_edited file e _ ed (reads n within) = moved_edited file e ed (e.place + n) within
leads_to_edited file e _ ed (seeks to within) = moved_edited file e ed to within
leads_to_edited file e _ ed (seeks_to_write to within) = moved_write_edited file e ed to within

pub reached_is_edited : ReachedIsEdited
reached_is_edited file _ bytes (begins e is) = updated_is_edited file e bytes is
reached_is_edited file _ bytes (goes_on e e' so_far leads) = leads_to_edited file e e' (reached_is_edited file e bytes so_far) leads
