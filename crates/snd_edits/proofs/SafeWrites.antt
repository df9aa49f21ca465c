-- What a crash leaves while frames are written, and while the head is brought up to them, is safe.
use Rattle.std.proofs.Common.{◌≡◌, ◌∙◌, ap, sym, inl, inr, ⊎_elim, ℕ, ◌+◌, ◌/◌, ◌<◌, ◌≤◌, ℤ, false, true, List, All, length, max, get_or, arith}
use Rattle.std.proofs.lemmas.Bool.{cases_Bool}
use Rattle.std.specs.Prelude.{IfSome}
use Rattle.snd_layout.specs.Container.{KeepsHead}
use Rattle.snd_container.specs.Values.{closed_end, declared_end, inner_value, outer_reach, outer_value}
use Rattle.snd_container.specs.Laws.{FileSays}
use Rattle.snd_container.specs.Sound.{decoded, fixed_of}
use Rattle.snd_disk.proofs.Public.{length-over}
use Rattle.snd_fields.specs.Laws.{IsByte}
use Rattle.snd_layout.specs.Params.{data_bytes}
use Rattle.snd_layout.specs.Shape.{Shape, end}
use Rattle.snd_patch.specs.Images.{HasNew, HasOld, IsGrowing}
use Rattle.snd_patch.specs.Sealed.{SameBesideFields}
use Rattle.snd_block_writer.specs.Puts.{IsPartly}
use Rattle.snd_edits.specs.Editing.{Editing}
use Rattle.snd_edits.specs.Edits.{closed_behind, coded, count_written, over_data, written_to}
use Rattle.snd_edits.specs.Laws.{IsEdited}
use Rattle.snd_edits.specs.Safe.{IsFit, IsSafe, IsSized, acknowledged, frame_at}
use Rattle.snd_edits.specs.WriteCalls.{MayWrite}
use Rattle.snd_edits.proofs.AreBytes.{bytes_coded, bytes_over, bytes_shut}
use Rattle.snd_edits.proofs.EditedFiles.{is_known, is_linear, now_decoded, room_ends, some_channel}
use Rattle.snd_edits.proofs.EditedSteps.{grows, shut_before, shut_behind, shut_longer, shut_size, then_edited}
use Rattle.snd_edits.proofs.ImageFrames.{HasFrames, frames_in, same_frame, same_mixed}
use Rattle.snd_edits.proofs.ImageFields.{old_before, old_some_before, old_some_through, old_through}
use Rattle.snd_edits.proofs.ImageLayouts.{closed_declared, closed_more, data_changed, declared_more, inner_whole, new_count, old_count, outer_whole, reach_new, reach_sized, still_holds}
use Rattle.snd_edits.proofs.Overwritten.{data_beside, data_stay}
use Rattle.snd_edits.proofs.Rooms.{may_count}
use Rattle.snd_edits.proofs.SafeImages.{ImageSays, frames_by_place, frames_of, safe_mixed, safe_new}
use Rattle.snd_edits.proofs.Sealing.{ends_before}

module _ (opened : List ℕ) (e : Editing) (ed : IsEdited opened e) (fit : IsFit e) (xs : List ℤ) (may : MayWrite xs e.shape e.write_place) where
  abbrev h : Shape
  h = e.shape

  abbrev b : List ℕ
  b = e.bytes

  abbrev n : ℕ
  n = count_written h e.write_place (length xs / h.params.channels)

  -- the contents meant, but for the head
  abbrev c : List ℕ
  c = closed_behind (over_data b h e.write_place xs) h n

  abbrev new : Editing
  new = written_to xs e

  more : h.frames ≤ n
  more = omega arith

  before : (i : ℕ) → i < h.start → get_or c i 0 ≡ get_or b i 0
  before = shut_before opened e ed xs may

  ends : end h h.frames ≤ end h n
  ends = ends_before h h.frames n (is_linear opened e ed) more

  put_length : length (over_data b h e.write_place xs) ≡ max (length b) (end h e.write_place + length (coded h.params xs))
  put_length = length-over b (end h e.write_place) (coded h.params xs)

  longer : length b ≤ length c
  longer = omega (arith, shut_longer opened e ed xs may, put_length)

  are_bytes : All IsByte c
  are_bytes = bytes_shut (over_data b h e.write_place xs) h n (bytes_over b (end h e.write_place) (coded h.params xs) fit.bytes (bytes_coded (fixed_of h.params.codec) xs))

  has : HasFrames h
  has = record { linear = is_linear opened e ed; some = some_channel opened e ed.keeps }

  by_place : (m : ℕ) (x : List ℕ) (i : ℕ) → frame_at (frames_of h m x) i ≡ frame_at (frames_in h m x) i
  by_place m x i = ap (λ (l : List (List ℤ)). frame_at l i) (frames_by_place h m x has.linear)

  -- the frames that are meant
  frames_are : new.frames ≡ frames_in h n c
  frames_are = now_decoded opened _ (then_edited opened e ed xs may false)

  count : n ≡ acknowledged new
  count = (then_edited opened e ed xs may false).keeps.holds.count

  there : end h n ≤ length c
  there = (then_edited opened e ed xs may false).keeps.holds.held

  old_frames : (i : ℕ) → frame_at e.frames i ≡ frame_at (frames_in h h.frames b) i
  old_frames i = ap (λ (l : List (List ℤ)). frame_at l i) (now_decoded opened e ed)

  new_frames : (i : ℕ) → frame_at new.frames i ≡ frame_at (frames_in h n c) i
  new_frames i = ap (λ (l : List (List ℤ)). frame_at l i) frames_are

  -- ---- while frames are written

  module _ (sized : h.trailing ≡ false → IsSized e) (x : List ℕ) (part : IsPartly b c x) where
    x_before : (i : ℕ) → i < h.start → get_or x i 0 ≡ get_or b i 0
    x_before i lt = ⊎_elim (λ old. old) (λ put. put ∙ before i lt) (part.each i)

    x_size : h.trailing ≡ true → length x ≡ length b
    x_size goes_on = omega (arith, part.least, part.most, shut_size opened e ed xs may goes_on)

    x_behind : h.trailing ≡ true → (i : ℕ) → end h h.frames ≤ i → get_or x i 0 ≡ get_or b i 0
    x_behind goes_on i behind = ⊎_elim (λ old. old) (λ put. put ∙ shut_behind opened e ed xs may goes_on i behind) (part.each i)

    x_told : FileSays x h
    x_told = elim (cases_Bool h.trailing) [
      | inl goes_on ↦ data_changed opened e ed.keeps fit x (x_size goes_on) (λ i place. ⊎_elim (λ early. x_before i early) (λ late. x_behind goes_on i late) place)
      | inr free ↦
          let outer : IfSome h.outer (HasOld b x) = old_some_before h.outer h.start x b ed.keeps.rule.outer_end x_before in
          let inner : HasOld b x h.inner = old_before h.inner h.start x b ed.keeps.rule.inner_end x_before in
          let reach : outer_reach h x ≤ declared_end h = omega (arith, reach_sized opened e ed.keeps fit x (sized free) outer, closed_declared opened e ed.keeps fit h.frames (declared_more opened e ed.keeps fit)) in
          old_count opened e ed.keeps fit x free (still_holds opened e ed.keeps fit x free part.least) (λ i lt out. x_before i lt) inner reach
    ]

    -- a frame that is not written has the same numbers in each of its bytes' mixes
    x_stays : (i : ℕ) → i < h.frames → frame_at new.frames i ≡ frame_at e.frames i → frame_at (frames_in h h.frames x) i ≡ frame_at e.frames i
    x_stays i lt same =
        let held : end h h.frames ≤ length x = omega (arith, ed.keeps.holds.held, part.least) in
        let numbers : frame_at (frames_in h h.frames b) i ≡ frame_at (frames_in h n c) i = sym (old_frames i) ∙ sym same ∙ new_frames i in
        same_mixed h has h.frames n i b c x lt (omega (arith, lt, more)) ed.keeps.holds.held there held fit.bytes are_bytes numbers (λ j from to. part.each j) ∙ sym (old_frames i)

    pub written_safe : IsSafe e new x
    written_safe =
        let says : ImageSays opened e x h.frames h.declared = record {
          keeps = ed.keeps;
          told = x_told;
          kept = λ i lt out. x_before i lt;
          there = omega (arith, ed.keeps.holds.held, part.least);
          tail = λ goes_on. inr (x_size goes_on, λ i behind. x_behind goes_on i behind);
        } in
        safe_mixed opened e x h.frames h.declared says new ed.keeps.holds.count (omega (arith, more, count)) (λ i lt same. by_place h.frames x i ∙ x_stays i lt same)

  -- ---- while the head is brought up to them

  module _ (free : h.trailing ≡ false) (sized : IsSized e) (x : List ℕ) (growing : IsGrowing c h n x) where
    beside : SameBesideFields h n c x
    beside = λ i lt out. growing.fields.beside i out

    kept : KeepsHead h b x
    kept = λ i lt out. growing.fields.beside i out ∙ before i lt

    size : length x ≡ length c
    size = growing.fields.size

    -- the new count, with the size of the whole that was there, or the new one
    says_new : HasNew (inner_value h n) x h.inner → outer_reach h x ≤ closed_end h n → IsSafe e new x
    says_new inner reach =
        let room = may_count h n ed.keeps.rule (is_linear opened e ed) (is_known opened e ed.keeps) (room_ends opened e ed.keeps) (grows opened e ed xs may) in
        let held : end h n ≤ length x = omega (arith, there, size) in
        let says : ImageSays opened e x n (data_bytes h.params n) = record {
          keeps = ed.keeps;
          told = new_count opened e ed.keeps fit x n free room kept inner held reach;
          kept = kept;
          there = held;
          tail = λ goes_on. absurd (cc);
        } in
        safe_new opened e x n (data_bytes h.params n) says new
        (frames_by_place h n x has.linear ∙ ap (decoded h.params) (data_stay h n c x ed.keeps.rule there held beside) ∙ sym frames_are)

    says_old : HasOld b x h.inner → outer_reach h x ≤ declared_end h → IsSafe e new x
    says_old inner reach =
        let held : end h h.frames ≤ length x = omega (arith, ed.keeps.holds.held, longer, size) in
        let says : ImageSays opened e x h.frames h.declared = record {
          keeps = ed.keeps;
          told = old_count opened e ed.keeps fit x free (still_holds opened e ed.keeps fit x free (omega (arith, longer, size))) kept inner reach;
          kept = kept;
          there = held;
          tail = λ goes_on. absurd (cc);
        } in
        safe_mixed opened e x h.frames h.declared says new ed.keeps.holds.count (omega (arith, more, count))
        (λ i lt same.
        by_place h.frames x i ∙ same_frame h has h.frames n i x c lt (omega (arith, lt, more)) held there (λ j from to. growing.fields.beside j (data_beside h j ed.keeps.rule (omega (arith, from)))) ∙ sym (new_frames i) ∙ same)

    reach_before : IfSome h.outer (HasOld c x) → outer_reach h x ≤ closed_end h h.frames
    reach_before old = reach_sized opened e ed.keeps fit x sized (old_some_through h.outer x c b old (old_some_before h.outer h.start c b ed.keeps.rule.outer_end before))

    reach_later : outer_reach h x ≤ closed_end h h.frames → outer_reach h x ≤ closed_end h n
    reach_later reach = omega (arith, reach, closed_more opened e ed.keeps fit h.frames n (omega (arith, ends)))

    pub grown_safe : IsSafe e new x
    grown_safe = ⊎_elim
        (λ others.
        let reach = reach_before others.0 in
        ⊎_elim
        (λ old. says_old (old_through h.inner x c b old (old_before h.inner h.start c b ed.keeps.rule.inner_end before)) (omega (arith, reach, closed_declared opened e ed.keeps fit h.frames (declared_more opened e ed.keeps fit))))
        (λ new. says_new new (reach_later reach))
        (inner_whole opened e ed.keeps fit c (inner_value h n) x growing.fields.inner))
        (λ inner. says_new inner
        (⊎_elim (λ old. reach_later (reach_before old)) (λ new. reach_new opened e ed.keeps fit x n new) (outer_whole opened e ed.keeps fit c (outer_value h n) x growing.fields.outer)))
        growing.ordered
