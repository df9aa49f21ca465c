-- What a crash leaves while a file is sealed, of any codec, and while what stands behind its data is cut off, is safe.
use Rattle.std.proofs.Common.{◌≡◌, ◌⊎◌, ◌∙◌, ap, sym, inl, inr, ⊎_elim, ℕ, ◌<◌, ◌≤◌, Bool, false, cond, List, IfSome, length, get_or, arith}
use Rattle.std.proofs.lemmas.Bool.{cases_lt, lt-ltb}
use Rattle.snd_blocks.specs.Sound.{decode}
use Rattle.snd_container.proofs.Public.{voice}
use Rattle.snd_container.specs.Values.{closed_end, closing, declared_end, inner_value, outer_reach, outer_value}
use Rattle.snd_disk.proofs.Public.{length-over}
use Rattle.snd_layout.specs.Container.{KeepsHead, is_in_fields}
use Rattle.snd_layout.specs.Params.{data_bytes}
use Rattle.snd_layout.specs.Shape.{Shape, end}
use Rattle.snd_patch.proofs.Public.{closes_from_to}
use Rattle.snd_patch.specs.Images.{HasNew, HasOld, IsClosing, IsCounting, IsCutting, IsGrowing, IsShrinking}
use Rattle.snd_patch.specs.Sealed.{SameBesideFields, closed, over_closing}
use Rattle.snd_edits.specs.Editing.{Editing}
use Rattle.snd_edits.specs.Laws.{KeepsFile}
use Rattle.snd_edits.specs.Safe.{DeclaresFew, IsFit, IsSafe, IsSized}
use Rattle.snd_edits.proofs.EditedFiles.{has_room, longer_closed}
use Rattle.snd_edits.proofs.ImageFields.{old_before, old_some_before, old_some_through, old_through}
use Rattle.snd_edits.proofs.ImageLayouts.{HoldsOld, closed_declared, declared_less, declared_more, inner_whole, new_count, old_count, outer_whole, reach_new, reach_old, reach_sized, still_holds}
use Rattle.snd_edits.proofs.Overwritten.{data_stay}
use Rattle.snd_edits.proofs.SafeImages.{ImageSays, frames_of, safe_old}

-- what closes the data is there then
pub closed_reaches : (b : List ℕ) (h : Shape) (n : ℕ) → closed_end h n ≤ length (closed b h n)
closed_reaches b h n = elim (cases_lt (length b) (closed_end h n)) [
  | inl lt ↦
      let is : closed b h n ≡ over_closing b h n = ap (λ (t : Bool). cond t (over_closing b h n) b) (lt-ltb (length b) (closed_end h n) lt) in
      omega (arith, ap length is, length-over b (end h n) (closing h n))
  | inr le ↦ omega (arith, le, longer_closed b h n)
]

-- ---- images with the head of a fit file, but for the fields

module _ (opened : List ℕ) (e : Editing) (of : KeepsFile opened e) (fit : IsFit e) (free : e.shape.trailing ≡ false) (x : List ℕ) where
  abbrev h : Shape
  h = e.shape

  abbrev b : List ℕ
  b = e.bytes

  abbrev n : ℕ
  n = h.frames

  -- that have its data have its frames
  frames_stay : end h n ≤ length x → SameBesideFields h n b x → frames_of h n x ≡ e.frames
  frames_stay held same = ap (decode h.params n) (data_stay h n b x of.rule of.holds.held held same) ∙ sym of.holds.sound

  -- that say the old count
  pub old_image : (e' : Editing) → HoldsOld h b x → end h n ≤ length x → SameBesideFields h n b x → HasOld b x h.inner → outer_reach h x ≤ declared_end h → IsSafe e e' x
  old_image e' there held same inner reach =
      let kept : KeepsHead h b x = λ i lt out. same i (omega (arith, lt)) out in
      let says : ImageSays opened e x n h.declared = record {
        keeps = of;
        told = old_count opened e of fit x free there kept inner reach;
        kept = kept;
        there = held;
        tail = λ goes_on. absurd (cc);
      } in
      safe_old opened e x n h.declared says e' (frames_stay held same)

  -- that say it anew
  same_image : (e' : Editing) → end h n ≤ length x → SameBesideFields h n b x → HasNew (inner_value h n) x h.inner → outer_reach h x ≤ closed_end h n → IsSafe e e' x
  same_image e' held same inner reach =
      let kept : KeepsHead h b x = λ i lt out. same i (omega (arith, lt)) out in
      let says : ImageSays opened e x n (data_bytes h.params n) = record {
        keeps = of;
        told = new_count opened e of fit x n free (has_room opened e of, of.rule.data_end) kept inner held reach;
        kept = kept;
        there = held;
        tail = λ goes_on. absurd (cc);
      } in
      safe_old opened e x n (data_bytes h.params n) says e' (frames_stay held same)

  -- ---- while it is sealed

  abbrev c : List ℕ
  c = closed b h n

  shut : IsClosing b h n c
  shut = (closes_from_to b h n).1

  last : closed_end h n ≤ declared_end h
  last = closed_declared opened e of fit n (declared_more opened e of fit)

  -- all behind its data cut off, where it was sealed before
  pub tail_safe : (e' : Editing) → IsSized e → IsCutting b h n x → IsSafe e e' x
  tail_safe e' sized cutting =
      let early : (i : ℕ) → i < h.start → get_or x i 0 ≡ get_or b i 0 = λ i lt. cutting.before i (omega (arith, lt)) in
      let long : closed_end h n ≤ length x = ⊎_elim (λ all. omega (arith, all, sized.closed)) (λ cut. omega (arith, cut)) cutting.size in
      old_image e' (⊎_elim (λ all. inl (omega (arith, all, sized.closed), omega (arith, all, long))) (λ few. inr (few, omega (arith, long))) sized.declared) (omega (arith, long)) (λ i lt out. cutting.before i lt)
      (old_before h.inner h.start x b of.rule.inner_end early)
      (omega (arith, reach_sized opened e of fit x sized (old_some_before h.outer h.start x b of.rule.outer_end early), last))

  closing_safe : (e' : Editing) → IsClosing b h n x → IsSafe e e' x
  closing_safe e' part =
      let early : (i : ℕ) → i < h.start → get_or x i 0 ≡ get_or b i 0 = λ i lt. part.before i (omega (arith, lt)) in
      old_image e' (still_holds opened e of fit x free part.least) (omega (arith, of.holds.held, part.least)) (λ i lt out. part.before i lt)
      (old_before h.inner h.start x b of.rule.inner_end early)
      (reach_old opened e of fit x free (old_some_before h.outer h.start x b of.rule.outer_end early) (omega (arith, part.most, last)))

  -- the fields, over what closes the data
  module _ (e' : Editing) (size : length x ≡ length c) (beside : (i : ℕ) → is_in_fields h i ≡ false → get_or x i 0 ≡ get_or c i 0) where
    same : SameBesideFields h n b x
    same = λ i lt out. beside i out ∙ shut.before i lt

    early : (i : ℕ) → i < h.start → get_or c i 0 ≡ get_or b i 0
    early = λ i lt. shut.before i (omega (arith, lt))

    says_old : HasOld c x h.inner → outer_reach h x ≤ declared_end h → IsSafe e e' x
    says_old old reach =
        old_image e' (still_holds opened e of fit x free (omega (arith, shut.least, size))) (omega (arith, of.holds.held, shut.least, size)) same
        (old_through h.inner x c b old (old_before h.inner h.start c b of.rule.inner_end early)) reach

    says_same : HasNew (inner_value h n) x h.inner → outer_reach h x ≤ closed_end h n → IsSafe e e' x
    says_same new reach = same_image e' (omega (arith, size, closed_reaches b h n)) same new reach

    reach_kept : IfSome h.outer (HasOld c x) → outer_reach h x ≤ declared_end h
    reach_kept old = reach_old opened e of fit x free (old_some_through h.outer x c b old (old_some_before h.outer h.start c b of.rule.outer_end early)) (omega (arith, size, shut.most, last))

  growing_safe : (e' : Editing) → h.declared ≤ data_bytes h.params n → IsGrowing c h n x → IsSafe e e' x
  growing_safe e' few growing =
      let size = growing.fields.size in
      let beside = growing.fields.beside in
      let first : declared_end h ≤ closed_end h n = declared_less opened e of fit n few in
      ⊎_elim
      (λ others.
      let reach = reach_kept e' size beside others.0 in
      ⊎_elim (λ old. says_old e' size beside old reach) (λ new. says_same e' size beside new (omega (arith, reach, first))) (inner_whole opened e of fit c (inner_value h n) x growing.fields.inner))
      (λ new. says_same e' size beside new
      (⊎_elim (λ old. omega (arith, reach_kept e' size beside old, first)) (λ other. reach_new opened e of fit x n other) (outer_whole opened e of fit c (outer_value h n) x growing.fields.outer)))
      growing.ordered

  shrinking_safe : (e' : Editing) → IsShrinking c h n x → IsSafe e e' x
  shrinking_safe e' shrinking =
      let size = shrinking.fields.size in
      let beside = shrinking.fields.beside in
      ⊎_elim
      (λ old. says_old e' size beside old
      (⊎_elim (λ kept. reach_kept e' size beside kept) (λ other. omega (arith, reach_new opened e of fit x n other, last)) (outer_whole opened e of fit c (outer_value h n) x shrinking.fields.outer)))
      (λ others.
      let reach = reach_new opened e of fit x n others.0 in
      ⊎_elim (λ old. says_old e' size beside old (omega (arith, reach, last))) (λ new. says_same e' size beside new reach) (inner_whole opened e of fit c (inner_value h n) x shrinking.fields.inner))
      shrinking.ordered

  pub sealed_safe : (e' : Editing) → IsClosing b h n x ⊎ IsCounting c h n x → IsSafe e e' x
  sealed_safe e' either =
      ⊎_elim (λ part. closing_safe e' part) (λ counting. ⊎_elim (λ more. growing_safe e' more.0 more.1) (λ less. shrinking_safe e' less.1) counting) either

-- ---- a Creative Voice file that goes on behind its data, while all behind these is cut off

pub voice_cut_safe : (opened : List ℕ) (e : Editing) (of : KeepsFile opened e) (fit : IsFit e) (few : DeclaresFew e.shape) (x : List ℕ) (e' : Editing)
    → IsCutting e.bytes e.shape e.shape.frames x → IsSafe e e' x
voice_cut_safe opened e of fit few x e' cutting =
    let h = e.shape in
    let b = e.bytes in
    let early : (i : ℕ) → i < h.start → get_or x i 0 ≡ get_or b i 0 = λ i lt. cutting.before i (omega (arith, lt)) in
    let held : end h h.frames ≤ length x = ⊎_elim (λ all. omega (arith, all, of.holds.held)) (λ cut. omega (arith, cut)) cutting.size in
    let says : ImageSays opened e x h.frames h.declared = record {
      keeps = of;
      told = voice h.kind b x h fit.told few.0 few.1 held early;
      kept = λ i lt out. early i lt;
      there = held;
      tail = λ is. inl few.0;
    } in
    safe_old opened e x h.frames h.declared says e' (ap (decode h.params h.frames) (data_stay h h.frames b x of.rule of.holds.held held (λ i lt out. cutting.before i lt)) ∙ sym of.holds.sound)
