-- What a crash leaves while frames are cut off is safe.
use Rattle.std.proofs.Common.{◌≡◌, ◌⊎◌, ◌∙◌, ap, sym, ⊎_elim, ℕ, ◌*◌, ◌<◌, ◌≤◌, false, List, Some, length, take, get_or, refl, arith}
use Rattle.std.proofs.Math.Nat.{mul-pos}
use Rattle.snd_container.proofs.Public.{byte_count_pos, inner_value_fits, outer_value_fits}
use Rattle.snd_layout.specs.Container.{KeepsHead}
use Rattle.snd_container.specs.Values.{closed_end, declared_end, inner_value, outer_reach, outer_value}
use Rattle.snd_container.specs.Sound.{decoded, fixed_of}
use Rattle.snd_layout.specs.Params.{data_bytes}
use Rattle.snd_layout.specs.Shape.{Shape, end}
use Rattle.snd_patch.proofs.Public.{shrinks_from_to}
use Rattle.snd_patch.specs.Images.{AllLieApart, HasNew, HasOld, IsCutting, IsShrinking}
use Rattle.snd_patch.specs.Sealed.{SameBesideFields, with_fewer}
use Rattle.snd_container.specs.Fixed.{byte_count}
use Rattle.snd_container.specs.declared.fixed.Fixed.{Fixed}
use Rattle.snd_edits.specs.Editing.{Editing}
use Rattle.snd_edits.specs.Edits.{cut_to}
use Rattle.snd_edits.specs.Laws.{IsEdited, KeepsFile}
use Rattle.snd_edits.specs.Safe.{IsFit, IsSafe}
use Rattle.snd_edits.proofs.CutFrames.{front_decoded, may_count_fewer}
use Rattle.snd_edits.proofs.EditedFiles.{is_known, is_linear, now_decoded, room_ends, some_channel}
use Rattle.snd_edits.proofs.ImageFields.{fewer_inner, fewer_outer, fields_lie_apart, new_before}
use Rattle.snd_edits.proofs.ImageFrames.{HasFrames, form_of, frames_in}
use Rattle.snd_edits.proofs.ImageLayouts.{closed_declared, declared_more, inner_whole, new_count, outer_whole, reach_new, reach_old, still_holds}
use Rattle.snd_edits.proofs.Overwritten.{data_stay}
use Rattle.snd_edits.proofs.SafeImages.{ImageSays, frames_by_place, frames_of, safe_new}
use Rattle.snd_edits.proofs.SafeSeals.{old_image}
use Rattle.snd_edits.proofs.Sealing.{end_is, ends_before}
use Rattle.snd_edits.proofs.SoundFrames.{span_fits}

-- the data of fewer frames are fewer
end_less_by : (h : Shape) (form : Fixed) → fixed_of h.params.codec ≡ Some form → 1 ≤ h.params.channels → (n m : ℕ) → n < m → end h n < end h m
end_less_by h form is some n m lt =
    let w = byte_count form in
    let c = h.params.channels in
    let one : 0 < w * (1 * c) = mul-pos (byte_count_pos form) (let e : 0 < 1 * c = omega (arith, some) in e) in
    omega (arith, one, span_fits w c n 1 m (omega (arith, lt)), end_is h form n is, end_is h form m is)

pub end_less : (h : Shape) → HasFrames h → (n m : ℕ) → n < m → end h n < end h m
end_less h has n m lt = let form = form_of (fixed_of h.params.codec) has.linear in end_less_by h form.0 form.1 has.some n m lt

-- the first frames
pub first_frames : (h : Shape) → HasFrames h → (n : ℕ) (b : List ℕ) → n ≤ h.frames → end h h.frames ≤ length b → end h n ≤ length b → frames_in h n b ≡ take n (frames_in h h.frames b)
first_frames h has n b within fits fits' = let form = form_of (fixed_of h.params.codec) has.linear in front_decoded b h form.0 n form.1 has.some within fits fits'

module _ (opened : List ℕ) (e : Editing) (ed : IsEdited opened e) (fit : IsFit e) (free : e.shape.trailing ≡ false) (x : List ℕ) where
  abbrev h : Shape
  h = e.shape

  abbrev b : List ℕ
  b = e.bytes

  abbrev of : KeepsFile opened e
  of = ed.keeps

  has : HasFrames h
  has = record { linear = is_linear opened e ed; some = some_channel opened e of }

  -- that say a new count
  module _ (n : ℕ) (within : n ≤ h.frames) (held : end h n ≤ length x) (same : SameBesideFields h n b x) (inner : HasNew (inner_value h n) x h.inner) (reach : outer_reach h x ≤ closed_end h n) where
    says_new : ImageSays opened e x n (data_bytes h.params n)
    says_new =
        let kept : KeepsHead h b x = λ i lt out. same i (omega (arith, lt)) out in
        let room = may_count_fewer h n of.rule (is_linear opened e ed) (is_known opened e of) (room_ends opened e of) within in
        record { keeps = of; told = new_count opened e of fit x n free room kept inner held reach; kept = kept; there = held; tail = λ goes_on. absurd (cc) }

    frames_new : frames_of h n x ≡ take n e.frames
    frames_new =
        let fits : end h n ≤ length b = omega (arith, ends_before h n h.frames has.linear within, of.holds.held) in
        frames_by_place h n x has.linear
        ∙ ap (decoded h.params) (data_stay h n b x of.rule fits held same) ∙ first_frames h has n b within of.holds.held fits ∙ sym (ap (take n) (now_decoded opened e ed))

    new_image : (e' : Editing) → e'.frames ≡ take n e.frames → IsSafe e e' x
    new_image e' frames = safe_new opened e x n (data_bytes h.params n) says_new e' (frames_new ∙ sym frames)

  apart : AllLieApart h
  apart = fields_lie_apart b h h.frames h.declared fit.told

  -- ---- while frames are cut off

  module _ (to : ℕ) (fewer : to < h.frames) where
    less : end h to < end h h.frames
    less = end_less h has to h.frames fewer

    fewer_there : end h to ≤ length b
    fewer_there = omega (arith, less, of.holds.held)

    reach_fewer : outer_reach h x ≤ closed_end h to → outer_reach h x ≤ declared_end h
    reach_fewer reach = omega (arith, reach, closed_declared opened e of fit to (omega (arith, less, declared_more opened e of fit)))

    shrunk_safe : IsShrinking b h to x → IsSafe e (cut_to to e) x
    shrunk_safe shrinking =
        let size : length x ≡ length b = shrinking.fields.size in
        let with_old = λ (inner : HasOld b x h.inner) (reach : outer_reach h x ≤ declared_end h).
        old_image opened e of fit free x (cut_to to e) (still_holds opened e of fit x free (omega (arith, size))) (omega (arith, of.holds.held, size)) (λ i lt out. shrinking.fields.beside i out) inner reach in
        ⊎_elim
        (λ inner. with_old inner
        (⊎_elim (λ old. reach_old opened e of fit x free old (omega (arith, size))) (λ new. reach_fewer (reach_new opened e of fit x to new)) (outer_whole opened e of fit b (outer_value h to) x shrinking.fields.outer)))
        (λ others.
        let reach = reach_new opened e of fit x to others.0 in
        ⊎_elim (λ old. with_old old (reach_fewer reach))
        (λ new. new_image to (omega (arith, fewer)) (omega (arith, fewer_there, size)) (λ i lt out. shrinking.fields.beside i out) new reach (cut_to to e) refl)
        (inner_whole opened e of fit b (inner_value h to) x shrinking.fields.inner))
        shrinking.ordered

    -- behind whose data all is cut off
    module _ (cutting : IsCutting (with_fewer b h to) h to x) where
      begins : h.start ≤ length b
      begins = omega (arith, fewer_there)

      fields : IsShrinking b h to (with_fewer b h to)
      fields = (shrinks_from_to b h to of.rule apart begins).1

      long : end h to ≤ length x
      long = ⊎_elim (λ all. omega (arith, all, fewer_there, fields.fields.size)) (λ cut. omega (arith, cut)) cutting.size

      before : (i : ℕ) → i < h.start → get_or x i 0 ≡ get_or (with_fewer b h to) i 0
      before i lt = cutting.before i (omega (arith, lt))

      put_inner : HasNew (inner_value h to) x h.inner
      put_inner = new_before (Some h.inner) (inner_value h to) h.start x (with_fewer b h to) (inner_value_fits h to of.rule) of.rule.inner_end before (fewer_inner b h to of.rule apart begins)

      put_reach : outer_reach h x ≤ closed_end h to
      put_reach = reach_new opened e of fit x to
          (new_before h.outer (outer_value h to) h.start x (with_fewer b h to) (outer_value_fits h to of.rule) of.rule.outer_end before (fewer_outer b h to of.rule apart begins))

      tail_cut_safe : IsSafe e (cut_to to e) x
      tail_cut_safe = new_image to (omega (arith, fewer)) long (λ i lt out. cutting.before i lt ∙ fields.fields.beside i out) put_inner put_reach (cut_to to e) refl

    pub cut_safe : IsShrinking b h to x ⊎ IsCutting (with_fewer b h to) h to x → IsSafe e (cut_to to e) x
    cut_safe either = ⊎_elim shrunk_safe tail_cut_safe either
