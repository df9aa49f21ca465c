-- What a crash leaves while frames are put over the data and behind them, and the head is brought up to them.
use Rattle.std.proofs.Common.{◌≡◌, ◌⊎◌, ◌∙◌, sym, subst, refl, inl, inr, ⊎_elim, ℕ, ◌+◌, ◌≤◌, ℤ, true, List, length, max, arith}
use Rattle.std.proofs.lemmas.Bool.{cases_Bool, cond_both}
use Rattle.std.specs.Prelude.{nat_lt}
use Rattle.snd_container.specs.Values.{closing}
use Rattle.snd_disk.proofs.Public.{length-over, same_some}
use Rattle.snd_disk.specs.Device.{IsStable, Tells}
use Rattle.snd_disk.specs.Runs.{HasAt}
use Rattle.snd_disk.specs.declared.disk.Disk.{Ghosts}
use Rattle.snd_layout.specs.Shape.{Shape, end}
use Rattle.snd_patch.proofs.Public.{leaves_then, leaves_weaker, over_beside}
use Rattle.snd_patch.specs.Images.{AllLieApart, IsGrowing, LeavesEach}
use Rattle.snd_patch.specs.Sealed.{over_closing}
use Rattle.snd_block_writer.specs.Puts.{IsPartly, LeavesPartly}
use Rattle.snd_edits.specs.Edits.{closed_behind, coded, over_data}
use Rattle.snd_frames.specs.Putting.{IsUnderWay, LeavesFields, closing_put}
use Rattle.snd_frames.proofs.PartlyPut.{over_has}

pub closing_is : (h : Shape) (n : ℕ) → nat_lt h.frames n ≡ true → closing h n ≡ closing_put h n
closing_is h n more = rw more refl

module _ (h : Shape) (place n : ℕ) (xs : List ℤ) (within : end h place + length (coded h.params xs) ≤ end h n) (b : List ℕ) where
  abbrev put : List ℕ
  put = over_data b h place xs

  -- the contents meant
  abbrev pub meant : List ℕ
  meant = closed_behind put h n

  put_length : length put ≡ max (length b) (end h place + length (coded h.params xs))
  put_length = length-over b (end h place) (coded h.params xs)

  meant_longer : length put ≤ length meant
  meant_longer = cond_both (nat_lt h.frames n) (over_closing put h n) put (λ x. length put ≤ length x) (λ is. omega (arith, length-over put (end h n) (closing h n))) (λ other. omega arith)

  meant_coded : HasAt meant (end h place) (coded h.params xs)
  meant_coded =
      let has : HasAt put (end h place) (coded h.params xs) = over_has b (end h place) (coded h.params xs) in
      cond_both (nat_lt h.frames n) (over_closing put h n) put (λ x. HasAt x (end h place) (coded h.params xs))
      (λ is j lt. over_beside put (end h n) (closing h n) (end h place + j) (inl (omega (arith, lt, within))) ∙ has j lt) (λ other. has)

  meant_closing : HasAt meant (end h n) (closing_put h n)
  meant_closing = elim (cases_Bool (nat_lt h.frames n)) [
    | inl more ↦ rw more (over_has put (end h n) (closing h n))
    | inr other ↦ rw other (λ j lt. absurd (omega (arith, lt)))
  ]

  module _ (reached : end h n ≤ length put) where
    meant_closed : end h n + length (closing_put h n) ≤ length meant
    meant_closed = elim (cases_Bool (nat_lt h.frames n)) [
      | inl more ↦ rw more (omega (arith, length-over put (end h n) (closing h n)))
      | inr other ↦ rw other (omega (arith, reached))
    ]

    starts_partly : IsPartly b meant b
    starts_partly = record { least = omega arith; most = omega (arith, put_length, meant_longer); each = λ i. inl refl }

    module _ {D : Type 0} (d : Ghosts D) (start next : D) (told : Tells d.state start b) (stable : IsStable d.state d.may_leave start) (puts : LeavesPartly d (end h place) (coded h.params xs) start next) where
      pub data_partly : LeavesEach d start next (IsPartly b meant)
      data_partly = puts b meant b meant_coded (omega (arith, put_length, meant_longer)) told (λ x left. subst (IsPartly b meant) (same_some b x (sym told ∙ stable x left)) starts_partly)

      module _ (shut : D) (tells : Tells d.state next put) (closes : LeavesPartly d (end h n) (closing_put h n) next shut) where
        pub shut_partly : LeavesEach d start shut (IsPartly b meant)
        shut_partly = leaves_then d start next shut (IsPartly b meant) data_partly (closes b meant put meant_closing meant_closed tells data_partly.now)

        pub fields_under_way : (last : D) → AllLieApart h → Tells d.state shut meant → LeavesFields d h n shut last → LeavesEach d start last (IsUnderWay b meant h n)
        fields_under_way last apart tells' fields =
            leaves_then d start shut last (IsUnderWay b meant h n) (leaves_weaker d start shut (IsPartly b meant) (IsUnderWay b meant h n) (λ x part. inl part) shut_partly)
            (elim (cases_Bool h.trailing) [
              | inl goes_on ↦ leaves_weaker d shut last (d.may_leave shut) (IsUnderWay b meant h n) (λ x left. inl (shut_partly.now x left)) (fields.still goes_on)
              | inr free ↦
                  leaves_weaker d shut last (λ x. d.may_leave shut x ⊎ IsGrowing meant h n x) (IsUnderWay b meant h n)
                  (λ x is. ⊎_elim (λ left. inl (shut_partly.now x left)) (λ growing. inr (free, growing)) is) (fields.growing apart meant tells')
            ])

-- the data of all the frames are there, once numbers are put
pub reached_put : (h : Shape) (place n : ℕ) (xs : List ℤ) (b : List ℕ) (size : ℕ) → size ≡ length b → end h h.frames ≤ size → end h n ≤ max (end h h.frames) (end h place + length (coded h.params xs)) → end h n ≤ length (over_data b h place xs)
reached_put h place n xs b size is held reaches = omega (arith, is, held, reaches, length-over b (end h place) (coded h.params xs))

-- while its bytes are put, a file is under way
pub under_way : {D : Type 0} (d : Ghosts D) (h : Shape) (n : ℕ) (b c : List ℕ) (start last : D) → LeavesEach d start last (IsPartly b c) → LeavesEach d start last (IsUnderWay b c h n)
under_way d h n b c start last part = leaves_weaker d start last (IsPartly b c) (IsUnderWay b c h n) (λ x is. inl is) part
