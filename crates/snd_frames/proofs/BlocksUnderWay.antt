-- What a crash leaves of a disk while blocks are put on it, and while the head is brought up to their frames.
use Rattle.std.proofs.Common.{◌≡◌, ◌⊎◌, ◌∙◌, ap, sym, subst, inl, inr, ⊎_elim, ℕ, ℤ, ◌+◌, ◌-◌, ◌/◌, ◌%◌, ◌≤◌, List, [], ◌++◌, All, length, arith}
use Rattle.std.proofs.Math.Nat.{mul-mod_left}
use Rattle.std.proofs.lemmas.Bool.{cases_Bool}
use Rattle.std.proofs.lemmas.List.{length-append}
use Rattle.std.proofs.lemmas.List.Elements.{All-cons, All-nil}
use Rattle.std.specs.Prelude.{nat_lt}
use Rattle.snd_block_writer.proofs.Public.{coded_more, coded_size, has_back, over_has, place_coded, stands_more}
use Rattle.snd_block_writer.specs.Coded.{coded, whole}
use Rattle.snd_block_writer.specs.Puts.{IsPartly, LeavesPartly, Puts}
use Rattle.snd_block_writer.specs.Writing.{StandsFor, Writing, given_more, more_bytes, next_place, padding}
use Rattle.snd_blocks.specs.Calls.{AreBlocks}
use Rattle.snd_container.specs.Values.{closed_end}
use Rattle.snd_disk.proofs.Public.{length-over, same_some}
use Rattle.snd_disk.specs.Device.{IsStable, Tells}
use Rattle.snd_disk.specs.Runs.{HasAt, IsMade}
use Rattle.snd_disk.specs.declared.disk.Disk.{Ghosts}
use Rattle.snd_layout.specs.Params.{data_bytes}
use Rattle.snd_layout.specs.Shape.{Shape}
use Rattle.snd_patch.proofs.Public.{closed_missing, leaves_then, leaves_weaker}
use Rattle.snd_patch.specs.Images.{AllLieApart, IsCounting, LeavesEach, LeavesSealing, held_closing}
use Rattle.snd_patch.specs.Sealed.{closed, over_closing}
use Rattle.snd_edits.specs.Encoding.{over_blocks, whole_frames}
use Rattle.snd_edits.specs.Pacing.{KeepsPace}
use Rattle.snd_edits.specs.UnderWay.{IsBlocksUnderWay, closed_blocks}
use Rattle.snd_edits.proofs.Public.{closed_before, frames_of, last_given, longer_closed, partly_before, partly_behind, partly_made, still_apart}
use Rattle.snd_frames.proofs.Giving.{all_numbers, ends_whole}

-- the list that is held while the data are closed is the one that is meant
all_held : (P : List ℕ → Type 0) (b : List ℕ) (h : Shape) (n : ℕ) → P (closed b h n) → All P (held_closing b h n)
all_held P b h n of_closed = elim (cases_Bool (nat_lt (length b) (closed_end h n))) [
  | inl is ↦ rw is (All-cons P (over_closing b h n) [] (subst P (sym (closed_missing b h n is)) of_closed) (All-nil P))
  | inr other ↦ rw other (All-nil P)
]

-- n frames, whose blocks are those of numbers; the first of these are there, and the rest is put behind them
module _ (b : List ℕ) (h : Shape) (first more : List ℕ) (zs : List ℤ) (n : ℕ) (are : coded h.params zs ≡ first ++ more) (bytes : length (coded h.params zs) ≡ data_bytes h.params n) where
  abbrev g : Shape
  g = record h { frames = n }

  abbrev put : List ℕ
  put = over_blocks b h zs

  abbrev meant : List ℕ
  meant = closed_blocks b h zs n

  put_longer : length b ≤ length put
  put_longer = omega (arith, length-over b h.start (coded h.params zs))

  meant_longer : length put ≤ length meant
  meant_longer = longer_closed put g n

  -- what is meant has the blocks
  meant_coded : HasAt meant h.start (coded h.params zs)
  meant_coded j lt = closed_before put g n (h.start + j) (omega (arith, lt, bytes)) ∙ over_has b h.start (coded h.params zs) j lt

  module _ {D : Type 0} (d : Ghosts D) (old mid : D) (at : ℕ) (place : at ≡ h.start + length first) (told : Tells d.state old b) (stable : IsStable d.state d.may_leave old) (puts : LeavesPartly d at more old mid) where
    pub blocks_partly : LeavesEach d old mid (IsPartly b meant)
    blocks_partly =
        let has : HasAt meant at more = has_back meant h.start at first more place (subst (HasAt meant h.start) are meant_coded) in
        let fits : at + length more ≤ length meant =
        omega (arith, place, ap length are, length-append first more, length-over b h.start (coded h.params zs), meant_longer) in
        puts b meant b has fits told
        (λ x left. subst (IsPartly b meant) (same_some b x (sym told ∙ stable x left)) (partly_before b meant (omega (arith, put_longer, meant_longer))))

    pub blocks_under_way : LeavesEach d old mid (IsBlocksUnderWay b h zs n)
    blocks_under_way = leaves_weaker d old mid (IsPartly b meant) (IsBlocksUnderWay b h zs n) (λ x part. inl part) blocks_partly

    -- the head brought up to them
    pub sealing_under_way : (new : D) → AllLieApart h → Tells d.state mid put → LeavesSealing d g n mid new → LeavesEach d old new (IsBlocksUnderWay b h zs n)
    sealing_under_way new apart holds sealing =
        let all = all_held (IsPartly b meant) put g n (partly_behind b meant (omega (arith, put_longer, meant_longer))) in
        leaves_then d old mid new (IsBlocksUnderWay b h zs n) blocks_under_way
        (leaves_weaker d mid new (λ x. IsMade (d.may_leave mid) (held_closing put g n) x ⊎ IsCounting meant g n x) (IsBlocksUnderWay b h zs n)
        (λ x either. ⊎_elim (λ made. inl (partly_made b meant (d.may_leave mid) (held_closing put g n) blocks_partly.now all x made)) (λ counting. inr counting) either)
        (sealing (still_apart h n apart) put holds))

-- ---- more numbers given

module _ {D : Type 0} (d : Ghosts D) (h : Shape) (form : AreBlocks h.params) (w : Writing) (to : ℕ) (xs : List ℤ) (even : length xs % h.params.channels ≡ 0) (more : length xs / h.params.channels ≤ to)
    (pace : KeepsPace h (to - length xs / h.params.channels) w) (ys : List ℤ) (stands : StandsFor w h.params ys) (b : List ℕ) (old mid : D) (told : Tells d.state old b) (stable : IsStable d.state d.may_leave old)
    (puts : Puts d (next_place h.start w) (more_bytes w xs) old mid) where
  abbrev zs : List ℤ
  zs = whole h.params (ys ++ xs)

  abbrev n : ℕ
  n = whole_frames h.params to

  are : coded h.params zs ≡ coded h.params (whole h.params ys) ++ more_bytes w xs
  are = sym (coded_more h.params form w xs ys stands)

  size : length (coded h.params zs) ≡ data_bytes h.params n
  size =
      let then = place_coded h.params form h.start (given_more w xs) (ys ++ xs) (stands_more h.params form w xs ys stands) in
      omega (arith, then, ends_whole h form w to xs even more pace)

  pub given_partly : LeavesEach d old mid (IsBlocksUnderWay b h zs n)
  given_partly =
      blocks_under_way b h (coded h.params (whole h.params ys)) (more_bytes w xs) zs n are size d old mid (next_place h.start w) (place_coded h.params form h.start w ys stands) told stable puts.leaves

  pub given_sealing : (new : D) → AllLieApart h → Tells d.state mid (over_blocks b h zs) → LeavesSealing d (record h { frames = n }) n mid new → LeavesEach d old new (IsBlocksUnderWay b h zs n)
  given_sealing new apart holds sealing =
      sealing_under_way b h (coded h.params (whole h.params ys)) (more_bytes w xs) zs n are size d old mid (next_place h.start w) (place_coded h.params form h.start w ys stands) told stable puts.leaves new apart holds sealing

-- ---- the numbers that wait

module _ {D : Type 0} (d : Ghosts D) (h : Shape) (form : AreBlocks h.params) (w : Writing) (place : ℕ) (pace : KeepsPace h place w) (ys : List ℤ) (stands : StandsFor w h.params ys) (b : List ℕ) (old mid : D)
    (told : Tells d.state old b) (stable : IsStable d.state d.may_leave old) (puts : Puts d (next_place h.start w) (more_bytes w (padding w)) old mid) where
  last_size : length (coded h.params ys) ≡ data_bytes h.params place
  last_size =
      let all = all_numbers h w place ys pace stands in
      let even : length ys % h.params.channels ≡ 0 = ap (λ (m : ℕ). m % h.params.channels) all ∙ mul-mod_left place h.params.channels in
      coded_size h.params form ys even ∙ ap (data_bytes h.params) (frames_of h.params form ys place all)

  pub last_partly : LeavesEach d old mid (IsBlocksUnderWay b h ys place)
  last_partly =
      blocks_under_way b h (coded h.params (whole h.params ys)) (more_bytes w (padding w)) ys place (last_given h.params form w ys stands) last_size d old mid (next_place h.start w) (place_coded h.params form h.start w ys stands)
      told stable puts.leaves

  pub last_sealing : (new : D) → AllLieApart h → Tells d.state mid (over_blocks b h ys) → LeavesSealing d (record h { frames = place }) place mid new → LeavesEach d old new (IsBlocksUnderWay b h ys place)
  last_sealing new apart holds sealing =
      sealing_under_way b h (coded h.params (whole h.params ys)) (more_bytes w (padding w)) ys place (last_given h.params form w ys stands) last_size d old mid (next_place h.start w) (place_coded h.params form h.start w ys stands)
      told stable puts.leaves new apart holds sealing
