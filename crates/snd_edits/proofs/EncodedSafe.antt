-- What a crash leaves of a file of ADPCM at rest while blocks are put, and while the head is brought up to their frames, is safe.
use Rattle.std.proofs.Common.{◌≡◌, ◌⊎◌, ◌∙◌, ap, sym, subst, refl, inl, inr, ⊎_elim, ℕ, ℤ, ◌+◌, ◌-◌, ◌*◌, ◌/◌, ◌%◌, ◌<◌, ◌≤◌, Bool, true, List, ◌++◌, All, length, get_or, arith}
use Rattle.std.specs.Prelude.{IfSome}
use Rattle.std.proofs.lemmas.Bool.{cases_lt}
use Rattle.std.proofs.lemmas.List.{length-append, places}
use Rattle.std.proofs.lemmas.List.Elements.{All-take}
use Rattle.snd_blocks.specs.Sound.{decode}
use Rattle.snd_ima_adpcm.specs.Frames.{Is16Bit}
use Rattle.snd_block_writer.proofs.Public.{coded_are_bytes, coded_more, over_has}
use Rattle.snd_block_writer.specs.Coded.{block_numbers, coded, kept, whole, whole_blocks}
use Rattle.snd_block_writer.specs.Puts.{IsPartly}
use Rattle.snd_block_writer.specs.Writing.{given, more_bytes, padding}
use Rattle.snd_container.proofs.Public as every
use Rattle.snd_container.specs.Laws.{FileSays}
use Rattle.snd_container.specs.Values.{closed_end, declared_end, inner_value, outer_reach, outer_value}
use Rattle.snd_disk.proofs.Public.{length-over}
use Rattle.snd_fields.specs.Laws.{IsByte}
use Rattle.snd_layout.specs.Container.{KeepsHead}
use Rattle.snd_layout.specs.Params.{data_bytes}
use Rattle.snd_layout.specs.Shape.{Shape, end}
use Rattle.snd_layout.specs.declared.kind.Kind.{Kind}
use Rattle.snd_layout.specs.declared.kind.Kind.TheVariants.{Voc, W64, Wave}
use Rattle.snd_patch.specs.Images.{HasNew, HasOld, IsGrowing}
use Rattle.snd_patch.specs.Sealed.{SameBesideFields, counted, sealed}
use Rattle.snd_edits.specs.Editing.{Editing}
use Rattle.snd_edits.specs.Edits.{sealed_where, written_shape}
use Rattle.snd_edits.specs.Encoding.{MayEncode, encoded_to, encoded_whole, over_blocks, whole_frames}
use Rattle.snd_edits.specs.Laws.{IsEncoded, KeepsFile}
use Rattle.snd_edits.specs.Pacing.{HasRoomToEncode}
use Rattle.snd_edits.specs.Safe.{IsFit, IsSafe, IsSized}
use Rattle.snd_edits.specs.SafeLaws.{Rests}
use Rattle.snd_edits.specs.UnderWay.{IsBlocksUnderWay, closed_blocks}
use Rattle.snd_edits.specs.WriteCalls.{end_written, is_whole_field}
use Rattle.snd_edits.proofs.AreBytes.{bytes_over, bytes_sealed}
use Rattle.snd_edits.proofs.Encoded.{closed_before, last_given, still_apart, whole_bytes}
use Rattle.snd_edits.proofs.EditedFiles.{is_known, longer_closed}
use Rattle.snd_edits.proofs.EditedSteps.{more_frames}
use Rattle.snd_edits.proofs.EncodedFiles.{all_frames, count_then, counted_whole, even_given, even_whole, given_then, no_fewer, numbers_then, put_again, put_before, put_held, put_read, put_room, put_says, room_given, room_whole, whole_within}
use Rattle.snd_edits.proofs.EncodedPlaces.{data_more}
use Rattle.snd_layout.proofs.Public.{blocks_held, is_held}
use Rattle.snd_edits.proofs.ImageFields.{old_before, old_some_before, old_some_through, old_through}
use Rattle.snd_edits.proofs.ImageLayouts.{closed_declared, closed_more, declared_more, inner_whole, new_count, outer_whole, reach_new, reach_sized, still_holds}
use Rattle.snd_edits.proofs.Overwritten.{data_stay}
use Rattle.snd_edits.proofs.SafeImages.{ImageSays, frames_of, safe_new}
use Rattle.snd_edits.proofs.SafeRests.{fields_apart, rests_free, sealed_closes, sealed_outer}
use Rattle.snd_edits.proofs.SafeSeals.{old_image}

-- the kinds that hold blocks are not Creative Voice
no_voice : (kind : Kind) → (kind ≡ Wave) ⊎ (kind ≡ W64) → kind ≡ Voc → ⊥
no_voice kind (inl wave) voc = let h = sym wave ∙ voc in cc
no_voice kind (inr w64) voc = let h = sym w64 ∙ voc in cc

-- n frames, whose blocks are those of numbers; the first of these are those that are there
module _ (file : List ℕ) (e : Editing) (of : IsEncoded file e) (fit : IsFit e) (sized : IsSized e) (zs : List ℤ) (even : length zs % e.shape.params.channels ≡ 0) (n : ℕ)
    (count : n ≡ length zs / e.shape.params.channels) (within : e.shape.frames ≤ n) (room_for : HasRoomToEncode e.shape n) (more : List ℕ)
    (are : coded e.shape.params zs ≡ coded e.shape.params (whole e.shape.params e.given) ++ more) (x : List ℕ) where
  abbrev h : Shape
  h = e.shape

  abbrev keeps : KeepsFile file e
  keeps = of.keeps

  abbrev g : Shape
  g = record h { frames = n }

  abbrev b : List ℕ
  b = e.bytes

  abbrev put : List ℕ
  put = over_blocks e.bytes h zs

  abbrev c : List ℕ
  c = closed_blocks e.bytes h zs n

  long : end h n ≤ length c
  long = omega (arith, put_held file e of zs even n count within room_for, longer_closed put g n)

  ends : end h h.frames ≤ end h n
  ends = omega (arith, data_more h.params h.frames n of.given.form.some_frames within)

  meant_put : (i : ℕ) → i < end h n → get_or c i 0 ≡ get_or put i 0
  meant_put i lt = closed_before put g n i lt

  -- the blocks that are there stay
  put_front : (i : ℕ) → i < end h h.frames → get_or put i 0 ≡ get_or b i 0
  put_front i lt = elim (cases_lt i h.start) [
    | inl early ↦ put_before file e of zs even n count within room_for i early
    | inr late ↦
        let first = coded h.params (whole h.params e.given) in
        let again : get_or (over_blocks b h (whole h.params e.given)) i 0 ≡ get_or b i 0 = ap (λ (l : List ℕ). get_or l i 0) (put_again file e of) in
        let inside : i - h.start < length first = omega (arith, lt, late, ap (λ (m : ℕ). end h m) of.given.frames, blocks_bytes) in
        same_front i late inside ∙ again
  ]
    where
      blocks_bytes : length (coded h.params (whole h.params e.given)) ≡ data_bytes h.params (length (whole h.params e.given) / h.params.channels)
      blocks_bytes = whole_bytes h.params of.given.form e.given

      same_front : (i : ℕ) → h.start ≤ i → i - h.start < length (coded h.params (whole h.params e.given)) → get_or put i 0 ≡ get_or (over_blocks b h (whole h.params e.given)) i 0
      same_front i late inside =
          let j = i - h.start in
          let at : h.start + j ≡ i = omega (arith, late) in
          let mine : get_or put (h.start + j) 0 ≡ get_or (coded h.params zs) j 0 = over_has b h.start (coded h.params zs) j (omega (arith, inside, ap length are, length-append (coded h.params (whole h.params e.given)) more)) in
          let front : get_or (coded h.params zs) j 0 ≡ get_or (coded h.params (whole h.params e.given)) j 0 =
          ap (λ (l : List ℕ). get_or l j 0) are ∙ (let part : get_or (coded h.params (whole h.params e.given) ++ more) j 0 ≡ get_or (coded h.params (whole h.params e.given)) j 0 = grind (arith, places, inside) in part) in
          let old : get_or (over_blocks b h (whole h.params e.given)) (h.start + j) 0 ≡ get_or (coded h.params (whole h.params e.given)) j 0 = over_has b h.start (coded h.params (whole h.params e.given)) j inside in
          subst (λ (k : ℕ). get_or put k 0 ≡ get_or (over_blocks b h (whole h.params e.given)) k 0) at (mine ∙ front ∙ sym old)

  meant_front : (i : ℕ) → i < end h h.frames → get_or c i 0 ≡ get_or b i 0
  meant_front i lt = meant_put i (omega (arith, lt, ends)) ∙ put_front i lt

  longer : length b ≤ length c
  longer = omega (arith, length-over b h.start (coded h.params zs), longer_closed put g n)

  last : closed_end h h.frames ≤ declared_end h
  last = closed_declared file e keeps fit h.frames (declared_more file e keeps fit)

  -- ---- the old count

  -- with the old fields, and the blocks that were there
  says_old : (e' : Editing) → length b ≤ length x → SameBesideFields h h.frames b x → HasOld b x h.inner → outer_reach h x ≤ closed_end h h.frames → IsSafe e e' x
  says_old e' least same inner reach =
      old_image file e keeps fit of.place.free x e' (still_holds file e keeps fit x of.place.free least) (omega (arith, keeps.holds.held, least)) same inner (omega (arith, reach, last))

  pub part_safe : (e' : Editing) → IsPartly b c x → IsSafe e e' x
  part_safe e' part =
      let same : (i : ℕ) → i < end h h.frames → get_or x i 0 ≡ get_or b i 0 = λ i lt. ⊎_elim (λ old. old) (λ new. new ∙ meant_front i lt) (part.each i) in
      let early : (i : ℕ) → i < h.start → get_or x i 0 ≡ get_or b i 0 = λ i lt. same i (omega (arith, lt)) in
      says_old e' part.least (λ i lt out. same i lt) (old_before h.inner h.start x b keeps.rule.inner_end early)
      (reach_sized file e keeps fit x sized (old_some_before h.outer h.start x b keeps.rule.outer_end early))

  -- ---- the new one

  module _ (e' : Editing) (frames : e'.frames ≡ kept h.params zs) (size : length x ≡ length c) (beside : SameBesideFields h n c x) where
    head_kept : KeepsHead h b x
    head_kept = λ i lt out. beside i (omega (arith, lt)) out ∙ meant_front i (omega (arith, lt))

    says_new : HasNew (inner_value h n) x h.inner → outer_reach h x ≤ closed_end h n → IsSafe e e' x
    says_new inner reach =
        let there : end h n ≤ length x = omega (arith, long, size) in
        let says : ImageSays file e x n (data_bytes h.params n) = record {
          keeps = keeps;
          told = new_count file e keeps fit x n of.place.free (put_room file e of zs even n count within room_for) head_kept inner there reach;
          kept = head_kept;
          there = there;
          tail = λ goes_on. absurd (let free = of.place.free in cc);
        } in
        let read : frames_of h n x ≡ kept h.params zs =
        ap (decode h.params n) (data_stay h n c x keeps.rule long there beside)
        ∙ ap (decode h.params n) (data_stay h n put c keeps.rule (put_held file e of zs even n count within room_for) long (λ i lt out. meant_put i lt))
        ∙ sym (put_read file e of zs even n count within room_for) in
        safe_new file e x n (data_bytes h.params n) says e' (read ∙ sym frames)

    early : (i : ℕ) → i < h.start → get_or c i 0 ≡ get_or b i 0
    early i lt = meant_front i (omega (arith, lt))

    still_old : HasOld c x h.inner → outer_reach h x ≤ closed_end h h.frames → IsSafe e e' x
    still_old old reach =
        says_old e' (omega (arith, longer, size)) (λ i lt out. beside i (omega (arith, lt, ends)) out ∙ meant_front i lt)
        (old_through h.inner x c b old (old_before h.inner h.start c b keeps.rule.inner_end early)) reach

    reach_before : IfSome h.outer (HasOld c x) → outer_reach h x ≤ closed_end h h.frames
    reach_before old = reach_sized file e keeps fit x sized (old_some_through h.outer x c b old (old_some_before h.outer h.start c b keeps.rule.outer_end early))

    reach_later : outer_reach h x ≤ closed_end h h.frames → outer_reach h x ≤ closed_end h n
    reach_later reach = omega (arith, reach, closed_more file e keeps fit h.frames n (omega (arith, ends)))

  growing_safe : (e' : Editing) → e'.frames ≡ kept h.params zs → IsGrowing c g n x → IsSafe e e' x
  growing_safe e' frames growing =
      let values = every.free h n h.declared h.trailing n in
      let size = growing.fields.size in
      let beside : SameBesideFields h n c x = λ i lt out. growing.fields.beside i out in
      let inner_new : HasNew (inner_value g n) x h.inner → HasNew (inner_value h n) x h.inner = λ new. subst (λ (v : List ℕ). HasNew v x h.inner) values.inner new in
      let inner = inner_whole file e keeps fit c (inner_value g n) x growing.fields.inner in
      let outer = outer_whole file e keeps fit c (outer_value g n) x growing.fields.outer in
      let outer_new : IfSome h.outer (HasNew (outer_value g n) x) → outer_reach h x ≤ closed_end h n =
      λ new. reach_new file e keeps fit x n (subst (λ (v : List ℕ). IfSome h.outer (HasNew v x)) values.outer new) in
      ⊎_elim
      (λ others.
      let reach = reach_before e' frames size beside others.0 in
      ⊎_elim (λ old. still_old e' frames size beside old reach) (λ new. says_new e' frames size beside (inner_new new) (reach_later e' frames size beside reach)) inner)
      (λ new. says_new e' frames size beside (inner_new new)
      (⊎_elim (λ old. reach_later e' frames size beside (reach_before e' frames size beside old)) outer_new outer))
      growing.ordered

  pub blocks_safe : (e' : Editing) → e'.frames ≡ kept h.params zs → IsBlocksUnderWay b h zs n x → IsSafe e e' x
  blocks_safe e' frames (inl part) = part_safe e' part
  blocks_safe e' frames (inr (inl grows)) = growing_safe e' frames grows.1
  blocks_safe e' frames (inr (inr shrinks)) = absurd (⊎_elim
      (λ exact. omega (arith, shrinks.0, exact, ends))
      (λ few. no_voice h.kind (blocks_held h.kind h.params.channels h.params.codec of.place.blocks (is_held h.kind h.params keeps.rule.fits)) few.0)
      sized.declared)

-- ---- by the numbers that a state was given

module _ (file : List ℕ) (e : Editing) (of : IsEncoded file e) (fit : IsFit e) (sized : IsSized e) (x : List ℕ) where
  -- more are given
  pub given_safe : (xs : List ℤ) → MayEncode xs e.shape e.write_place → IsBlocksUnderWay e.bytes e.shape (whole e.shape.params (e.given ++ xs)) (whole_frames e.shape.params (end_written xs e.shape e.write_place)) x → IsSafe e (encoded_to xs e) x
  given_safe xs may under_way =
      let w = given e.shape.params e.given in
      blocks_safe file e of fit sized (numbers_then file e of xs may) (even_whole file e of xs may) (count_then file e of xs may) refl (no_fewer file e of xs may) (room_whole file e of xs may) (more_bytes w xs)
      (sym (coded_more e.shape.params of.given.form w xs e.given refl)) x (encoded_to xs e) refl
      (subst (λ (m : ℕ). IsBlocksUnderWay e.bytes e.shape (numbers_then file e of xs may) m x) (sym (counted_whole file e of xs may)) under_way)

  -- the file is closed
  pub whole_safe : IsBlocksUnderWay e.bytes e.shape e.given e.write_place x → IsSafe e (encoded_whole e) x
  whole_safe under_way =
      let w = given e.shape.params e.given in
      blocks_safe file e of fit sized e.given (even_given file e of) (length e.given / e.shape.params.channels) refl (whole_within file e of) (room_given file e of) (more_bytes w (padding w))
      (last_given e.shape.params of.given.form w e.given refl) x (encoded_whole e) refl
      (subst (λ (m : ℕ). IsBlocksUnderWay e.bytes e.shape e.given m x) (all_frames file e of) under_way)

-- ---- where the file rests again

pub bytes_given : (file : List ℕ) (e : Editing) (of : IsEncoded file e) (xs : List ℤ) → MayEncode xs e.shape e.write_place → All IsByte e.bytes → e.automatic ≡ true → All IsByte (encoded_to xs e).bytes
bytes_given file e of xs may are on =
    let p = e.shape.params in
    let range : All Is16Bit (e.given ++ xs) = (given_then file e of xs may).given.range in
    let put = bytes_over e.bytes e.shape.start (coded p (whole p (e.given ++ xs))) are (coded_are_bytes p (whole p (e.given ++ xs)) (All-take Is16Bit (whole_blocks p (e.given ++ xs) * block_numbers p) (e.given ++ xs) range)) in
    let h = record e.shape { frames = count_then file e of xs may } in
    subst (λ (t : Bool). All IsByte (sealed_where t (over_blocks e.bytes e.shape (whole p (e.given ++ xs))) h h.frames)) (sym on) (bytes_sealed h h.frames (over_blocks e.bytes e.shape (whole p (e.given ++ xs))) put)

pub given_rests : (file : List ℕ) (e : Editing) (of : IsEncoded file e) (xs : List ℤ) → MayEncode xs e.shape e.write_place → All IsByte e.bytes → is_whole_field e.shape ≡ true → e.automatic ≡ true → Rests (encoded_to xs e)
given_rests file e of xs may are whole_field on =
    let h = record e.shape { frames = count_then file e of xs may } in
    let b = over_blocks e.bytes e.shape (whole e.shape.params (e.given ++ xs)) in
    let even = even_whole file e of xs may in
    let fewer = no_fewer file e of xs may in
    let roomy = room_whole file e of xs may in
    let then = given_then file e of xs may in
    let bytes : All IsByte (sealed b h h.frames) = subst (λ (t : Bool). All IsByte (sealed_where t b h h.frames)) on (bytes_given file e of xs may are on) in
    let told : FileSays (sealed b h h.frames) (counted h h.frames) = put_says file e of (numbers_then file e of xs may) even h.frames refl fewer roomy in
    let rule = more_frames e.shape h.frames of.keeps.rule (is_known file e of.keeps) (put_room file e of (numbers_then file e of xs may) even h.frames refl fewer roomy).1 (inr roomy.in_room) in
    let held = put_held file e of (numbers_then file e of xs may) even h.frames refl fewer roomy in
    let put : Editing = record (encoded_to xs e) { bytes = sealed b h h.frames; shape = counted h h.frames } in
    let rests : Rests put =
    rests_free (encoded_to xs e) (sealed b h h.frames) h h.frames of.place.free bytes told whole_field
    (sealed_outer b h h.frames rule (still_apart e.shape h.frames (fields_apart file e of.keeps)) of.place.free held) (sealed_closes b h h.frames rule (still_apart e.shape h.frames (fields_apart file e of.keeps)) of.place.free held) in
    subst (λ (t : Bool). Rests (record (encoded_to xs e) { bytes = sealed_where t b h h.frames; shape = written_shape t h h.frames })) (sym on) rests
