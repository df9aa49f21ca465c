-- What an image says whose fields are partly old and partly new, of a file that is fit for updates.
use Rattle.std.proofs.Common.{◌≡◌, ◌⊎◌, refl, sym, subst, inl, inr, ⊎_elim, ℕ, ◌+◌, ◌-◌, ◌/◌, ◌^◌, ◌<◌, ◌≤◌, Bool, true, false, ◌||◌, List, Option, None, Some, length, get_or, max, arith}
use Rattle.std.proofs.lemmas.Bool.{and_parts, cases_Bool, cases_lt, eqb-true, leb-true, ltb-true}
use Rattle.std.specs.Prelude.{IfSome, IsTrue, is_none, nat_le, nat_lt}
use Rattle.snd_container.proofs.Public.{apart, closes, fill, new, old, order, outside, reaches, stops, voice, within}
use Rattle.snd_container.specs.Laws.{FileSays}
use Rattle.snd_container.specs.Values.{closed_end, declared_end, inner_value, outer_reach, outer_value}
use Rattle.snd_layout.specs.Container.{HasRoomFor, KeepsHead, LiesIn, is_in, is_in_fields, is_in_some}
use Rattle.snd_layout.specs.Params.{data_bytes}
use Rattle.snd_layout.specs.Shape.{Shape, end, is_outer_size, is_side_size}
use Rattle.snd_layout.specs.declared.field.Field.{Field}
use Rattle.snd_layout.specs.declared.kind.Kind.{Kind}
use Rattle.snd_layout.specs.declared.kind.Kind.TheVariants.{Voc}
use Rattle.snd_patch.specs.Images.{HasNew, HasOld, IsOldOrNew}
use Rattle.snd_edits.specs.Editing.{Editing}
use Rattle.snd_edits.specs.Laws.{KeepsFile}
use Rattle.snd_edits.specs.Safe.{DeclaresFew, IsFit, IsSized}
use Rattle.snd_edits.proofs.EditedFiles.{is_joined, is_known}
use Rattle.snd_edits.proofs.FileRules.{lies_in}
use Rattle.snd_edits.proofs.ImageFields.{recounted, still_has, whole_some}

-- an image holds the data that a layout declares, as its file does, or those of the frames, of which it declares no more
abbrev pub HoldsOld : Shape → List ℕ → List ℕ → Type 0
HoldsOld h b x = ((h.start + h.declared ≤ length b) × (h.start + h.declared ≤ length x)) ⊎ (DeclaresFew h × (end h h.frames ≤ length x))

only_inner : (inner : Bool) (outer side : Option Field) (i : ℕ) → is_none outer ≡ true → is_none side ≡ true → (inner || is_in_some outer i || is_in_some side i) ≡ true → inner ≡ true
only_inner true outer side i none none' is = refl
only_inner false None None i none none' is = is
only_inner false None (Some field) i none none' is = absurd (cc)
only_inner false (Some field) side i none none' is = absurd (cc)

module _ (opened : List ℕ) (e : Editing) (of : KeepsFile opened e) (fit : IsFit e) where
  abbrev h : Shape
  h = e.shape

  abbrev b : List ℕ
  b = e.bytes

  pub lies : LiesIn b h
  lies = lies_in b h fit.bytes fit.told

  pub declared_more : data_bytes h.params h.frames ≤ h.declared
  declared_more = lies.declared (is_known opened e of)

  pub closed_declared : (n : ℕ) → data_bytes h.params n ≤ h.declared → closed_end h n ≤ declared_end h
  closed_declared n few = (order h.kind b h n fit.told).1 few

  pub declared_less : (n : ℕ) → h.declared ≤ data_bytes h.params n → declared_end h ≤ closed_end h n
  declared_less n few = (order h.kind b h n fit.told).0 few

  pub closed_more : (n m : ℕ) → data_bytes h.params n ≤ data_bytes h.params m → closed_end h n ≤ closed_end h m
  closed_more n m few = (closes h.kind h).ordered n m few

  -- ---- the field that decides the count, and the size of the whole, each as a whole

  pub inner_whole : (c v x : List ℕ) → IsOldOrNew c v x h.inner → HasOld c x h.inner ⊎ HasNew v x h.inner
  inner_whole c v x either = either (sym (eqb-true (h.inner.at / 512) ((h.inner.at + h.inner.size - 1) / 512) fit.whole))

  pub outer_whole : (c v x : List ℕ) → IfSome h.outer (IsOldOrNew c v x) → IfSome h.outer (HasOld c x) ⊎ IfSome h.outer (HasNew v x)
  outer_whole c v x either = whole_some h.outer c v x (apart b h fit.told).whole either

  -- ---- how far chunks are read

  pub reach_new : (x : List ℕ) (n : ℕ) → IfSome h.outer (HasNew (outer_value h n) x) → outer_reach h x ≤ closed_end h n
  reach_new x n has = reaches h.kind b x h n fit.told has

  pub reach_old : (x : List ℕ) → h.trailing ≡ false → IfSome h.outer (HasOld b x) → length x ≤ max (length b) (declared_end h) → outer_reach h x ≤ declared_end h
  reach_old x free old most = elim (cases_lt (length b) (length x)) [
    | inl longer ↦ omega (arith, longer, most, within h.kind h.kind x)
    | inr few ↦ stops h.kind b x h fit.told free old few
  ]

  -- where the size is that of the frames it is so however long the image is
  pub reach_sized : (x : List ℕ) → IsSized e → IfSome h.outer (HasOld b x) → outer_reach h x ≤ closed_end h h.frames
  reach_sized x sized old = reach_new x h.frames (still_has h.outer x b (outer_value h h.frames) (fill b h h.frames fit.told).outer old sized.outer)

  -- ---- the old count and the new one

  -- a longer image holds them as the file does
  pub still_holds : (x : List ℕ) → h.trailing ≡ false → length b ≤ length x → HoldsOld h b x
  still_holds x free longer =
      ⊎_elim (λ there. inl (there, omega (arith, there, longer))) (λ few. inr (few, omega (arith, lies.held, longer))) (fit.there free)

  -- a Creative Voice file has no other field
  voice_before : h.kind ≡ Voc → (x : List ℕ) → KeepsHead h b x → HasOld b x h.inner → (i : ℕ) → i < h.start → get_or x i 0 ≡ get_or b i 0
  voice_before voc x kept inner i lt = elim (cases_Bool (is_in_fields h i)) [
    | inr out ↦ kept i lt out
    | inl is ↦
        let outer : is_none h.outer ≡ true = subst (λ (k : Kind). IsTrue (is_outer_size k h.outer)) voc lies.rule.outer_size in
        let side : is_none h.side ≡ true = subst (λ (k : Kind). IsTrue (is_side_size k h.params.codec h.side)) voc lies.rule.side_size in
        let parts = and_parts (nat_le h.inner.at i) (nat_lt i (h.inner.at + h.inner.size)) (only_inner (is_in h.inner i) h.outer h.side i outer side is) in
        let from : h.inner.at ≤ i = leb-true h.inner.at i parts.0 in
        let to : i < h.inner.at + h.inner.size = ltb-true i (h.inner.at + h.inner.size) parts.1 in
        let place : h.inner.at + (i - h.inner.at) ≡ i = omega (arith, from) in
        subst (λ (k : ℕ). get_or x k 0 ≡ get_or b k 0) place (inner (i - h.inner.at) (omega (arith, from, to)))
  ]

  pub old_count : (x : List ℕ) → h.trailing ≡ false → HoldsOld h b x → KeepsHead h b x → HasOld b x h.inner → outer_reach h x ≤ declared_end h → FileSays x h
  old_count x free there kept inner reach =
      ⊎_elim (λ all. old h.kind b x h fit.told fit.bytes free (is_known opened e of) (record { old = all.0; new = all.1 }) kept inner reach)
      (λ few. voice h.kind b x h fit.told few.0.0 few.0.1 few.1 (voice_before few.0.0 x kept inner)) there

  pub new_count : (x : List ℕ) (n : ℕ) → h.trailing ≡ false → HasRoomFor h n × (end h n + 8 ≤ 2 ^ 63) → KeepsHead h b x → HasNew (inner_value h n) x h.inner → end h n ≤ length x → outer_reach h x ≤ closed_end h n
      → FileSays x (recounted h n (data_bytes h.params n))
  new_count x n free room kept inner there reach =
      new h.kind b x h n
      (record { says = fit.told; bytes = fit.bytes; params = lies.params; free = free; known = is_known opened e of; room = room.0; on_disk = room.1; joined = is_joined opened e of }) kept inner there reach

  -- data alone that have changed
  pub data_changed : (x : List ℕ) → length x ≡ length b → ((i : ℕ) → (i < h.start) ⊎ (end h h.frames ≤ i) → get_or x i 0 ≡ get_or b i 0) → FileSays x h
  data_changed x long same =
      let told = record h { trailing = fit.told.goes_on } in
      record { goes_on = fit.told.goes_on; told = outside h.kind b x told fit.told.told lies.params long same; same = fit.told.same }
