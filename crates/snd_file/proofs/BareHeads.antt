-- A disk that holds nothing but a head stays so as the file is sealed, cut behind its data, or written no frame.
use Rattle.std.proofs.Common.{◌≡◌, ◌∙◌, ap, sym, subst, refl, ℕ, ◌+◌, ◌<◌, ◌≤◌, Bool, true, false, cond, List, [], Some, ℤ, option_map, length, take, max, arith}
use Rattle.std.proofs.lemmas.Bool.{le-leb, le-ltb}
use Rattle.std.proofs.lemmas.List.{take_all}
use Rattle.std.specs.Prelude.{nat_le, nat_lt}
use Rattle.snd_container.specs.Values.{closed_end, closing}
use Rattle.snd_container.specs.Put.{HoldsHead}
use Rattle.snd_disk.specs.State.{State}
use Rattle.snd_layout.specs.Params.{data_bytes}
use Rattle.snd_layout.specs.Shape.{KeepsRule, Shape, end}
use Rattle.snd_patch.specs.Sealed.{closed, counted, over_closing, patched, sealed, sealed_size, with_fewer, with_fields}
use Rattle.snd_edits.specs.Edits.{closed_behind, coded, count_written, cut_off, over_data, sealed_where, written_bytes, written_shape}
use Rattle.snd_file.specs.Heads.{HasHead}
use Rattle.snd_layout.specs.Kinds.{holds_pieces}
use Rattle.snd_edits.specs.Writing.{closed_size}
use Rattle.snd_chunks.proofs.Public.{option_same, over_nothing}
use Rattle.snd_file.proofs.KindHeads.{bare_head, head_same}
use Rattle.snd_file.proofs.HeadLaws.{IsBareHead}

module _ (disk : State) (h : Shape) (bare : IsBareHead disk h) (told : (b : List ℕ) → disk.contents ≡ Some b → disk.size ≡ length b) where
  closed_here : closed_end h h.frames ≡ disk.size
  closed_here = ap (closed_end h) bare.frames ∙ (let e : closed_end h 0 ≡ disk.size = omega (arith, bare.ends, ap length bare.unclosed) in e)

  declares : data_bytes h.params h.frames ≡ h.declared
  declares = ap (data_bytes h.params) bare.frames ∙ sym bare.declared

  pub counted_same : counted h h.frames ≡ h
  counted_same =
      ap (λ (d : ℕ). record h { frames = h.frames; declared = d }) (ap (λ (t : Bool). cond t h.declared (data_bytes h.params h.frames)) bare.free ∙ declares)

  pub sealed_size_same : sealed_size disk.size h h.frames ≡ disk.size
  sealed_size_same = ap (λ (t : Bool). cond t disk.size (max disk.size (closed_end h h.frames))) bare.free ∙ omega (arith, closed_here)

  module _ (b : List ℕ) (is : disk.contents ≡ Some b) where
    long : closed_end h h.frames ≡ length b
    long = closed_here ∙ told b is

    fields_same : with_fields b h h.frames ≡ b
    fields_same = ap (with_fields b h) bare.frames ∙ bare.fields b is

    patched_same : patched b h h.frames ≡ b
    patched_same =
        let least : nat_le h.declared (data_bytes h.params h.frames) ≡ true = le-leb h.declared (data_bytes h.params h.frames) (omega (arith, declares)) in
        ap (λ (t : Bool). cond t (with_fields b h h.frames) (with_fewer b h h.frames)) least ∙ fields_same

    closed_same : closed b h h.frames ≡ b
    closed_same =
        let all : nat_lt (length b) (closed_end h h.frames) ≡ false = le-ltb (length b) (closed_end h h.frames) (omega (arith, long)) in
        ap (λ (t : Bool). cond t (over_closing b h h.frames) b) all

    pub sealed_same : sealed b h h.frames ≡ b
    sealed_same =
        ap (λ (t : Bool). cond t b (patched (closed b h h.frames) h h.frames)) bare.free ∙ ap (λ (l : List ℕ). patched l h h.frames) closed_same ∙ patched_same

    ends : end h h.frames ≡ length b
    ends = ap (end h) bare.frames ∙ bare.ends ∙ told b is

    pub cut_same : cut_off b h h.frames ≡ b
    cut_same =
        let none : closing h h.frames ≡ [] = ap (closing h) bare.frames ∙ bare.unclosed in
        ap (take (closed_end h h.frames)) (over_nothing b (end h h.frames) (closing h h.frames) ends none) ∙ take_all (closed_end h h.frames) b (omega (arith, long))

    sealed_where_same : (automatic : Bool) → sealed_where automatic b h h.frames ≡ b
    sealed_where_same true = sealed_same
    sealed_where_same false = refl

    -- no numbers put at the end
    pub written_same : (automatic : Bool) (place n : ℕ) (xs : List ℤ) → place ≡ h.frames → n ≡ h.frames → coded h.params xs ≡ [] → written_bytes automatic b h place n xs ≡ b
    written_same automatic place n xs at all none =
        let overlaid : over_data b h place xs ≡ b = over_nothing b (end h place) (coded h.params xs) (ap (end h) at ∙ ends) none in
        let no_more : nat_lt h.frames n ≡ false = le-ltb h.frames n (omega (arith, all)) in
        let shut : closed_behind (over_data b h place xs) h n ≡ b = ap (λ (t : Bool). cond t (over_closing (over_data b h place xs) h n) (over_data b h place xs)) no_more ∙ overlaid in
        ap (λ (l : List ℕ). sealed_where automatic l h n) shut ∙ ap (λ (m : ℕ). sealed_where automatic b h m) all ∙ sealed_where_same automatic

  written_shape_same : (automatic : Bool) → written_shape automatic h h.frames ≡ h
  written_shape_same true = counted_same
  written_shape_same false = refl

  pub written_known : (automatic : Bool) (n : ℕ) → n ≡ h.frames → written_shape automatic h n ≡ h
  written_known automatic n all = ap (written_shape automatic h) all ∙ written_shape_same automatic

  pub written_size : (at n : ℕ) (bytes : List ℕ) → at ≡ h.frames → n ≡ h.frames → bytes ≡ [] → closed_size (max disk.size (end h at + length bytes)) h n ≡ disk.size
  written_size at n bytes here all none =
      let no_more : nat_lt h.frames n ≡ false = le-ltb h.frames n (omega (arith, all)) in
      let size = max disk.size (end h at + length bytes) in
      let end_at : end h at ≡ disk.size = ap (end h) here ∙ ap (end h) bare.frames ∙ bare.ends in
      ap (λ (t : Bool). cond t (max size (closed_end h n)) size) no_more ∙ omega (arith, end_at, ap length none)

-- each call that may be made before the first frame
module _ (old new : State) (h h' : Shape) (rule : KeepsRule h) (was : HasHead old h) (told : (b : List ℕ) → old.contents ≡ Some b → old.size ≡ length b) where
  module _ (holds : holds_pieces h.kind ≡ true) where
    bare : IsBareHead old h
    bare = bare_head old h holds rule (was holds)

    -- what leaves the bytes and the layout leaves the head
    stays : (f : List ℕ → List ℕ) → h' ≡ h → new.size ≡ old.size → new.contents ≡ option_map f old.contents → ((b : List ℕ) → old.contents ≡ Some b → f b ≡ b) → ∥ HoldsHead new h' ∥₁
    stays f is size contents same = subst (λ (s : Shape). ∥ HoldsHead new s ∥₁) (sym is) (head_same old new h holds size (contents ∙ option_same old.contents f same) (was holds))

  pub sealed_head : h' ≡ counted h h.frames → new.size ≡ sealed_size old.size h h.frames → new.contents ≡ option_map (λ b. sealed b h h.frames) old.contents → HasHead new h'
  sealed_head is size contents = λ holds'.
      let holds : holds_pieces h.kind ≡ true = sym (ap (λ (s : Shape). holds_pieces s.kind) is) ∙ holds' in
      let b = bare holds in
      stays holds (λ l. sealed l h h.frames) (is ∙ counted_same old h b told) (size ∙ sealed_size_same old h b told) contents (sealed_same old h b told)

  pub cut_head : h' ≡ record h { trailing = false } → new.size ≡ closed_end h h.frames → new.contents ≡ option_map (λ b. cut_off b h h.frames) old.contents → HasHead new h'
  cut_head is size contents = λ holds'.
      let holds : holds_pieces h.kind ≡ true = sym (ap (λ (s : Shape). holds_pieces s.kind) is) ∙ holds' in
      let b = bare holds in
      stays holds (λ l. cut_off l h h.frames) (is ∙ ap (λ (t : Bool). record h { trailing = t }) (sym b.free)) (size ∙ closed_here old h b told) contents (cut_same old h b told)

  pub written_head : (automatic : Bool) (place n : ℕ) (xs : List ℤ) → place ≤ h.frames → n ≡ count_written h place 0 → coded h.params xs ≡ [] → h' ≡ written_shape automatic h n
      → new.size ≡ closed_size (max old.size (end h place + length (coded h.params xs))) h n → new.contents ≡ option_map (λ b. written_bytes automatic b h place n xs) old.contents → HasHead new h'
  written_head automatic place n xs within total none is size contents = λ holds'.
      let same_kind : h'.kind ≡ h.kind = ap (λ (s : Shape). s.kind) is ∙ kind_of automatic n in
      let holds : holds_pieces h.kind ≡ true = sym (ap holds_pieces same_kind) ∙ holds' in
      let b = bare holds in
      let here : place ≡ h.frames = omega (arith, within, b.frames) in
      let all : n ≡ h.frames = omega (arith, total, within) in
      stays holds (λ l. written_bytes automatic l h place n xs) (is ∙ written_known old h b told automatic n all) (size ∙ written_size old h b told place n (coded h.params xs) here all none) contents
      (λ l is_l. written_same old h b told l is_l automatic place n xs here all none)
    where
      kind_of : (automatic : Bool) (n : ℕ) → (written_shape automatic h n).kind ≡ h.kind
      kind_of true n = refl
      kind_of false n = refl

-- where no frame stands, none fewer can stay
pub no_fewer : (disk : State) (h : Shape) (to : ℕ) → IsBareHead disk h → to < h.frames → ⊥
no_fewer disk h to bare fewer = absurd (omega (arith, bare.frames, fewer))
