-- What a file says whose fields were brought up to a number of frames.
use Rattle.std.proofs.Common.{◌≡◌, ◌∙◌, ap, sym, subst, ℕ, ◌+◌, ◌^◌, ◌<◌, ◌≤◌, Bool, true, false, cond, List, All, Some, length, get_or}
use Rattle.std.specs.Prelude.{IfSome}
use Rattle.snd_container.proofs.Public.{free, inner_value_fits, new, outer_value_fits, reaches}
use Rattle.snd_container.specs.Laws.{FileSays}
use Rattle.snd_layout.specs.Container.{HasRoomFor, KeepsHead, LiesIn, counted_shape}
use Rattle.snd_container.specs.Values.{closed_end, inner_value, outer_reach, outer_value}
use Rattle.snd_fields.specs.Laws.{IsByte}
use Rattle.snd_layout.specs.Blocks.{is_adpcm}
use Rattle.snd_layout.specs.Params.{data_bytes}
use Rattle.snd_layout.specs.Shape.{KeepsRule, Shape, end}
use Rattle.snd_patch.proofs.Public.{order_is_free, shrinks_from_to}
use Rattle.snd_patch.specs.Images.{AllLieApart, HasNew, IsShrinking}
use Rattle.snd_patch.specs.Sealed.{counted, with_fewer, with_fields}
use Rattle.snd_edits.proofs.FileRules.{lies_in}
use Rattle.snd_edits.proofs.ImageFields.{SameBefore, fewer_inner, fewer_outer, fields_lie_apart, new_before, recounted}

module _ (file : List ℕ) (head : Shape) (bytes : All IsByte file) (opened : FileSays file head) (joined : is_adpcm head.params.codec ≡ true → 12 ≤ head.inner.size) (length_known : head.unknown_length ≡ false) where
  lies : LiesIn file head
  lies = lies_in file head bytes opened

  -- any file with the fields of n frames in a head of this file, and with their data
  pub fields_read_back : (x y : List ℕ) (h : Shape) (n : ℕ) → h ≡ recounted head h.frames h.declared → KeepsRule h → h.trailing ≡ false → HasRoomFor head n → end head n + 8 ≤ 2 ^ 63
      → KeepsHead h file y → h.start ≤ length y → ((i : ℕ) → i < h.start → get_or x i 0 ≡ get_or (with_fields y h n) i 0) → end h n ≤ length x → FileSays x (counted h n)
  fields_read_back x y h n shape rule stops fits ends kept in_y same long =
      subst (λ (s : Shape). FileSays x (counted s n)) (sym shape)
      (read_back x y h.frames h.declared n (subst KeepsRule shape rule) (sym (ap (λ (s : Shape). s.trailing) shape) ∙ stops) fits ends (subst (λ (s : Shape). KeepsHead s file y) shape kept)
      (subst (λ (s : Shape). s.start ≤ length y) shape in_y) (subst (λ (s : Shape). (i : ℕ) → i < s.start → get_or x i 0 ≡ get_or (with_fields y s n) i 0) shape same) (subst (λ (s : Shape). end s n ≤ length x) shape long))
    where
      read_back : (x y : List ℕ) (f d n : ℕ) → KeepsRule (recounted head f d) → head.trailing ≡ false → HasRoomFor head n → end head n + 8 ≤ 2 ^ 63 → KeepsHead (recounted head f d) file y
          → head.start ≤ length y → ((i : ℕ) → i < head.start → get_or x i 0 ≡ get_or (with_fields y (recounted head f d) n) i 0) → end head n ≤ length x
          → FileSays x (counted (recounted head f d) n)
      read_back x y f d n rule ends_there fits ends kept in_y same long =
          let h = recounted head f d in
          let apart : AllLieApart h = fields_lie_apart file head f d opened in
          let values = free head f d head.trailing n in
          let put = with_fewer y h n in
          let fields : IsShrinking y h n put = (shrinks_from_to y h n rule apart in_y).1 in
          let before : SameBefore head.start x put = λ i lt. same i lt ∙ sym (ap (λ (l : List ℕ). get_or l i 0) (order_is_free y h n rule apart.inner in_y)) in
          let inner : HasNew (inner_value h n) x h.inner = new_before (Some h.inner) (inner_value h n) h.start x put (inner_value_fits h n rule) rule.inner_end before (fewer_inner y h n rule apart in_y) in
          let outer : IfSome h.outer (HasNew (outer_value h n) x) = new_before h.outer (outer_value h n) h.start x put (outer_value_fits h n rule) rule.outer_end before (fewer_outer y h n rule apart in_y) in
          let reach : outer_reach head x ≤ closed_end head n = reaches head.kind file x head n opened (subst (λ (v : List ℕ). IfSome head.outer (HasNew v x)) values.outer outer) in
          let says : FileSays x (counted_shape head n) =
          new head.kind file x head n (record { says = opened; bytes = bytes; params = lies.params; free = ends_there; known = length_known; room = fits; on_disk = ends; joined = joined })
          (λ i lt out. before i lt ∙ fields.fields.beside i out ∙ kept i lt out) (subst (λ (v : List ℕ). HasNew v x head.inner) values.inner inner) long reach in
          subst (λ (t : Bool). FileSays x (record head { frames = n; declared = cond t d (data_bytes head.params n) })) (sym ends_there) says
