-- Bytes put over a head that holds them already.
use Rattle.std.proofs.Common.{◌≡◌, ◌∙◌, ap, sym, refl, ℕ, ◌+◌, ◌-◌, ◌≤◌, List, [], ◌++◌, Option, None, Some, option_map, length, take, drop, replicate, arith}
use Rattle.std.proofs.lemmas.List.{append-nil, places, same_lists, take-append-drop}
use Rattle.snd_chunks.proofs.WrittenChunks.{has_part}
use Rattle.snd_disk.specs.Bytes.{over}
use Rattle.snd_disk.specs.Runs.{HasAt}
use Rattle.snd_disk.proofs.Public.{length-over}
use Rattle.snd_fields.specs.Field.{with_field}
use Rattle.snd_layout.specs.declared.field.Field.{Field}
use Rattle.snd_layout.specs.Filled.{over_field}

-- within a list there are no zeros between
pub over_within : (b : List ℕ) (at : ℕ) (s : List ℕ) → at ≤ length b → over b at s ≡ with_field b at s
over_within b at s fits =
    let none : at - length b ≡ 0 = omega (arith, fits) in
    ap (λ (k : ℕ). take at b ++ replicate k 0 ++ s ++ drop (at + length s) b) none ∙ ap (λ (l : List ℕ). l ++ s ++ drop (at + length s) b) (append-nil (take at b))

pub field_longer : (field : Option Field) (b v : List ℕ) → length b ≤ length (over_field field b v)
field_longer None b v = omega arith
field_longer (Some f) b v = omega (arith, length-over b f.at v)

-- bytes put where they stand already leave a list
whole_again : (b : List ℕ) (at k : ℕ) → at + k ≤ length b → take at b ++ take k (drop at b) ++ drop (at + k) b ≡ b
whole_again b at k within = same_lists _ _ (grind (arith, places)) (λ i d lt. grind (arith, places))

pub over_stays : (b : List ℕ) (at : ℕ) (v : List ℕ) → at + length v ≤ length b → HasAt b at v → over b at v ≡ b
over_stays b at v within has =
    let there : take (length v) (drop at b) ≡ v = has_part (length v) b at v refl within has in
    over_within b at v (omega (arith, within)) ∙ ap (λ (l : List ℕ). take at b ++ l ++ drop (at + length v) b) (sym there) ∙ whole_again b at (length v) within

-- .. three times
pub three_stay : (b u v w : List ℕ) (i o s : ℕ) → i + length u ≤ length b → HasAt b i u → o + length v ≤ length b → HasAt b o v → s + length w ≤ length b → HasAt b s w → over (over (over b i u) o v) s w ≡ b
three_stay b u v w i o s first has_first second has_second third has_third =
    ap (λ (l : List ℕ). over (over l o v) s w) (over_stays b i u first has_first) ∙ ap (λ (l : List ℕ). over l s w) (over_stays b o v second has_second) ∙ over_stays b s w third has_third

-- no bytes put behind a list leave it
pub over_nothing : (b : List ℕ) (at : ℕ) (s : List ℕ) → at ≡ length b → s ≡ [] → over b at s ≡ b
over_nothing b at s end none =
    over_within b at s (omega (arith, end))
    ∙ ap (λ (v : List ℕ). with_field b at v) none
    ∙ ap (λ (l : List ℕ). l ++ drop (at + 0) b) (append-nil (take at b))
    ∙ (let more : at + 0 ≡ at = omega arith in ap (λ (k : ℕ). take at b ++ drop k b) more)
    ∙ take-append-drop at b

pub option_same : (o : Option (List ℕ)) (f : List ℕ → List ℕ) → ((b : List ℕ) → o ≡ Some b → f b ≡ b) → option_map f o ≡ o
option_same None f same = refl
option_same (Some b) f same = ap (λ (l : List ℕ). Some l) (same b refl)
