-- The steps of the walk.
use Rattle.std.proofs.Common.{◌≡◌, ℕ, ◌+◌, ◌*◌, ◌<◌, ◌≤◌, true, false, List, length, get_or, Option, None, Some, Ok, Err, refl, sym, ap, ◌∙◌, add-one, arith, inl, inr}
use Rattle.std.proofs.lemmas.Bool.{cases_Bool, le-leb, lt-leb}
use Rattle.std.specs.Prelude.{◌⊎◌, ◌==◌, ◌^◌, nat_le, Result, IfOk, IfSome, if◌then◌else◌}
use Rattle.snd_disk.specs.State.{AtMost}
use Rattle.snd_fields.specs.Field.{number}
use Rattle.snd_fields.specs.declared.field.Order.TheVariants.{Little}
use Rattle.snd_layout.specs.declared.refusal.OpenRefusal.{OpenRefusal}
use Rattle.snd_layout.specs.declared.refusal.OpenRefusal.TheVariants.{TooManyChunks, NoData}
use Rattle.snd_voc.proofs.Filling.{number_at}
use Rattle.snd_voc.specs.Layout.{from_seen, remembered, seen, seen_of, size_at, walk}
use Rattle.snd_voc.specs.Parts.{AgreesFrom, IsSound}
use Rattle.snd_voc.specs.declared.blocks.Block.{Block}
use Rattle.snd_voc.specs.declared.blocks.Seen.{Seen}
use Rattle.snd_voc.specs.declared.blocks.Seen.TheVariants.{Found, Refused, Passed}
use Rattle.snd_voc.specs.declared.blocks.Sound.{Sound}

-- what a head that was read says
pub look_is : (b h : List ℕ) (place len : ℕ) (r : Seen) → AgreesFrom b place 4 h → len ≡ number Little h 1 3 → r ≡ seen_of (get_or h 0 0) len place → r ≡ seen b place
look_is b h place len r same counted is =
    let kind : get_or h 0 0 ≡ get_or b place 0 = same 0 (omega arith) ∙ ap (λ k. get_or b k 0) (omega arith) in
    let number_is : len ≡ size_at b place = counted ∙ number_at b h place 4 1 3 same (omega arith) in
    is ∙ ap (λ k. seen_of k len place) kind ∙ ap (λ k. seen_of (get_or b place 0) k place) number_is

module _ (b : List ℕ) (place : ℕ) (last : Option Block) where
  pub last_found : (kind : ℕ) → Found kind ≡ seen b place → walk b 0 place last ≡ Ok (record { kind = kind; at = place; extension = last })
  unfolding walk
  last_found kind is = ap (λ (s : Seen). from_seen s place last (λ block. Err TooManyChunks)) (sym is)

  pub last_refused : (refusal : OpenRefusal) → Refused refusal ≡ seen b place → walk b 0 place last ≡ Err refusal
  unfolding walk
  last_refused refusal is = ap (λ (s : Seen). from_seen s place last (λ block. Err TooManyChunks)) (sym is)

  pub last_passed : (block : Block) → Passed block ≡ seen b place → walk b 0 place last ≡ Err TooManyChunks
  unfolding walk
  last_passed block is = ap (λ (s : Seen). from_seen s place last (λ block. Err TooManyChunks)) (sym is)

  abbrev on : ℕ → Block → Result Sound OpenRefusal
  on n block = if nat_le (block.at + block.len) (length b) then walk b n (block.at + block.len) (remembered block last) else Err NoData

  step : (n m : ℕ) (s : Seen) → m ≡ n + 1 → s ≡ seen b place → walk b m place last ≡ from_seen s place last (on n)
  unfolding walk
  step n m s count is = rw (count, add-one) (ap (λ (t : Seen). from_seen t place last (on n)) (sym is))

  pub step_found : (n m kind : ℕ) → m ≡ n + 1 → Found kind ≡ seen b place → walk b m place last ≡ Ok (record { kind = kind; at = place; extension = last })
  step_found n m kind count is = step n m (Found kind) count is

  pub step_refused : (n m : ℕ) (refusal : OpenRefusal) → m ≡ n + 1 → Refused refusal ≡ seen b place → walk b m place last ≡ Err refusal
  step_refused n m refusal count is = step n m (Refused refusal) count is

  pub step_cut : (n m : ℕ) (block : Block) → m ≡ n + 1 → Passed block ≡ seen b place → length b < block.at + block.len → walk b m place last ≡ Err NoData
  step_cut n m block count is past =
      let test : nat_le (block.at + block.len) (length b) ≡ false = lt-leb (block.at + block.len) (length b) past in
      step n m (Passed block) count is ∙ rw test refl

  pub step_passed : (n m : ℕ) (block : Block) → m ≡ n + 1 → Passed block ≡ seen b place → block.at + block.len ≤ length b → walk b m place last ≡ walk b n (block.at + block.len) (remembered block last)
  step_passed n m block count is within =
      let test : nat_le (block.at + block.len) (length b) ≡ true = le-leb (block.at + block.len) (length b) within in
      step n m (Passed block) count is ∙ rw test refl

-- 4 bytes for one more head
pub asked_more : (a b c n : ℕ) → AtMost a (4 * n) b → AtMost b 4 c → AtMost a (4 * (n + 1)) c
asked_more a b c n first second = record { later = omega (arith, first.later, second.later); most = omega (arith, first.most, second.most) }

-- the block of type 8 that counts begins before the next block
kept_near : (last : Option Block) (place next : ℕ) → place ≤ next → IfSome last (λ block. block.at ≤ place) → IfSome last (λ block. block.at ≤ next)
kept_near None place next later near = tt
kept_near (Some block) place next later near = omega (arith, near, later)

pub remembered_near : (block : Block) (last new : Option Block) (place next : ℕ) → new ≡ remembered block last → place ≤ next → block.at ≤ next → IfSome last (λ e. e.at ≤ place) → IfSome new (λ e. e.at ≤ next)
remembered_near block last new place next is later before near = elim (cases_Bool (block.kind == 8)) [
  | inl eight ↦ let new_is : new ≡ Some block = is ∙ rw eight refl in rw new_is before
  | inr other ↦ let new_is : new ≡ last = is ∙ rw other refl in rw new_is (kept_near last place next later near)
]

-- the sound that the last look found lies near
pub last_near : {E : Type 0} (from n place : ℕ) (last : Option Block) (r : Result Sound E) → place ≤ from + n * 2 ^ 33 → IfSome last (λ block. block.at ≤ place)
    → IfOk r (λ sound. (sound.kind ≡ 1) ⊎ (sound.kind ≡ 9)) → IfOk r (λ sound. sound.at ≡ place) → IfOk r (λ sound. sound.extension ≡ last) → IfOk r (IsSound from n)
last_near from n place last (Ok sound) near before kind at extension = record { kind = kind; near = omega (arith, at, near); extension = rw (extension, at) before }
last_near from n place last (Err e) near before kind at extension = tt
