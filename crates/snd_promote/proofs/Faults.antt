-- What a promotion keeps, also where a call of the disk failed.
use Rattle.std.proofs.Common.{◌≡◌, ⊎_elim, ℕ, ◌+◌, ◌-◌, ◌≤◌, true, List, Option, None, Some, option_map, length, refl, ap, subst, ◌∙◌, inl, inr, arith}
use Rattle.std.specs.Prelude.{IfSome, is_some}
use Rattle.snd_disk.proofs.Public.{length-over, over_in}
use Rattle.snd_disk.specs.Bytes.{Mix, over}
use Rattle.snd_disk.specs.Device.{Tells}
use Rattle.snd_disk.specs.Runs.{HasAt}
use Rattle.snd_disk.specs.State.{State, IsBetween, IsMeant, Keeps}
use Rattle.snd_layout.specs.Shape.{IsReserve, KeepsRule, Shape}
use Rattle.snd_layout.specs.declared.codec.Codec.{Codec}
use Rattle.snd_layout.specs.declared.kind.Kind.{Kind}
use Rattle.snd_patch.proofs.Public.{mix_beside, over_beside, told_between, told_mapped}
use Rattle.snd_patch.specs.Sealed.{SameBesideFields, counted}
use Rattle.snd_patch.specs.Steps.{KeepsBeside, StillTells}
use Rattle.snd_promote.proofs.Contents.{front_counted}
use Rattle.snd_ds64.proofs.Public.{length-new_front}
use Rattle.snd_ds64.proofs.Public.{beside_size}
use Rattle.snd_promote.specs.Images.{KeepsBesideFront, SameBesideFront}
use Rattle.snd_ds64.specs.Promoted.{new_front, new_size}
use Rattle.snd_promote.specs.Steps.{HoldsMixed}

-- the reservation and the head of the data stand before the data
reserve_early : (o : Option ℕ) (kind : Kind) (codec : Codec) (start : ℕ) → IfSome o (IsReserve kind codec start) → is_some o ≡ true → 56 ≤ start
reserve_early None kind codec start is some = absurd (cc)
reserve_early (Some len) kind codec start is some = omega (arith, is.least, is.before)

pub early_start : (h : Shape) → KeepsRule h → is_some h.reserve ≡ true → 56 ≤ h.start
early_start h rule some = reserve_early h.reserve h.kind h.params.codec h.start rule.reserved some

-- ---- one call that puts bytes

-- what is meant is a mix
whole_mix : (b m : List ℕ) → Mix b m m
whole_mix b m = record { size = inr refl; sectors = λ k. inr (λ i in_sector lt. refl) }

module _ {D : Type 0} (state : D → State) (at : ℕ) (v : List ℕ) (old mid : D) where
  pub done_mixed : (to : ℕ) (new : D) → IsMeant to (λ b. over b at v) (state old) (state mid) → Keeps (state mid) (state new) → HoldsMixed state (λ b. over b at v) old new
  done_mixed to new done keeps b told = (over b at v, keeps.contents ∙ done.contents ∙ ap (option_map (λ l. over l at v)) told, whole_mix b (over b at v))

  pub done_tells : (to : ℕ) (new : D) → IsMeant to (λ b. over b at v) (state old) (state mid) → Keeps (state mid) (state new) → StillTells (state old) (state new)
  done_tells to new done keeps = record { told = ap is_some (keeps.contents ∙ done.contents) ∙ told_mapped (λ b. over b at v) (state old).contents; name = keeps.name ∙ done.name }

  pub broken_tells : (to : ℕ) → IsBetween to (λ b. over b at v) (state old) (state mid) → StillTells (state old) (state mid)
  broken_tells to broken = record {
    told = told_between (state old).contents (state mid).contents (λ l told. ((broken.contents l told).0, (broken.contents l told).1)) broken.told;
    name = broken.name;
  }

-- ---- the bytes beside those that are put

module _ (h : Shape) (n : ℕ) (b : List ℕ) (early : 56 ≤ h.start) (there : h.start ≤ length b) where
  abbrev f : List ℕ
  f = new_front h n

  fits : 0 + length f ≤ length b
  fits = omega (arith, early, there, length-new_front h n)

  mixed_long : (x : List ℕ) → Mix b (over b 0 f) x → length x ≡ length b
  mixed_long x mix = ⊎_elim (λ old. old) (λ new. omega (arith, new, length-over b 0 f, fits)) mix.size

  pub front_mixed : (x : List ℕ) → Mix b (over b 0 f) x → SameBesideFront h n b x
  front_mixed x mix = record {
    beside = λ i past place lt out. mix_beside b 0 f x mix i (inr (omega (arith, past, length-new_front h n)));
    front = ⊎_elim (λ is. inl (λ i lt out. is i (omega arith) (omega (arith, lt, early, there, mixed_long x mix))))
        (λ is. inr (λ j lt. is (0 + j) (omega (arith, lt, length-new_front h n)) (omega (arith, lt, fits, mixed_long x mix)) ∙ over_in b 0 f fits j lt)) (mix.sectors 0);
  }

  pub size_mixed : (x : List ℕ) → Mix (over b 0 f) (over (over b 0 f) (h.start - 4) new_size) x → SameBesideFront h n b x
  size_mixed x mix = record {
    beside = λ i past place lt out. mix_beside (over b 0 f) (h.start - 4) new_size x mix i (beside_size h i early place) ∙ over_beside b 0 f i (inr (omega (arith, past, length-new_front h n)));
    front = inr (λ j lt. mix_beside (over b 0 f) (h.start - 4) new_size x mix (0 + j) (inl (omega (arith, lt, early, length-new_front h n))) ∙ over_in b 0 f fits j lt);
  }

module _ {D : Type 0} (state : D → State) (h : Shape) (n : ℕ) (early : 56 ≤ h.start) where
  pub front_beside : (old new : D) → ((b : List ℕ) → Tells state old b → h.start ≤ length b) → HoldsMixed state (λ b. over b 0 (new_front h n)) old new → KeepsBesideFront state h n old new
  front_beside old new there mixed b told =
      let then = mixed b told in
      (then.0, then.1, front_mixed h n b early (there b told) then.0 then.2)

  pub size_beside : (old mid new : D) → ((b : List ℕ) → Tells state old b → h.start ≤ length b) → (state mid).contents ≡ option_map (λ b. over b 0 (new_front h n)) (state old).contents
      → HoldsMixed state (λ b. over b (h.start - 4) new_size) mid new → KeepsBesideFront state h n old new
  size_beside old mid new there contents mixed b told =
      let told_mid : Tells state mid (over b 0 (new_front h n)) = contents ∙ ap (option_map (λ l. over l 0 (new_front h n))) told in
      let then = mixed (over b 0 (new_front h n)) told_mid in
      (then.0, then.1, size_mixed h n b early (there b told) then.0 then.2)

  -- a file that is sealed first
  sealed_same : (b x : List ℕ) → SameBesideFields h n b x → SameBesideFront h n b x
  sealed_same b x same = record { beside = λ i past place lt out. same i lt out; front = inl (λ i lt out. same i (omega (arith, lt, early)) out) }

  then_same : (b c x : List ℕ) → SameBesideFields h n b c → SameBesideFront (counted h n) n c x → SameBesideFront h n b x
  then_same b c x same then = record {
    beside = λ i past place lt out. then.beside i past place lt out ∙ same i lt out;
    front = ⊎_elim (λ old. inl (λ i lt out. old i lt out ∙ same i (omega (arith, lt, early)) out)) (λ new. inr (subst (λ (v : List ℕ). HasAt x 0 v) (front_counted h n n) new)) then.front;
  }

  pub sealed_beside : (old mid : D) → KeepsBeside state h n old mid → KeepsBesideFront state h n old mid
  sealed_beside old mid keeps b told = let then = keeps b told in (then.0, then.1, sealed_same b then.0 then.2)

  pub promoted_beside : (old mid new : D) → KeepsBeside state h n old mid → KeepsBesideFront state (counted h n) n mid new → KeepsBesideFront state h n old new
  promoted_beside old mid new keeps keeps' b told =
      let one = keeps b told in
      let two = keeps' one.0 one.1 in
      (two.0, two.1, then_same b one.0 two.0 one.2 two.2)
