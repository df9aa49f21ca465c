-- The frames of an open file once it is sealed or cut.
use Rattle.std.proofs.Common.{◌≡◌, ◌∙◌, ap, sym, subst, inl, inr, ℕ, ◌≤◌, Bool, false, cond, List, length, max, arith}
use Rattle.std.proofs.lemmas.Bool.{cases_Bool}
use Rattle.snd_layout.specs.Params.{data_bytes}
use Rattle.snd_layout.specs.Shape.{KeepsRule, Shape, end}
use Rattle.snd_blocks.specs.Sound.{decode, frames_in}
use Rattle.snd_patch.specs.Sealed.{counted, sealed, sealed_size}
use Rattle.snd_container.specs.Values.{closed_end}
use Rattle.snd_patch.proofs.Public.{sealed_keeps}
use Rattle.snd_edits.proofs.EditedFrames.{closed_counted}
use Rattle.snd_edits.proofs.Overwritten.{data_stay}

pub sealed_decoded : (b : List ℕ) (h : Shape) → KeepsRule h → end h h.frames ≤ length b → end h h.frames ≤ length (sealed b h h.frames)
    → frames_in b h ≡ frames_in (sealed b h h.frames) (counted h h.frames)
sealed_decoded b h rule fits long = sym (ap (decode h.params h.frames) (data_stay h h.frames b (sealed b h h.frames) rule fits long (sealed_keeps b h h.frames rule)))

pub sealed_no_less : (size : ℕ) (h : Shape) (n : ℕ) → size ≤ sealed_size size h n
sealed_no_less size h n = elim (cases_Bool h.trailing) [
  | inl is ↦ rw is (omega arith)
  | inr other ↦ rw other (omega arith)
]

pub sealed_closed : (size : ℕ) (h : Shape) (n new : ℕ) → new ≡ sealed_size size h n → h.trailing ≡ false → closed_end (counted h n) n ≤ new
sealed_closed size h n new is free =
    subst (λ (m : ℕ). m ≤ new) (sym (closed_counted h n)) (let e : new ≡ max size (closed_end h n) = is ∙ ap (λ (t : Bool). cond t size (max size (closed_end h n))) free in omega (arith, e))

pub sealed_declared : (h : Shape) (n : ℕ) → h.trailing ≡ false → (counted h n).declared ≡ data_bytes h.params n
sealed_declared h n free = ap (λ (t : Bool). cond t h.declared (data_bytes h.params n)) free
