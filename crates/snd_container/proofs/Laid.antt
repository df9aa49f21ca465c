-- A head that is laid, where the kind is known.
use Rattle.std.proofs.Common.{◌≡◌, ◌∙◌, ℕ, [], Option, None, refl, length, Result, Ok, Err, ap, sym, subst}
use Rattle.std.specs.Prelude.{IfOk, OnOk}
use Rattle.snd_disk.specs.State.{State, IsMeant}
use Rattle.snd_layout.specs.Fit.{fit_refusal}
use Rattle.snd_layout.specs.Params.{AreParams, Parameters}
use Rattle.snd_layout.specs.Shape.{Shape}
use Rattle.snd_layout.specs.declared.kind.Kind.{Kind}
use Rattle.snd_layout.specs.declared.kind.Kind.TheVariants.{Wave, Rf64, W64, Au, Dns, Voc, Svx, Sphere}
use Rattle.snd_wave.proofs.Public.{head_laid}
use Rattle.snd_container.proofs.EveryKind.{laws_of}
use Rattle.snd_container.proofs.Heads.{SaysKind, of_kind}
use Rattle.snd_container.specs.Kinds.{container_of}
use Rattle.snd_container.specs.Made.{new_file}
use Rattle.snd_container.specs.Put.{IsHeadOf, heads_for, heads_of}
use Rattle.snd_rf64.specs.Written.{made_shape as rf64_shape}
use Rattle.snd_sphere.specs.Written.{made_shape as sphere_shape}
use Rattle.snd_svx.specs.Written.{made_shape as svx_shape}
use Rattle.snd_voc.specs.Written.{made_shape as voc_shape}
use Rattle.snd_w64.specs.Written.{made_shape as w64_shape}
use Rattle.snd_wave.specs.Written.{reserved_shape as wave_shape}

-- what becomes of the disk
abbrev pub IsLaid : {T E : Type 0} → Result T E → Kind → Parameters → State → State → Type 0
IsLaid r kind p old new = OnOk r (IsMeant (length (new_file kind p)) (λ b. new_file kind p) old new)

pub laid : {T E : Type 0} (r : Result T E) (kind known : Kind) (p : Parameters) (old new : State) → kind ≡ known → IsLaid r known p old new → IsLaid r kind p old new
laid r kind known p old new is done = subst (λ (k : Kind). IsLaid r k p old new) (sym is) done

-- what is made has no reservation
pub unreserved : (kind : Kind) (p : Parameters) → ((container_of kind).made p).reserve ≡ None
unfolding wave_shape rf64_shape w64_shape voc_shape svx_shape sphere_shape
unreserved Wave p = refl
unreserved Rf64 p = refl
unreserved W64 p = refl
unreserved Au p = refl
unreserved Dns p = refl
unreserved Voc p = refl
unreserved Svx p = refl
unreserved Sphere p = refl

-- and what it holds then: the head without pieces is that of a new file
pub record IsPlain (known : Kind) (p : Parameters) : Type 0 where
  pub may : (heads_of known).may p []
  pub shape : (heads_of known).shape p [] ≡ (container_of known).made p
  pub head : (heads_of known).head p [] ≡ (container_of known).head p

pub holds_plain : {E : Type 0} (r : Result Shape E) (known : Kind) (p : Parameters) (old new : State) → IsPlain known p → ((h : Shape) → h ≡ (container_of known).made p → h.kind ≡ known)
    → IfOk r (λ h. h ≡ (container_of known).made p) → IsLaid r known p old new → IfOk r (λ h. IsHeadOf new h p [])
holds_plain (Err error) known p old new plain kind made done = tt
holds_plain (Ok h) known p old new plain kind made done =
    let says : SaysKind known (heads_of known) h = (kind h made, ap (λ (s : Shape). heads_for s.reserve known) made ∙ ap (λ (r : Option ℕ). heads_for r known) (unreserved known p)) in
    of_kind known (heads_of known) new h h p [] says
    (head_laid (heads_of known) old new h p plain.may (made ∙ sym plain.shape) (subst (λ l. IsMeant (length l) (λ b. l) old new) (sym plain.head) done))

-- the kind of what is made
pub made_kind : (known : Kind) (p : Parameters) (good : AreParams p) → fit_refusal known p ≡ None → (h : Shape) → h ≡ (container_of known).made p → h.kind ≡ known
made_kind known p good fits h is = ap (λ (s : Shape). s.kind) is ∙ ((laws_of known).made p good fits).is_kind
