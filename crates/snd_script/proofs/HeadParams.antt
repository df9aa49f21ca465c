-- A new head has the parameters with which it is made.
use Rattle.std.proofs.Common.{◌≡◌, ◌∙◌, ap, sym, []}
use Rattle.snd_container.proofs.Public.{head_laws}
use Rattle.snd_container.specs.Made.{new_shape}
use Rattle.snd_layout.specs.Params.{Parameters}
use Rattle.snd_layout.specs.Shape.{Shape}
use Rattle.snd_layout.specs.declared.kind.Kind.{Kind}

pub new_params : (kind : Kind) (p : Parameters) → (new_shape kind p).params ≡ p
new_params kind p = sym (ap (λ (h : Shape). h.params) ((head_laws kind).bare_shape p)) ∙ (head_laws kind).params_are p []
