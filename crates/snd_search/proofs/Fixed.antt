-- What a good format states whose samples have a fixed number of bytes.
use Rattle.std.proofs.Common.{◌≡◌, ◌∙◌, ℕ, Bool, true, false, cond, List, Option, None, Some, Ok, Err, refl, sym, ap}
use Rattle.std.specs.Prelude.{IfSome, Result}
use Rattle.snd_layout.proofs.Formats.{format_fits}
use Rattle.snd_layout.specs.Blocks.{is_adpcm}
use Rattle.snd_layout.specs.Fit.{fit_refusal}
use Rattle.snd_layout.specs.Format.{format_of}
use Rattle.snd_layout.specs.Params.{Parameters}
use Rattle.snd_layout.specs.declared.kind.Kind.TheVariants.{Wave}
use Rattle.snd_layout.specs.declared.refusal.OpenRefusal.{OpenRefusal}
use Rattle.snd_search.specs.Search.{fixed_format}

chosen : (t : Bool) (p q : Parameters) → Some q ≡ cond t None (Some p) → (t ≡ false) × (q ≡ p)
chosen true p q is = absurd (cc)
chosen false p q is = (refl, cc)

is_fixed_as : (r : Result Parameters OpenRefusal) (q : Parameters) → Some q ≡ fixed_format r → (is_adpcm q.codec ≡ false) × (r ≡ Ok q)
is_fixed_as (Err refusal) q is = absurd (cc)
is_fixed_as (Ok p) q is =
    let parts = chosen (is_adpcm p.codec) p q is in
    (ap (λ (x : Parameters). is_adpcm x.codec) parts.1 ∙ parts.0, ap (λ (x : Parameters). Ok x) (sym parts.1))

pub fixed_fits : (x : List ℕ) (params : Option Parameters) → params ≡ fixed_format (format_of x) → IfSome params (λ p. fit_refusal Wave p ≡ None)
fixed_fits x None is = tt
fixed_fits x (Some q) is = format_fits x q (is_fixed_as (format_of x) q is).1

pub fixed_is : (x : List ℕ) (params : Option Parameters) → params ≡ fixed_format (format_of x) → IfSome params (λ p. is_adpcm p.codec ≡ false)
fixed_is x None is = tt
fixed_is x (Some q) is = (is_fixed_as (format_of x) q is).0
