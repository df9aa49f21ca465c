-- A file is not made where its kind does not hold its parameters.
use Rattle.std.proofs.Common.{◌≡◌, ◌∙◌, ap, sym, subst, Some, Ok, Err}
use Rattle.std.specs.Prelude.{Result}
use Rattle.snd_layout.specs.Fit.{fit_refusal}
use Rattle.snd_layout.specs.Params.{Parameters}
use Rattle.snd_layout.specs.declared.kind.Kind.{Kind}
use Rattle.snd_layout.specs.declared.params.Params.{Params}
use Rattle.snd_layout.specs.declared.refusal.OpenRefusal.{OpenRefusal}
use Rattle.snd_edits.specs.Editing.{Editing}
use Rattle.snd_rules.specs.Edit.{Opening, as_opened, make_edit, open_edit_of}
use Rattle.snd_script.specs.Opened.{MakesOf}
use Rattle.snd_rules.proofs.Public.{making_is}

misfit : (kind : Kind) (asked : Result Parameters OpenRefusal) (p : Parameters) (refusal : OpenRefusal) → asked ≡ Ok p → fit_refusal kind p ≡ Some refusal → MakesOf kind asked (Err refusal)
misfit kind asked p refusal is fits store name =
    ap (make_edit store name kind) is ∙ ap (λ (r : Result Editing OpenRefusal). open_edit_of store name (Opening.for_making kind p) (as_opened r)) (making_is kind p (Some refusal) fits)

pub misfit_is_refused : (kind : Kind) (asked : Result Parameters OpenRefusal) (p : Parameters) (refusal : OpenRefusal) (r : Result Params OpenRefusal) → r ≡ Err refusal → asked ≡ Ok p → fit_refusal kind p ≡ Some refusal
    → MakesOf kind asked r
misfit_is_refused kind asked p refusal r answer is fits = subst (λ (r : Result Params OpenRefusal). MakesOf kind asked r) (sym answer) (misfit kind asked p refusal is fits)
