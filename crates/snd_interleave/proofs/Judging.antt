-- What is judged of inputs.
use Rattle.std.proofs.Common.{◌≡◌, ◌∙◌, ap, sym, ℕ, ◌+◌, ◌<◌, List, ◌∷◌, Some, drop, length, get_or, slice_get}
use Rattle.std.proofs.lemmas.Option.{slice_get-get_or}
use Rattle.snd_disk.specs.declared.disk.Disk.{Ghosts}
use Rattle.snd_layout.specs.Params.{Parameters}
use Rattle.snd_interleave.specs.Channels.{layouts_of}
use Rattle.snd_interleave.specs.Interleave.{first_misfit, misfit, misfit_or}
use Rattle.snd_inputs.specs.declared.input.Input.{Input}
use Rattle.snd_words.proofs.Runs.{drop_get}

-- one input after the other
pub misfit_next : {D : Type 0} {ghosts : Ghosts D} (first : Parameters) (names : List (List ℕ)) (inputs : List (Input D ghosts)) (at : ℕ) (name : List ℕ) (x : Input D ghosts)
    → slice_get names at ≡ Some name → at < length inputs → x ≡ get_or inputs at x
    → first_misfit first (drop at names) (layouts_of (drop at inputs)) ≡ misfit_or name (misfit first x.layout.params) (first_misfit first (drop (at + 1) names) (layouts_of (drop (at + 1) inputs)))
misfit_next first names inputs at name x there lt is =
    let here : slice_get inputs at ≡ Some x = slice_get-get_or inputs at x lt ∙ ap Some (sym is) in
    ap (λ (l : List (List ℕ)). first_misfit first l (layouts_of (drop at inputs))) (drop_get names at name there)
    ∙ ap (λ l. first_misfit first (name ∷ drop (at + 1) names) (layouts_of l)) (drop_get inputs at x here)
