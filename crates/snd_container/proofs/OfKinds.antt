-- The layout of a file whose kind is known.
use Rattle.std.proofs.Common.{◌≡◌, ℕ, List, take, Result, Ok, Err, sym, ap, subst, ◌∙◌}
use Rattle.snd_disk.specs.Device.{Tells}
use Rattle.snd_disk.specs.State.{State}
use Rattle.snd_layout.specs.Opened.{OpensAs}
use Rattle.snd_layout.specs.Shape.{Shape}
use Rattle.snd_layout.specs.declared.error.OpenError.{OpenError}
use Rattle.snd_layout.specs.declared.error.OpenError.TheVariants.{Refused}
use Rattle.snd_layout.specs.declared.kind.Kind.{Kind}
use Rattle.snd_layout.specs.declared.refusal.OpenRefusal.{OpenRefusal}
use Rattle.snd_container.specs.Recognised.{recognised}
use Rattle.snd_container.specs.Sound.{layout_as, layout_of, layout_of_kind}

pub layout_by_kind : (b : List ℕ) (kind : Result Kind OpenRefusal) → recognised (take 40 b) ≡ kind → layout_of b ≡ layout_as kind b
unfolding layout_of
layout_by_kind b kind is = ap (λ (k : Result Kind OpenRefusal). layout_as k b) is

pub found_as : {D : Type 0} (state : D → State) (old : D) (kind : Kind) (r : Result Kind OpenError) → r ≡ Ok kind → OpensAs state old (λ b. recognised (take 40 b)) r
    → (b : List ℕ) → Tells state old b → recognised (take 40 b) ≡ Ok kind
found_as state old kind r is found = subst (λ (q : Result Kind OpenError). OpensAs state old (λ b. recognised (take 40 b)) q) is found

-- a refusal that was found
pub refusal_found : {D : Type 0} (state : D → State) (old : D) (refusal : OpenRefusal) (r : Result Kind OpenError) → r ≡ Err (Refused refusal)
    → ((b : List ℕ) → Tells state old b → recognised (take 40 b) ≡ Err refusal) → OpensAs state old (λ b. recognised (take 40 b)) r
refusal_found state old refusal r is found =
    subst (λ (q : Result Kind OpenError). OpensAs state old (λ b. recognised (take 40 b)) q) (sym is)
    (λ other b by told. let same : refusal ≡ other = cc in found b told ∙ ap (λ (x : OpenRefusal). Err x) same)

-- what holds of the layout of a kind holds of the file's layout, where the file is of that kind
pub opens_by : {D : Type 0} (state : D → State) (old mid : D) (kind : Kind) (r : Result Shape OpenError) → (state mid).contents ≡ (state old).contents
    → ((b : List ℕ) → Tells state old b → recognised (take 40 b) ≡ Ok kind) → OpensAs state mid (layout_of_kind kind) r → OpensAs state old layout_of r
opens_by state old mid kind (Ok l) same is opened = λ b told. layout_by_kind b (Ok kind) (is b told) ∙ opened b (same ∙ told)
opens_by state old mid kind (Err e) same is refused = λ r b by told. layout_by_kind b (Ok kind) (is b told) ∙ refused r b by (same ∙ told)

-- a refusal of the kind is one of the layout
pub refused_by : {D : Type 0} (state : D → State) (old : D) (r : Result Kind OpenError) (r' : Result Shape OpenError) (e : OpenError) → r ≡ Err e → r' ≡ Err e
    → OpensAs state old (λ b. recognised (take 40 b)) r → OpensAs state old layout_of r'
refused_by state old r r' e is is' found =
    subst (λ (q : Result Shape OpenError). OpensAs state old layout_of q) (sym is')
    (λ refusal b by told. layout_by_kind b (Err refusal) (subst (λ (q : Result Kind OpenError). OpensAs state old (λ b. recognised (take 40 b)) q) is found refusal b by told))
