-- What a file says, from its header.
use Rattle.std.proofs.Common.{◌≡◌, ℕ, ◌<◌, ◌≤◌, List, Err, refl, ap, ◌∙◌, sym, take, true, false, length}
use Rattle.std.proofs.lemmas.Bool.{le-ltb, lt-ltb}
use Rattle.std.specs.Prelude.{nat_lt}
use Rattle.snd_layout.specs.declared.refusal.OpenRefusal.TheVariants.{ShortHeader}
use Rattle.snd_sphere.specs.Layout.{count_of, heading_of, layout_with, sphere_layout}

pub short : (b : List ℕ) → length b < 1024 → sphere_layout b ≡ Err ShortHeader
unfolding sphere_layout
short b few = let e : nat_lt (length b) 1024 ≡ true = lt-ltb (length b) 1024 few in rw e refl

pub whole : (b : List ℕ) → 1024 ≤ length b → sphere_layout b ≡ layout_with (length b) (heading_of (take 1024 b)) (count_of (take 1024 b))
unfolding sphere_layout
whole b long = let e : nat_lt (length b) 1024 ≡ false = le-ltb (length b) 1024 long in rw e refl

-- .. from its bytes
pub with_header : (b h : List ℕ) (size : ℕ) → size ≡ length b → 1024 ≤ size → h ≡ take 1024 b → sphere_layout b ≡ layout_with size (heading_of h) (count_of h)
with_header b h size is long header = whole b (rw is at long) ∙ ap (λ (n : ℕ). layout_with n (heading_of (take 1024 b)) (count_of (take 1024 b))) (sym is) ∙ ap (λ (l : List ℕ). layout_with size (heading_of l) (count_of l)) (sym header)
