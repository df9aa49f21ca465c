-- Counts of faults of inputs side by side, of the disk that is made, and of a shelf.
use Rattle.std.proofs.Common.{◌≡◌, ◌∙◌, ap, sym, refl, subst, inl, inr, ◌⊎◌, ℕ, ◌+◌, ◌<◌, ◌≤◌, List, [], ◌∷◌, ◌++◌, length, get_or, set, true, Option, None, Some, Result, Ok, Err, arith}
use Rattle.std.proofs.lemmas.Bool.{cases_lt}
use Rattle.std.proofs.lemmas.Grind.{get_or-set_at}
use Rattle.std.proofs.lemmas.List.{get_or_append_left, get_or_at, get_or_default, get_or-set_other, length-append}
use Rattle.std.specs.Prelude.{is_some}
use Rattle.snd_disk.specs.declared.disk.Disk.{Ghosts}
use Rattle.snd_disk.specs.declared.disk.Step.{Step}
use Rattle.snd_disk.specs.State.{Adds, Rises, State}
use Rattle.snd_edits.specs.Known.{Known}
use Rattle.snd_output.specs.Ends.{BreaksByFault, CountsStop}
use Rattle.snd_output.specs.declared.stop.Stop.{Stop}
use Rattle.snd_output.specs.declared.stop.Stop.TheVariants.{Changed, Fault, Memory}
use Rattle.snd_tools.proofs.Public.{rises_on, rises_with}
use Rattle.snd_interleave.specs.Channels.{AreCalm, AreLater, CountsInputs, CountsWith, OneRises, faults_of}
use Rattle.snd_inputs.specs.declared.input.Input.{Input}

pub rises_later : (a b c : ℕ) → a ≤ b → Rises b c → Rises a c
rises_later a b c later (inl rose) = inl (omega (arith, later, rose))
rises_later a b c later (inr last) = inr last

-- a file that is broken has had a fault
never_both : (o : Option Step) → is_some o ≡ true → o ≡ None → ⊥
never_both None some none = absurd (cc)
never_both (Some step) some none = absurd (cc)

module _ {D : Type 0} {ghosts : Ghosts D} (state : D → State) where
  same_faults : (xs : List (Input D ghosts)) (k : ℕ) (d d' : Input D ghosts) → k < length xs → faults_of state (get_or xs k d') ≡ faults_of state (get_or xs k d)
  same_faults xs k d d' lt = ap (faults_of state) (get_or_default xs k d' d lt)

  pub calm_itself : (xs : List (Input D ghosts)) → AreCalm state xs xs
  calm_itself xs = same_faults xs

  calm_later : (xs ys : List (Input D ghosts)) → AreCalm state xs ys → AreLater state xs ys
  calm_later xs ys calm k d d' lt = omega (arith, calm k d d' lt)

  module _ (xs ys zs : List (Input D ghosts)) (count : length ys ≡ length xs) where
    pub calm_then : AreCalm state xs ys → AreCalm state ys zs → AreCalm state xs zs
    calm_then first second k d d' lt = second k d d' (omega (arith, lt, count)) ∙ first k d d lt

    later_then : AreLater state xs ys → AreLater state ys zs → AreLater state xs zs
    later_then first second k d d' lt = let a = first k d d lt in let b = second k d d' (omega (arith, lt, count)) in omega (arith, a, b)

    rises_behind : AreCalm state xs ys → OneRises state ys zs → OneRises state xs zs
    rises_behind calm rises = (rises.0, omega (arith, rises.1, count), λ d d'. subst (λ (n : ℕ). Rises n (faults_of state (get_or zs rises.0 d'))) (calm rises.0 d d (omega (arith, rises.1, count))) (rises.2 d d'))

    -- what is counted after calls that were calm
    pub inputs_then : {T : Type 0} (r : Result T Stop) → AreCalm state xs ys → CountsInputs state ys zs r → CountsInputs state xs zs r
    inputs_then (Ok x) calm counts = calm_then calm counts
    inputs_then (Err Fault) calm counts = (later_then (calm_later xs ys calm) counts.0, rises_behind calm counts.1)
    inputs_then (Err Memory) calm counts = calm_then calm counts
    inputs_then (Err Changed) calm counts = calm_then calm counts

    pub adding_then : {T : Type 0} (r : Result T Stop) (a b c : ℕ) → AreCalm state xs ys → b ≡ a → CountsWith state ys zs b c r → CountsWith state xs zs a c r
    adding_then (Ok x) a b c calm same counts = (calm_then calm counts.0, counts.1 ∙ same)
    adding_then (Err Memory) a b c calm same counts = (calm_then calm counts.0, counts.1 ∙ same)
    adding_then (Err Changed) a b c calm same counts = (calm_then calm counts.0, counts.1 ∙ same)
    adding_then (Err Fault) a b c calm same counts = (
      later_then (calm_later xs ys calm) counts.0,
      omega (arith, same, counts.1),
      elim counts.2 [ inl rises ↦ inl (rises_behind calm rises) | inr rises ↦ inr (subst (λ (n : ℕ). Rises n c) same rises) ],
    )

  -- one of them is read, and the others are not
  module _ (xs : List (Input D ghosts)) (i : ℕ) (x y : Input D ghosts) (within : i < length xs) (is : x ≡ get_or xs i x) where
    here_was : (d : Input D ghosts) (k : ℕ) → k ≡ i → faults_of state (get_or xs k d) ≡ faults_of state x
    here_was d k same = ap (λ (n : ℕ). faults_of state (get_or xs n d)) same ∙ sym (ap (faults_of state) (is ∙ get_or_default xs i x d within))

    here_is : (d : Input D ghosts) (k : ℕ) → k ≡ i → faults_of state (get_or (set xs i y) k d) ≡ faults_of state y
    here_is d k same = ap (faults_of state) (get_or-set_at xs i k y d same within)

    other_is : (d d' : Input D ghosts) (k : ℕ) → k < length xs → (k ≡ i → ⊥) → faults_of state (get_or (set xs i y) k d') ≡ faults_of state (get_or xs k d)
    other_is d d' k lt other = ap (faults_of state) (get_or-set_other xs i k y d' other) ∙ same_faults xs k d d' lt

    cases_same : (a b : ℕ) → (a ≡ b) ⊎ (a ≡ b → ⊥)
    cases_same a b = elim (cases_lt a b) [
      | inl lt ↦ inr (λ same. absurd (omega (arith, lt, same)))
      | inr le ↦ elim (cases_lt b a) [ inl gt ↦ inr (λ same. absurd (omega (arith, gt, same))) | inr ge ↦ inl (omega (arith, le, ge)) ]
    ]

    calm_one : faults_of state y ≡ faults_of state x → AreCalm state xs (set xs i y)
    calm_one same k d d' lt = elim (cases_same k i) [
      | inl here ↦ here_is d' k here ∙ same ∙ sym (here_was d k here)
      | inr other ↦ other_is d d' k lt other
    ]

    later_one : faults_of state x ≤ faults_of state y → AreLater state xs (set xs i y)
    later_one later k d d' lt = elim (cases_same k i) [
      | inl here ↦ let a = here_is d' k here in let b = here_was d k here in omega (arith, a, b, later)
      | inr other ↦ let a = other_is d d' k lt other in omega (arith, a)
    ]

    pub counts_one : {T : Type 0} (r : Result T Stop) → CountsStop (faults_of state x) (faults_of state y) r → CountsInputs state xs (set xs i y) r
    counts_one (Ok t) counts = calm_one counts
    counts_one (Err Memory) counts = calm_one counts
    counts_one (Err Changed) counts = calm_one counts
    counts_one (Err Fault) counts = (
      later_one counts.0,
      (i, within, λ d d'. subst (λ (n : ℕ). Rises n (faults_of state (get_or (set xs i y) i d'))) (sym (here_was d i refl)) (subst (λ (n : ℕ). Rises (faults_of state x) n) (sym (here_is d' i refl)) counts.1)),
    )

  -- ---- beside another count

  module _ (xs ys : List (Input D ghosts)) (a b c : ℕ) where
    -- .. or not, since a call of its disk has failed before
    pub counts_broken : (U : Type 0) {T : Type 0} (r : Result T Stop) (to : Known) → BreaksByFault to r → is_some to.broken ≡ true → b ≡ c → CountsWith state xs ys a c r → CountsWith {T = U} state xs ys a b (Err Fault)
    counts_broken U (Ok x) to works broken same counts = absurd (never_both to.broken broken works)
    counts_broken U (Err Fault) to works broken same counts = (counts.0, omega (arith, same, counts.1), elim counts.2 [ inl rises ↦ inl rises | inr rises ↦ inr (subst (Rises a) (sym same) rises) ])
    counts_broken U (Err Memory) to works broken same counts = absurd (never_both to.broken broken works)
    counts_broken U (Err Changed) to works broken same counts = absurd (never_both to.broken broken works)

    -- .. or since one fails now
    pub counts_unfinished : (U : Type 0) {T : Type 0} (r : Result T Stop) → c ≤ b → Rises c b → CountsWith state xs ys a c r → CountsWith {T = U} state xs ys a b (Err Fault)
    counts_unfinished U (Ok x) later rises counts = (calm_later xs ys counts.0, omega (arith, later, counts.1), inr (rises_later a c b (omega (arith, counts.1)) rises))
    counts_unfinished U (Err Fault) later rises counts = (counts.0, omega (arith, later, counts.1), inr (rises_later a c b counts.1 rises))
    counts_unfinished U (Err Memory) later rises counts = (calm_later xs ys counts.0, omega (arith, later, counts.1), inr (rises_later a c b (omega (arith, counts.1)) rises))
    counts_unfinished U (Err Changed) later rises counts = (calm_later xs ys counts.0, omega (arith, later, counts.1), inr (rises_later a c b (omega (arith, counts.1)) rises))

  -- the last input is taken from the others
  module _ (xs ys : List (Input D ghosts)) (x y : Input D ghosts) (count : length ys ≡ length xs) where
    front_was : (k : ℕ) (d : Input D ghosts) → k < length xs → get_or (xs ++ x ∷ []) k d ≡ get_or xs k d
    front_was k d lt = get_or_append_left xs (x ∷ []) d k lt

    front_is : (k : ℕ) (d : Input D ghosts) → k < length xs → get_or (ys ++ y ∷ []) k d ≡ get_or ys k d
    front_is k d lt = get_or_append_left ys (y ∷ []) d k (omega (arith, lt, count))

    last_was : (k : ℕ) (d : Input D ghosts) → k ≡ length xs → get_or (xs ++ x ∷ []) k d ≡ x
    last_was k d is = get_or_at xs x [] d k (sym is)

    last_is : (k : ℕ) (d : Input D ghosts) → k ≡ length xs → get_or (ys ++ y ∷ []) k d ≡ y
    last_is k d is = get_or_at ys y [] d k (count ∙ sym is)

    longer : length (xs ++ x ∷ []) ≡ length xs + 1
    longer = length-append xs (x ∷ [])

    front_calm : AreCalm state (xs ++ x ∷ []) (ys ++ y ∷ []) → AreCalm state xs ys
    front_calm calm k d d' lt = sym (ap (faults_of state) (front_is k d' lt)) ∙ calm k d d' (omega (arith, longer, lt)) ∙ ap (faults_of state) (front_was k d lt)

    last_calm : AreCalm state (xs ++ x ∷ []) (ys ++ y ∷ []) → faults_of state y ≡ faults_of state x
    last_calm calm = sym (ap (faults_of state) (last_is (length xs) y refl)) ∙ calm (length xs) x y (omega (arith, longer)) ∙ ap (faults_of state) (last_was (length xs) x refl)

    front_later : AreLater state (xs ++ x ∷ []) (ys ++ y ∷ []) → AreLater state xs ys
    front_later later k d d' lt =
        let a = later k d d' (omega (arith, longer, lt)) in
        let b = ap (faults_of state) (front_is k d' lt) in
        let e = ap (faults_of state) (front_was k d lt) in
        omega (arith, a, b, e)

    last_later : AreLater state (xs ++ x ∷ []) (ys ++ y ∷ []) → faults_of state x ≤ faults_of state y
    last_later later =
        let a = later (length xs) x y (omega (arith, longer)) in
        let b = ap (faults_of state) (last_is (length xs) y refl) in
        let e = ap (faults_of state) (last_was (length xs) x refl) in
        omega (arith, a, b, e)

    rises_split : OneRises state (xs ++ x ∷ []) (ys ++ y ∷ []) → OneRises state xs ys ⊎ Rises (faults_of state x) (faults_of state y)
    rises_split rises = elim (cases_lt rises.0 (length xs)) [
      | inl lt ↦ inl (
        rises.0,
        lt,
        λ d d'.
            subst (λ (z : Input D ghosts). Rises (faults_of state z) (faults_of state (get_or ys rises.0 d'))) (front_was rises.0 d lt)
            (subst (λ (z : Input D ghosts). Rises (faults_of state (get_or (xs ++ x ∷ []) rises.0 d)) (faults_of state z)) (front_is rises.0 d' lt) (rises.2 d d')),
      )
      | inr le ↦
          let last : rises.0 ≡ length xs = omega (arith, le, rises.1, longer) in
          inr (subst (λ (z : Input D ghosts). Rises (faults_of state z) (faults_of state y)) (last_was rises.0 x last)
          (subst (λ (z : Input D ghosts). Rises (faults_of state (get_or (xs ++ x ∷ []) rises.0 x)) (faults_of state z)) (last_is rises.0 y last) (rises.2 x y)))
    ]

    -- .. whose disk, that was opened with no fault, comes back to its shelf
    pub counts_apart : {T : Type 0} (r : Result T Stop) (old mid mid' new : ℕ) → mid ≡ old → faults_of state x ≡ 0 → Adds mid' (faults_of state y) new
        → CountsWith state (xs ++ x ∷ []) (ys ++ y ∷ []) mid mid' r → CountsWith state xs ys old new r
    counts_apart (Ok t) old mid mid' new same none adds counts =
        (front_calm counts.0, (let last = last_calm counts.0 in omega (arith, same, none, last, counts.1, adds.later, adds.most)))
    counts_apart (Err Memory) old mid mid' new same none adds counts =
        (front_calm counts.0, (let last = last_calm counts.0 in omega (arith, same, none, last, counts.1, adds.later, adds.most)))
    counts_apart (Err Changed) old mid mid' new same none adds counts =
        (front_calm counts.0, (let last = last_calm counts.0 in omega (arith, same, none, last, counts.1, adds.later, adds.most)))
    counts_apart (Err Fault) old mid mid' new same none adds counts = (
      front_later counts.0,
      omega (arith, same, counts.1, adds.later),
      elim counts.2 [
        | inl rises ↦ elim (rises_split rises) [
          | inl front ↦ inl front
          | inr last ↦ inr (rises_later old mid' new (omega (arith, same, counts.1)) (rises_with mid' (faults_of state y) new (subst (λ (n : ℕ). Rises n (faults_of state y)) none last) adds))
        ]
        | inr rises ↦ inr (subst (λ (n : ℕ). Rises n new) same (rises_on mid mid' new counts.1 rises adds.later))
      ],
    )
