use Rattle.std.proofs.Common.{rules, ◌≡◌, ℕ, ◌≤◌, Bool, true, false, List, [], ◌∷◌, Option, Some, None, slice_get, drop, length, if◌then◌else◌, refl, sym, ap, ◌∙◌, arith}
use Rattle.std.proofs.lemmas.List.{length-drop}
use Rattle.snd_words.specs.Asked.{Asked, Work}
use Rattle.snd_words.specs.Names.{is_name, name_or_none}
use Rattle.snd_words.specs.Raw.{are_two, import_raw_asked, import_with, raw_form}
use Rattle.snd_words.specs.Request.{asked_by}
use Rattle.snd_words.specs.declared.raw.ImportForm.{ImportForm}
use Rattle.snd_words.proofs.Runs.{get_drop}
use Rattle.snd_words.proofs.raw.import_raw_request.Goals as goal

without_form : (b : Bool) (form : Option ImportForm) (input output : List ℕ) → None ≡ form → Asked.nothing ≡ (if b then import_with form input output else Asked.nothing)
without_form true None input output none = refl
without_form true (Some form) input output none = cc
without_form false form input output none = refl

-- words of which the first three say no form ask for nothing
refused : (ws : List (List ℕ)) (codec channels rate : List ℕ) → slice_get ws 0 ≡ Some codec → slice_get ws 1 ≡ Some channels → slice_get ws 2 ≡ Some rate
    → None ≡ raw_form codec channels rate → Asked.nothing ≡ import_raw_asked ws
unfolding import_raw_asked
refused (a ∷ b ∷ c ∷ input ∷ output ∷ []) codec channels rate first second third none =
    let same : raw_form codec channels rate ≡ raw_form a b c = cc in
    without_form _ (raw_form a b c) input output (none ∙ same)
refused [] codec channels rate first second third none = refl
refused (a ∷ []) codec channels rate first second third none = refl
refused (a ∷ b ∷ []) codec channels rate first second third none = refl
refused (a ∷ b ∷ c ∷ []) codec channels rate first second third none = refl
refused (a ∷ b ∷ c ∷ input ∷ []) codec channels rate first second third none = refl
refused (a ∷ b ∷ c ∷ input ∷ output ∷ d ∷ ws) codec channels rate first second third none = refl

-- a word that is a name
record Named (word name : List ℕ) : Type 0 where
  same : word ≡ name
  is : is_name word ≡ true

named_by : (b : Bool) (word name : List ℕ) → is_name word ≡ b → (if b then Some word else None) ≡ Some name → Named word name
named_by true word name is there = record { same = cc; is = is }
named_by false word name is there = let never : ⊥ = cc in absurd never

named : (word name : List ℕ) → name_or_none (Some word) ≡ Some name → Named word name
named word name there = named_by (is_name word) word name refl there

with_form : (b : Bool) (form : Option ImportForm) (f : ImportForm) (input output : List ℕ) → b ≡ true → Some f ≡ form
    → Asked.tool (Work.import_as f input output) ≡ (if b then import_with form input output else Asked.nothing)
with_form true None f input output both is = cc
with_form true (Some g) f input output both is = let same : f ≡ g = cc in ap (λ x. Asked.tool (Work.import_as x input output)) same
with_form false form f input output both is = let never : ⊥ = cc in absurd never

-- five words, of which the first three say a form and the last two are names
taken : (ws : List (List ℕ)) (codec channels rate input output : List ℕ) (form : ImportForm) → slice_get ws 0 ≡ Some codec → slice_get ws 1 ≡ Some channels
    → slice_get ws 2 ≡ Some rate → name_or_none (slice_get ws 3) ≡ Some input → name_or_none (slice_get ws 4) ≡ Some output → length ws ≤ 5
    → Some form ≡ raw_form codec channels rate → Asked.tool (Work.import_as form input output) ≡ import_raw_asked ws
unfolding import_raw_asked
taken (a ∷ b ∷ c ∷ i ∷ o ∷ []) codec channels rate input output form first second third fourth fifth few is =
    let one = named i input fourth in
    let two = named o output fifth in
    let same : raw_form codec channels rate ≡ raw_form a b c = cc in
    let both : are_two i o ≡ true = rw (one.is, two.is) refl in
    ap (λ x. Asked.tool (Work.import_as form x output)) (sym one.same) ∙ ap (λ x. Asked.tool (Work.import_as form i x)) (sym two.same)
    ∙ with_form (are_two i o) (raw_form a b c) form i o both (is ∙ same)
taken [] codec channels rate input output form first second third fourth fifth few is = let never : ⊥ = cc in absurd never
taken (a ∷ []) codec channels rate input output form first second third fourth fifth few is = let never : ⊥ = cc in absurd never
taken (a ∷ b ∷ []) codec channels rate input output form first second third fourth fifth few is = let never : ⊥ = cc in absurd never
taken (a ∷ b ∷ c ∷ []) codec channels rate input output form first second third fourth fifth few is = let never : ⊥ = cc in absurd never
taken (a ∷ b ∷ c ∷ i ∷ []) codec channels rate input output form first second third fourth fifth few is = let never : ⊥ = cc in absurd never
taken (a ∷ b ∷ c ∷ i ∷ o ∷ d ∷ ws) codec channels rate input output form first second third fourth fifth few is = absurd (omega (arith, few))

pub returns-in_err-form-clause-words : goal.returns-in_err-form-clause-words
returns-in_err-form-clause-words c =
    let words : List (List ℕ) = c.args.words.now in
    let first : slice_get words 2 ≡ Some c.in_ok-codec.codec.now = search rules in
    let second : slice_get words 3 ≡ Some c.in_ok-channels.channels.now = search rules in
    let third : slice_get words 4 ≡ Some c.in_ok-rate.rate.now = search rules in
    ap asked_by c.from_residual-in_err-form.ensures
    ∙ refused (drop 2 words) _ _ _ (get_drop words 2 0 2 (omega arith) ∙ first) (get_drop words 2 1 3 (omega arith) ∙ second) (get_drop words 2 2 4 (omega arith) ∙ third) c.in_err-form.ensures.form

pub returns-clause-words : goal.returns-clause-words
returns-clause-words c =
    let words : List (List ℕ) = c.args.words.now in
    let first : slice_get words 2 ≡ Some c.in_ok-codec.codec.now = search rules in
    let second : slice_get words 3 ≡ Some c.in_ok-channels.channels.now = search rules in
    let third : slice_get words 4 ≡ Some c.in_ok-rate.rate.now = search rules in
    let fourth : name_or_none (slice_get words 5) ≡ Some c.in_ok-input.input.now = search rules in
    let fifth : name_or_none (slice_get words 6) ≡ Some c.in_ok-output.output.now = search rules in
    let form : Some c.in_ok-form.form ≡ raw_form c.in_ok-codec.codec.now c.in_ok-channels.channels.now c.in_ok-rate.rate.now = search rules in
    let few : length (drop 2 words) ≤ 5 = omega (arith, length-drop 2 words) in
    taken (drop 2 words) _ _ _ _ _ _ (get_drop words 2 0 2 (omega arith) ∙ first) (get_drop words 2 1 3 (omega arith) ∙ second) (get_drop words 2 2 4 (omega arith) ∙ third)
    (ap name_or_none (get_drop words 2 3 5 (omega arith)) ∙ fourth) (ap name_or_none (get_drop words 2 4 6 (omega arith)) ∙ fifth) few form
