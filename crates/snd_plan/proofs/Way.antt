-- A list of operations of which the first are carried out: what stands then, and what a crash may leave.
use Rattle.std.proofs.Common.{◌≡◌, ◌⊎◌, inl, inr, ℕ, ◌+◌, ◌<◌, List, [], ◌∷◌, ◌++◌, length, take, drop, Option, Some, None, option_map, refl, ap, sym, subst, ◌∙◌, arith}
use Rattle.std.proofs.lemmas.List.{append-nil, drop-drop, length-drop, length-take, take-append-drop}
use Rattle.std.proofs.Math.Seq.{take-add}
use Rattle.snd_plan.specs.Operations.{Operation, carried_out, all_carried_out}
use Rattle.snd_plan.specs.Images.{left_after, left_after_all}
use Rattle.snd_plan.proofs.Carried.{carried_out-append}

-- one more
pub left_push : (os : List Operation) (o : Operation) (b : List ℕ) (before : List ℕ → Type 0) (x : List ℕ)
    → left_after o (all_carried_out os b) (left_after_all os b before) x → left_after_all (os ++ o ∷ []) b before x
left_push [] o b before x left = left
left_push (p ∷ os) o b before x left = left_push os o (carried_out p b) (left_after p b before) x left

left_weaker : (o : Operation) (b : List ℕ) (p q : List ℕ → Type 0) → ((y : List ℕ) → p y → q y) → (x : List ℕ) → left_after o b p x → left_after o b q x
left_weaker (Operation.write at bytes) b p q f x (y, is, mix) = (y, f y is, mix)
left_weaker (Operation.cut len) b p q f x (y, is, mix) = (y, f y is, mix)
left_weaker Operation.sync b p q f x is = is

-- what is carried out in front of a sync is all that it leaves
pub left_synced : (os : List Operation) (b : List ℕ) (before : List ℕ → Type 0) (x : List ℕ) → left_after_all (os ++ Operation.sync ∷ []) b before x
    → x ≡ all_carried_out os b
left_synced [] b before x is = is
left_synced (o ∷ os) b before x left = left_synced os (carried_out o b) (left_after o b before) x left

-- The first of a list are carried out, and those that are left: contents, and what a crash may leave.
abbrev pub IsReached : List Operation → List Operation → Option (List ℕ) → Option (List ℕ) → (List ℕ → Type 0) → (List ℕ → Type 0) → Type 0
IsReached all left start told before now = (k : ℕ) × (left ≡ drop k all) × (told ≡ option_map (all_carried_out (take k all)) start)
    × ((b : List ℕ) → start ≡ Some b → (x : List ℕ) → now x → left_after_all (take k all) b before x)

same_contents : (told : Option (List ℕ)) → told ≡ option_map (all_carried_out []) told
same_contents None = refl
same_contents (Some b) = refl

one_more : (k : ℕ) (all left : List Operation) (o : Operation) → left ≡ drop k all → take 1 left ≡ o ∷ [] → take (k + 1) all ≡ take k all ++ o ∷ []
one_more k all left o is first = take-add k 1 all ∙ ap (λ l. take k all ++ l) (ap (take 1) (sym is) ∙ first)

contents_more : (os : List Operation) (o : Operation) (start : Option (List ℕ))
    → option_map (carried_out o) (option_map (all_carried_out os) start) ≡ option_map (all_carried_out (os ++ o ∷ [])) start
contents_more os o None = refl
contents_more os o (Some b) = ap (λ x. Some x) (sym (carried_out-append os (o ∷ []) b))

contents_told : (os : List Operation) (start : Option (List ℕ)) (b : List ℕ) → start ≡ Some b → option_map (all_carried_out os) start ≡ Some (all_carried_out os b)
contents_told os start b is = ap (option_map (all_carried_out os)) is

pub nothing_reached : (all : List Operation) (start : Option (List ℕ)) (before : List ℕ → Type 0) → IsReached all all start start before before
nothing_reached all start before = (0, refl, same_contents start, λ b told x is. is)

all_taken : (k : ℕ) (all left : List Operation) → left ≡ drop k all → left ≡ [] → take k all ≡ all
all_taken k all left is none = sym (append-nil (take k all)) ∙ ap (λ l. take k all ++ l) (sym (sym is ∙ none)) ∙ take-append-drop k all

module _ (all left : List Operation) (start told : Option (List ℕ)) (before now : List ℕ → Type 0) where
  pub one_reached : (left' : List Operation) (told' : Option (List ℕ)) (now' : List ℕ → Type 0) (o : Operation) → IsReached all left start told before now
      → take 1 left ≡ o ∷ [] → left' ≡ drop 1 left → told' ≡ option_map (carried_out o) told
      → ((b : List ℕ) → told ≡ Some b → (x : List ℕ) → now' x → left_after o b now x) → IsReached all left' start told' before now'
  one_reached left' told' now' o (k, is, contents, images) first rest new leaves =
      (k + 1, rest ∙ ap (drop 1) is ∙ drop-next, new ∙ ap (option_map (carried_out o)) contents ∙ contents_more (take k all) o start ∙ ap (λ l. option_map (all_carried_out l) start) (sym more), each)
    where
      more : take (k + 1) all ≡ take k all ++ o ∷ []
      more = one_more k all left o is first

      drop-next : drop 1 (drop k all) ≡ drop (k + 1) all
      drop-next = drop-drop 1 k all

      each : (b : List ℕ) → start ≡ Some b → (x : List ℕ) → now' x → left_after_all (take (k + 1) all) b before x
      each b b_is x stands = subst (λ (l : List Operation). left_after_all l b before x) (sym more)
          (left_push (take k all) o b before x (left_weaker o _ now (left_after_all (take k all) b before) (images b b_is) x
          (leaves _ (contents ∙ contents_told (take k all) start b b_is) x stands)))

  -- all
  pub all_done : IsReached all left start told before now → left ≡ [] → told ≡ option_map (all_carried_out all) start
  all_done (k, is, contents, images) none = contents ∙ ap (λ l. option_map (all_carried_out l) start) (all_taken k all left is none)

  pub all_left : IsReached all left start told before now → left ≡ [] → (b : List ℕ) → start ≡ Some b → (x : List ℕ) → now x → left_after_all all b before x
  all_left (k, is, contents, images) none b b_is x stands =
      subst (λ (l : List Operation). left_after_all l b before x) (all_taken k all left is none) (images b b_is x stands)

  -- some
  pub on_the_way : IsReached all left start told before now → (b : List ℕ) → start ≡ Some b → (x : List ℕ) → now x
      → (k : ℕ) × left_after_all (take k all) b before x
  on_the_way (k, is, contents, images) b b_is x stands = (k, images b b_is x stands)

  -- some, and one more of which perhaps a part
  pub broken_on_the_way : (now' : List ℕ → Type 0) (o : Operation) → IsReached all left start told before now → take 1 left ≡ o ∷ []
      → ((b : List ℕ) → told ≡ Some b → (x : List ℕ) → now' x → left_after o b now x ⊎ now x)
      → (b : List ℕ) → start ≡ Some b → (x : List ℕ) → now' x → (k : ℕ) × left_after_all (take k all) b before x
  broken_on_the_way now' o (k, is, contents, images) first leaves b b_is x stands =
      elim (leaves _ (contents ∙ contents_told (take k all) start b b_is) x stands) [
        | inl new ↦ (
          k + 1,
          subst (λ (l : List Operation). left_after_all l b before x) (sym (one_more k all left o is first))
              (left_push (take k all) o b before x (left_weaker o _ now (left_after_all (take k all) b before) (images b b_is) x new)),
        )
        | inr old ↦ (k, images b b_is x old)
      ]

  -- one that is left, and the others behind it
  pub some_left : (o : Operation) → IsReached all left start told before now → take 1 left ≡ o ∷ [] → (k : ℕ) × (k < length all) × (left ≡ drop k all)
  some_left o (k, is, contents, images) first =
      let more : length (take 1 (drop k all)) ≡ 1 = ap (λ l. length (take 1 l)) (sym is) ∙ ap (λ (l : List Operation). length l) first in
      (k, omega (arith, more, length-take 1 (drop k all), length-drop k all), is)
