-- Lists of operations, one behind another.
use Rattle.std.proofs.Common.{◌≡◌, ℕ, ◌+◌, ◌<◌, List, [], ◌∷◌, ◌++◌, length, take, drop, map, get_or, Bool, true, false, Result, Ok, Err, OnOk, OnErr, refl, ap, sym, subst, ◌∙◌}
use Rattle.std.specs.Prelude.{◌&&◌}
use Rattle.std.proofs.lemmas.List.{length-take, map-append, take_more}
use Rattle.snd_disk.specs.Runs.{HasAt}
use Rattle.snd_disk.proofs.Public.{length-over}
use Rattle.snd_plan.specs.Operations.{Operation, carried_out, all_carried_out, length_after, length_after_all, operation_of, shortens, all_shorten}
use Rattle.snd_plan.specs.declared.planned.Planned.{Planned}

pub carried_out-append : (os ps : List Operation) (b : List ℕ) → all_carried_out (os ++ ps) b ≡ all_carried_out ps (all_carried_out os b)
carried_out-append [] ps b = refl
carried_out-append (o ∷ os) ps b = carried_out-append os ps (carried_out o b)

pub length_after-append : (os ps : List Operation) (n : ℕ) → length_after_all (os ++ ps) n ≡ length_after_all ps (length_after_all os n)
length_after-append [] ps n = refl
length_after-append (o ∷ os) ps n = length_after-append os ps (length_after o n)

both : (a b : Bool) → a ≡ true → b ≡ true → (a && b) ≡ true
both true b first is = is
both false b first is = first

pub first_of : (a b : Bool) → (a && b) ≡ true → a ≡ true
first_of true b is = refl
first_of false b is = is

pub second_of : (a b : Bool) → (a && b) ≡ true → b ≡ true
second_of true b is = is
second_of false b is = absurd (cc is)

pub shorten-push : (os : List Operation) (o : Operation) (n : ℕ) → all_shorten os n ≡ true → shortens o (length_after_all os n) ≡ true
    → all_shorten (os ++ o ∷ []) n ≡ true
shorten-push [] o n all one = both (shortens o n) true one refl
shorten-push (p ∷ os) o n all one = both (shortens p n) _ (first_of (shortens p n) _ all) (shorten-push os o (length_after p n) (second_of (shortens p n) _ all) one)

pub shorten-first : (o : Operation) (os : List Operation) (n : ℕ) → all_shorten (o ∷ os) n ≡ true → shortens o n ≡ true
shorten-first o os n all = first_of (shortens o n) _ all

-- without the first
pub length_after-rest : (os : List Operation) (n : ℕ) → length_after_all (drop 1 os) (length_after_all (take 1 os) n) ≡ length_after_all os n
length_after-rest [] n = refl
length_after-rest (o ∷ os) n = refl

pub shorten-rest : (os : List Operation) (n : ℕ) → all_shorten os n ≡ true → all_shorten (drop 1 os) (length_after_all (take 1 os) n) ≡ true
shorten-rest [] n all = refl
shorten-rest (o ∷ os) n all = second_of (shortens o n) _ all

pub carried_out-rest : (os : List Operation) (b : List ℕ) → all_carried_out (drop 1 os) (all_carried_out (take 1 os) b) ≡ all_carried_out os b
carried_out-rest [] b = refl
carried_out-rest (o ∷ os) b = refl

-- what is left has the length that is told
length-one : (o : Operation) (b : List ℕ) → length (carried_out o b) ≡ length_after o (length b)
length-one (Operation.write at bytes) b = length-over b at bytes
length-one (Operation.cut len) b = length-take len b
length-one Operation.sync b = refl

pub length-carried_out : (os : List Operation) (b : List ℕ) (n : ℕ) → length b ≡ n → length (all_carried_out os b) ≡ length_after_all os n
length-carried_out [] b n is = is
length-carried_out (o ∷ os) b n is = length-carried_out os (carried_out o b) (length_after o n) (length-one o b ∙ ap (length_after o) is)

-- the length that is told, once one more is planned
pub longer_plan : (os ps : List Operation) (o : Operation) (held size size' : ℕ) → ps ≡ os ++ o ∷ [] → length_after_all os held ≡ size
    → size' ≡ length_after o size → length_after_all ps held ≡ size'
longer_plan os ps o held size size' more is new = ap (λ l. length_after_all l held) more ∙ length_after-append os (o ∷ []) held
    ∙ ap (length_after o) is ∙ sym new

pub shorter_plan : (os ps : List Operation) (o : Operation) (held size : ℕ) → ps ≡ os ++ o ∷ [] → length_after_all os held ≡ size
    → all_shorten os held ≡ true → shortens o size ≡ true → all_shorten ps held ≡ true
shorter_plan os ps o held size more is all one = ap (λ l. all_shorten l held) more ∙ shorten-push os o held all (ap (shortens o) is ∙ one)

-- .. and once the first is carried out
module _ (os ps : List Operation) (o : Operation) (held held' size : ℕ)
    (rest : ps ≡ drop 1 os) (first : take 1 os ≡ o ∷ []) (new : held' ≡ length_after o held) where
  pub held_one : held' ≡ length_after_all (take 1 os) held
  held_one = new ∙ sym (ap (λ l. length_after_all l held) first)

  pub rest_sized : length_after_all os held ≡ size → length_after_all ps held' ≡ size
  rest_sized is = ap (λ l. length_after_all l held') rest ∙ ap (length_after_all (drop 1 os)) held_one ∙ length_after-rest os held ∙ is

  pub rest_shorten : all_shorten os held ≡ true → all_shorten ps held' ≡ true
  rest_shorten all = ap (λ l. all_shorten l held') rest ∙ ap (all_shorten (drop 1 os)) held_one ∙ shorten-rest os held all

-- a call that may have planned a sync
module _ {T E : Type 0} (r : Result T E) (os ps : List Operation) (held : ℕ) (noted : OnOk r (ps ≡ os ++ Operation.sync ∷ [])) (same : OnErr r (ps ≡ os)) where
  pub sync_sized : length_after_all ps held ≡ length_after_all os held
  sync_sized = sized r noted same
    where
      sized : (r : Result T E) → OnOk r (ps ≡ os ++ Operation.sync ∷ []) → OnErr r (ps ≡ os) → length_after_all ps held ≡ length_after_all os held
      sized (Ok x) more same = ap (λ l. length_after_all l held) more ∙ length_after-append os (Operation.sync ∷ []) held
      sized (Err e) more same = ap (λ l. length_after_all l held) same

  pub sync_shortens : all_shorten os held ≡ true → all_shorten ps held ≡ true
  sync_shortens all = shortened r noted same
    where
      shortened : (r : Result T E) → OnOk r (ps ≡ os ++ Operation.sync ∷ []) → OnErr r (ps ≡ os) → all_shorten ps held ≡ true
      shortened (Ok x) more same = ap (λ l. all_shorten l held) more ∙ shorten-push os Operation.sync held all refl
      shortened (Err e) more same = ap (λ l. all_shorten l held) same ∙ all

-- a call that failed planned nothing
pub on_err : {T E : Type 0} (r : Result T E) (P : Type 0) → P → OnErr r P
on_err (Ok x) P h = tt
on_err (Err e) P h = h

-- the bytes of a part, once one more of a list is carried out
pub carried_more : (tape : List ℕ) (steps : List Planned) (i : ℕ) (d : Planned) (b v : List ℕ) (at : ℕ) → i < length steps
    → HasAt (carried_out (operation_of tape (get_or steps i d)) (all_carried_out (map (operation_of tape) (take i steps)) b)) at v
    → HasAt (all_carried_out (map (operation_of tape) (take (i + 1) steps)) b) at v
carried_more tape steps i d b v at lt has =
    subst (λ (x : List ℕ). HasAt x at v) (sym (ap (λ l. all_carried_out (map (operation_of tape) l) b) (take_more steps i d lt)
    ∙ ap (λ l. all_carried_out l b) (map-append (operation_of tape) (take i steps) (get_or steps i d ∷ []))
    ∙ carried_out-append (map (operation_of tape) (take i steps)) (operation_of tape (get_or steps i d) ∷ []) b)) has

-- the first of a plan shortens
pub first_shortens : (os : List Operation) (o : Operation) (held n : ℕ) → take 1 os ≡ o ∷ [] → all_shorten os held ≡ true → n ≡ held
    → shortens o n ≡ true
first_shortens [] o held n is all same = absurd (cc is)
first_shortens (p ∷ os) o held n is all same =
    let first : p ≡ o = cc in ap (shortens o) same ∙ ap (λ q. shortens q held) (sym first) ∙ shorten-first p os held all

-- its length, once the first is carried out, and once none is left
pub size_one : (os : List Operation) (o : Operation) (size was held held' : ℕ) → take 1 os ≡ o ∷ [] → size ≡ length_after o was → was ≡ held
    → held' ≡ length_after_all (take 1 os) held → size ≡ held'
size_one os o size was held held' first new is told = new ∙ ap (length_after o) is ∙ sym (told ∙ ap (λ l. length_after_all l held) first)

pub size_none : (os : List Operation) (held size : ℕ) → os ≡ [] → length_after_all os held ≡ size → held ≡ size
size_none os held size none is = sym (ap (λ l. length_after_all l held) none) ∙ is
