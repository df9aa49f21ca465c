-- A text that is put piece by piece: what was put, what is gathered to be put next, and what is still to come make the whole.
use Rattle.std.proofs.Common.{◌≡◌, ◌+◌, ◌≤◌, ℕ, List, [], ◌++◌, length, take, Option, Some, None, refl, sym, ◌∙◌, ap, arith, append_assoc}
use Rattle.std.specs.Prelude.{option_map, Result, Ok, Err, OnErr}
use Rattle.std.proofs.Math.Seq.{take-append-add}
use Rattle.std.proofs.lemmas.List.{append-nil, length-append, take-append-le}
use Rattle.snd_disk.specs.Streams.{AppendsFront}

pub record Printing (before after : Option (List ℕ)) (page rest all : List ℕ) : Type 0 where
  pub done : List ℕ
  pub out : after ≡ option_map (λ t. t ++ done) before
  pub text : done ++ page ++ rest ≡ all

append_none : (before : Option (List ℕ)) → before ≡ option_map (λ t. t ++ []) before
append_none None = refl
append_none (Some t) = ap (λ x. Some x) (sym (append-nil t))

append_both : (before : Option (List ℕ)) (a b : List ℕ) → option_map (λ t. t ++ b) (option_map (λ t. t ++ a) before) ≡ option_map (λ t. t ++ (a ++ b)) before
append_both None a b = refl
append_both (Some t) a b = ap (λ x. Some x) (append_assoc t a b)

pub started : (before : Option (List ℕ)) (page rest : List ℕ) → Printing before before page rest (page ++ rest)
started before page rest = record { done = []; out = append_none before; text = refl }

regrouped : (a b c d : List ℕ) → (a ++ (b ++ c)) ++ d ≡ (a ++ b) ++ (c ++ d)
regrouped a b c d = simp append_assoc

-- one more piece is gathered
pub gathered : (before after : Option (List ℕ)) (page page' piece rest all : List ℕ) → Printing before after page (piece ++ rest) all → page' ≡ page ++ piece → Printing before after page' rest all
gathered before after page page' piece rest all p e = record { done = p.done; out = p.out; text = rw e (regrouped p.done page piece rest ∙ p.text) }

-- what was gathered is put
pub put_page : (before after after' : Option (List ℕ)) (page page' rest all : List ℕ) → Printing before after page rest all → after' ≡ option_map (λ t. t ++ page) after → page' ≡ [] → Printing before after' page' rest all
put_page before after after' page page' rest all p e clear =
    record {
      done = p.done ++ page;
      out = e ∙ ap (option_map (λ t. t ++ page)) p.out ∙ append_both before p.done page;
      text = rw clear (ap (λ x. x ++ rest) (append-nil (p.done ++ page)) ∙ p.text);
    }

-- all is put
pub ended : (before after after' : Option (List ℕ)) (page all : List ℕ) → Printing before after page [] all → after' ≡ option_map (λ t. t ++ page) after → after' ≡ option_map (λ t. t ++ all) before
ended before after after' page all p e =
    let whole : p.done ++ page ≡ all = sym (append-nil (p.done ++ page)) ∙ p.text in
    e ∙ ap (option_map (λ t. t ++ page)) p.out ∙ append_both before p.done page ∙ ap (λ x. option_map (λ t. t ++ x) before) whole

-- a front of what was gathered is, behind what was put, a front of all
front_of_all : (done page rest : List ℕ) (n : ℕ) → n ≤ length page → take (length done + n) (done ++ page ++ rest) ≡ done ++ take n page
front_of_all done page rest n few = ap (take (length done + n)) (append_assoc done page rest) ∙ (take-append-add done (page ++ rest) n ∙ ap (λ x. done ++ x) (take-append-le n page rest few))

same_front : (t done page rest all : List ℕ) (n : ℕ) → n ≤ length page → done ++ page ++ rest ≡ all → (t ++ done) ++ take n page ≡ t ++ take (length done + n) all
same_front t done page rest all n few e =
    append_assoc t done (take n page) ∙ ap (λ x. t ++ x) (sym (front_of_all done page rest n few) ∙ ap (take (length done + n)) e)

front_fits : (done page rest all : List ℕ) (n : ℕ) → n ≤ length page → done ++ page ++ rest ≡ all → length done + n ≤ length all
front_fits done page rest all n few e = omega (arith, simp length-append at (ap length e))

-- a front of what was gathered is put
pub failed : (before after after' : Option (List ℕ)) (page rest all : List ℕ) → Printing before after page rest all → AppendsFront after after' page → AppendsFront before after' all
failed before after after' page rest all p part t told =
    let front = part (t ++ p.done) (p.out ∙ ap (option_map (λ t. t ++ p.done)) told) in (
      length p.done + front.0,
      front_fits p.done page rest all front.0 front.1 p.text,
      front.2 ∙ ap (λ x. Some x) (same_front t p.done page rest all front.0 front.1 p.text),
    )

-- what holds in any case holds where a call failed
pub on_err : {T E : Type 0} (r : Result T E) (P : Type 0) → P → OnErr r P
on_err (Ok v) P p = tt
on_err (Err e) P p = p
