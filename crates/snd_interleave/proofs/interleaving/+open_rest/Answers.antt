use Rattle.std.proofs.Common.{rules, ◌≡◌, ◌∙◌, ap, sym, subst, ℕ, ◌+◌, ◌-◌, ◌<◌, ◌≤◌, [], ◌∷◌, ◌++◌, None, Some, Ok, refl, length, slice_get, take, false, arith}
use Rattle.std.proofs.lemmas.List.{length-append, take_at}
use Rattle.std.proofs.lemmas.Option.{slice_get_within}
use Rattle.std.proofs.lemmas.Result.{IfOk-weaker}
use Rattle.std.specs.Prelude.{drop}
use Rattle.std.specs.Str.{bytes_eq}
use Rattle.std.specs.Vec.{vec_len}
use Rattle.snd_inputs.proofs.Public.{asks_none, done_same, held_done, held_one, only_read, read_as, reads_changes, reads_none, refused_as}
use Rattle.snd_inputs.specs.Asking.{AsksForEach}
use Rattle.snd_inputs.specs.Inputs.{inputs_in}
use Rattle.snd_inputs.specs.Opening.{IsOpen, OpensInput}
use Rattle.snd_edits.specs.Editing.{first_editing}
use Rattle.snd_interleave.specs.Asking.{AsksWhole, bytes_whole}
use Rattle.snd_interleave.specs.Channels.{CountsWith, HoldAll}
use Rattle.snd_interleave.specs.Opening.{AreOut, done_rest, opened_behind}
use Rattle.snd_interleave.specs.Interleave.{done_beside}
use Rattle.snd_interleave.proofs.Asking.{each_none, once_front, once_last, rest_held, rest_is, rest_looks}
use Rattle.snd_output.proofs.Public.{if_changed, unchanged_as}
use Rattle.snd_interleave.proofs.Counts.{counts_apart}
use Rattle.snd_interleave.proofs.Inputs.{front_of, hold_more, last_of}
use Rattle.snd_interleave.proofs.Joining.{makes_output}
use Rattle.snd_interleave.proofs.Opened.{new_name, none_there, other_name, out_more, output_in, rest_none, rest_open, rest_refused}
use Rattle.snd_interleave.proofs.interleaving.+open_rest.Goals as goal

-- ---- all are open

pub join-requires-clause-is_in : goal.join-requires-clause-is_in
join-requires-clause-is_in g t c =
    let none : slice_get c.args.interleaving.now.inputs (vec_len c.args.inputs.now) ≡ None = search rules in
    output_in c.args.interleaving.now.inputs c.args.interleaving.now.output.now (g.S.Shelf.state c.args.shelf.now) (vec_len c.args.inputs.now) c.requires.apart (none_there c.args.interleaving.now.inputs (vec_len c.args.inputs.now) none) c.requires.out

pub join-requires-clause-all : goal.join-requires-clause-all
join-requires-clause-all g t c =
    let none : slice_get c.args.interleaving.now.inputs (vec_len c.args.inputs.now) ≡ None = search rules in
    omega (arith, c.as_mut_slice.ensures.len, c.requires.within, none_there c.args.interleaving.now.inputs (vec_len c.args.inputs.now) none)

pub returns-in_default-clause-done : goal.returns-in_default-clause-done
returns-in_default-clause-done g t c =
    let names = c.args.interleaving.now.inputs in
    let output = c.args.interleaving.now.output.now in
    let none : slice_get names (vec_len c.args.inputs.now) ≡ None = search rules in
    let same : c.as_mut_slice.result.now ≡ c.args.inputs.now.items = c.as_mut_slice.ensures.value in
    IfOk-weaker c.join.result _ _
    (λ answer done files es told hold.
    let all : length names ≤ length es = omega (arith, none_there names (vec_len c.args.inputs.now) none, hold.count, ap length same, c.as_mut_slice.ensures.len) in
    done_same g.S.Shelf.state c.join.new.shelf files answer (done_beside names output es) (done_rest names output files es) (rest_none names output files es all)
    (done files es told (subst (λ l. HoldAll g.S.Disk.Disk.state l es) (sym same) hold)))
    c.join.ensures.done

pub returns-in_default-clause-faults : goal.returns-in_default-clause-faults
returns-in_default-clause-faults g t c =
    let items = c.args.inputs.now.items in
    let ys = c.join.new.inputs in
    let a = (g.S.Shelf.state c.args.shelf.now).faults in
    let b = (g.S.Shelf.state c.join.new.shelf).faults in
    let same : c.as_mut_slice.result.now ≡ items = c.as_mut_slice.ensures.value in
    let long : c.args.inputs.now.len ≡ length ys = sym (c.join.auto.inputs ∙ c.as_mut_slice.ensures.len) in
    let whole : take c.args.inputs.now.len (ys ++ drop (length ys) items) ≡ ys = take_at ys (drop (length ys) items) c.args.inputs.now.len (sym long) in
    subst (λ l. CountsWith g.S.Disk.Disk.state items l a b c.join.result) (sym whole) (subst (λ l. CountsWith g.S.Disk.Disk.state l ys a b c.join.result) same c.join.ensures.faults)

pub returns-in_default-clause-asked : goal.returns-in_default-clause-asked
returns-in_default-clause-asked g t c =
    let items = c.args.inputs.now.items in
    let ys = c.join.new.inputs in
    let same : c.as_mut_slice.result.now ≡ items = c.as_mut_slice.ensures.value in
    let long : c.args.inputs.now.len ≡ length ys = sym (c.join.auto.inputs ∙ c.as_mut_slice.ensures.len) in
    let whole : take c.args.inputs.now.len (ys ++ drop (length ys) items) ≡ ys = take_at ys (drop (length ys) items) c.args.inputs.now.len (sym long) in
    subst (λ l. AsksWhole g.S.Disk.Disk.state items l) (sym whole) (subst (λ l. AsksWhole g.S.Disk.Disk.state l ys) same c.join.ensures.asked)

pub returns-in_default-clause-asked_rest : goal.returns-in_default-clause-asked_rest
returns-in_default-clause-asked_rest g t c =
    asks_none g.S.Shelf.state 1 16384 (drop (vec_len c.args.inputs.now) c.args.interleaving.now.inputs) c.args.shelf.now c.join.new.shelf c.join.ensures.unasked

-- ---- the next one

pub open_input-requires : goal.open_input-requires
open_input-requires g t c =
    let names = c.args.interleaving.now.inputs in
    let there : slice_get names (vec_len c.args.inputs.now) ≡ Some c.in-Some.name.now = search rules in
    c.requires.out c.in-Some.name.now ∙ new_name names c.args.interleaving.now.output.now c.requires.apart (vec_len c.args.inputs.now) c.in-Some.name.now there

pub returns-in_err-input-clause-changes : goal.returns-in_err-input-clause-changes
returns-in_err-input-clause-changes g t c = reads_changes g.S.Shelf c.args.interleaving.now.output.now _ _ c.in_err-input.ensures.opened.reads

pub returns-in_err-input-clause-asked : goal.returns-in_err-input-clause-asked
returns-in_err-input-clause-asked g t c = each_none g.S.Disk.Disk.state bytes_whole c.args.inputs.now.items

pub returns-in_err-input-clause-asked_rest : goal.returns-in_err-input-clause-asked_rest
returns-in_err-input-clause-asked_rest g t c =
    let names = c.args.interleaving.now.inputs in
    let k = vec_len c.args.inputs.now in
    let there : slice_get names k ≡ Some c.in-Some.name.now = search rules in
    rest_looks g.S.Shelf.state names k c.in-Some.name.now there c.args.shelf.now c.open_input.new.shelf c.in_err-input.ensures.opened.asked

-- it is refused
pub returns-in-Err-clause-done : goal.returns-in-Err-clause-done
returns-in-Err-clause-done g t c = λ files es told hold.
    let names = c.args.interleaving.now.inputs in
    let output = c.args.interleaving.now.output.now in
    let name = c.in-Some.name.now in
    let there : slice_get names (vec_len c.args.inputs.now) ≡ Some name = search rules in
    let at : slice_get names (length es) ≡ Some name = ap (slice_get names) (hold.count ∙ sym c.args.inputs.now.ok.0) ∙ there in
    let looks = subst (λ r. OpensInput g.S.Shelf g.S.Disk.Disk name c.args.shelf.now c.open_input.new.shelf (Ok r)) c.in-Err.is c.in_ok-input.ensures.opened in
    refused_as g.S.Shelf.state c.open_input.new.shelf files name c.in-Err.why (done_rest names output files es) (looks.0.reads.files files told)
    (rest_refused names output files es name at c.in-Err.why (looks.1 files told))

pub returns-in-Err-clause-changes : goal.returns-in-Err-clause-changes
returns-in-Err-clause-changes g t c =
    let looks = subst (λ r. OpensInput g.S.Shelf g.S.Disk.Disk c.in-Some.name.now c.args.shelf.now c.open_input.new.shelf (Ok r)) c.in-Err.is c.in_ok-input.ensures.opened in
    reads_changes g.S.Shelf c.args.interleaving.now.output.now _ _ looks.0.reads

pub returns-in-Err-clause-asked : goal.returns-in-Err-clause-asked
returns-in-Err-clause-asked g t c = each_none g.S.Disk.Disk.state bytes_whole c.args.inputs.now.items

pub returns-in-Err-clause-asked_rest : goal.returns-in-Err-clause-asked_rest
returns-in-Err-clause-asked_rest g t c =
    let names = c.args.interleaving.now.inputs in
    let name = c.in-Some.name.now in
    let k = vec_len c.args.inputs.now in
    let there : slice_get names k ≡ Some name = search rules in
    let looks = subst (λ r. OpensInput g.S.Shelf g.S.Disk.Disk name c.args.shelf.now c.open_input.new.shelf (Ok r)) c.in-Err.is c.in_ok-input.ensures.opened in
    rest_looks g.S.Shelf.state names k name there c.args.shelf.now c.open_input.new.shelf looks.0.asked

-- it is open
pub open_rest-answer-requires : goal.open_rest-answer-requires
open_rest-answer-requires g t c κs within =
    let names = c.args.interleaving.now.inputs in
    let output = c.args.interleaving.now.output.now in
    let items = c.args.inputs.now.items in
    let name = c.in-Some.name.now in
    let k = vec_len c.args.inputs.now in
    let opens : IsOpen g.S.Shelf g.S.Disk.Disk name c.args.shelf.now c.open_input.new.shelf c.in-Ok.input =
    subst (λ r. OpensInput g.S.Shelf g.S.Disk.Disk name c.args.shelf.now c.open_input.new.shelf (Ok r)) c.in-Ok.is c.in_ok-input.ensures.opened in
    let there : slice_get names k ≡ Some name = search rules in
    let below : k < length names = slice_get_within names k name there in
    let pushed : length c.push.new.self.items ≡ length items + 1 = ap length c.in_default-push.ensures.items ∙ length-append items (c.in-Ok.input ∷ []) in
    let count : k ≡ length items = c.args.inputs.now.ok.0 in
    let less : length names - length c.push.new.self.items < t = omega (arith, c.decreases, pushed, below, count) in
    let more : vec_len c.push.new.self ≡ k + 1 = c.in_default-push.ensures.len in
    let out : AreOut (take (k + 1) names) (g.S.Shelf.state c.open_input.new.shelf) = out_more names output c.requires.apart k name there (g.S.Shelf.state c.args.shelf.now) (g.S.Shelf.state c.open_input.new.shelf) opens.out.takes.out c.requires.out in (
      less,
      (within.0, (within.1, (c.requires.apart, (omega (arith, more, below), subst (λ (n : ℕ). AreOut (take n names) (g.S.Shelf.state c.open_input.new.shelf)) (sym more) out)))),
    )

pub give-requires-2-clause-named : goal.give-requires-2-clause-named
give-requires-2-clause-named g t c =
    let xs = c.args.inputs.now.items in
    let ys = c.pop.new.self.items in
    let x = c.in-Ok.input in
    let y = c.in-Some-pop.input in
    let opens : IsOpen g.S.Shelf g.S.Disk.Disk c.in-Some.name.now c.args.shelf.now c.open_input.new.shelf x =
    subst (λ r. OpensInput g.S.Shelf g.S.Disk.Disk c.in-Some.name.now c.args.shelf.now c.open_input.new.shelf (Ok r)) c.in-Ok.is c.in_ok-input.ensures.opened in
    let pushed : c.push.new.self.items ≡ xs ++ x ∷ [] = search rules in
    let popped : c.open_rest-answer.new.inputs.items ≡ ys ++ y ∷ [] = search rules in
    (last_of g.S.Disk.Disk xs ys x y _ _ pushed popped c.open_rest-answer.ensures.reads).disk.keeps.name ∙ opens.named

pub returns-clause-done : goal.returns-clause-done
returns-clause-done g t c =
    let names = c.args.interleaving.now.inputs in
    let output = c.args.interleaving.now.output.now in
    let name = c.in-Some.name.now in
    let xs = c.args.inputs.now.items in
    let ys = c.pop.new.self.items in
    let x = c.in-Ok.input in
    let y = c.in-Some-pop.input in
    let opens : IsOpen g.S.Shelf g.S.Disk.Disk name c.args.shelf.now c.open_input.new.shelf x =
    subst (λ r. OpensInput g.S.Shelf g.S.Disk.Disk name c.args.shelf.now c.open_input.new.shelf (Ok r)) c.in-Ok.is c.in_ok-input.ensures.opened in
    let there : slice_get names (vec_len c.args.inputs.now) ≡ Some name = search rules in
    let apart : bytes_eq name output ≡ false = other_name names output c.requires.apart (vec_len c.args.inputs.now) name there in
    let pushed : c.push.new.self.items ≡ xs ++ x ∷ [] = search rules in
    let popped : c.open_rest-answer.new.inputs.items ≡ ys ++ y ∷ [] = search rules in
    let one = c.open_rest-answer in
    IfOk-weaker one.result _ _
    (λ answer done files es told hold.
    let at : slice_get names (length es) ≡ Some name = ap (slice_get names) (hold.count ∙ sym c.args.inputs.now.ok.0) ∙ there in
    let found = opens.opened files told in
    let e = first_editing found.0 x.layout in
    let out = opens.out.takes.files files told in
    let more = es ++ e ∷ [] in
    let all : HoldAll g.S.Disk.Disk.state c.push.new.self.items more = subst (λ l. HoldAll g.S.Disk.Disk.state l more) (sym pushed) (hold_more g.S.Disk.Disk.state xs es x e hold found.3) in
    let todo = done_rest names output files es in
    let same : todo ≡ done_rest names output out.0 more = rest_open names output files es name at c.requires.apart out.0 found.0 e found.1 out.2 (read_as found.0 x.layout found.2) in
    let d = done_same g.S.Shelf.state one.new.shelf out.0 answer (done_rest names output out.0 more) todo same (done out.0 more out.1 all) in (
      d.0,
      held_done g.S.Shelf g.S.Disk.Disk c.args.shelf.now c.open_input.new.shelf one.new.shelf c.give-2.new.self x x.disk y.disk y.disk name opens refl refl (last_of g.S.Disk.Disk xs ys x y _ _ pushed popped one.ensures.reads).disk c.give-2.ensures.given output apart
          todo files told (makes_output names output (opened_behind es (inputs_in files (drop (length es) names)))) d.1,
    ))
    one.ensures.done

pub returns-clause-changes : goal.returns-clause-changes
returns-clause-changes g t c =
    let names = c.args.interleaving.now.inputs in
    let output = c.args.interleaving.now.output.now in
    let name = c.in-Some.name.now in
    let xs = c.args.inputs.now.items in
    let ys = c.pop.new.self.items in
    let x = c.in-Ok.input in
    let y = c.in-Some-pop.input in
    let k = vec_len c.args.inputs.now in
    let opens : IsOpen g.S.Shelf g.S.Disk.Disk name c.args.shelf.now c.open_input.new.shelf x =
    subst (λ r. OpensInput g.S.Shelf g.S.Disk.Disk name c.args.shelf.now c.open_input.new.shelf (Ok r)) c.in-Ok.is c.in_ok-input.ensures.opened in
    let there : slice_get names k ≡ Some name = search rules in
    let apart : bytes_eq name output ≡ false = other_name names output c.requires.apart k name there in
    let pushed : c.push.new.self.items ≡ xs ++ x ∷ [] = search rules in
    let popped : c.open_rest-answer.new.inputs.items ≡ ys ++ y ∷ [] = search rules in
    let one = c.open_rest-answer in
    held_one g.S.Shelf g.S.Disk.Disk c.args.shelf.now c.open_input.new.shelf one.new.shelf c.give-2.new.self x x.disk y.disk y.disk name opens refl refl (last_of g.S.Disk.Disk xs ys x y _ _ pushed popped one.ensures.reads).disk c.give-2.ensures.given output apart
    c.give-2.ensures.images c.give-2.ensures.others one.ensures.changes (c.requires.out name ∙ new_name names output c.requires.apart k name there)

pub returns-clause-faults : goal.returns-clause-faults
returns-clause-faults g t c =
    let xs = c.args.inputs.now.items in
    let ys = c.pop.new.self.items in
    let x = c.in-Ok.input in
    let y = c.in-Some-pop.input in
    let opens : IsOpen g.S.Shelf g.S.Disk.Disk c.in-Some.name.now c.args.shelf.now c.open_input.new.shelf x =
    subst (λ r. OpensInput g.S.Shelf g.S.Disk.Disk c.in-Some.name.now c.args.shelf.now c.open_input.new.shelf (Ok r)) c.in-Ok.is c.in_ok-input.ensures.opened in
    let pushed : c.push.new.self.items ≡ xs ++ x ∷ [] = search rules in
    let popped : c.open_rest-answer.new.inputs.items ≡ ys ++ y ∷ [] = search rules in
    let one = c.open_rest-answer in
    let count : length ys ≡ length xs = omega (arith, one.ensures.reads.count, ap length pushed, ap length popped, length-append xs (x ∷ []), length-append ys (y ∷ [])) in
    let mid = (g.S.Shelf.state c.open_input.new.shelf).faults in
    let mid' = (g.S.Shelf.state one.new.shelf).faults in
    let counts : CountsWith g.S.Disk.Disk.state (xs ++ x ∷ []) (ys ++ y ∷ []) mid mid' one.result =
    subst (λ l. CountsWith g.S.Disk.Disk.state l (ys ++ y ∷ []) mid mid' one.result) pushed
    (subst (λ l. CountsWith g.S.Disk.Disk.state c.push.new.self.items l mid mid' one.result) popped one.ensures.faults) in
    counts_apart g.S.Disk.Disk.state xs ys x y count one.result (g.S.Shelf.state c.args.shelf.now).faults mid mid' (g.S.Shelf.state c.give-2.new.self).faults c.in_ok-input.ensures.faults opens.calm c.give-2.ensures.given.faults counts

pub returns-clause-reads : goal.returns-clause-reads
returns-clause-reads g t c =
    let xs = c.args.inputs.now.items in
    let ys = c.pop.new.self.items in
    let x = c.in-Ok.input in
    let y = c.in-Some-pop.input in
    let pushed : c.push.new.self.items ≡ xs ++ x ∷ [] = search rules in
    let popped : c.open_rest-answer.new.inputs.items ≡ ys ++ y ∷ [] = search rules in
    front_of g.S.Disk.Disk xs ys x y _ _ pushed popped c.open_rest-answer.ensures.reads

pub returns-clause-asked : goal.returns-clause-asked
returns-clause-asked g t c =
    let xs = c.args.inputs.now.items in
    let ys = c.pop.new.self.items in
    let x = c.in-Ok.input in
    let y = c.in-Some-pop.input in
    let pushed : c.push.new.self.items ≡ xs ++ x ∷ [] = search rules in
    let popped : c.open_rest-answer.new.inputs.items ≡ ys ++ y ∷ [] = search rules in
    once_front g.S.Disk.Disk.state xs ys x y _ _ pushed popped c.open_rest-answer.ensures.reads c.open_rest-answer.ensures.asked

pub returns-clause-asked_rest : goal.returns-clause-asked_rest
returns-clause-asked_rest g t c =
    let names = c.args.interleaving.now.inputs in
    let name = c.in-Some.name.now in
    let xs = c.args.inputs.now.items in
    let ys = c.pop.new.self.items in
    let x = c.in-Ok.input in
    let y = c.in-Some-pop.input in
    let k = vec_len c.args.inputs.now in
    let opens : IsOpen g.S.Shelf g.S.Disk.Disk name c.args.shelf.now c.open_input.new.shelf x =
    subst (λ r. OpensInput g.S.Shelf g.S.Disk.Disk name c.args.shelf.now c.open_input.new.shelf (Ok r)) c.in-Ok.is c.in_ok-input.ensures.opened in
    let there : slice_get names k ≡ Some name = search rules in
    let pushed : c.push.new.self.items ≡ xs ++ x ∷ [] = search rules in
    let popped : c.open_rest-answer.new.inputs.items ≡ ys ++ y ∷ [] = search rules in
    let one = c.open_rest-answer in
    let last = once_last g.S.Disk.Disk.state xs ys x y _ _ pushed popped one.ensures.reads one.ensures.asked in
    let rest : AsksForEach 1 16384 g.S.Shelf.state (drop (k + 1) names) c.open_input.new.shelf one.new.shelf =
    subst (λ (n : ℕ). AsksForEach 1 16384 g.S.Shelf.state (drop n names) c.open_input.new.shelf one.new.shelf) c.in_default-push.ensures.len one.ensures.asked_rest in
    rest_is g.S.Shelf.state names k name there c.args.shelf.now c.give-2.new.self
    (rest_held g.S.Shelf g.S.Disk.Disk c.args.shelf.now c.open_input.new.shelf one.new.shelf c.give-2.new.self x name opens (drop (k + 1) names) (g.met.S.Disk.Disk.size_told x.disk) y last rest c.give-2.ensures.given)

-- .. but there is no memory for it
pub returns-in-Err-push-clause-asked : goal.returns-in-Err-push-clause-asked
returns-in-Err-push-clause-asked g t c =
    let items = c.args.inputs.now.items in
    let same : c.push.new.self.items ≡ items = search rules in
    subst (λ l. AsksWhole g.S.Disk.Disk.state items l) (sym same) (each_none g.S.Disk.Disk.state bytes_whole items)

pub returns-in-Err-push-clause-asked_rest : goal.returns-in-Err-push-clause-asked_rest
returns-in-Err-push-clause-asked_rest g t c =
    let names = c.args.interleaving.now.inputs in
    let name = c.in-Some.name.now in
    let x = c.in-Ok.input in
    let k = vec_len c.args.inputs.now in
    let opens : IsOpen g.S.Shelf g.S.Disk.Disk name c.args.shelf.now c.open_input.new.shelf x =
    subst (λ r. OpensInput g.S.Shelf g.S.Disk.Disk name c.args.shelf.now c.open_input.new.shelf (Ok r)) c.in-Ok.is c.in_ok-input.ensures.opened in
    let there : slice_get names k ≡ Some name = search rules in
    let same : c.in-Err-push.failed.value.disk ≡ x.disk = search rules in
    let none : (g.S.Disk.Disk.state c.in-Err-push.failed.value.disk).asked ≡ (g.S.Disk.Disk.state x.disk).asked = ap (λ d. (g.S.Disk.Disk.state d).asked) same in
    let adds = c.give.ensures.given.asked in
    rest_looks g.S.Shelf.state names k name there c.args.shelf.now c.give.new.self
    (record { later = omega (arith, opens.out.bytes.asked, adds.later); most = omega (arith, opens.out.bytes.asked, adds.most, none, opens.asked) })

pub returns-in-Err-push-clause-changes : goal.returns-in-Err-push-clause-changes
returns-in-Err-push-clause-changes g t c =
    let names = c.args.interleaving.now.inputs in
    let output = c.args.interleaving.now.output.now in
    let name = c.in-Some.name.now in
    let k = vec_len c.args.inputs.now in
    let there : slice_get names k ≡ Some name = search rules in
    let opens : IsOpen g.S.Shelf g.S.Disk.Disk name c.args.shelf.now c.open_input.new.shelf c.in-Ok.input =
    subst (λ r. OpensInput g.S.Shelf g.S.Disk.Disk name c.args.shelf.now c.open_input.new.shelf (Ok r)) c.in-Ok.is c.in_ok-input.ensures.opened in
    let same : c.in-Err-push.failed.value.disk ≡ c.in-Ok.input.disk = search rules in
    reads_changes g.S.Shelf output _ _
    (only_read g.S.Shelf g.S.Disk.Disk c.args.shelf.now c.open_input.new.shelf c.give.new.self c.in-Ok.input c.in-Ok.input.disk c.in-Ok.input.disk c.in-Err-push.failed.value.disk name opens refl same (reads_none g.S.Disk.Disk.state g.S.Disk.Disk.may_leave g.S.Disk.Disk.left_between c.in-Ok.input.disk) c.give.ensures.given
    c.give.ensures.images c.give.ensures.others (c.requires.out name ∙ new_name names output c.requires.apart k name there))

-- ---- when one is said to have changed

pub returns-in_default-clause-changed : goal.returns-in_default-clause-changed
returns-in_default-clause-changed g t c =
    let same : c.as_mut_slice.result.now ≡ c.args.inputs.now.items = c.as_mut_slice.ensures.value in
    if_changed _ _ c.join.result (λ never files es told hold. never es (subst (λ l. HoldAll g.S.Disk.Disk.state l es) (sym same) hold)) c.join.ensures.changed

pub returns-in_err-input-clause-changed : goal.returns-in_err-input-clause-changed
returns-in_err-input-clause-changed g t c = unchanged_as _ c.in_err-input.field-0.0 c.from_residual.result (search rules) c.in_err-input.ensures.unchanged

pub returns-clause-changed : goal.returns-clause-changed
returns-clause-changed g t c =
    let names = c.args.interleaving.now.inputs in
    let name = c.in-Some.name.now in
    let xs = c.args.inputs.now.items in
    let x = c.in-Ok.input in
    let opens : IsOpen g.S.Shelf g.S.Disk.Disk name c.args.shelf.now c.open_input.new.shelf x =
    subst (λ r. OpensInput g.S.Shelf g.S.Disk.Disk name c.args.shelf.now c.open_input.new.shelf (Ok r)) c.in-Ok.is c.in_ok-input.ensures.opened in
    let pushed : c.push.new.self.items ≡ xs ++ x ∷ [] = search rules in
    if_changed _ _ c.open_rest-answer.result
    (λ never files es told hold.
    let found = opens.opened files told in
    let e = first_editing found.0 x.layout in
    let out = opens.out.takes.files files told in
    let more = es ++ e ∷ [] in
    let all : HoldAll g.S.Disk.Disk.state c.push.new.self.items more = subst (λ l. HoldAll g.S.Disk.Disk.state l more) (sym pushed) (hold_more g.S.Disk.Disk.state xs es x e hold found.3) in
    never out.0 more out.1 all)
    c.open_rest-answer.ensures.changed
