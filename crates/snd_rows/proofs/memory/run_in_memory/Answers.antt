use Rattle.std.proofs.Common.{◌≡◌, ◌∙◌, [], ap, arith, rules, None, Some, refl}
use Rattle.std.specs.Str.{bytes_eq}
use Rattle.snd_disk.specs.Shelf.{Files, ShelfState}
use Rattle.snd_disk.specs.State.{State}
use Rattle.snd_app.specs.Outcome.{files_after, outcome}
use Rattle.snd_rows.specs.Memory.{one_file}
use Rattle.snd_rows.proofs.Runs.{none_out, own_name, printed, printed_same, trail}
use Rattle.snd_rows.specs.declared.memory.Printed.{Printed}
use Rattle.snd_rows.proofs.memory.run_in_memory.Goals as goal

pub returns-clause-printed : goal.returns-clause-printed
returns-clause-printed g c =
    let there = c.in_ok-put.ensures.put c.args.bytes.items (ap (λ (s : State). s.contents) c.in_ok-disk.ensures.told) (λ n. None) (ap (λ (s : ShelfState). s.files) c.new-shelf.ensures.state) in
    let p : Printed = record { out = c.in_ok-to_vec.field-0; err = c.in_ok-to_vec-2.field-0; status = c.run-status.result; shelf = c.run-status.new.shelf } in
    let out : p.out.items ≡ c.bytes.result.now = search rules in
    let err : p.err.items ≡ c.bytes-2.result.now = search rules in
    let none = c.in_ok-put.ensures.faults ∙ ap (λ (s : ShelfState). s.faults) c.new-shelf.ensures.state in
    printed_same (one_file c.args.name.now c.args.bytes.items) there.0 there.2 c.args.words.now _ _ c.args.script.items p
    (printed (outcome c.args.words.now _ _ there.0 c.args.script.items) (files_after c.args.words.now _ _ there.0 c.args.script.items) _ _ _ _ p c.bytes.result.now c.bytes-2.result.now c.new-out.ensures.told c.new-err.ensures.told c.bytes.ensures c.bytes-2.ensures out err none refl
    (omega (arith, c.if-status-ge3.false)) (c.run-status.ensures.headline there.0 c.args.script.items there.1 c.new-script.ensures.left))

pub returns-clause-trail : goal.returns-clause-trail
returns-clause-trail g c = λ named e opens fit.
    let there = c.in_ok-put.ensures.put c.args.bytes.items (ap (λ (s : State). s.contents) c.in_ok-disk.ensures.told) (λ n. None) (ap (λ (s : ShelfState). s.files) c.new-shelf.ensures.state) in
    let out : c.in_ok-to_vec.field-0.items ≡ c.bytes.result.now = search rules in
    let begun = c.in_ok-put.ensures.images.same_time ∙ ap (λ (s : State). s.clock) c.in_ok-disk.ensures.told in
    trail (one_file c.args.name.now c.args.bytes.items) there.0 there.2 _ c.args.name.now c.args.script.items _ _ _ e _ c.bytes.result.now c.in_ok-to_vec.field-0.items c.bytes.ensures out begun
    (c.run-status.ensures.crash c.args.name.now there.0 c.args.bytes.items e c.args.script.items [] named there.1 (there.2 c.args.name.now ∙ own_name c.args.name.now (Some c.args.bytes.items))
    (λ x left. c.in_ok-disk.ensures.images x (c.in_ok-put.ensures.images.now.no_more x left)) opens fit c.new-script.ensures.left c.new-out.ensures.told)

pub returns-clause-all_in : goal.returns-clause-all_in
returns-clause-all_in g c = λ n.
    c.run-status.ensures.leaves.back n ∙ c.in_ok-put.ensures.out n ∙ none_out (bytes_eq n c.args.name.now) _ (ap (λ (s : ShelfState). s.out n) c.new-shelf.ensures.state)

pub run-status-requires : goal.run-status-requires
run-status-requires g c = λ n. c.in_ok-put.ensures.out n ∙ none_out (bytes_eq n c.args.name.now) _ (ap (λ (s : ShelfState). s.out n) c.new-shelf.ensures.state)
