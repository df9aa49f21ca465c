use Rattle.std.proofs.Common.{rules, ◌≡◌, ◌∙◌, ap, sym, refl, ℕ, List, [], Ok, Err, Some, true, false, length, get_or, slice_get, arith}
use Rattle.std.proofs.lemmas.Option.{get_or_from_slice_get}
use Rattle.std.proofs.lemmas.Result.{IfOk-weaker}
use Rattle.std.specs.Prelude.{◌==◌}
use Rattle.snd_file.specs.Handle.{known_of}
use Rattle.snd_inputs.proofs.Reading.{reads_itself}
use Rattle.snd_inputs.specs.Rooms.{is_full}
use Rattle.snd_layout.specs.Shape.{Shape}
use Rattle.snd_layout.specs.declared.kind.Kind.{Kind}
use Rattle.snd_lines.specs.declared.refusal.Refusal.TheVariants.{ContainerFull, Open, WrongCount}
use Rattle.snd_output.specs.Codecs.{params_like}
use Rattle.snd_deinterleave.specs.Deinterleave.{done_counted, made_if_good}
use Rattle.snd_deinterleave.specs.Outputs.{DoneAll}
use Rattle.snd_deinterleave.proofs.Counting.{asks_nothing}
use Rattle.snd_deinterleave.proofs.Leaving.{reads_among}
use Rattle.snd_deinterleave.proofs.Splitting.{all_refused, all_same, full_as, good_as, may_split, unfit_as, wrong_as}
use Rattle.snd_deinterleave.proofs.deinterleaving.split_file.Goals as goal

-- ---- there are not as many outputs as channels

pub returns-then-len-from-clause-done : goal.returns-then-len-from-clause-done
returns-then-len-from-clause-done g c = λ files e told stands.
    let h : Shape = (known_of c.args.file.now).shape in
    let other : (length c.args.outputs.now == h.params.channels) ≡ false = search rules in
    all_refused g.S.Shelf.state c.args.shelf.now files c.args.input.now WrongCount (done_counted c.args.input.now c.args.outputs.now e) (files, told, λ n. refl)
    (wrong_as c.args.input.now c.args.outputs.now e h stands.shape other)

pub returns-then-len-from-clause-changes : goal.returns-then-len-from-clause-changes
returns-then-len-from-clause-changes g c = reads_among g.S.Shelf c.args.outputs.now c.args.shelf.now c.args.shelf.now (reads_itself g.S.Shelf c.args.shelf.now)

pub returns-then-len-from-clause-asked : goal.returns-then-len-from-clause-asked
returns-then-len-from-clause-asked g c = asks_nothing _ _ _ refl

-- ---- they cannot be made so

pub returns-in-Err-clause-done : goal.returns-in-Err-clause-done
returns-in-Err-clause-done g c = λ files e told stands.
    let input = c.args.input.now in
    let outputs = c.args.outputs.now in
    let h : Shape = (known_of c.args.file.now).shape in
    let why = c.in-Err.why in
    let there : slice_get outputs 0 ≡ Some c.in-Some.first.now = search rules in
    let first : get_or outputs 0 [] ≡ c.in-Some.first.now = get_or_from_slice_get outputs 0 c.in-Some.first.now [] there in
    let counted : (length outputs == h.params.channels) ≡ true = search rules in
    let unfit : params_like h.kind 1 h.params ≡ Err why = search rules in
    all_refused g.S.Shelf.state c.args.shelf.now files c.in-Some.first.now (Open why) (done_counted input outputs e) (files, told, λ n. refl)
    (unfit_as input outputs e h stands.shape counted why unfit ∙ ap (λ (n : List ℕ). DoneAll.refuses n (Open why)) first)

pub returns-in-Err-clause-changes : goal.returns-in-Err-clause-changes
returns-in-Err-clause-changes g c = reads_among g.S.Shelf c.args.outputs.now c.args.shelf.now c.args.shelf.now (reads_itself g.S.Shelf c.args.shelf.now)

pub returns-in-Err-clause-asked : goal.returns-in-Err-clause-asked
returns-in-Err-clause-asked g c = asks_nothing _ _ _ refl

-- ---- or have no room

pub returns-then-is_full-clause-done : goal.returns-then-is_full-clause-done
returns-then-is_full-clause-done g c = λ files e told stands.
    let input = c.args.input.now in
    let outputs = c.args.outputs.now in
    let h : Shape = (known_of c.args.file.now).shape in
    let p = c.in-Ok.params in
    let there : slice_get outputs 0 ≡ Some c.in-Some.first.now = search rules in
    let first : get_or outputs 0 [] ≡ c.in-Some.first.now = get_or_from_slice_get outputs 0 c.in-Some.first.now [] there in
    let counted : (length outputs == h.params.channels) ≡ true = search rules in
    let like : params_like h.kind 1 h.params ≡ Ok p = search rules in
    let full : is_full h.kind p h.frames ≡ true = search rules in
    all_refused g.S.Shelf.state c.args.shelf.now files c.in-Some.first.now ContainerFull (done_counted input outputs e) (files, told, λ n. refl)
    (full_as input outputs e h stands.shape counted p like full ∙ ap (λ (n : List ℕ). DoneAll.refuses n ContainerFull) first)

pub returns-then-is_full-clause-changes : goal.returns-then-is_full-clause-changes
returns-then-is_full-clause-changes g c = reads_among g.S.Shelf c.args.outputs.now c.args.shelf.now c.args.shelf.now (reads_itself g.S.Shelf c.args.shelf.now)

pub returns-then-is_full-clause-asked : goal.returns-then-is_full-clause-asked
returns-then-is_full-clause-asked g c = asks_nothing _ _ _ refl

-- ---- they are made

pub split_good-requires-clause-some : goal.split_good-requires-clause-some
split_good-requires-clause-some g c =
    let same : length c.args.outputs.now ≡ c.params-like.result.channels = search rules in
    omega (arith, same, c.are_good.ensures.some_channel)

pub split_good-requires-clause-split : goal.split_good-requires-clause-split
split_good-requires-clause-split g c =
    let h : Shape = (known_of c.args.file.now).shape in
    let p = c.in-Ok.params in
    let kind : c.kind-kind.result ≡ h.kind = c.kind-kind.ensures in
    let like : params_like c.kind-kind.result 1 h.params ≡ Ok p = search rules in
    let room : is_full c.kind-kind.result p h.frames ≡ false = search rules in
    may_split c.kind-kind.result p (known_of c.args.file.now) like c.in-Ok.ensures.fits room

pub returns-clause-done : goal.returns-clause-done
returns-clause-done g c =
    IfOk-weaker c.split_good.result _ _
    (λ answer done files e told stands.
    let input = c.args.input.now in
    let outputs = c.args.outputs.now in
    let h : Shape = (known_of c.args.file.now).shape in
    let p = c.in-Ok.params in
    let kind : c.kind-kind.result ≡ h.kind = c.kind-kind.ensures in
    let counted : (length outputs == h.params.channels) ≡ true = search rules in
    let like : params_like h.kind 1 h.params ≡ Ok p = search rules in
    let room : is_full h.kind p h.frames ≡ false = search rules in
    all_same g.S.Shelf.state c.split_good.new.shelf files answer (made_if_good input outputs c.kind-kind.result p e) (done_counted input outputs e)
    (good_as input outputs e h stands.shape counted p like room ∙ ap (λ (k : Kind). made_if_good input outputs k p e) (sym kind)) (done files e told stands))
    c.split_good.ensures.done
