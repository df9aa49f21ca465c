use Rattle.std.proofs.Common.{rules, ◌≡◌, ◌∙◌, ap, sym, ℕ, None, Some, Ok, Err, true, false, length}
use Rattle.snd_lines.specs.declared.refusal.Refusal.TheVariants.{ContainerFull, Open}
use Rattle.std.proofs.lemmas.Result.{IfOk-weaker}
use Rattle.snd_inputs.proofs.Public.{done_same}
use Rattle.snd_inputs.specs.Inputs.{first_bad}
use Rattle.snd_inputs.specs.Rooms.{is_full}
use Rattle.snd_layout.specs.declared.refusal.OpenRefusal.TheVariants.{BadChannels}
use Rattle.snd_output.specs.Codecs.{params_like}
use Rattle.snd_interleave.specs.Beside.{longest}
use Rattle.snd_interleave.specs.Channels.{first_of, layouts_of}
use Rattle.snd_interleave.specs.Interleave.{channels_in, done_as, done_beside, done_if_fit, first_misfit, made_if_good}
use Rattle.snd_interleave.proofs.Asking.{each_none}
use Rattle.snd_interleave.specs.Asking.{bytes_whole}
use Rattle.snd_interleave.proofs.Joining.{all_mono, beside_is, beside_none, full_is, none_first, refused_as, room_is}
use Rattle.snd_interleave.proofs.Inputs.{all_unread}
use Rattle.snd_interleave.proofs.ChannelNumbers.{most_numbers, shapes_are}
use Rattle.snd_interleave.proofs.interleaving.join.Goals as goal

pub returns-in-Some-first_misfit-clause-done : goal.returns-in-Some-first_misfit-clause-done
returns-in-Some-first_misfit-clause-done g c = λ files es told hold.
    let names = c.args.interleaving.now.inputs in
    let output = c.args.interleaving.now.output.now in
    let hs = layouts_of c.args.inputs.now in
    let kind = c.in-Some.kind in
    let own = c.in-Some.own in
    let first : first_of hs ≡ Some (kind, own) = search rules in
    let is : first_misfit own names hs ≡ Some (c.in-Some-first_misfit.name.now, c.in-Some-first_misfit.why) = search rules in
    refused_as g.S.Shelf.state c.args.shelf.now files c.in-Some-first_misfit.name.now c.in-Some-first_misfit.why (done_beside names output es) told
    (beside_is names output es hs kind own (shapes_are g.D.Disk.state c.args.inputs.now es hold) first ∙ ap (done_if_fit names output kind own es) is)

pub returns-in-Err-clause-done : goal.returns-in-Err-clause-done
returns-in-Err-clause-done g c = λ files es told hold.
    let names = c.args.interleaving.now.inputs in
    let output = c.args.interleaving.now.output.now in
    let hs = layouts_of c.args.inputs.now in
    let kind = c.in-Some.kind in
    let own = c.in-Some.own in
    let first : first_of hs ≡ Some (kind, own) = search rules in
    let none : first_misfit own names hs ≡ None = search rules in
    let asked : params_like kind (length c.args.inputs.now) own ≡ Err c.in-Err.why = search rules in
    let is : params_like kind (length es) own ≡ Err c.in-Err.why =
    ap (λ (n : ℕ). params_like kind n own) hold.count ∙ asked in
    refused_as g.S.Shelf.state c.args.shelf.now files output (Open c.in-Err.why) (done_beside names output es) told
    (beside_is names output es hs kind own (shapes_are g.D.Disk.state c.args.inputs.now es hold) first
    ∙ ap (done_if_fit names output kind own es) none ∙ ap (done_as names output kind es) is)

pub returns-then-is_full-clause-done : goal.returns-then-is_full-clause-done
returns-then-is_full-clause-done g c = λ files es told hold.
    let names = c.args.interleaving.now.inputs in
    let output = c.args.interleaving.now.output.now in
    let hs = layouts_of c.args.inputs.now in
    let kind = c.in-Some.kind in
    let own = c.in-Some.own in
    let p = c.in-Ok.params in
    let first : first_of hs ≡ Some (kind, own) = search rules in
    let none : first_misfit own names hs ≡ None = search rules in
    let asked : params_like kind (length c.args.inputs.now) own ≡ Ok p = search rules in
    let is : params_like kind (length es) own ≡ Ok p =
    ap (λ (n : ℕ). params_like kind n own) hold.count ∙ asked in
    let found : is_full kind p c.from.result ≡ true = search rules in
    let full : is_full kind p (longest (channels_in p.codec es)) ≡ true =
    ap (is_full kind p) (sym (c.from.ensures ∙ c.most_frames-frames.ensures ∙ most_numbers g.D.Disk.state c.args.inputs.now es p.codec hold)) ∙ found in
    refused_as g.S.Shelf.state c.args.shelf.now files output ContainerFull (done_beside names output es) told
    (beside_is names output es hs kind own (shapes_are g.D.Disk.state c.args.inputs.now es hold) first
    ∙ ap (done_if_fit names output kind own es) none ∙ ap (done_as names output kind es) is ∙ full_is names output kind p es full)

pub join_good-requires-clause-mono : goal.join_good-requires-clause-mono
join_good-requires-clause-mono g c =
    let own = c.in-Some.own in
    let none : first_misfit own c.args.interleaving.now.inputs (layouts_of c.args.inputs.now) ≡ None = search rules in
    all_mono own c.args.interleaving.now.inputs c.args.inputs.now (sym c.requires.all) none

pub returns-clause-done : goal.returns-clause-done
returns-clause-done g c =
    IfOk-weaker c.join_good.result _ _
    (λ answer done files es told hold.
    let names = c.args.interleaving.now.inputs in
    let output = c.args.interleaving.now.output.now in
    let hs = layouts_of c.args.inputs.now in
    let kind = c.in-Some.kind in
    let own = c.in-Some.own in
    let p = c.in-Ok.params in
    let frames = c.most_frames-frames.result in
    let first : first_of hs ≡ Some (kind, own) = search rules in
    let none : first_misfit own names hs ≡ None = search rules in
    let asked : params_like kind (length c.args.inputs.now) own ≡ Ok p = search rules in
    let is : params_like kind (length es) own ≡ Ok p =
    ap (λ (n : ℕ). params_like kind n own) hold.count ∙ asked in
    let same : frames ≡ longest (channels_in p.codec es) = c.most_frames-frames.ensures ∙ most_numbers g.D.Disk.state c.args.inputs.now es p.codec hold in
    let found : is_full kind p c.from.result ≡ false = search rules in
    let room : is_full kind p (longest (channels_in p.codec es)) ≡ false = ap (is_full kind p) (sym (c.from.ensures ∙ same)) ∙ found in
    let todo : done_beside names output es ≡ made_if_good names output kind p (channels_in p.codec es) (first_bad es) =
    beside_is names output es hs kind own (shapes_are g.D.Disk.state c.args.inputs.now es hold) first ∙ ap (done_if_fit names output kind own es) none
    ∙ ap (done_as names output kind es) is ∙ room_is names output kind p es room in
    done_same g.S.Shelf.state c.join_good.new.shelf files answer (made_if_good names output kind p (channels_in p.codec es) (first_bad es)) (done_beside names output es) todo (done files es told hold))
    c.join_good.ensures.done

pub returns-in_default-clause-asked : goal.returns-in_default-clause-asked
returns-in_default-clause-asked g c = each_none g.D.Disk.state bytes_whole c.args.inputs.now

pub returns-in-Some-first_misfit-clause-asked : goal.returns-in-Some-first_misfit-clause-asked
returns-in-Some-first_misfit-clause-asked g c = each_none g.D.Disk.state bytes_whole c.args.inputs.now

pub returns-in-Err-clause-asked : goal.returns-in-Err-clause-asked
returns-in-Err-clause-asked g c = each_none g.D.Disk.state bytes_whole c.args.inputs.now

pub returns-then-is_full-clause-asked : goal.returns-then-is_full-clause-asked
returns-then-is_full-clause-asked g c = each_none g.D.Disk.state bytes_whole c.args.inputs.now

pub returns-in_default-clause-done : goal.returns-in_default-clause-done
returns-in_default-clause-done g c = λ files es told hold.
    let names = c.args.interleaving.now.inputs in
    let output = c.args.interleaving.now.output.now in
    let first : first_of (layouts_of c.args.inputs.now) ≡ None = search rules in
    refused_as g.S.Shelf.state c.args.shelf.now files output (Open BadChannels) (done_beside names output es) told
    (beside_none names output es (hold.count ∙ none_first c.args.inputs.now first))

pub returns-in_default-clause-reads : goal.returns-in_default-clause-reads
returns-in_default-clause-reads g c = all_unread g.D.Disk c.args.inputs.now
