use Rattle.std.proofs.Common.{rules, ◌≡◌, ◌∙◌, ap, sym, refl, ℕ, ◌<◌, List, [], ◌∷◌, None, Some, Ok, Err, length, get_or, arith}
use Rattle.std.proofs.lemmas.List.{get_or_append_left}
use Rattle.snd_inputs.specs.Inputs.{first_bad}
use Rattle.snd_lines.specs.declared.refusal.Refusal.TheVariants.{BadBlock}
use Rattle.snd_output.proofs.Public.{changed_err, unchanged_as}
use Rattle.snd_tools.specs.Done.{Done}
use Rattle.snd_interleave.specs.Beside.{longest}
use Rattle.snd_interleave.specs.Channels.{most_frames}
use Rattle.snd_interleave.specs.Interleave.{channels_in, made_if_good}
use Rattle.snd_interleave.proofs.Asking.{checked_only, checked_then}
use Rattle.snd_interleave.proofs.Bad.{bad_within}
use Rattle.snd_interleave.proofs.Counts.{adding_then}
use Rattle.snd_interleave.proofs.Inputs.{hold_still, read_then, same_layouts, still_mono}
use Rattle.snd_interleave.proofs.Joining.{output_made, refused_as}
use Rattle.snd_interleave.proofs.Lists.{named_at}
use Rattle.snd_interleave.proofs.ChannelNumbers.{most_numbers}
use Rattle.snd_interleave.proofs.interleaving.join_good.Goals as goal

pub returns-in_err-bad-clause-changed : goal.returns-in_err-bad-clause-changed
returns-in_err-bad-clause-changed g c = unchanged_as _ c.in_err-bad.field-0.0 c.from_residual.result (search rules) c.in_err-bad.ensures.unchanged

pub returns-in_err-bad-clause-asked : goal.returns-in_err-bad-clause-asked
returns-in_err-bad-clause-asked g c = checked_only g.D.Disk.state c.args.inputs.now c.first_bad.new.inputs c.first_bad.ensures.asked

pub returns-in-Some-clause-done : goal.returns-in-Some-clause-done
returns-in-Some-clause-done g c = λ files es told hold.
    let names = c.args.interleaving.now.inputs in
    let output = c.args.interleaving.now.output in
    let at = c.in-Some.at in
    let p = c.args.params in
    let found : Some at ≡ first_bad es = search (rules, c.in_ok-bad.ensures.found es hold) in
    let within : at < length names = omega (arith, bad_within es at found, hold.count, c.requires.named) in
    let is : c.unwrap_or-name.result.now ≡ get_or names at [] =
    ap (λ x. x.now) c.unwrap_or-name.ensures ∙ named_at (λ x. x.now) c.get.result output names at c.get.ensures (omega (arith, within)) ∙ get_or_append_left names (output.now ∷ []) [] at within in
    refused_as g.S.Shelf.state c.args.shelf.now files c.unwrap_or-name.result.now BadBlock (made_if_good names output.now c.args.kind p (channels_in p.codec es) (first_bad es)) told
    (ap (made_if_good names output.now c.args.kind p (channels_in p.codec es)) (sym found) ∙ ap (λ (n : List ℕ). Done.refuses n BadBlock) (sym is))

pub returns-in-Some-clause-asked : goal.returns-in-Some-clause-asked
returns-in-Some-clause-asked g c = checked_only g.D.Disk.state c.args.inputs.now c.first_bad.new.inputs c.first_bad.ensures.asked

pub make_under-requires-clause-mono : goal.make_under-requires-clause-mono
make_under-requires-clause-mono g c = still_mono g.D.Disk c.args.inputs.now c.first_bad.new.inputs c.first_bad.ensures.reads c.requires.mono

pub make_under-requires-clause-all : goal.make_under-requires-clause-all
make_under-requires-clause-all g c = c.requires.all ∙ sym (ap most_frames (same_layouts g.D.Disk c.args.inputs.now c.first_bad.new.inputs c.first_bad.ensures.reads))

pub returns-in-Ok-clause-done : goal.returns-in-Ok-clause-done
returns-in-Ok-clause-done g c = λ files es told hold.
    let names = c.args.interleaving.now.inputs in
    let output = c.args.interleaving.now.output.now in
    let p = c.args.params in
    let found : None ≡ first_bad es = search (rules, c.in_ok-bad.ensures.found es hold) in
    let same : c.args.frames ≡ longest (channels_in p.codec es) = c.requires.all ∙ most_numbers g.D.Disk.state c.args.inputs.now es p.codec hold in
    output_made g.S.Shelf.state c.make_under.new.shelf files names output c.args.kind p es c.args.frames same found
    (c.in-Ok.ensures.made files es told (hold_still g.D.Disk c.args.inputs.now c.first_bad.new.inputs es c.first_bad.ensures.reads hold))

pub returns-in-Ok-clause-faults : goal.returns-in-Ok-clause-faults
returns-in-Ok-clause-faults g c =
    adding_then g.D.Disk.state c.args.inputs.now c.first_bad.new.inputs c.make_under.new.inputs c.first_bad.ensures.reads.count {T = Unit {0}} (Ok (tt {0})) _ _ _ c.in_ok-bad.ensures.faults refl c.in-Ok.ensures.faults

pub returns-in-Err-clause-faults : goal.returns-in-Err-clause-faults
returns-in-Err-clause-faults g c =
    adding_then g.D.Disk.state c.args.inputs.now c.first_bad.new.inputs c.make_under.new.inputs c.first_bad.ensures.reads.count {T = Unit {0}} (Err c.in-Err.stop) _ _ _ c.in_ok-bad.ensures.faults refl c.in-Err.ensures.faults

pub returns-in-Err-clause-changed : goal.returns-in-Err-clause-changed
returns-in-Err-clause-changed g c =
    changed_err _ _ c.in-Err.stop
    (λ never es hold.
    let found : None ≡ first_bad es = search (rules, c.in_ok-bad.ensures.found es hold) in
    never es (hold_still g.D.Disk c.args.inputs.now c.first_bad.new.inputs es c.first_bad.ensures.reads hold) (sym found))
    c.in-Err.ensures.changed

pub returns-in-Ok-clause-reads : goal.returns-in-Ok-clause-reads
returns-in-Ok-clause-reads g c =
    let xs = c.args.inputs.now in
    let ys = c.first_bad.new.inputs in
    let zs = c.make_under.new.inputs in
    read_then g.D.Disk xs ys zs c.first_bad.ensures.reads c.make_under.ensures.reads

pub returns-in-Err-clause-reads : goal.returns-in-Err-clause-reads
returns-in-Err-clause-reads g c =
    let xs = c.args.inputs.now in
    let ys = c.first_bad.new.inputs in
    let zs = c.make_under.new.inputs in
    read_then g.D.Disk xs ys zs c.first_bad.ensures.reads c.make_under.ensures.reads

pub returns-in-Ok-clause-asked : goal.returns-in-Ok-clause-asked
returns-in-Ok-clause-asked g c =
    let xs = c.args.inputs.now in
    let ys = c.first_bad.new.inputs in
    let zs = c.make_under.new.inputs in
    checked_then g.D.Disk.state xs ys zs c.first_bad.ensures.reads c.first_bad.ensures.asked c.make_under.ensures.asked

pub returns-in-Err-clause-asked : goal.returns-in-Err-clause-asked
returns-in-Err-clause-asked g c =
    let xs = c.args.inputs.now in
    let ys = c.first_bad.new.inputs in
    let zs = c.make_under.new.inputs in
    checked_then g.D.Disk.state xs ys zs c.first_bad.ensures.reads c.first_bad.ensures.asked c.make_under.ensures.asked
