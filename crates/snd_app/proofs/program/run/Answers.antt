use Rattle.std.proofs.Common.{◌≡◌, ◌∙◌, ℕ, List, [], None, Some, ap, refl, rules, subst}
use Rattle.snd_deinterleave.specs.Among.{ChangesAmong}
use Rattle.snd_words.specs.Asked.{Asked, Work}
use Rattle.snd_words.specs.Grammar.{asked}
use Rattle.snd_words.specs.Request.{work_of}
use Rattle.snd_app.specs.Outcome.{files_of, outcome_of, outputs_by, pinned_by}
use Rattle.snd_app.specs.Run.{DoneAtStream, StopsAs}
use Rattle.snd_app.specs.Tools.{AsksForWork, made_by}
use Rattle.snd_app.proofs.Left.{changed_leaves, kept_leaves}
use Rattle.snd_app.proofs.Outcomes.{done_by, is_put_err, is_put_out, run_as, stops_by, trails_by, with_files}
use Rattle.snd_script.proofs.Public.{some_of}
use Rattle.snd_script.specs.PinnedRun.{named}
use Rattle.snd_script.specs.Served.{BoundsScript}
use Rattle.snd_script.specs.Trail.{TrailsScript}
use Rattle.snd_app.proofs.program.run.Goals as goal

pub returns-in-Some-Info-clause-headline : goal.returns-in-Some-Info-clause-headline
returns-in-Some-Info-clause-headline g c = λ files text told left.
    let is : Asked.info_of c.in-Some-Info.names ≡ asked c.args.words.now = search rules in
    run_as g.S.Shelf.state _ c.run_infos.result _ _ _ _ files text _ _ _ _ is (c.run_infos.ensures.outcome files (g.R.Source.faults c.args.script.now) told)

pub returns-in-Some-Info-clause-fault : goal.returns-in-Some-Info-clause-fault
returns-in-Some-Info-clause-fault g c = λ is. c.run_infos.ensures.fault is (g.R.Source.faults c.args.script.now)

pub returns-in-Some-Info-clause-leaves : goal.returns-in-Some-Info-clause-leaves
returns-in-Some-Info-clause-leaves g c =
    kept_leaves g.S.Shelf.state g.S.Shelf.may_leave g.S.Shelf.left_between _ _ c.requires c.run_infos.ensures.back c.run_infos.ensures.files c.run_infos.ensures.images

pub returns-in-Some-Info-clause-unnamed : goal.returns-in-Some-Info-clause-unnamed
returns-in-Some-Info-clause-unnamed g c = λ no_tool f s n told left there none.
    let is = some_of (f n) there in
    c.run_infos.ensures.images f n is.0 told is.1

pub returns-in-Some-Script-clause-stops : goal.returns-in-Some-Script-clause-stops
returns-in-Some-Script-clause-stops g c = λ script.
    let is : Asked.script (named c.in-Some-Script.pinned) ≡ asked c.args.words.now = search rules in
    stops_by g.S.Shelf g.R.Source g.O.Sink c.args.shelf.now c.run_script.new.shelf c.args.script.now c.run_script.new.script c.args.out.now c.run_script.new.out g.E.Sink c.args.err.now c.run_script.new.err c.run_script.result
    _ (Asked.script (named c.in-Some-Script.pinned)) (asked c.args.words.now) is c.run_script.ensures.stops

pub returns-in-Some-Script-clause-bounds : goal.returns-in-Some-Script-clause-bounds
returns-in-Some-Script-clause-bounds g c = λ script.
    let is : Asked.script (named c.in-Some-Script.pinned) ≡ asked c.args.words.now = search rules in
    subst (λ (a : Asked). BoundsScript g.S.Shelf.state g.R.Source.left (pinned_by a) c.args.shelf.now c.args.script.now c.run_script.new.shelf) is c.run_script.ensures.bounds

pub returns-in-Some-Script-clause-crash : goal.returns-in-Some-Script-clause-crash
returns-in-Some-Script-clause-crash g c =
    let is : Asked.script (named c.in-Some-Script.pinned) ≡ asked c.args.words.now = search rules in
    trails_by g.S.Shelf g.R.Source g.O.Sink c.args.shelf.now c.run_script.new.shelf c.args.script.now c.run_script.new.script c.args.out.now c.run_script.new.out
    _ (Asked.script (named c.in-Some-Script.pinned)) (asked c.args.words.now) is c.run_script.ensures.crash

pub returns-in-Some-Script-clause-headline : goal.returns-in-Some-Script-clause-headline
returns-in-Some-Script-clause-headline g c = λ files text told left.
    let is : Asked.script (named c.in-Some-Script.pinned) ≡ asked c.args.words.now = search rules in
    run_as g.S.Shelf.state c.run_script.new.shelf c.run_script.result _ _ _ _ files text _ _ _ _ is (c.run_script.ensures.outcome files text told left)

pub returns-in-Some-Help-clause-headline : goal.returns-in-Some-Help-clause-headline
returns-in-Some-Help-clause-headline g c = λ files text told left.
    let is : Asked.help ≡ asked c.args.words.now = search rules in
    run_as g.S.Shelf.state c.args.shelf.now c.put_text.result _ _ _ _ files text _ _ _ _ is
    (with_files c.put_text.result _ _ _ _ (outcome_of Asked.help [] [] files text) _ (files, told, λ n. refl)
    (is_put_out c.put_text.result _ _ _ _ (outcome_of Asked.help [] [] files text) c.as_bytes.result.now (ap (λ t. record { out = t; err = []; status = 0 }) (c.as_bytes.ensures.value ∙ c.usage.ensures)) refl refl refl refl c.put_text.ensures))

pub returns-in-Some-HelpOn-clause-headline : goal.returns-in-Some-HelpOn-clause-headline
returns-in-Some-HelpOn-clause-headline g c = λ files text told left.
    let is : Asked.help_on c.in-Some-HelpOn.topic ≡ asked c.args.words.now = search rules in
    run_as g.S.Shelf.state c.args.shelf.now c.put_text-in-Some-HelpOn.result _ _ _ _ files text _ _ _ _ is
    (with_files c.put_text-in-Some-HelpOn.result _ _ _ _ (outcome_of (Asked.help_on c.in-Some-HelpOn.topic) [] [] files text) _ (files, told, λ n. refl)
    (is_put_out c.put_text-in-Some-HelpOn.result _ _ _ _ (outcome_of (Asked.help_on c.in-Some-HelpOn.topic) [] [] files text) c.as_bytes-in-Some-HelpOn.result.now (ap (λ t. record { out = t; err = []; status = 0 }) (c.as_bytes-in-Some-HelpOn.ensures.value ∙ c.usage_of.ensures)) refl refl refl refl c.put_text-in-Some-HelpOn.ensures))

pub returns-in-Some-Version-clause-headline : goal.returns-in-Some-Version-clause-headline
returns-in-Some-Version-clause-headline g c = λ files text told left.
    let is : Asked.version ≡ asked c.args.words.now = search rules in
    run_as g.S.Shelf.state c.args.shelf.now c.put_text-in-Some-Version.result _ _ _ _ files text _ _ _ _ is
    (with_files c.put_text-in-Some-Version.result _ _ _ _ (outcome_of Asked.version [] [] files text) _ (files, told, λ n. refl)
    (is_put_out c.put_text-in-Some-Version.result _ _ _ _ (outcome_of Asked.version [] [] files text) c.as_bytes-in-Some-Version.result.now (ap (λ t. record { out = t; err = []; status = 0 }) (c.as_bytes-in-Some-Version.ensures.value ∙ c.version.ensures)) refl refl refl refl c.put_text-in-Some-Version.ensures))

pub returns-in-Some-Tool-clause-headline : goal.returns-in-Some-Tool-clause-headline
returns-in-Some-Tool-clause-headline g c = λ files text told left.
    let is : Asked.tool (work_of c.in-Some-Tool.tool) ≡ asked c.args.words.now = search rules in
    run_as g.S.Shelf.state _ c.run_tool.result _ _ _ _ files text _ _ _ _ is (c.run_tool.ensures.outcome files (g.R.Source.faults c.args.script.now) told)

pub returns-in-Some-Tool-clause-fault : goal.returns-in-Some-Tool-clause-fault
returns-in-Some-Tool-clause-fault g c = λ is. c.run_tool.ensures.fault is (g.R.Source.faults c.args.script.now)

pub returns-in-Some-Tool-clause-leaves : goal.returns-in-Some-Tool-clause-leaves
returns-in-Some-Tool-clause-leaves g c = changed_leaves g.S.Shelf _ _ _ c.run_tool.ensures.changes

pub returns-in-Some-Tool-clause-others : goal.returns-in-Some-Tool-clause-others
returns-in-Some-Tool-clause-others g c = λ names named.
    let is : Asked.tool (work_of c.in-Some-Tool.tool) ≡ asked c.args.words.now = search rules in
    let some : Some (made_by (work_of c.in-Some-Tool.tool)) ≡ Some names = ap outputs_by is ∙ named in
    let same : made_by (work_of c.in-Some-Tool.tool) ≡ names = cc in
    subst (λ (n : List (List ℕ)). ChangesAmong g.S.Shelf n c.args.shelf.now c.run_tool.new.shelf) same c.run_tool.ensures.changes

pub returns-in-Some-Tool-clause-done : goal.returns-in-Some-Tool-clause-done
returns-in-Some-Tool-clause-done g c = λ names named.
    let is : Asked.tool (work_of c.in-Some-Tool.tool) ≡ asked c.args.words.now = search rules in
    done_by g.S.Shelf.state c.args.shelf.now c.run_tool.new.shelf c.run_tool.result _ _ (Asked.tool (work_of c.in-Some-Tool.tool)) (asked c.args.words.now) is c.run_tool.ensures.done

pub returns-in-Some-Tool-clause-asks : goal.returns-in-Some-Tool-clause-asks
returns-in-Some-Tool-clause-asks g c = λ work named.
    let is : Asked.tool (work_of c.in-Some-Tool.tool) ≡ asked c.args.words.now = search rules in
    let both : Asked.tool (work_of c.in-Some-Tool.tool) ≡ Asked.tool work = is ∙ named in
    let same : work_of c.in-Some-Tool.tool ≡ work = cc in
    subst (λ (w : Work). AsksForWork g.S.Shelf.state w c.args.shelf.now c.run_tool.new.shelf) same c.run_tool.ensures.asked

pub returns-in-Some-Tool-clause-unnamed : goal.returns-in-Some-Tool-clause-unnamed
returns-in-Some-Tool-clause-unnamed g c = λ none.
    let is : Asked.tool (work_of c.in-Some-Tool.tool) ≡ asked c.args.words.now = search rules in
    let some : Some (made_by (work_of c.in-Some-Tool.tool)) ≡ None = ap outputs_by is ∙ none in
    absurd (cc)

pub returns-in-None-clause-headline : goal.returns-in-None-clause-headline
returns-in-None-clause-headline g c = λ files text told left.
    let is : Asked.nothing ≡ asked c.args.words.now = search rules in
    run_as g.S.Shelf.state c.args.shelf.now c.put_text-in-None.result _ _ _ _ files text _ _ _ _ is
    (with_files c.put_text-in-None.result _ _ _ _ (outcome_of Asked.nothing [] [] files text) _ (files, told, λ n. refl)
    (is_put_err c.put_text-in-None.result _ _ _ _ (outcome_of Asked.nothing [] [] files text) 2 _ refl refl refl refl refl c.put_text-in-None.ensures))
