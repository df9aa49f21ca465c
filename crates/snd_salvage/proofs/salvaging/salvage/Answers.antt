use Rattle.std.proofs.Common.{◌≡◌, ◌∙◌, ℕ, Bool, List, [], Option, None, Some, true, false, ap, cond, sym, refl, rules}
use Rattle.std.proofs.lemmas.Result.{IfOk-weaker}
use Rattle.std.specs.Prelude.{unwrap_or}
use Rattle.std.specs.Str.{bytes_eq}
use Rattle.snd_inputs.proofs.Public.{does_so, done_same, reads_changes, refused_as}
use Rattle.snd_inputs.proofs.Reading.{not_handed}
use Rattle.snd_lines.specs.declared.refusal.Refusal.TheVariants.{MissingFile}
use Rattle.snd_tools.proofs.Public.{apart_back, counts_back, held_changes, held_files}
use Rattle.snd_salvage.specs.Making.{size_there}
use Rattle.snd_search.specs.Sought.{counted, sought_in}
use Rattle.snd_salvage.specs.Salvage.{made_from, salvaged}
use Rattle.snd_salvage.proofs.Doing.{asked_back, counts_same, makes_from, salvaged_is}
use Rattle.snd_salvage.proofs.salvaging.salvage.Goals as goal

pub returns-in-Err-Missing-clause-done : goal.returns-in-Err-Missing-clause-done
returns-in-Err-Missing-clause-done g c = λ files told.
    let input = c.args.salvaging.now.input.now in
    let output = c.args.salvaging.now.output.now in
    let apart : bytes_eq input output ≡ false = search rules in
    let reads = not_handed g.S.Shelf input _ _ c.in-Err-Missing.ensures.stays c.in-Err-Missing.ensures.same_images c.take.ensures.others c.take.ensures.bytes in
    let missing : files input ≡ None = (c.in-Err-Missing.ensures.missing (search rules)).missing files told in
    refused_as g.S.Shelf.state c.take.new.self files input MissingFile (salvaged input output files) (reads.files files told) (salvaged_is input output files None apart missing)

pub returns-in-Err-Missing-clause-changes : goal.returns-in-Err-Missing-clause-changes
returns-in-Err-Missing-clause-changes g c =
    reads_changes g.S.Shelf c.args.salvaging.now.output.now _ _
    (not_handed g.S.Shelf c.args.salvaging.now.input.now _ _ c.in-Err-Missing.ensures.stays c.in-Err-Missing.ensures.same_images c.take.ensures.others c.take.ensures.bytes)

pub returns-in-Err-Failed-clause-changes : goal.returns-in-Err-Failed-clause-changes
returns-in-Err-Failed-clause-changes g c =
    reads_changes g.S.Shelf c.args.salvaging.now.output.now _ _
    (not_handed g.S.Shelf c.args.salvaging.now.input.now _ _ c.in-Err-Failed.ensures.stays c.in-Err-Failed.ensures.same_images c.take.ensures.others c.take.ensures.bytes)

pub returns-in-Err-Memory-clause-changes : goal.returns-in-Err-Memory-clause-changes
returns-in-Err-Memory-clause-changes g c =
    reads_changes g.S.Shelf c.args.salvaging.now.output.now _ _
    (not_handed g.S.Shelf c.args.salvaging.now.input.now _ _ c.in-Err-Memory.ensures.stays c.in-Err-Memory.ensures.same_images c.take.ensures.others c.take.ensures.bytes)

pub salvage_disk-answer-requires : goal.salvage_disk-answer-requires
salvage_disk-answer-requires g c =
    let input = c.args.salvaging.now.input.now in
    let output = c.args.salvaging.now.output.now in
    let apart : bytes_eq input output ≡ false = search rules in
    let held = ap (λ (t : Bool). cond t true ((g.S.Shelf.state c.args.shelf.now).out output)) (apart_back input output apart) in
    record { is_in = c.in-Ok.ensures.taken.out output ∙ held ∙ c.requires.back output }

pub returns-clause-done : goal.returns-clause-done
returns-clause-done g c =
    let input = c.args.salvaging.now.input.now in
    let output = c.args.salvaging.now.output.now in
    let apart : bytes_eq input output ≡ false = search rules in
    let taken = c.in-Ok.ensures.taken in
    does_so g.S.Shelf.state (salvaged input output) c.args.shelf.now c.give.new.self c.salvage_disk-answer.result
    (IfOk-weaker c.salvage_disk-answer.result _ _
    (λ answer done files told.
    let there = taken.there files told refl in
    let out = taken.files files told in
    let bytes = taken.contents files told ∙ ap (λ (o : Option (List ℕ)). Some (unwrap_or o [])) there.1 in
    let todo = made_from input output (sought_in (counted there.0)) in
    let d = done out.0 there.0 out.1 bytes in
    done_same g.S.Shelf.state c.give.new.self files answer todo (salvaged input output files) (salvaged_is input output files (Some there.0) apart there.1) (
      d.0,
      held_files g.S.Shelf g.S.Disk.Disk c.args.shelf.now c.take.new.self c.salvage_disk-answer.new.shelf c.give.new.self c.in-Ok.disk c.salvage_disk-answer.new.disk input output taken
          c.salvage_disk-answer.ensures.reads.keeps.contents c.give.ensures.given apart todo files told (makes_from input output (sought_in (counted there.0))) d.1,
    ))
    c.salvage_disk-answer.ensures.done)

pub returns-clause-changes : goal.returns-clause-changes
returns-clause-changes g c =
    let input = c.args.salvaging.now.input.now in
    let output = c.args.salvaging.now.output.now in
    let apart : bytes_eq input output ≡ false = search rules in
    held_changes g.S.Shelf g.S.Disk.Disk c.args.shelf.now c.take.new.self c.salvage_disk-answer.new.shelf c.give.new.self c.in-Ok.disk c.salvage_disk-answer.new.disk input output c.in-Ok.ensures.taken
    c.salvage_disk-answer.ensures.reads.keeps.contents c.give.ensures.given apart c.in-Ok.ensures.images c.give.ensures.images c.take.ensures.others c.give.ensures.others c.salvage_disk-answer.ensures.reads.images
    c.salvage_disk-answer.ensures.changes (c.requires.back input)

pub returns-clause-faults : goal.returns-clause-faults
returns-clause-faults g c =
    counts_back (g.S.Shelf.state c.args.shelf.now).faults (g.S.Shelf.state c.take.new.self).faults (g.S.Disk.Disk.state c.in-Ok.disk).faults (g.S.Disk.Disk.state c.salvage_disk-answer.new.disk).faults (g.S.Shelf.state c.give.new.self).faults
    c.in-Ok.ensures.faults c.in-Ok.ensures.taken.fresh.0 c.salvage_disk-answer.result (g.S.Shelf.state c.salvage_disk-answer.new.shelf).faults (counts_same c.salvage_disk-answer.result _ _ _ _ c.salvage_disk-answer.ensures.faults)
    c.give.ensures.given.faults

pub returns-clause-asked : goal.returns-clause-asked
returns-clause-asked g c = λ files told.
    let taken = c.in-Ok.ensures.taken in
    let there = taken.there files told refl in
    let bytes = taken.contents files told ∙ ap (λ (o : Option (List ℕ)). Some (unwrap_or o [])) there.1 in
    let size = g.met.S.Disk.Disk.size_told c.in-Ok.disk there.0 bytes in
    asked_back (g.S.Disk.Disk.state c.in-Ok.disk).size (size_there (files c.args.salvaging.now.input.now)) (g.S.Shelf.state c.args.shelf.now).asked (g.S.Shelf.state c.salvage_disk-answer.new.shelf).asked (g.S.Shelf.state c.give.new.self).asked
    (g.S.Disk.Disk.state c.in-Ok.disk).asked (g.S.Disk.Disk.state c.salvage_disk-answer.new.disk).asked
    (size ∙ sym (ap size_there there.1)) taken.fresh.2 (c.salvage_disk-answer.ensures.unasked ∙ c.take.ensures.bytes.asked) c.salvage_disk-answer.ensures.asked c.give.ensures.given.asked
