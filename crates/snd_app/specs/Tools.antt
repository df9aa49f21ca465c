-- What the tools print, and which files they leave.
use Rattle.std.specs.Prelude.{◌≡◌, ℕ, List, [], ◌∷◌, ◌++◌, Some, Result, Ok, Err, IfOk, codes, decimal, length}
use Rattle.snd_concat.specs.Concat.{concatenated}
use Rattle.snd_convert.specs.Convert.{converted}
use Rattle.snd_deinterleave.specs.Deinterleave.{deinterleaved}
use Rattle.snd_deinterleave.specs.Outputs.{files_after as all_after}
use Rattle.snd_export.specs.Export.{exported}
use Rattle.snd_import.specs.Import.{imported}
use Rattle.snd_import.specs.Making.{AsksOnce}
use Rattle.snd_disk.specs.Shelf.{Files, ShelfState, put}
use Rattle.snd_disk.specs.Shelves.{TellsFiles}
use Rattle.snd_generate.specs.Edited.{file_of, generated, summary_of}
use Rattle.snd_generate.specs.declared.generating.Summary.{Summary}
use Rattle.snd_inputs.specs.Asking.{AsksForEach, AsksForFiles}
use Rattle.snd_interleave.specs.Interleave.{interleaved}
use Rattle.snd_lines.specs.Lines.{line}
use Rattle.snd_metadata.specs.Retagged.{retagged}
use Rattle.snd_output.specs.declared.stop.Stop.{Stop}
use Rattle.snd_output.specs.declared.stop.Stop.TheVariants.{Memory}
use Rattle.snd_rack.specs.declared.setting.StageKind.{StageKind}
use Rattle.snd_salvage.specs.Making.{AsksToSalvage}
use Rattle.snd_salvage.specs.Salvage.{salvaged}
use Rattle.snd_tools.specs.Done.{files_after, said_by}
use Rattle.snd_tools.specs.Shelves.{HasFiles}
use Rattle.snd_tools.specs.declared.answer.Answer.{Answer}
use Rattle.snd_words.specs.Asked.{Work}
use Rattle.snd_app.specs.Printed.{Outcome, outcome_of_all, outcome_of_tool, outcome_said, says}
use Rattle.snd_app.specs.declared.tools.Reply.{Reply}
use Rattle.snd_app.specs.declared.tools.Reply.TheVariants as reply

-- what is said of a file of frames that a seed gives
abbrev pub summary_text : Summary → List ℕ
summary_text summary =
    line (codes "frames") (decimal summary.frames) ++ line (codes "peak") (decimal summary.peak) ++ line (codes "energy") (decimal summary.energy)

-- what a tool's work prints, with stages of these kinds
abbrev pub outcome_of_work : Work → List StageKind → Files → Outcome
outcome_of_work (Work.convert c) stages files = outcome_of_tool (converted stages c files)
outcome_of_work (Work.concat inputs output) stages files = outcome_of_tool (concatenated inputs output files)
outcome_of_work (Work.interleave inputs output) stages files = outcome_of_tool (interleaved inputs output files)
outcome_of_work (Work.gen seed frames name) stages files = says (summary_text (summary_of (generated seed frames)))
outcome_of_work (Work.set_metadata settings input output) stages files = outcome_of_tool (retagged settings input output files)
outcome_of_work (Work.import_as form input output) stages files = outcome_of_tool (imported form input output files)
outcome_of_work (Work.export_as form input output) stages files = outcome_of_tool (exported form input output files)
outcome_of_work (Work.salvage input output) stages files = outcome_of_tool (salvaged input output files)
outcome_of_work (Work.deinterleave input outputs) stages files = outcome_of_all (deinterleaved input outputs files)

-- the files then
abbrev pub after_work : Work → List StageKind → Files → Files
after_work (Work.convert c) stages files = files_after (converted stages c files) files
after_work (Work.concat inputs output) stages files = files_after (concatenated inputs output files) files
after_work (Work.interleave inputs output) stages files = files_after (interleaved inputs output files) files
after_work (Work.gen seed frames name) stages files = put files name (Some (file_of (generated seed frames)))
after_work (Work.set_metadata settings input output) stages files = files_after (retagged settings input output files) files
after_work (Work.import_as form input output) stages files = files_after (imported form input output files) files
after_work (Work.export_as form input output) stages files = files_after (exported form input output files) files
after_work (Work.salvage input output) stages files = files_after (salvaged input output files) files
after_work (Work.deinterleave input outputs) stages files = all_after (deinterleaved input outputs files) files

-- the names of the files that it makes
abbrev pub made_by : Work → List (List ℕ)
made_by (Work.convert c) = c.output ∷ []
made_by (Work.concat inputs output) = output ∷ []
made_by (Work.interleave inputs output) = output ∷ []
made_by (Work.gen seed frames name) = name ∷ []
made_by (Work.set_metadata settings input output) = output ∷ []
made_by (Work.import_as form input output) = output ∷ []
made_by (Work.export_as form input output) = output ∷ []
made_by (Work.salvage input output) = output ∷ []
made_by (Work.deinterleave input outputs) = outputs

-- how many bytes it may ask of its inputs; of `gen`, which has none and reads the file that it made,
-- nothing is said
abbrev pub AsksForWork : {S : Type 0} → (S → ShelfState) → Work → S → S → Type 0
AsksForWork state (Work.convert c) old new = AsksForFiles state (c.input ∷ []) old new
AsksForWork state (Work.concat inputs output) old new = AsksForFiles state inputs old new
AsksForWork state (Work.interleave inputs output) old new = AsksForEach 1 16384 state inputs old new
AsksForWork state (Work.gen seed frames name) old new = Unit {0}
AsksForWork state (Work.set_metadata settings input output) old new = AsksForEach 2 164864 state (input ∷ []) old new
AsksForWork state (Work.import_as form input output) old new = AsksOnce state input old new
AsksForWork state (Work.export_as form input output) old new = AsksForEach 1 16384 state (input ∷ []) old new
AsksForWork state (Work.salvage input output) old new = AsksToSalvage state input old new
AsksForWork state (Work.deinterleave input outputs) old new = AsksForEach (length outputs) 16384 state (input ∷ []) old new

-- ---- as the code says it

abbrev pub outcome_by : Reply → Outcome
outcome_by (reply.Done text) = says text.items
outcome_by (reply.Refused text) = record { out = []; err = text.items; status = 1 }

-- what a tool answers is printed, unless there is no memory
abbrev pub RepliesTo : Result Answer Stop → Result Reply Stop → Type 0
RepliesTo (Ok answer) (Ok printed) = outcome_by printed ≡ outcome_said (said_by answer)
RepliesTo (Ok answer) (Err stop) = stop ≡ Memory
RepliesTo (Err stop) result = result ≡ Err stop

-- .. and a summary
abbrev pub RepliesOf : Result Summary Stop → Result Reply Stop → Type 0
RepliesOf (Ok summary) (Ok printed) = outcome_by printed ≡ says (summary_text summary)
RepliesOf (Ok summary) (Err stop) = stop ≡ Memory
RepliesOf (Err stop) result = result ≡ Err stop

-- Over files that are told, what is printed is the outcome of the work, and the files are those that it leaves.
abbrev pub CarriesOut : {S : Type 0} → (S → ShelfState) → Work → List StageKind → S → S → Result Reply Stop → Type 0
CarriesOut state work stages old new result =
    IfOk result (λ printed. (files : Files) → TellsFiles state old files → (outcome_by printed ≡ outcome_of_work work stages files) × HasFiles state new (after_work work stages files))
