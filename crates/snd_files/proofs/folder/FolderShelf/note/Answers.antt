use Rattle.std.proofs.Common.{ap, ◌∙◌, List}
use Rattle.snd_files.specs.Folder.{is_out}
use Rattle.snd_files.specs.declared.folder.Taken.{Taken}
use Rattle.snd_files.proofs.TakenOut.{is_out-push}
use Rattle.snd_files.proofs.folder.FolderShelf.note.Goals as goal

pub returns-clause-ok : goal.returns-clause-ok
returns-clause-ok c = λ n. ap (λ (l : List Taken). is_out l n) c.in-Ok.ensures.items ∙ is_out-push c.args.self.now.taken.items (record { name = c.args.name; file = c.args.file }) n
