use Rattle.std.proofs.Common.{ap, ◌∙◌, rules}
use Rattle.snd_files.specs.Folder.{is_out}
use Rattle.snd_files.specs.declared.folder.Taken.{Taken}
use Rattle.std.proofs.Common.{List}
use Rattle.snd_files.proofs.TakenOut.{is_out-filter}
use Rattle.snd_files.proofs.folder.FolderShelfShelf.give.Goals as goal

pub returns-clause-given : goal.returns-clause-given
returns-clause-given c = record {
  out = λ n. ap (λ (l : List Taken). is_out l n) c.without.ensures ∙ is_out-filter c.args.name.now c.args.self.now.taken.items n;
  files = λ b told. absurd (cc told);
  faults = search rules;
  written = search rules;
  asked = search rules;
}
