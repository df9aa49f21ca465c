use Rattle.std.proofs.Common.{refl, ap, ◌∙◌, List}
use Rattle.snd_memory.specs.MemoryShelf.{entry_at}
use Rattle.snd_memory.specs.declared.memory_shelf.Entry.{Entry}
use Rattle.std.specs.String.{string_bytes}
use Rattle.snd_memory.proofs.Places.{added}
use Rattle.snd_memory.proofs.memory_shelf.add.Goals as goal

pub returns-clause-ok : goal.returns-clause-ok
returns-clause-ok c = λ m.
    ap (λ (es : List Entry). entry_at es m) (c.in_ok-push.ensures.items)
    ∙ added c.args.entries.now.items (record { name = c.args.name; disk = c.args.disk }) (string_bytes c.args.name) refl c.requires m
