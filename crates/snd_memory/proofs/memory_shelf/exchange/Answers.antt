use Rattle.std.proofs.Common.{◌≡◌, rules, refl, sym, ap, ◌∙◌, Some, Option, cond}
use Rattle.std.specs.Str.{bytes_eq}
use Rattle.snd_memory.specs.MemoryShelf.{entry_at}
use Rattle.std.specs.String.{string_bytes}
use Rattle.snd_memory.specs.declared.memory.MemoryDisk.{MemoryDisk}
use Rattle.snd_memory.specs.declared.memory_shelf.Entry.{Entry}
use Rattle.snd_memory.proofs.Places.{at_some, at_none, read_name}
use Rattle.snd_memory.proofs.memory_shelf.exchange.Goals as goal

pub returns-in-Some : goal.returns-in-Some
returns-in-Some c =
    let stands = at_some c.args.entries.now.items c.args.name.now c.in-Some.i (search rules) in
    let entry : c.index_mut-entry.result.now ≡ stands.0 = read_name _ _ _ stands.0 c.index_mut-entry.result.now stands.1 c.index_mut-entry.ensures.value in
    let named : string_bytes c.index_mut-entry.result.now.name ≡ c.args.name.now = ap (λ (e : Entry). string_bytes e.name) entry ∙ stands.1.named in
    let new : Entry = record { name = c.index_mut-entry.result.now.name; disk = c.replace.new.dest } in (
      stands.1.disk ∙ ap (λ (d : Option MemoryDisk). Some d) (sym (ap (λ (e : Entry). e.disk) entry) ∙ sym c.replace.ensures.value),
      λ m. stands.1.changed new named m ∙ ap (λ (d : Option MemoryDisk). cond (bytes_eq m c.args.name.now) (Some d) (entry_at c.args.entries.now.items m)) c.replace.ensures.after,
    )

pub returns-in-None : goal.returns-in-None
returns-in-None c = ((at_none c.args.entries.now.items c.args.name.now (search rules)).0, refl, refl)
