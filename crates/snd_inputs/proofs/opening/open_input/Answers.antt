use Rattle.std.proofs.Common.{◌≡◌, ◌∙◌, subst, sym, false, IfOk, Result, arith}
use Rattle.snd_layout.specs.Shape.{Shape}
use Rattle.snd_lines.specs.declared.refusal.Refusal.{Refusal}
use Rattle.snd_inputs.specs.Looking.{IsReadable, LiesWithin}
use Rattle.snd_inputs.proofs.Lists.{seen_err}
use Rattle.snd_inputs.proofs.Reading.{handed_back, not_handed, now_out}
use Rattle.snd_inputs.proofs.Seen.{held_there, seen_there}
use Rattle.snd_inputs.proofs.opening.open_input.Goals as goal

pub returns-in-Err-Failed-clause-opened : goal.returns-in-Err-Failed-clause-opened
returns-in-Err-Failed-clause-opened g c = record {
  reads = not_handed g.S.Shelf c.args.name.now _ _ c.in-Err-Failed.ensures.stays c.in-Err-Failed.ensures.same_images c.take.ensures.others c.take.ensures.bytes;
  asked = record { later = omega (arith, c.take.ensures.bytes.asked); most = omega (arith, c.take.ensures.bytes.asked) };
}

pub returns-in-Err-Memory-clause-opened : goal.returns-in-Err-Memory-clause-opened
returns-in-Err-Memory-clause-opened g c = record {
  reads = not_handed g.S.Shelf c.args.name.now _ _ c.in-Err-Memory.ensures.stays c.in-Err-Memory.ensures.same_images c.take.ensures.others c.take.ensures.bytes;
  asked = record { later = omega (arith, c.take.ensures.bytes.asked); most = omega (arith, c.take.ensures.bytes.asked) };
}

pub returns-in-Ok-Ok-clause-opened : goal.returns-in-Ok-Ok-clause-opened
returns-in-Ok-Ok-clause-opened g c =
    let name = c.args.name.now in
    let taken = c.in-Ok.ensures.taken in
    let did = c.layout_on.ensures in
    let calm : (g.S.Disk.Disk.state c.layout_on.new.disk).faults ≡ (g.S.Disk.Disk.state c.in-Ok.disk).faults = c.in-Ok-Ok.ensures.faults in
    let readable : IsReadable c.in-Ok-Ok.layout = subst (λ (r : Result Shape Refusal). IfOk r IsReadable) c.in-Ok-Ok.field-0-is c.in-Ok-Ok.ensures.readable in
    let within : LiesWithin (g.S.Disk.Disk.state c.in-Ok.disk).size c.in-Ok-Ok.layout =
    subst (λ (r : Result Shape Refusal). IfOk r (LiesWithin (g.S.Disk.Disk.state c.in-Ok.disk).size)) c.in-Ok-Ok.field-0-is c.in-Ok-Ok.ensures.within in
    record {
      handed = c.in-Ok.disk;
      out = record {
        takes = taken;
        taken = now_out _ _ name false _ taken;
        images = c.in-Ok.ensures.images;
        others = c.take.ensures.others;
        bytes = c.take.ensures.bytes;
      };
      reads = did.reads;
      named = did.reads.keeps.name ∙ taken.named;
      calm = calm ∙ taken.fresh.0;
      asked = omega (arith, did.asked.most, taken.fresh.2);
      opened = λ files told.
          held_there (g.S.Shelf.state c.args.shelf.now) (g.S.Shelf.state c.take.new.self) files name (g.S.Disk.Disk.state c.in-Ok.disk) taken told g.S.Disk.Disk.state _ (g.met.S.Disk.Disk.size_told c.in-Ok.disk)
          (λ b tells. sym c.in-Ok-Ok.field-0-is ∙ c.in-Ok-Ok.ensures.seen b tells) readable within did.reads.keeps.contents;
    }

pub returns-in-Ok-Err-clause-opened : goal.returns-in-Ok-Err-clause-opened
returns-in-Ok-Err-clause-opened g c = (
  record {
    reads = handed_back g.S.Shelf g.S.Disk.Disk c.args.name.now c.args.shelf.now c.take.new.self c.give.new.self c.in-Ok.disk c.layout_on.new.disk c.in-Ok.ensures.taken c.give.ensures.given c.layout_on.ensures.reads
        c.in-Ok.ensures.images c.give.ensures.images c.take.ensures.others c.give.ensures.others c.take.ensures.bytes c.requires;
    asked = record {
      later = omega (arith, c.take.ensures.bytes.asked, c.give.ensures.given.asked.later);
      most = omega (arith, c.take.ensures.bytes.asked, c.give.ensures.given.asked.most, c.layout_on.ensures.asked.most, c.in-Ok.ensures.taken.fresh.2);
    };
  },
  λ files told.
      seen_err _ c.in-Ok-Err.why (sym c.in-Ok-Err.field-0-is ∙ seen_there _ _ files c.args.name.now _ c.in-Ok.ensures.taken told c.in-Ok-Err.field-0 c.in-Ok-Err.ensures.seen),
)

pub returns-in-Err-clause-opened : goal.returns-in-Err-clause-opened
returns-in-Err-clause-opened g c = record {
  reads = handed_back g.S.Shelf g.S.Disk.Disk c.args.name.now c.args.shelf.now c.take.new.self c.give-in-Err.new.self c.in-Ok.disk c.layout_on.new.disk c.in-Ok.ensures.taken c.give-in-Err.ensures.given c.layout_on.ensures.reads
      c.in-Ok.ensures.images c.give-in-Err.ensures.images c.take.ensures.others c.give-in-Err.ensures.others c.take.ensures.bytes c.requires;
  asked = record {
    later = omega (arith, c.take.ensures.bytes.asked, c.give-in-Err.ensures.given.asked.later);
    most = omega (arith, c.take.ensures.bytes.asked, c.give-in-Err.ensures.given.asked.most, c.layout_on.ensures.asked.most, c.in-Ok.ensures.taken.fresh.2);
  };
}
