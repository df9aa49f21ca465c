use Rattle.std.proofs.Common.{◌≡◌, ◌∙◌, ◌+◌, ap, sym, subst, Option, Some, List, length, arith}
use Rattle.std.specs.Prelude.{option_map}
use Rattle.snd_disk.specs.Bytes.{over}
use Rattle.snd_export.proofs.Gains.{over_end}
use Rattle.snd_export.proofs.blocks.put_behind.Goals as goal

pub returns-in-Ok-clause-gains : goal.returns-in-Ok-clause-gains
returns-in-Ok-clause-gains g c =
    let done = c.in-Ok.ensures.done in
    record {
      size = omega (arith, done.size, c.requires.at_end);
      told = λ x told.
          let size : length x ≡ c.args.at = sym (g.met.E.Disk.size_told c.args.to.now x told) ∙ sym c.requires.at_end in
          done.contents ∙ ap (option_map (λ b. over b c.args.at c.args.bytes.now)) told ∙ ap Some (over_end x c.args.bytes.now c.args.at size);
    }
