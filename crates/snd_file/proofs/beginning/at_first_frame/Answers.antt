use Rattle.std.proofs.Common.{refl, arith, ◌≤◌, length}
use Rattle.snd_layout.specs.Shape.{end}
use Rattle.snd_edits.proofs.Public.{blocks_of, count_any, given_none}
use Rattle.snd_file.proofs.beginning.at_first_frame.Goals as goal

pub returns-clause-stands : goal.returns-clause-stands
returns-clause-stands g c = λ b told.
    let layout = c.args.layout in
    let fits : end layout layout.frames ≤ length b = omega (arith, c.requires.held, g.met.D.Disk.size_told c.args.disk.now b told) in
    record {
      bytes = told;
      shape = refl;
      place = refl;
      write_place = refl;
      automatic = refl;
      written = refl;
      sound = refl;
      none_given = λ no. refl;
      given = λ encodes.
          let begins = c.requires.begins encodes in
          given_none c.args.writer b layout (blocks_of layout c.keeps_rules.ensures.rule begins.place.blocks c.keeps_rules.ensures.params) begins.empty begins.stands;
      count = count_any b layout layout.kind c.keeps_rules.ensures.rule.fits c.keeps_rules.ensures.params fits;
    }
