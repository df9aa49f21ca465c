use Rattle.std.proofs.Common.{◌++◌, ap, sym, inr, arith, ◌∙◌}
use Rattle.std.specs.Option.{option_copied}
use Rattle.snd_meta.specs.declared.info.InfoKey.TheVariants.{Title}
use Rattle.snd_meta.specs.Info.{table}
use Rattle.snd_lines.specs.Lines.{line, shown}
use Rattle.snd_lines.proofs.Listing.{known, print_more, print_same, print_end}
use Rattle.snd_lines.proofs.texts.push_texts.Goals as goal
use Rattle.snd_lines.proofs.texts.push_texts.Goals.{in-Some+in_ok-extend_from_slice+in_ok-push_shown, in_default}

pub loop-key-preserved : goal.loop-key-preserved
loop-key-preserved c = record {
  same = elim c.match-text.branch [
    | in-Some+in_ok-extend_from_slice+in_ok-push_shown w ↦
        print_more c.args.words.now table c.loop-key.key-index Title c.args.list.now w.in-Some.value.now c.loop-key.text.items w.extend_from_slice.new.self.items
        c.match-text.text.items (omega arith) w.in-Some.ensures.value w.in_ok-extend_from_slice.ensures.items
        (ap (λ v. v.items) w.text-is ∙ w.in_ok-push_shown.ensures
        ∙ ap (λ key. w.extend_from_slice.new.self.items ++ line key (shown w.in-Some.value.now)) w.info_word.ensures)
        ∙ c.loop-key.invariant.same
    | in_default w ↦
        print_same c.args.words.now table c.loop-key.key-index Title c.args.list.now c.loop-key.text.items c.match-text.text.items (omega arith)
        (ap option_copied (sym w.in_default.is) ∙ c.text.ensures.value) (ap (λ v. v.items) w.text-is)
        ∙ c.loop-key.invariant.same
  ];
  info = inr c.text.ensures.info;
}

pub returns : goal.returns
returns c =
    print_end c.args.words.now table c.loop-key.key-index c.args.list.now c.args.text.now.items c.loop-key.text.items (omega arith)
    (known c.loop-key.key-index c.args.list.now (omega arith) c.loop-key.invariant.info) c.loop-key.invariant.same
