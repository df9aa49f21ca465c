use Rattle.std.proofs.Common.{◌≡◌, false, rules}
use Rattle.std.specs.Prelude.{is_none}
use Rattle.snd_container.specs.Sound.{fixed_of}
use Rattle.snd_inputs.proofs.Checked.{check_fails, good_unless}
use Rattle.snd_file.specs.Handle.{known_of}
use Rattle.snd_inputs.proofs.checking.has_bad_block.Goals as goal

pub returns-then-is_some-clause-found : goal.returns-then-is_some-clause-found
returns-then-is_some-clause-found g c = λ e stands.
    let linear : is_none (fixed_of (known_of c.args.file.now).shape.params.codec) ≡ false = search rules in
    good_unless e (known_of c.args.file.now).shape stands.shape stands.sound linear (search rules)

pub unreachable-requires : goal.unreachable-requires
unreachable-requires g c = check_fails _ _ _ _ c.requires c.check_blocks.ensures.left c.in-Err.is (λ bad. search rules) (λ step fault. search rules)
