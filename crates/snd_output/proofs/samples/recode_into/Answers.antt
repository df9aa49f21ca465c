use Rattle.std.proofs.Common.{rules, ◌≡◌, ◌*◌, Some, length, drop}
use Rattle.snd_container.specs.Sound.{fixed_of}
use Rattle.snd_output.proofs.Passing.{recoded_bytes}
use Rattle.snd_output.proofs.samples.recode_into.Goals as goal

pub returns-clause-coded : goal.returns-clause-coded
returns-clause-coded c =
    let old = c.in-Some-Some.old in
    let new = c.in-Some-Some.new in
    let n = c.bytes.result * length c.args.numbers.now in
    let from_is : fixed_of c.args.from ≡ Some old = search rules in
    let to_is : fixed_of c.args.to ≡ Some new = search rules in
    let size : n ≡ length c.recode.new.into = search rules in
    recoded_bytes c.args.from c.args.to old new c.args.bytes.now c.recode.new.into (drop n c.args.coded.now) n from_is to_is c.recode.ensures size
