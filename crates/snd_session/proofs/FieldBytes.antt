-- How many bytes are written for numbers, with the fields of the head.
use Rattle.std.proofs.Common.{◌≡◌, ◌+◌, ◌*◌, ◌/◌, ◌≤◌, ℕ, Bool, true, false, arith}
use Rattle.std.specs.Prelude.{is_none}
use Rattle.snd_disk.specs.State.{AtMost}
use Rattle.snd_container.specs.Sound.{fixed_of}
use Rattle.snd_layout.specs.Blocks.{block_align}
use Rattle.snd_layout.specs.declared.codec.Codec.{Codec}
use Rattle.snd_edits.specs.Writing.{most_fields}
use Rattle.snd_rules.proofs.Public.{linear_numbers, whole_numbers}

few_fields : (automatic : Bool) → most_fields automatic ≤ 64
few_fields true = omega arith
few_fields false = omega arith

pub written_for_numbers : (old new n channels : ℕ) (codec : Codec) (automatic : Bool) → is_none (fixed_of codec) ≡ false
    → AtMost old (n / channels * block_align channels codec + 8 + most_fields automatic) new → AtMost old (4 * n + 72) new
written_for_numbers old new n channels codec automatic linear written =
    let numbers : n / channels * block_align channels codec ≤ 4 * n = whole_numbers n channels _ (linear_numbers channels codec linear) in
    record { later = written.later; most = omega (arith, written.most, numbers, few_fields automatic) }
