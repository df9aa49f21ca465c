-- What other crates may take from the proofs of this one.
pub use Rattle.snd_rules.proofs.Limits.{more, most_within, uses_most, written_within}
pub use Rattle.snd_rules.proofs.Lines.{front_groups}
pub use Rattle.snd_rules.proofs.Makings.{few_channels, in_numbers, kind_is_made, made_makes, making_is}
pub use Rattle.snd_rules.proofs.OpenNames.{name_is_good, name_is_text}
pub use Rattle.snd_rules.proofs.ReadFrames.{bad_fed, bad_read, fed_none, good_fed, good_read}
pub use Rattle.snd_rules.proofs.Sets.{sets_nothing}
pub use Rattle.snd_rules.proofs.Wholes.{broken_after, params_after, whole_after}
pub use Rattle.snd_rules.proofs.WrittenBytes.{blocks_within, few_for_numbers, linear_numbers, whole_numbers}
