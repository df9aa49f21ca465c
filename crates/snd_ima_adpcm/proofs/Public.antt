-- What other crates may take from the proofs of this one.
pub use Rattle.snd_ima_adpcm.proofs.BlockCounts.{count_ima_block, length-alternating, length-high_half_first}
pub use Rattle.snd_ima_adpcm.proofs.BlockLaws.{calls_give_list, filled-whole}
pub use Rattle.snd_ima_adpcm.proofs.CodedBytes.{ima_data_bytes}
pub use Rattle.snd_ima_adpcm.proofs.Coding.{IsCode, MakesBytes, high_first_bytes, list_bytes, number_bytes, word_bytes, zero_has_16}
pub use Rattle.snd_ima_adpcm.proofs.ImaCodes.{length-ima_code_bytes}
pub use Rattle.snd_ima_adpcm.proofs.ImaWritten.{length-bytes_low, length-ima_codes}
pub use Rattle.snd_ima_adpcm.proofs.Numbers.{abs_within, clamp_least, clamp_most}
pub use Rattle.snd_ima_adpcm.proofs.Pairs.{All-firsts, All-seconds, drop_two, length-firsts, length-seconds, take-firsts-more, take-seconds-more}
pub use Rattle.snd_ima_adpcm.proofs.Pushes.{all_put, alternating-same, alternating_all, two_begin, two_put, written_over}
pub use Rattle.snd_ima_adpcm.proofs.Steps.{table_entry}
