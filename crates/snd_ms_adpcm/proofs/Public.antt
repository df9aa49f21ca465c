-- What other crates may take from the proofs of this one.
pub use Rattle.snd_ms_adpcm.proofs.BlockCounts.{count_ms_block}
pub use Rattle.snd_ms_adpcm.proofs.CodedBytes.{ms_data_bytes}
