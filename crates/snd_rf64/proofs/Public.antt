-- The laws of this crate that others may cite.
pub use Rattle.snd_rf64.proofs.Contained.{keeps_laws}
pub use Rattle.snd_rf64.proofs.KeptHeads.{keeps_head_laws}
pub use Rattle.snd_rf64.proofs.LateFiles.{late_reads_back}
pub use Rattle.snd_rf64.proofs.NewFiles.{no_pieces}
pub use Rattle.snd_rf64.proofs.Putting.{heads_read_back, stands}
