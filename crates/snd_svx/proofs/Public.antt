-- The laws of this crate that others may cite.
pub use Rattle.snd_svx.proofs.AllLaws.{keeps_laws}
pub use Rattle.snd_svx.proofs.KeptHeads.{keeps_head_laws}
pub use Rattle.snd_svx.proofs.LateFiles.{late_reads_back}
pub use Rattle.snd_svx.proofs.Made.{heads_read_back}
pub use Rattle.snd_svx.proofs.Putting.{plain_may, stands}
