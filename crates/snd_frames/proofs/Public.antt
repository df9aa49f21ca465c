-- The laws of this crate that others may cite.
pub use Rattle.snd_frames.proofs.PartlyPut.{leaves_still}
pub use Rattle.snd_frames.proofs.ReadBodies.{all_read, found_has, front_read, got_has, rest_stays, whole_body, written_back}
