-- The laws of this crate that others may cite.
pub use Rattle.snd_tools.proofs.Counts.{counts_back, counts_given, rises_on, rises_with}
pub use Rattle.snd_tools.proofs.Left.{given_changes, given_files, held_changes, held_files, kept_changes, stayed_changes}
pub use Rattle.snd_tools.proofs.Names.{MakesOnly, after_same, apart_back, put_at, put_beside, some_of}
