-- What other crates may take from the proofs of this one.
pub use Rattle.snd_script.proofs.Chains.{texts_append}
pub use Rattle.snd_script.proofs.ShelfLeft.{some_of}
