-- The laws of this crate that others may cite.
pub use Rattle.snd_chunks.proofs.Blanks.{all_before, all_length, all_stand, blanks_blanks, blanks_keep, blanks_with, outlines_standing, pieces_read, same_length}
pub use Rattle.snd_chunks.proofs.Bodies.{front_lens, lens, lens_cons, tail_lens}
pub use Rattle.snd_chunks.proofs.Chains.{IsApart, IsBetween, IsChain, IsHead, Reaches, SameHead, SaysNext, StandsIn, apart, find_has, in_order, is_head, no_tail, reaches, same_chain, same_chunk, same_number_at, same_part, say_next, stands_in, walks}
pub use Rattle.snd_chunks.proofs.ChunksOfBytes.{all_chunks, both, number_bytes, three}
pub use Rattle.snd_chunks.proofs.Formats.{filled_agrees}
pub use Rattle.snd_chunks.proofs.HeadBytes.{field_longer, option_same, over_nothing, over_stays, over_within, three_stay}
pub use Rattle.snd_chunks.proofs.Heads.{agree_whole, same_front, same_number, whole_length}
pub use Rattle.snd_chunks.proofs.LateChunks.{HasHead, late_is, length-late, tail_written}
pub use Rattle.snd_chunks.proofs.Opens.{OpensBy, not_refused, opened_by, opens_by, refused}
pub use Rattle.snd_chunks.proofs.Stays.{SameBody, bodies_before, bodies_behind, chain_end, tail_ends, tail_from_same}
pub use Rattle.snd_chunks.proofs.Walks.{ends_grow}
pub use Rattle.snd_chunks.proofs.WrittenChunks.{MayPrecede, chain_written, has_body, has_first, has_left, has_number, has_others, has_part, has_right, head_written, length-all_placed, length-chunk_bytes, length-chunks_bytes, length-head_bytes}
