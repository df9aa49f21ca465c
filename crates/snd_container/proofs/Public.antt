-- The laws of kinds and of their heads, for the crates above.
use Rattle.std.proofs.Common.{◌≡◌, ℕ, true, List, [], Option}
use Rattle.snd_chunks.specs.HeadLaws.{IsPieceOf, KeepsHeadLaws, KeepsPieceLaws}
use Rattle.snd_chunks.specs.Written.{NewChunk}
use Rattle.snd_layout.specs.Kinds.{holds_pieces}
use Rattle.snd_fields.specs.declared.field.Order.TheVariants.{Little}
use Rattle.snd_layout.specs.Params.{Parameters}
use Rattle.snd_layout.specs.declared.codec.Codec.TheVariants.{S16}
use Rattle.snd_layout.specs.declared.kind.Kind.{Kind}
use Rattle.snd_layout.specs.declared.kind.Kind.TheVariants.{Wave}
use Rattle.snd_container.proofs.KindHeads.{keep_all_head_laws, keep_reserved_head_laws, others_may_be_put, params_are, plain_wave_is_known}
use Rattle.snd_container.specs.HeadLaws.{plain_wave}
use Rattle.snd_container.specs.Put.{MayBePieceOf, heads_for, heads_of}
use Rattle.snd_container.specs.Values.{any}
pub use Rattle.snd_container.proofs.Blocks.{rounded_up}
pub use Rattle.snd_container.proofs.Closings.{closes_with_pad}
pub use Rattle.snd_container.proofs.EveryKind.{apart, bytes, closes, declares, fill, free, lies, made, new, old, order, outside, pieces, reaches, stops, voice, within}
pub use Rattle.snd_container.proofs.FixedSamples.{byte_count_pos, bytes_of_joined, count_of_bytes, length-samples, numbers_are_kept, samples_of_joined, samples_of_mixed, samples_of_parts}
pub use Rattle.snd_container.proofs.Sources.{length-sources, samples_fit, sources_fit, sources_written}
pub use Rattle.snd_container.proofs.Widths.{inner_value_fits, outer_value_fits, side_value_fits}

-- the heads of a kind keep their laws
pub head_laws : (kind : Kind) → KeepsHeadLaws kind (any kind) (heads_of kind)
head_laws kind = keep_all_head_laws kind

-- .. with a reservation, and without
pub piece_laws : (r : Option ℕ) (kind : Kind) → holds_pieces kind ≡ true → KeepsPieceLaws kind (any kind) (heads_for r kind)
piece_laws r kind holds = keep_reserved_head_laws r kind holds

-- A head has the parameters with which it is made, with a reservation and without.
pub params_of_heads : (r : Option ℕ) (kind : Kind) (p : Parameters) (pieces : List NewChunk) → ((heads_for r kind).shape p pieces).params ≡ p
params_of_heads r kind p pieces = params_are r kind p pieces

-- a chunk that is not a file's own may be put
pub may_be_put : (kind : Kind) (piece : NewChunk) → holds_pieces kind ≡ true → IsPieceOf kind piece → MayBePieceOf kind piece
may_be_put kind piece holds is = others_may_be_put kind piece holds is

-- what a plain WAVE file says
pub wave_is_plain : (p : Parameters) → p.codec ≡ S16 Little → (heads_of Wave).shape p [] ≡ plain_wave p
wave_is_plain p same = plain_wave_is_known p same
