-- The laws of the heads of new files, with any further chunks and without frames, for files of every kind.
use Rattle.std.specs.Prelude.{◌≡◌, ℕ, [], Option, None, Some, false, true}
use Rattle.snd_chunks.specs.HeadLaws.{IsPieceOf, KeepsHeadLaws, KeepsPieceLaws}
use Rattle.snd_chunks.specs.Written.{NewChunk}
use Rattle.snd_layout.specs.Kinds.{holds_pieces}
use Rattle.snd_layout.specs.Params.{Parameters, data_bytes}
use Rattle.snd_layout.specs.Shape.{Shape}
use Rattle.snd_fields.specs.declared.field.Order.TheVariants.{Little}
use Rattle.snd_layout.specs.declared.codec.Codec.TheVariants.{S16}
use Rattle.snd_layout.specs.declared.kind.Kind.{Kind}
use Rattle.snd_layout.specs.declared.kind.Kind.TheVariants.{Wave}
use Rattle.snd_container.specs.Put.{MayBePieceOf, heads_for, heads_of}
use Rattle.snd_container.specs.Values.{any}

abbrev pub KeepAllHeadLaws : Type 0
KeepAllHeadLaws = (kind : Kind) → KeepsHeadLaws kind (any kind) (heads_of kind)

-- .. and where files of a kind are given chunks, those with any reservation
abbrev pub KeepReservedHeadLaws : Type 0
KeepReservedHeadLaws = (r : Option ℕ) (kind : Kind) → holds_pieces kind ≡ true → KeepsPieceLaws kind (any kind) (heads_for r kind)

-- Where files of a kind are given chunks, each that is not a file's own may be put.
abbrev pub OthersMayBePut : Type 0
OthersMayBePut = (kind : Kind) (piece : NewChunk) → holds_pieces kind ≡ true → IsPieceOf kind piece → MayBePieceOf kind piece

-- A new WAVE file of 16 bits without further chunks has the size of its data at 40 and these at 44.
abbrev pub plain_wave : Parameters → Shape
plain_wave p = record {
  kind = Wave;
  params = p;
  start = 44;
  frames = 0;
  declared = data_bytes p 0;
  inner = record { at = 40; size = 4 };
  outer = Some (record { at = 4; size = 4 });
  side = None;
  trailing = false;
  unknown_length = false;
  reserve = None;
  pieces = [];
}

abbrev pub PlainWaveIsKnown : Type 0
PlainWaveIsKnown = (p : Parameters) → p.codec ≡ S16 Little → (heads_of Wave).shape p [] ≡ plain_wave p
