-- The layout of a file of any kind, and what a sound is.
use Rattle.std.specs.Prelude.{ℕ, ℤ, Bool, List, [], Option, None, Some, Result, Ok, Err, take, drop, map}
use Rattle.snd_layout.specs.declared.codec.Codec.{Codec}
use Rattle.snd_layout.specs.declared.codec.Codec.TheVariants.{U8, S8, S16, S24, S32, MuLaw, ALaw}
use Rattle.snd_layout.specs.declared.kind.Kind.{Kind}
use Rattle.snd_layout.specs.declared.piece.Piece.{Piece}
use Rattle.snd_layout.specs.declared.refusal.OpenRefusal.{OpenRefusal}
use Rattle.snd_layout.specs.Params.{Parameters, data_bytes}
use Rattle.snd_layout.specs.Shape.{Shape}
use Rattle.snd_pcm.specs.Groups.{groups}
use Rattle.snd_pcm.specs.declared.linear.Linear as linear
use Rattle.snd_container.specs.declared.fixed.Fixed as fixed
use Rattle.snd_container.specs.declared.fixed.Fixed.{Fixed}
use Rattle.snd_container.specs.declared.fixed.Fixed.TheVariants.{Linear}
use Rattle.snd_container.specs.Fixed.{kept_number, samples}
use Rattle.snd_container.specs.Kinds.{container_of}
use Rattle.snd_container.specs.Recognised.{recognised}

-- the layout of a file of a kind, or its first refusal
abbrev pub layout_of_kind : Kind → List ℕ → Result Shape OpenRefusal
layout_of_kind kind b = (container_of kind).layout b

abbrev pub layout_as : Result Kind OpenRefusal → List ℕ → Result Shape OpenRefusal
layout_as (Err refusal) b = Err refusal
layout_as (Ok kind) b = layout_of_kind kind b

unfoldable pub layout_of : List ℕ → Result Shape OpenRefusal
layout_of b = layout_as (recognised (take 40 b)) b

-- how a codec writes its samples, where each has a fixed number of bytes; ADPCM has blocks
abbrev pub fixed_of : Codec → Option Fixed
fixed_of U8 = Some (Linear linear.TheVariants.U8)
fixed_of S8 = Some (Linear linear.TheVariants.S8)
fixed_of (S16 order) = Some (Linear (linear.TheVariants.S16 order))
fixed_of (S24 order) = Some (Linear (linear.TheVariants.S24 order))
fixed_of (S32 order) = Some (Linear (linear.TheVariants.S32 order))
fixed_of MuLaw = Some fixed.TheVariants.MuLaw
fixed_of ALaw = Some fixed.TheVariants.ALaw
fixed_of codec = None

-- The frames that data bytes stand for, where each sample has bytes of its own: a number for each channel, in turn.
abbrev pub decoded_as : Option Fixed → ℕ → List ℕ → List (List ℤ)
decoded_as None channels bytes = []
decoded_as (Some form) channels bytes = groups channels (samples form bytes)

abbrev pub decoded : Parameters → List ℕ → List (List ℤ)
decoded p bytes = decoded_as (fixed_of p.codec) p.channels bytes

-- the numbers that are kept of those that are written
abbrev pub kept_as : Option Fixed → List ℤ → List ℤ
kept_as None xs = xs
kept_as (Some form) xs = map (kept_number form) xs

abbrev pub kept_numbers : Parameters → List ℤ → List ℤ
kept_numbers p xs = kept_as (fixed_of p.codec) xs

-- a chunk that a file keeps, with its body
pub record Kept : Type 0 where
  pub id : List ℕ
  pub body : List ℕ
  pub after : Bool

-- the sound of a file: its kind, parameters, frames and further chunks
pub record Sound : Type 0 where
  pub kind : Kind
  pub params : Parameters
  pub frames : List (List ℤ)
  pub pieces : List Kept

-- the data bytes of the frames that a layout counts
abbrev pub sound_bytes : List ℕ → Shape → List ℕ
sound_bytes b s = take (data_bytes s.params s.frames) (drop s.start b)

abbrev pub kept_of : List ℕ → Piece → Kept
kept_of b piece = record { id = piece.id.0; body = take piece.len (drop piece.at b); after = piece.after }
