-- What is said of every file that is made.
use Rattle.std.specs.Prelude.{◌≡◌, ℤ, true, false, List, [], ◌++◌, Ok}
use Rattle.snd_chunks.specs.Written.{NewChunk}
use Rattle.snd_blocks.specs.Sound.{sound_of}
use Rattle.snd_layout.specs.Blocks.{is_adpcm}
use Rattle.snd_layout.specs.Params.{AreParams, Parameters}
use Rattle.snd_layout.specs.declared.kind.Kind.{Kind}
use Rattle.snd_edits.specs.Editing.{Editing}
use Rattle.snd_edits.specs.Edits.{sealed_to, written_to}
use Rattle.snd_edits.specs.Encoding.{MayEncode, encoded_to, encoded_whole}
use Rattle.snd_layout.specs.Kinds.{holds_pieces}
use Rattle.snd_edits.specs.Making.{making_of}
use Rattle.snd_edits.specs.WriteCalls.{MayWrite}
use Rattle.snd_output.specs.Made.{ArePieces, IsMaking, made_file, made_sound, made_with}

-- a file begins without chunks and numbers
abbrev pub BegunIsMaking : Type 0
BegunIsMaking = (kind : Kind) (p : Parameters) (e : Editing) → AreParams p → making_of kind p ≡ Ok e → IsMaking kind p [] [] e

-- and one into which chunks were put, of a kind that is given chunks, is one that is being made with these
abbrev pub CarriedIsMaking : Type 0
CarriedIsMaking = (kind : Kind) (p : Parameters) (pieces : List NewChunk) (e : Editing) → AreParams p → making_of kind p ≡ Ok e →
    holds_pieces kind ≡ true → ArePieces kind pieces → IsMaking kind p pieces [] (made_with kind p pieces)

-- frames that are written stand behind those that it holds; in ADPCM frames are given behind those before
abbrev pub WrittenIsMaking : Type 0
WrittenIsMaking = (kind : Kind) (p : Parameters) (pieces : List NewChunk) (xs ys : List ℤ) (e : Editing) →
    IsMaking kind p pieces xs e → is_adpcm p.codec ≡ false → MayWrite ys e.shape e.write_place → IsMaking kind p pieces (xs ++ ys) (written_to ys e)

abbrev pub EncodedIsMaking : Type 0
EncodedIsMaking = (kind : Kind) (p : Parameters) (pieces : List NewChunk) (xs ys : List ℤ) (e : Editing) →
    IsMaking kind p pieces xs e → is_adpcm p.codec ≡ true → MayEncode ys e.shape e.write_place → IsMaking kind p pieces (xs ++ ys) (encoded_to ys e)

-- It is made once it is sealed. In ADPCM zeros fill the last block before that.
abbrev pub SealedIsMade : Type 0
SealedIsMade = (kind : Kind) (p : Parameters) (pieces : List NewChunk) (xs : List ℤ) (e : Editing) →
    IsMaking kind p pieces xs e → is_adpcm p.codec ≡ false → (sealed_to e).bytes ≡ made_file kind p pieces xs

abbrev pub FilledIsMade : Type 0
FilledIsMade = (kind : Kind) (p : Parameters) (pieces : List NewChunk) (xs : List ℤ) (e : Editing) →
    IsMaking kind p pieces xs e → is_adpcm p.codec ≡ true → (encoded_whole e).bytes ≡ made_file kind p pieces xs

-- and then has its sound
abbrev pub MadeHasSound : Type 0
MadeHasSound = (kind : Kind) (p : Parameters) (pieces : List NewChunk) (xs : List ℤ) (e : Editing) →
    IsMaking kind p pieces xs e → sound_of (made_file kind p pieces xs) ≡ Ok (made_sound kind p pieces xs)
