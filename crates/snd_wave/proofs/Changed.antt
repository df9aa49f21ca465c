-- What a disk holds on which the head of a WAVE file is laid.
use Rattle.std.proofs.Common.{◌≡◌, ℕ, List, [], Option, None, Some, false, refl, sym, ◌∙◌, arith}
use Rattle.std.proofs.lemmas.List.Elements.{All-nil}
use Rattle.std.specs.Prelude.{option_map}
use Rattle.snd_disk.specs.State.{State}
use Rattle.snd_layout.specs.Blocks.{is_adpcm}
use Rattle.snd_layout.specs.Fit.{fit_refusal}
use Rattle.snd_layout.specs.Laid.{HoldsJust}
use Rattle.snd_layout.specs.Params.{AreParams, Parameters, data_bytes}
use Rattle.snd_layout.specs.Shape.{Shape}
use Rattle.snd_layout.specs.declared.kind.Kind.TheVariants.{Wave}
use Rattle.snd_chunks.specs.Heads.{Heads, IsHeadIn}
use Rattle.snd_wave.specs.Put.{IsHeadOf, reserved_heads, wave_heads}
use Rattle.snd_wave.specs.Written.{MayBeMade, MayBePiece, MayBeReserved, made_shape, reserved_head, reserved_shape, wave_head}
use Rattle.snd_wave.proofs.Made.{no_bytes_yet}

-- a head of any kind that is laid without pieces
told_all : (o n : Option (List ℕ)) (head : List ℕ) → n ≡ option_map (λ (b : List ℕ). head) o → (b : List ℕ) → n ≡ Some b → b ≡ head
told_all None n head done b told = absurd (let no = sym told ∙ done in cc)
told_all (Some x) n head done b told = let both : Some b ≡ Some head = sym told ∙ done in cc

pub head_laid : (heads : Heads) (old new : State) (h : Shape) (p : Parameters) → heads.may p [] → h ≡ heads.shape p [] → HoldsJust (heads.head p []) old new → IsHeadIn heads new h p []
head_laid heads old new h p may shape laid = record {
  laid = record { may = may; shape = shape };
  size = laid.size;
  contents = told_all old.contents new.contents (heads.head p []) laid.contents;
}

pub plain_may : (p : Parameters) → AreParams p → fit_refusal Wave p ≡ None → MayBeMade p [] 0
plain_may p good fits =
    let none : data_bytes p 0 ≡ 0 = no_bytes_yet p good fits in
    record { params = good; fits = fits; pieces_are = All-nil MayBePiece; few = omega arith; in_room = omega (arith, none); counted = λ adpcm. omega arith; reserved = tt }

pub plain_head_laid : (old new : State) (h : Shape) (p : Parameters) → AreParams p → fit_refusal Wave p ≡ None → h ≡ made_shape p [] 0 → HoldsJust (wave_head p []) old new → IsHeadOf new h p []
plain_head_laid old new h p good fits shape laid = head_laid wave_heads old new h p (plain_may p good fits) shape laid

pub reserved_may_be : (p : Parameters) → AreParams p → fit_refusal Wave p ≡ None → is_adpcm p.codec ≡ false → MayBeReserved (Some 28) p [] 0
reserved_may_be p good fits fixed =
    let none : data_bytes p 0 ≡ 0 = no_bytes_yet p good fits in
    record { params = good; fits = fits; pieces_are = All-nil MayBePiece; few = omega arith; in_room = omega (arith, none); counted = λ adpcm. omega arith; reserved = (refl, fixed) }

pub reserved_head_laid : (old new : State) (h : Shape) (p : Parameters) → AreParams p → fit_refusal Wave p ≡ None → is_adpcm p.codec ≡ false → h ≡ reserved_shape (Some 28) p [] 0 → HoldsJust (reserved_head (Some 28) p [] 0) old new
    → IsHeadIn (reserved_heads (Some 28)) new h p []
reserved_head_laid old new h p good fits fixed shape laid = head_laid (reserved_heads (Some 28)) old new h p (reserved_may_be p good fits fixed) shape laid
