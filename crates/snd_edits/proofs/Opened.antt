-- What opening a file to be updated gives.
use Rattle.std.proofs.Common.{◌≡◌, ◌∙◌, ap, ℕ, List, true, false, cond, Ok, Err}
use Rattle.snd_layout.specs.Blocks.{is_adpcm}
use Rattle.snd_layout.specs.Shape.{Shape}
use Rattle.snd_layout.specs.declared.error.OpenError.TheVariants.{AdpcmUpdate, UnknownLength}
use Rattle.snd_container.specs.Sound.{layout_of}
use Rattle.snd_edits.specs.Editing.{first_editing}
use Rattle.snd_edits.specs.Updating.{updating_as, updating_of}

pub updating_by : (b : List ℕ) (s : Shape) → layout_of b ≡ Ok s
    → updating_of b ≡ cond (is_adpcm s.params.codec) (Err AdpcmUpdate) (cond s.unknown_length (Err UnknownLength) (Ok (first_editing b s)))
unfolding updating_of
updating_by b s is = ap (updating_as b) is

module _ (b : List ℕ) (s : Shape) (is : layout_of b ≡ Ok s) where
  pub update_adpcm : is_adpcm s.params.codec ≡ true → updating_of b ≡ Err AdpcmUpdate
  update_adpcm blocks = updating_by b s is ∙ simp blocks

  pub update_open : is_adpcm s.params.codec ≡ false → s.unknown_length ≡ true → updating_of b ≡ Err UnknownLength
  update_open blocks open_end = updating_by b s is ∙ simp (blocks, open_end)

  pub update_ok : is_adpcm s.params.codec ≡ false → s.unknown_length ≡ false → updating_of b ≡ Ok (first_editing b s)
  update_ok blocks open_end = updating_by b s is ∙ simp (blocks, open_end)
