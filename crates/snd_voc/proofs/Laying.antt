-- What stands on a disk on which a head is laid.
use Rattle.std.proofs.Common.{◌≡◌, ℕ, List, ◌++◌, [], ◌∷◌, ◌∙◌, append_assoc}
use Rattle.snd_fields.specs.Field.{bytes_of}
use Rattle.snd_fields.specs.declared.field.Order.TheVariants.{Little}
use Rattle.snd_layout.specs.Params.{Parameters}
use Rattle.snd_voc.specs.Written.{bits_of, block_head, code_of, file_head, voc_head}

-- the head, put together
pub head_put : (p : Parameters) (none one two three four rate : List ℕ) (bits channels code : ℕ) → none ≡ [] → one ≡ none ++ file_head → two ≡ one ++ (9 ∷ 12 ∷ 0 ∷ 0 ∷ []) → rate ≡ bytes_of Little 4 p.rate → three ≡ two ++ rate
    → bits ≡ bits_of p.codec → channels ≡ p.channels → code ≡ code_of p.codec → four ≡ three ++ (bits ∷ channels ∷ code ∷ 0 ∷ 0 ∷ 0 ∷ 0 ∷ 0 ∷ []) → four ≡ voc_head p
unfolding voc_head block_head
head_put p none one two three four rate bits channels code empty put_one put_two rated put_three bits_are channels_are code_is put_four =
    let tail : List ℕ = bits_of p.codec ∷ p.channels ∷ code_of p.codec ∷ 0 ∷ 0 ∷ 0 ∷ 0 ∷ 0 ∷ [] in
    rw (put_four, put_three, put_two, put_one, empty, rated, bits_are, channels_are, code_is)
    (append_assoc (file_head ++ (9 ∷ 12 ∷ 0 ∷ 0 ∷ [])) (bytes_of Little 4 p.rate) tail ∙ append_assoc file_head (9 ∷ 12 ∷ 0 ∷ 0 ∷ []) (bytes_of Little 4 p.rate ++ tail))
