-- The head of a file without pieces and frames, as it is put together.
use Rattle.std.proofs.Common.{◌≡◌, ◌∙◌, ap, sym, subst, refl, ℕ, false, List, [], ◌∷◌, ◌++◌, None}
use Rattle.std.specs.Prelude.{codes, replicate}
use Rattle.snd_chunks.specs.Written.{all_placed, chunk_bytes, chunks_bytes, head_bytes}
use Rattle.snd_fields.specs.Field.{bytes_of}
use Rattle.snd_fields.specs.declared.field.Order.TheVariants.{Big}
use Rattle.snd_layout.specs.Fit.{fit_refusal}
use Rattle.snd_layout.specs.Params.{AreParams, Parameters}
use Rattle.snd_layout.specs.declared.kind.Kind.TheVariants.{Svx}
use Rattle.snd_svx.specs.Layout.{shape_of, voice}
use Rattle.snd_svx.specs.Written.{made_shape, svx_head}
use Rattle.snd_svx.proofs.NewFiles.{head_is, is_voice}

-- nine parts, each put behind the others
joined : (rate : ℕ) (form size voices long count short one body all : List ℕ) → form ≡ [] ++ codes "FORM" → size ≡ form ++ bytes_of Big 4 40 → voices ≡ size ++ codes "8SVXVHDR" → long ≡ voices ++ bytes_of Big 4 20
    → count ≡ long ++ replicate 12 0 → short ≡ count ++ bytes_of Big 2 rate → one ≡ short ++ 1 ∷ 0 ∷ 0 ∷ 1 ∷ 0 ∷ 0 ∷ [] → body ≡ one ++ codes "BODY" → all ≡ body ++ bytes_of Big 4 0
    → all ≡ svx_head (voice rate) []
joined rate form size voices long count short one body all a b c d e f g h i = rw (i, h, g, f, e, d, c, b, a) (sym (head_is rate))

pub head_put : (p : Parameters) (rate : ℕ) (form size voices long count short one body all : List ℕ) → AreParams p → fit_refusal Svx p ≡ None → p.rate ≡ rate → form ≡ [] ++ codes "FORM" → size ≡ form ++ bytes_of Big 4 40 → voices ≡ size ++ codes "8SVXVHDR" → long ≡ voices ++ bytes_of Big 4 20
    → count ≡ long ++ replicate 12 0 → short ≡ count ++ bytes_of Big 2 rate → one ≡ short ++ 1 ∷ 0 ∷ 0 ∷ 1 ∷ 0 ∷ 0 ∷ [] → body ≡ one ++ codes "BODY" → all ≡ body ++ bytes_of Big 4 0
    → all ≡ svx_head p []
head_put p rate form size voices long count short one body all good fits is a b c d e f g h i =
    joined rate form size voices long count short one body all a b c d e f g h i ∙ ap (λ r. svx_head (voice r) []) (sym is) ∙ ap (λ (q : Parameters). svx_head q []) (sym (is_voice p good fits).0)

made_voice : (rate : ℕ) → shape_of (voice rate) 48 0 0 20 false [] ≡ made_shape (voice rate) [] 0
unfolding made_shape chunks_bytes chunk_bytes head_bytes all_placed
made_voice rate = refl

pub plain_shape : (p : Parameters) → AreParams p → fit_refusal Svx p ≡ None → shape_of p 48 0 0 20 false [] ≡ made_shape p [] 0
plain_shape p good fits =
    subst (λ (q : Parameters). shape_of q 48 0 0 20 false [] ≡ made_shape q [] 0) (sym (is_voice p good fits).0) (made_voice p.rate)
