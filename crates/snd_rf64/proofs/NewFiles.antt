-- What a file that is made says of itself, and the head that is put together.
use Rattle.std.proofs.Common.{◌≡◌, ◌∙◌, sym, refl, ap, ℕ, ◌-◌, ◌≤◌, false, List, [], ◌++◌, All, None, append_assoc, arith}
use Rattle.std.proofs.lemmas.List.{append-nil}
use Rattle.std.proofs.lemmas.List.Elements.{All-nil}
use Rattle.std.specs.Prelude.{codes}
use Rattle.snd_chunks.specs.HeadLaws.{IsOfBytes}
use Rattle.snd_chunks.specs.Written.{all_placed, chunk_bytes, chunks_bytes, head_bytes}
use Rattle.snd_fields.specs.Field.{bytes_of}
use Rattle.snd_fields.specs.declared.field.Order.TheVariants.{Little}
use Rattle.snd_layout.specs.Container.{IsNew}
use Rattle.snd_layout.specs.Fit.{fit_refusal}
use Rattle.snd_layout.specs.Params.{AreParams, Parameters}
use Rattle.snd_layout.specs.Written.{written_format}
use Rattle.snd_layout.specs.declared.codec.Codec.{Codec}
use Rattle.snd_layout.specs.declared.codec.Codec.TheVariants.{U8, S8, S16, S24, S32, MuLaw, ALaw, Ima, Ms}
use Rattle.snd_layout.specs.declared.kind.Kind.TheVariants.{Rf64}
use Rattle.snd_layout.specs.declared.piece.Piece.{Piece}
use Rattle.snd_wave.specs.Written.{MayBePiece}
use Rattle.snd_rf64.specs.Container.{rf64}
use Rattle.snd_rf64.specs.Layout.{shape_at}
use Rattle.snd_rf64.specs.Written.{MayBeMade, head_size, made_pieces, made_shape, no_size, plain_start, rf64_head, top}
use Rattle.snd_rf64.proofs.HeadsOfBytes.{rf64_is}
use Rattle.snd_rf64.proofs.Made.{head_reads_back, length-head}

-- ---- where the data begin

starts : (c r : ℕ) (codec : Codec) → fit_refusal Rf64 (record { channels = c; rate = r; codec = codec }) ≡ None → head_size (record { channels = c; rate = r; codec = codec }) [] ≡ plain_start codec
unfolding head_size chunks_bytes chunk_bytes head_bytes
starts c r U8 fits = refl
starts c r S8 fits = absurd (cc)
starts c r (S16 order) fits = refl
starts c r (S24 order) fits = refl
starts c r (S32 order) fits = refl
starts c r MuLaw fits = refl
starts c r ALaw fits = refl
starts c r (Ima align per_block) fits = absurd (cc)
starts c r (Ms align per_block) fits = absurd (cc)

pub plain_size : (p : Parameters) → fit_refusal Rf64 p ≡ None → head_size p [] ≡ plain_start p.codec
plain_size p fits = starts p.channels p.rate p.codec fits

few_start : (codec : Codec) → plain_start codec ≤ 82
few_start U8 = omega arith
few_start S8 = omega arith
few_start (S16 order) = omega arith
few_start (S24 order) = omega arith
few_start (S32 order) = omega arith
few_start MuLaw = omega arith
few_start ALaw = omega arith
few_start (Ima align per_block) = omega arith
few_start (Ms align per_block) = omega arith

-- ---- the head that is put together

pub top_put : (s : ℕ) (l0 l1 l2 l3 l4 l5 l6 l7 l8 l9 : List ℕ) → l0 ≡ [] → l1 ≡ l0 ++ codes "RF64" → l2 ≡ l1 ++ bytes_of Little 4 no_size → l3 ≡ l2 ++ codes "WAVE" → l4 ≡ l3 ++ codes "ds64" → l5 ≡ l4 ++ bytes_of Little 4 28
    → l6 ≡ l5 ++ bytes_of Little 8 s → l7 ≡ l6 ++ bytes_of Little 8 0 → l8 ≡ l7 ++ bytes_of Little 8 0 → l9 ≡ l8 ++ bytes_of Little 4 0 → l9 ≡ top s
unfolding top
top_put s l0 l1 l2 l3 l4 l5 l6 l7 l8 l9 e0 e1 e2 e3 e4 e5 e6 e7 e8 e9 = rw (e9, e8, e7, e6, e5, e4, e3, e2, e1, e0) refl

joined : (t c d n first second third all : List ℕ) → first ≡ t → second ≡ first ++ c → third ≡ second ++ d → all ≡ third ++ n → all ≡ t ++ (c ++ []) ++ (d ++ n)
joined t c d n first second third all one two three four = rw (four, three, two, one, append-nil c) (simp append_assoc)

pub head_put : (p : Parameters) (start : ℕ) (format first second third all : List ℕ) → fit_refusal Rf64 p ≡ None → start ≡ plain_start p.codec → format ≡ written_format p → first ≡ top (start - 8)
    → second ≡ first ++ chunk_bytes Little (record { id = codes "fmt "; body = format }) → third ≡ second ++ codes "data" → all ≡ third ++ bytes_of Little 4 no_size → all ≡ rf64_head p []
unfolding rf64_head chunks_bytes head_bytes
head_put p start format first second third all fits at body one two three four =
    let size : start ≡ head_size p [] = at ∙ sym (plain_size p fits) in
    joined (top (start - 8)) (chunk_bytes Little (record { id = codes "fmt "; body = format })) (codes "data") (bytes_of Little 4 no_size) first second third all one two three four
    ∙ ap (λ k. top (k - 8) ++ (chunk_bytes Little (record { id = codes "fmt "; body = format }) ++ []) ++ (codes "data" ++ bytes_of Little 4 no_size)) size
    ∙ ap (λ (l : List ℕ). top (head_size p [] - 8) ++ (chunk_bytes Little (record { id = codes "fmt "; body = l }) ++ []) ++ (codes "data" ++ bytes_of Little 4 no_size)) body

no_piece : (p : Parameters) → made_pieces p [] ≡ []
unfolding made_pieces all_placed
no_piece p = refl

pub plain_shape : (p : Parameters) (start : ℕ) → fit_refusal Rf64 p ≡ None → start ≡ plain_start p.codec → shape_at p start 0 0 false [] ≡ made_shape p []
unfolding made_shape
plain_shape p start fits at = ap (λ k. shape_at p k 0 0 false []) (at ∙ sym (plain_size p fits)) ∙ ap (λ (l : List Piece). shape_at p (head_size p []) 0 0 false l) (sym (no_piece p))

-- ---- a new file

pub no_pieces : (p : Parameters) → AreParams p → fit_refusal Rf64 p ≡ None → MayBeMade p []
no_pieces p good fits = record { params = good; fits = fits; pieces_are = All-nil MayBePiece; few = omega arith }

pub is_new : (p : Parameters) → AreParams p → fit_refusal Rf64 p ≡ None → IsNew Rf64 rf64 p
unfolding made_shape
is_new p good fits = record {
  told = head_reads_back p [] (no_pieces p good fits) (omega (arith, plain_size p fits, few_start p.codec));
  bytes = rf64_is p [] (All-nil IsOfBytes);
  is_kind = refl;
  params = refl;
  frames = refl;
  start = sym (length-head p []);
  known = refl;
  free = refl;
  pieces = no_piece p;
}
