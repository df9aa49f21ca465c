-- The head of a file without pieces and frames.
use Rattle.std.proofs.Common.{◌≡◌, ℕ, ◌+◌, ◌-◌, ◌<◌, ◌≤◌, ◌^◌, Bool, true, false, List, [], ◌∷◌, ◌++◌, Option, None, Some, length, refl, sym, ap, ◌∙◌, arith, append_assoc}
use Rattle.std.proofs.lemmas.List.{append-nil}
use Rattle.std.specs.Prelude.{codes, replicate}
use Rattle.snd_chunks.specs.Written.{NewChunk, chunk_bytes, chunks_bytes, head_bytes, pad}
use Rattle.snd_fields.specs.Field.{bytes_of}
use Rattle.snd_fields.specs.declared.field.Order.TheVariants.{Little}
use Rattle.snd_layout.specs.Blocks.{is_adpcm}
use Rattle.snd_layout.specs.Fit.{fit_refusal}
use Rattle.snd_layout.specs.Params.{AreParams, Parameters, data_bytes}
use Rattle.snd_layout.specs.Written.{written_format}
use Rattle.snd_layout.specs.declared.codec.Codec.{Codec}
use Rattle.snd_layout.specs.declared.codec.Codec.TheVariants.{U8, S8, S16, S24, S32, MuLaw, ALaw, Ima, Ms}
use Rattle.snd_layout.specs.declared.kind.Kind.TheVariants.{Wave}
use Rattle.snd_chunks.specs.Written.{all_placed}
use Rattle.snd_layout.specs.declared.field.Field.{Field}
use Rattle.snd_layout.specs.declared.piece.Piece.{Piece}
use Rattle.snd_wave.proofs.Made.{no_bytes_yet, same_shape, shape_with}
use Rattle.snd_wave.proofs.NewHeads.{lead_most}
use Rattle.snd_wave.proofs.Relaying.{chunks-joined}
use Rattle.snd_wave.specs.Values.{riff_size}
use Rattle.snd_wave.specs.Written.{MayReserve, has_fact, inner_at, lead_end, lead_of, new_fact, new_format, plain_start, reserved_chunks, reserved_filler, reserved_head, reserved_pieces, reserved_shape, reserved_size, reserved_start, riff_head, side_at}

starts : (c r : ℕ) (codec : Codec) → reserved_size None (record { channels = c; rate = r; codec = codec }) [] ≡ plain_start codec
unfolding reserved_size reserved_chunks reserved_start chunks_bytes chunk_bytes head_bytes
starts c r U8 = refl
starts c r S8 = refl
starts c r (S16 order) = refl
starts c r (S24 order) = refl
starts c r (S32 order) = refl
starts c r MuLaw = refl
starts c r ALaw = refl
starts c r (Ima align per_block) = refl
starts c r (Ms align per_block) = refl

starts_later : (c r : ℕ) (codec : Codec) → is_adpcm codec ≡ false → reserved_size (Some 28) (record { channels = c; rate = r; codec = codec }) [] ≡ plain_start codec + 36
unfolding reserved_size reserved_chunks reserved_start chunks_bytes chunk_bytes head_bytes
starts_later c r U8 fixed = refl
starts_later c r S8 fixed = refl
starts_later c r (S16 order) fixed = refl
starts_later c r (S24 order) fixed = refl
starts_later c r (S32 order) fixed = refl
starts_later c r MuLaw fixed = refl
starts_later c r ALaw fixed = refl
starts_later c r (Ima align per_block) fixed = absurd (cc)
starts_later c r (Ms align per_block) fixed = absurd (cc)

no_fill : (c r : ℕ) (codec : Codec) → reserved_filler None (record { channels = c; rate = r; codec = codec }) [] ≡ []
unfolding reserved_start chunks_bytes chunk_bytes head_bytes
no_fill c r U8 = refl
no_fill c r S8 = refl
no_fill c r (S16 order) = refl
no_fill c r (S24 order) = refl
no_fill c r (S32 order) = refl
no_fill c r MuLaw = refl
no_fill c r ALaw = refl
no_fill c r (Ima align per_block) = refl
no_fill c r (Ms align per_block) = refl

none_later : (c r : ℕ) (codec : Codec) → is_adpcm codec ≡ false → reserved_filler (Some 28) (record { channels = c; rate = r; codec = codec }) [] ≡ []
unfolding reserved_start chunks_bytes chunk_bytes head_bytes
none_later c r U8 fixed = refl
none_later c r S8 fixed = refl
none_later c r (S16 order) fixed = refl
none_later c r (S24 order) fixed = refl
none_later c r (S32 order) fixed = refl
none_later c r MuLaw fixed = refl
none_later c r ALaw fixed = refl
none_later c r (Ima align per_block) fixed = absurd (cc)
none_later c r (Ms align per_block) fixed = absurd (cc)

-- the data of a file without pieces begin where the codec says, behind the reservation
pub plain_size : (r : Option ℕ) (p : Parameters) (lead : ℕ) → MayReserve r p.codec → lead + 12 ≡ lead_end r → reserved_size r p [] ≡ plain_start p.codec + lead
plain_size None p lead may is = starts p.channels p.rate p.codec ∙ omega (arith, is)
plain_size (Some len) p lead may is =
    ap (λ (k : ℕ). reserved_size (Some k) p []) may.0 ∙ starts_later p.channels p.rate p.codec may.1 ∙ omega (arith, is, may.0)

no_filler : (r : Option ℕ) (p : Parameters) → MayReserve r p.codec → reserved_filler r p [] ≡ []
no_filler None p may = no_fill p.channels p.rate p.codec
no_filler (Some len) p may = ap (λ (k : ℕ). reserved_filler (Some k) p []) may.0 ∙ none_later p.channels p.rate p.codec may.1

-- the chunks of such a file
chunks_are : (r : Option ℕ) (p : Parameters) → MayReserve r p.codec → chunks_bytes Little (reserved_chunks r p [] 0) ≡ chunks_bytes Little (lead_of r) ++ (chunk_bytes Little (new_format p) ++ chunks_bytes Little (new_fact p.codec 0))
unfolding reserved_chunks chunks_bytes
chunks_are r p may =
    ap (λ (f : List NewChunk). chunks_bytes Little (lead_of r ++ new_format p ∷ (f ++ new_fact p.codec 0))) (no_filler r p may)
    ∙ chunks-joined Little (lead_of r) (new_format p ∷ new_fact p.codec 0)

-- eight parts, each put behind the others
joined : (r s w l c f d z riff size wave lead chunks fact sound all : List ℕ) → riff ≡ [] ++ r → size ≡ riff ++ s → wave ≡ size ++ w → lead ≡ wave ++ l → chunks ≡ lead ++ c → fact ≡ chunks ++ f → sound ≡ fact ++ d → all ≡ sound ++ z
    → all ≡ (r ++ s ++ w) ++ (l ++ (c ++ f)) ++ (d ++ z)
joined r s w l c f d z riff size wave lead chunks fact sound all one two three behind four five six seven = rw (seven, six, five, four, behind, three, two, one) (simp append_assoc)

small : (n : ℕ) → 8 ≤ n → n < 2 ^ 32 → riff_size n 0 ≡ n - 8
small n least few = omega (arith, least, few)

starts_near : (codec : Codec) → (44 ≤ plain_start codec) × (plain_start codec ≤ 90)
starts_near U8 = (omega arith, omega arith)
starts_near S8 = (omega arith, omega arith)
starts_near (S16 order) = (omega arith, omega arith)
starts_near (S24 order) = (omega arith, omega arith)
starts_near (S32 order) = (omega arith, omega arith)
starts_near MuLaw = (omega arith, omega arith)
starts_near ALaw = (omega arith, omega arith)
starts_near (Ima align per_block) = (omega arith, omega arith)
starts_near (Ms align per_block) = (omega arith, omega arith)

unfoldable head_of : ℕ → List ℕ → ℕ → List ℕ
head_of riff chunks bytes = (codes "RIFF" ++ bytes_of Little 4 riff ++ codes "WAVE") ++ chunks ++ (codes "data" ++ bytes_of Little 4 bytes)

by_parts : (r : Option ℕ) (p : Parameters) → reserved_head r p [] 0 ≡ head_of (riff_size (reserved_size r p []) (data_bytes p 0)) (chunks_bytes Little (reserved_chunks r p [] 0)) (data_bytes p 0)
unfolding reserved_head riff_head head_bytes head_of
by_parts r p = refl

module _ (r : Option ℕ) (p : Parameters) (good : AreParams p) (fits : fit_refusal Wave p ≡ None) (may : MayReserve r p.codec) where
  none : data_bytes p 0 ≡ 0
  none = no_bytes_yet p good fits

  head_is : (start : ℕ) → reserved_size r p [] ≡ start → 8 ≤ start → start < 2 ^ 32
      → reserved_head r p [] 0 ≡ head_of (start - 8) (chunks_bytes Little (lead_of r) ++ (chunk_bytes Little (new_format p) ++ chunks_bytes Little (new_fact p.codec 0))) 0
  head_is start size least few =
      let riff_is : riff_size (reserved_size r p []) (data_bytes p 0) ≡ start - 8 = ap (λ k. riff_size k (data_bytes p 0)) size ∙ ap (riff_size start) none ∙ small start least few in
      by_parts r p ∙ ap (λ k. head_of k (chunks_bytes Little (reserved_chunks r p [] 0)) (data_bytes p 0)) riff_is
      ∙ ap (λ (l : List ℕ). head_of (start - 8) l (data_bytes p 0)) (chunks_are r p may)
      ∙ ap (head_of (start - 8) (chunks_bytes Little (lead_of r) ++ (chunk_bytes Little (new_format p) ++ chunks_bytes Little (new_fact p.codec 0)))) none

  pub head_put : (start lead_len : ℕ) (format id riff size wave lead chunks fact sound all : List ℕ) → start ≡ plain_start p.codec → lead_len + 12 ≡ lead_end r → format ≡ written_format p → id ≡ codes "fmt " → riff ≡ [] ++ codes "RIFF"
      → size ≡ riff ++ bytes_of Little 4 (start + lead_len - 8) → wave ≡ size ++ codes "WAVE" → lead ≡ wave ++ chunks_bytes Little (lead_of r) → chunks ≡ lead ++ chunk_bytes Little (record { id = id; body = format })
      → fact ≡ chunks ++ chunks_bytes Little (new_fact p.codec 0) → sound ≡ fact ++ codes "data" → all ≡ sound ++ bytes_of Little 4 0 → all ≡ reserved_head r p [] 0
  unfolding head_of
  head_put start lead_len format id riff size wave lead chunks fact sound all at behind body named one two three four five six seven eight =
      let begin : reserved_size r p [] ≡ start + lead_len = plain_size r p lead_len may behind ∙ ap (λ (k : ℕ). k + lead_len) (sym at) in
      let near = starts_near p.codec in
      let few = lead_most r p.codec may in
      joined (codes "RIFF") (bytes_of Little 4 (start + lead_len - 8)) (codes "WAVE") (chunks_bytes Little (lead_of r)) (chunk_bytes Little (record { id = id; body = format })) (chunks_bytes Little (new_fact p.codec 0)) (codes "data") (bytes_of Little 4 0)
      riff size wave lead chunks fact sound all one two three four five six seven eight
      ∙ ap (λ (l : List ℕ). head_of (start + lead_len - 8) (chunks_bytes Little (lead_of r) ++ (chunk_bytes Little (record { id = id; body = l }) ++ chunks_bytes Little (new_fact p.codec 0))) 0) body
      ∙ ap (λ (l : List ℕ). head_of (start + lead_len - 8) (chunks_bytes Little (lead_of r) ++ (chunk_bytes Little (record { id = l; body = written_format p }) ++ chunks_bytes Little (new_fact p.codec 0))) 0) named
      ∙ sym (head_is (start + lead_len) begin (omega (arith, at, near)) (omega (arith, at, near, few, behind)))

pub fact_put : (codec : Codec) (has : Bool) (old new id body : List ℕ) → has ≡ has_fact codec → has ≡ true → id ≡ codes "fact" → body ≡ bytes_of Little 4 0 → new ≡ old ++ chunk_bytes Little (record { id = id; body = body }) → new ≡ old ++ chunks_bytes Little (new_fact codec 0)
unfolding chunks_bytes
fact_put codec has old new id body is there named zero put =
    let has_it : has_fact codec ≡ true = sym is ∙ there in
    rw has_it (put ∙ ap (λ (l : List ℕ). old ++ chunk_bytes Little (record { id = l; body = body })) named ∙ ap (λ (l : List ℕ). old ++ chunk_bytes Little (record { id = codes "fact"; body = l })) zero
    ∙ ap (λ (l : List ℕ). old ++ l) (sym (append-nil (chunk_bytes Little (record { id = codes "fact"; body = bytes_of Little 4 0 })))))

pub no_fact_put : (codec : Codec) (has : Bool) (old : List ℕ) → has ≡ has_fact codec → has ≡ false → old ≡ old ++ chunks_bytes Little (new_fact codec 0)
unfolding chunks_bytes
no_fact_put codec has old is none =
    let has_none : has_fact codec ≡ false = sym is ∙ none in
    rw has_none (sym (append-nil old))

no_pieces_yet : (r : Option ℕ) (p : Parameters) → reserved_pieces r p [] ≡ []
unfolding reserved_pieces all_placed
no_pieces_yet r p = refl

pub plain_shape : (r : Option ℕ) (p : Parameters) (start : ℕ) (inner : Field) (side : Option Field) (pieces : List Piece) → AreParams p → fit_refusal Wave p ≡ None → reserved_size r p [] ≡ start → inner ≡ inner_at p.codec start → side ≡ side_at p.codec start → pieces ≡ []
    → shape_with p start 0 0 inner side false r pieces ≡ reserved_shape r p [] 0
unfolding shape_with reserved_shape
plain_shape r p start inner side pieces good fits at inner_is side_is none =
    let size : start ≡ reserved_size r p [] = sym at in
    ap (λ k. shape_with p start 0 k inner side false r pieces) (sym (no_bytes_yet p good fits))
    ∙ same_shape p start (reserved_size r p []) 0 0 (data_bytes p 0) inner _ side _ false false r r pieces (reserved_pieces r p []) size refl
    (inner_is ∙ ap (inner_at p.codec) size) (side_is ∙ ap (side_at p.codec) size) refl refl (none ∙ sym (no_pieces_yet r p))

lead_parts : (old j b z e : List ℕ) → e ≡ [] → ((old ++ j) ++ b) ++ z ≡ old ++ (((j ++ b) ++ z ++ []) ++ e)
lead_parts old j b z e none = rw none (simp (append_assoc, append-nil))

-- what is put of a reservation
pub lead_put : (len : ℕ) (old named sized all : List ℕ) → len ≡ 28 → named ≡ old ++ codes "JUNK" → sized ≡ named ++ bytes_of Little 4 len → all ≡ sized ++ replicate 28 0 → all ≡ old ++ chunks_bytes Little (lead_of (Some len))
unfolding chunks_bytes chunk_bytes head_bytes
lead_put len old named sized all is one two three =
    three ∙ ap (λ (l : List ℕ). l ++ replicate 28 0) (two ∙ ap (λ (l : List ℕ). l ++ bytes_of Little 4 len) one ∙ ap (λ (k : ℕ). (old ++ codes "JUNK") ++ bytes_of Little 4 k) is)
    ∙ lead_parts old (codes "JUNK") (bytes_of Little 4 28) (replicate 28 0) [] refl ∙ ap (λ (k : ℕ). old ++ chunks_bytes Little (lead_of (Some k))) (sym is)

pub no_lead_put : (old : List ℕ) → old ≡ old ++ chunks_bytes Little (lead_of None)
unfolding chunks_bytes
no_lead_put old = sym (append-nil old)
