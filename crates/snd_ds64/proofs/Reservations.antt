-- The parts of a WAVE file with a reservation.
use Rattle.std.proofs.Common.{◌≡◌, ℕ, ◌+◌, ◌-◌, ◌<◌, ◌≤◌, List, [], ◌∷◌, ◌++◌, true, false, not, ◌&&◌, Option, None, Some, Ok, length, take, drop, get_or, refl, sym, ap, subst, ◌∙◌, inl, inr, arith, length-append, All}
use Rattle.std.proofs.lemmas.Bool.{and_parts, cases_Bool, cases_lt, eqb-true, leb-true, ltb-false, not-true}
use Rattle.std.proofs.lemmas.List.{append-nil, get_or-append-add, get_or-drop, get_or-take, get_or_append_left}
use Rattle.std.proofs.lemmas.Slice.Eq.{bytes_eq-Decides}
use Rattle.std.specs.List.{find}
use Rattle.std.specs.Prelude.{◌==◌, codes, is_some, nat_le}
use Rattle.std.specs.Str.{bytes_eq}
use Rattle.snd_chunks.proofs.Public.{IsChain, IsHead, OpensBy, Reaches, in_order, is_head, no_tail, opens_by, reaches}
use Rattle.snd_chunks.specs.Chunks.{chunk_at}
use Rattle.snd_chunks.specs.Parts.{body_of, format_chunk, front_refusal, has_id}
use Rattle.snd_chunks.specs.declared.chunk.Chunk.{Chunk}
use Rattle.snd_chunks.specs.declared.front.Ending.TheVariants.{AtSound}
use Rattle.snd_chunks.specs.declared.front.Front.{Front}
use Rattle.snd_disk.specs.Runs.{HasAt}
use Rattle.snd_fields.proofs.Numbers.{bytes_of_number, length-bytes_of}
use Rattle.snd_fields.specs.Field.{bytes_of, number}
use Rattle.snd_fields.specs.Laws.{IsByte}
use Rattle.snd_fields.specs.declared.field.Order.TheVariants.{Little, Big}
use Rattle.snd_layout.specs.Blocks.{is_adpcm}
use Rattle.snd_layout.specs.Container.{LiesIn}
use Rattle.snd_layout.specs.Fit.{fit_refusal}
use Rattle.snd_layout.specs.Format.{format_of}
use Rattle.snd_layout.specs.Params.{Parameters}
use Rattle.snd_layout.specs.Shape.{Shape}
use Rattle.snd_layout.specs.declared.codec.Codec.{Codec}
use Rattle.snd_layout.specs.declared.codec.Codec.TheVariants.{U8, S8, S16, S24, S32, MuLaw, ALaw, Ima, Ms}
use Rattle.snd_layout.specs.declared.kind.Kind.{Kind}
use Rattle.snd_layout.specs.declared.kind.Kind.TheVariants.{Rf64, Wave}
use Rattle.snd_wave.proofs.Public.{keeps_laws}
use Rattle.snd_wave.specs.Layout.{data_end, is_own, is_reserve, outer_end, pieces_of, reserve_of, wave_front, wave_layout, wave_shape, wave_tail}
use Rattle.snd_ds64.specs.Laws.{ReservationStands}
use Rattle.snd_ds64.specs.Promoted.{MayPromote}

-- RF64 holds what WAVE holds, but for ADPCM
codec_fits : (c r : ℕ) (codec : Codec) → fit_refusal Wave (record { channels = c; rate = r; codec = codec }) ≡ None → is_adpcm codec ≡ false → fit_refusal Rf64 (record { channels = c; rate = r; codec = codec }) ≡ None
codec_fits c r U8 fits fixed = refl
codec_fits c r S8 fits fixed = absurd (cc)
codec_fits c r (S16 Little) fits fixed = refl
codec_fits c r (S16 Big) fits fixed = absurd (cc)
codec_fits c r (S24 Little) fits fixed = refl
codec_fits c r (S24 Big) fits fixed = absurd (cc)
codec_fits c r (S32 Little) fits fixed = refl
codec_fits c r (S32 Big) fits fixed = absurd (cc)
codec_fits c r MuLaw fits fixed = refl
codec_fits c r ALaw fits fixed = refl
codec_fits c r (Ima align per_block) fits fixed = absurd (cc)
codec_fits c r (Ms align per_block) fits fixed = absurd (cc)

pub fits_rf64 : (p : Parameters) → fit_refusal Wave p ≡ None → is_adpcm p.codec ≡ false → fit_refusal Rf64 p ≡ None
fits_rf64 p fits fixed = codec_fits p.channels p.rate p.codec fits fixed

-- ---- chunks of which the first is a reservation

pub record HasLead (p : Parameters) (chunks : List Chunk) : Type 0 where
  pub lead : Chunk
  pub others : List Chunk
  pub are : chunks ≡ lead ∷ others
  pub is : is_reserve p lead ≡ true

lead_in : (p : Parameters) (chunks : List Chunk) → is_some (reserve_of p chunks) ≡ true → HasLead p chunks
lead_in p [] some = absurd (cc)
lead_in p (chunk ∷ chunks) some = elim (cases_Bool (is_reserve p chunk)) [
  | inl is ↦ record { lead = chunk; others = chunks; are = refl; is = is }
  | inr other ↦ absurd (let none = rw other at some in cc)
]

reserve_is : (p : Parameters) (lead : Chunk) (others : List Chunk) → is_reserve p lead ≡ true → reserve_of p (lead ∷ others) ≡ Some lead.len
reserve_is p lead others is = rw is refl

-- it is named, has 28 bytes or more, and the samples have a fixed size
pub record IsLead (p : Parameters) (lead : Chunk) : Type 0 where
  pub fixed : is_adpcm p.codec ≡ false
  pub at : lead.at ≡ 20
  pub id : lead.id.0 ≡ codes "JUNK"
  pub least : 28 ≤ lead.len

pub lead_is : (p : Parameters) (lead : Chunk) → is_reserve p lead ≡ true → IsLead p lead
lead_is p lead is =
    let long = and_parts (not (is_adpcm p.codec) && (lead.at == 20) && has_id (codes "JUNK") lead) (nat_le 28 lead.len) is in
    let named = and_parts (not (is_adpcm p.codec) && (lead.at == 20)) (has_id (codes "JUNK") lead) long.0 in
    let first = and_parts (not (is_adpcm p.codec)) (lead.at == 20) named.0 in
    record {
      fixed = not-true (is_adpcm p.codec) first.0;
      at = eqb-true lead.at 20 first.1;
      id = (bytes_eq-Decides lead.id.0 (codes "JUNK")).0 named.1;
      least = leb-true 28 lead.len long.1;
    }

-- such a chunk is neither a format nor a piece
pub not_format : (lead : Chunk) (others : List Chunk) (found : Option Chunk) → lead.id.0 ≡ codes "JUNK" → find (has_id (codes "fmt ")) (lead ∷ others) ≡ found → find (has_id (codes "fmt ")) others ≡ found
not_format lead others found id is =
    let other : has_id (codes "fmt ") lead ≡ false = ap (λ (l : List ℕ). bytes_eq l (codes "fmt ")) id in
    rw other at is

pub not_piece : (lead : Chunk) (others : List Chunk) → lead.id.0 ≡ codes "JUNK" → pieces_of false (lead ∷ others) ≡ pieces_of false others
not_piece lead others id =
    let own : is_own lead ≡ true = rw id refl in
    rw own refl

-- ---- the walk

pub opens_wave : (b : List ℕ) (h : Shape) → wave_layout b ≡ Ok h → OpensBy (wave_shape b (wave_front b)) b (wave_front b) h
unfolding wave_layout
opens_wave b h is = opens_by (wave_shape b (wave_front b)) b (wave_front b) h is

pub reached : (b : List ℕ) (sound : Chunk) → (wave_front b).ending ≡ AtSound sound → Reaches (chunk_at Little b) (codes "data") (length b) 257 12 (wave_front b).chunks sound
unfolding wave_front
reached b sound ends = reaches (chunk_at Little b) (codes "data") (length b) 257 12 (wave_front b) sound refl ends

-- ---- the parts

-- of what a file with a reservation is made
pub record Reserved (b : List ℕ) (h : Shape) : Type 0 where
  pub format : Chunk
  pub sound : Chunk
  pub lead : Chunk
  pub others : List Chunk
  pub last : ℕ
  pub chunks_are : (wave_front b).chunks ≡ lead ∷ others
  pub no_refusal : front_refusal (wave_front b) ≡ None
  pub sound_is : (wave_front b).ending ≡ AtSound sound
  pub format_is : format_chunk (lead ∷ others) ≡ Some format
  pub params_are : format_of (body_of b format) ≡ Ok h.params
  pub lead_has : IsLead h.params lead
  pub stands : IsHead Little b 12 lead
  pub chain : IsChain (chunk_at Little b) (codes "data") (length b) lead.next others last
  pub at_sound : IsHead Little b last sound
  pub is_there : chunk_at Little b last ≡ Some sound
  pub is_sound : bytes_eq sound.id.0 (codes "data") ≡ true
  pub few : length others < 256
  pub start : h.start ≡ sound.at
  pub size : h.reserve ≡ Some lead.len
  pub pieces : h.pieces ≡ pieces_of false others
  pub early : 56 ≤ h.start
  pub lies : LiesIn b h
  pub wave_fits : fit_refusal Wave h.params ≡ None
  pub fits : fit_refusal Rf64 h.params ≡ None

-- where a file does not go on behind its data, its pieces are those of the chunks before them
free_pieces : (b : List ℕ) (f : Front) (p : Parameters) (sound : Chunk) → (wave_shape b f p sound).trailing ≡ false → (wave_shape b f p sound).pieces ≡ pieces_of false f.chunks
free_pieces b f p sound free =
    let ends : outer_end b ≤ data_end b sound = ltb-false (data_end b sound) (outer_end b) free in
    let none : wave_tail b f sound ≡ [] = no_tail Little b (outer_end b) (256 - length f.chunks) (data_end b sound) ends in
    ap (λ (l : List Chunk). pieces_of false f.chunks ++ pieces_of true l) none ∙ append-nil (pieces_of false f.chunks)

pub reserved_parts : (b : List ℕ) (h : Shape) (n : ℕ) → MayPromote b h n → Reserved b h
reserved_parts b h n may =
    let from : OpensBy (wave_shape b (wave_front b)) b (wave_front b) h = opens_wave b h may.says in
    let params : h.params ≡ from.params = ap (λ (s : Shape). s.params) from.shape in
    let found : HasLead from.params (wave_front b).chunks = lead_in from.params (wave_front b).chunks (ap (λ (s : Shape). is_some s.reserve) (sym from.shape) ∙ may.reserved) in
    let is_too : is_reserve h.params found.lead ≡ true = subst (λ (p : Parameters). is_reserve p found.lead ≡ true) (sym params) found.is in
    let lead : IsLead h.params found.lead = lead_is h.params found.lead is_too in
    let reach = reached b from.sound from.sound_is in
    let chain : IsChain (chunk_at Little b) (codes "data") (length b) 12 (found.lead ∷ found.others) reach.last = subst (λ (l : List Chunk). IsChain (chunk_at Little b) (codes "data") (length b) 12 l reach.last) found.are reach.chain in
    let lies : LiesIn b h = keeps_laws.lies b h may.bytes may.says in
    let fits : fit_refusal Wave h.params ≡ None = ap (λ (k : Kind). fit_refusal k h.params) (sym (ap (λ (s : Shape). s.kind) from.shape)) ∙ lies.rule.fits in
    let stands : IsHead Little b 12 found.lead = is_head Little b 12 found.lead chain.0.at in
    let at_sound : IsHead Little b reach.last from.sound = is_head Little b reach.last from.sound reach.at in
    record {
      format = from.format;
      sound = from.sound;
      lead = found.lead;
      others = found.others;
      last = reach.last;
      chunks_are = found.are;
      no_refusal = from.no_refusal;
      sound_is = from.sound_is;
      format_is = ap format_chunk (sym found.are) ∙ from.format_is;
      params_are = from.params_are ∙ ap (λ (p : Parameters). Ok p) (sym params);
      lead_has = lead;
      stands = stands;
      chain = chain.1;
      at_sound = at_sound;
      is_there = reach.at;
      is_sound = reach.is;
      few = omega (arith, reach.few, ap length found.are);
      start = ap (λ (s : Shape). s.start) from.shape;
      size = ap (λ (s : Shape). s.reserve) from.shape ∙ ap (reserve_of from.params) found.are ∙ reserve_is from.params found.lead found.others found.is;
      pieces = ap (λ (s : Shape). s.pieces) from.shape ∙ free_pieces b (wave_front b) from.params from.sound (ap (λ (s : Shape). s.trailing) (sym from.shape) ∙ may.free) ∙ ap (pieces_of false) found.are
          ∙ not_piece found.lead found.others lead.id;
      early = omega (arith, ap (λ (s : Shape). s.start) from.shape, stands.at, stands.next, at_sound.at, lead.least, (in_order Little b (codes "data") (length b) found.lead.next reach.last found.others chain.1).0);
      lies = lies;
      wave_fits = fits;
      fits = fits_rf64 h.params fits lead.fixed;
    }

-- ---- where it stands

part_stands : (k : ℕ) (b v : List ℕ) (p : ℕ) → k ≡ length v → take k (drop p b) ≡ v → HasAt b p v
part_stands k b v p long is = λ j lt. sym (get_or-drop p b j 0) ∙ sym (get_or-take k (drop p b) j 0 (omega (arith, long, lt))) ∙ ap (λ (l : List ℕ). get_or l j 0) is

number_stands : (b : List ℕ) (p n : ℕ) → All IsByte b → p + 4 ≤ length b → number Little b p 4 ≡ n → HasAt b p (bytes_of Little 4 n)
number_stands b p n bytes within is =
    let part : take 4 (drop p b) ≡ bytes_of Little 4 n = sym (bytes_of_number Little b p 4 within bytes) ∙ ap (bytes_of Little 4) is in
    part_stands 4 b (bytes_of Little 4 n) p (sym (length-bytes_of Little 4 n)) part

joined : (b x y : List ℕ) (p q : ℕ) → q ≡ p + length x → HasAt b p x → HasAt b q y → HasAt b p (x ++ y)
joined b x y p q at one two = λ j lt. elim (cases_lt j (length x)) [
  | inl before ↦ one j before ∙ sym (get_or_append_left x y 0 j before)
  | inr behind ↦
      let rest : j ≡ length x + (j - length x) = omega (arith, behind) in
      let place : p + j ≡ q + (j - length x) = omega (arith, at, behind) in
      ap (λ i. get_or b i 0) place ∙ two (j - length x) (omega (arith, lt, behind, length-append x y)) ∙ sym (get_or-append-add x y (j - length x) 0) ∙ ap (λ i. get_or (x ++ y) i 0) (sym rest)
]

pub reservation_stands : ReservationStands
reservation_stands b h n size may is =
    let was : Reserved b h = reserved_parts b h n may in
    let size_is : size ≡ was.lead.len = let both : Some size ≡ Some was.lead.len = sym is ∙ was.size in cc in
    let ordered = in_order Little b (codes "data") (length b) was.lead.next was.last was.others was.chain in
    let id : HasAt b 12 (codes "JUNK") = part_stands 4 b (codes "JUNK") 12 refl (sym was.stands.id ∙ was.lead_has.id) in
    let number : HasAt b 16 (bytes_of Little 4 size) = number_stands b 16 size may.bytes (omega (arith, was.stands.within)) (sym was.stands.len ∙ sym size_is) in (
      joined b (codes "JUNK") (bytes_of Little 4 size) 12 16 refl id number,
      omega (arith, size_is, was.lead_has.least),
      omega (arith, size_is, was.stands.at, was.stands.next, ordered.0, was.start, was.at_sound.at),
    )
