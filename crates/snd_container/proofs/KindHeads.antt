-- The heads of new files of every kind keep their laws, since those of each kind do.
use Rattle.std.proofs.Common.{◌≡◌, ◌∙◌, ap, sym, refl, ⊎_elim, ℕ, ◌≤◌, true, List, Option, None, Some, Ok, length, take, arith}
use Rattle.std.specs.List.{sum_by}
use Rattle.snd_chunks.specs.HeadLaws.{IsPieceOf, KeepsHeadLaws, KeepsPieceLaws, SaysNone, with_values_of}
use Rattle.snd_chunks.specs.Heads.{Heads}
use Rattle.snd_chunks.specs.Written.{NewChunk}
use Rattle.snd_fields.specs.declared.field.Order.{Order}
use Rattle.snd_fields.specs.declared.field.Order.TheVariants.{Little, Big}
use Rattle.snd_layout.proofs.Public.{blocks_held, is_held}
use Rattle.snd_layout.specs.Blocks.{is_adpcm}
use Rattle.snd_layout.specs.Fit.{fit_refusal}
use Rattle.snd_layout.specs.Kinds.{holds_meta, holds_pieces}
use Rattle.snd_layout.specs.Params.{Parameters}
use Rattle.snd_layout.specs.Shape.{Shape}
use Rattle.snd_layout.specs.declared.kind.Kind.{Kind}
use Rattle.snd_layout.specs.declared.piece.Piece.{Piece}
use Rattle.snd_layout.specs.declared.kind.Kind.TheVariants.{Wave, Rf64, W64, Au, Dns, Voc, Svx, Sphere}
use Rattle.snd_rf64.proofs.Public.{keeps_head_laws as rf64_laws}
use Rattle.snd_rf64.specs.Written.{made_shape as rf64_shape, rf64_head, top}
use Rattle.snd_sphere.specs.Written.{made_shape as sphere_shape}
use Rattle.snd_svx.proofs.Public.{keeps_head_laws as svx_laws}
use Rattle.snd_svx.specs.Written.{head_for as svx_head_for, svx_head}
use Rattle.snd_voc.specs.Written.{made_shape as voc_shape}
use Rattle.snd_w64.specs.Written.{made_shape as w64_shape}
use Rattle.snd_wave.proofs.Public.{keeps_head_laws as wave_laws, piece_laws as wave_piece_laws, plain_is}
use Rattle.snd_wave.specs.Written.{reserved_head, reserved_shape, riff_head, wave_head}
use Rattle.snd_wave.specs.Put.{reserved_heads}
use Rattle.snd_container.proofs.EveryKind.{known, of_kind}
use Rattle.snd_container.proofs.Marks.{kind_of_marks}
use Rattle.snd_container.specs.HeadLaws.{KeepAllHeadLaws, KeepReservedHeadLaws, OthersMayBePut, PlainWaveIsKnown}
use Rattle.snd_container.specs.Kinds.{container_of}
use Rattle.snd_container.specs.Put.{heads_for, heads_of}
use Rattle.snd_container.specs.Recognised.{recognised}
use Rattle.snd_container.specs.Sound.{layout_of}
use Rattle.snd_container.specs.Values.{any}

-- ---- each kind

w64_joined : (p : Parameters) → is_adpcm p.codec ≡ true → 12 ≤ (w64_shape p).inner.size
unfolding w64_shape
w64_joined p blocks = rw blocks (omega arith)

w64_laws : KeepsHeadLaws W64 (container_of W64) (heads_of W64)
unfolding w64_shape
w64_laws = record {
  kind_is = λ p pieces. refl;
  params_are = λ p pieces. refl;
  frames = λ p pieces. refl;
  free = λ p pieces. refl;
  joined = λ p pieces fits blocks. w64_joined p blocks;
  bare_head = λ p. refl;
  bare_shape = λ p. refl;
  reserve = λ p pieces. refl;
  may = λ holds. absurd (cc);
  pieces = λ holds. absurd (cc);
  bytes = λ holds. absurd (cc);
  bodies = λ holds. absurd (cc);
}

-- the others hold no blocks
au_joined : (p : Parameters) (pieces : List NewChunk) → fit_refusal Au p ≡ None → is_adpcm p.codec ≡ true → 12 ≤ ((heads_of Au).shape p pieces).inner.size
au_joined p pieces fits is = absurd (⊎_elim (λ wave. cc) (λ w64. cc) (blocks_held Au p.channels p.codec is (is_held Au p fits)))

dns_joined : (p : Parameters) (pieces : List NewChunk) → fit_refusal Dns p ≡ None → is_adpcm p.codec ≡ true → 12 ≤ ((heads_of Dns).shape p pieces).inner.size
dns_joined p pieces fits is = absurd (⊎_elim (λ wave. cc) (λ w64. cc) (blocks_held Dns p.channels p.codec is (is_held Dns p fits)))

voc_joined : (p : Parameters) (pieces : List NewChunk) → fit_refusal Voc p ≡ None → is_adpcm p.codec ≡ true → 12 ≤ ((heads_of Voc).shape p pieces).inner.size
voc_joined p pieces fits is = absurd (⊎_elim (λ wave. cc) (λ w64. cc) (blocks_held Voc p.channels p.codec is (is_held Voc p fits)))

sphere_joined : (p : Parameters) (pieces : List NewChunk) → fit_refusal Sphere p ≡ None → is_adpcm p.codec ≡ true → 12 ≤ ((heads_of Sphere).shape p pieces).inner.size
sphere_joined p pieces fits is = absurd (⊎_elim (λ wave. cc) (λ w64. cc) (blocks_held Sphere p.channels p.codec is (is_held Sphere p fits)))

au_laws : KeepsHeadLaws Au (container_of Au) (heads_of Au)
au_laws = record {
  kind_is = λ p pieces. refl;
  params_are = λ p pieces. refl;
  frames = λ p pieces. refl;
  free = λ p pieces. refl;
  joined = au_joined;
  bare_head = λ p. refl;
  bare_shape = λ p. refl;
  reserve = λ p pieces. refl;
  may = λ holds. absurd (cc);
  pieces = λ holds. absurd (cc);
  bytes = λ holds. absurd (cc);
  bodies = λ holds. absurd (cc);
}

dns_laws : KeepsHeadLaws Dns (container_of Dns) (heads_of Dns)
dns_laws = record {
  kind_is = λ p pieces. refl;
  params_are = λ p pieces. refl;
  frames = λ p pieces. refl;
  free = λ p pieces. refl;
  joined = dns_joined;
  bare_head = λ p. refl;
  bare_shape = λ p. refl;
  reserve = λ p pieces. refl;
  may = λ holds. absurd (cc);
  pieces = λ holds. absurd (cc);
  bytes = λ holds. absurd (cc);
  bodies = λ holds. absurd (cc);
}

voc_laws : KeepsHeadLaws Voc (container_of Voc) (heads_of Voc)
unfolding voc_shape
voc_laws = record {
  kind_is = λ p pieces. refl;
  params_are = λ p pieces. refl;
  frames = λ p pieces. refl;
  free = λ p pieces. refl;
  joined = voc_joined;
  bare_head = λ p. refl;
  bare_shape = λ p. refl;
  reserve = λ p pieces. refl;
  may = λ holds. absurd (cc);
  pieces = λ holds. absurd (cc);
  bytes = λ holds. absurd (cc);
  bodies = λ holds. absurd (cc);
}

sphere_laws : KeepsHeadLaws Sphere (container_of Sphere) (heads_of Sphere)
unfolding sphere_shape
sphere_laws = record {
  kind_is = λ p pieces. refl;
  params_are = λ p pieces. refl;
  frames = λ p pieces. refl;
  free = λ p pieces. refl;
  joined = sphere_joined;
  bare_head = λ p. refl;
  bare_shape = λ p. refl;
  reserve = λ p pieces. refl;
  may = λ holds. absurd (cc);
  pieces = λ holds. absurd (cc);
  bytes = λ holds. absurd (cc);
  bodies = λ holds. absurd (cc);
}

laws_of : (kind : Kind) → KeepsHeadLaws kind (container_of kind) (heads_of kind)
laws_of Wave = wave_laws
laws_of Rf64 = rf64_laws
laws_of W64 = w64_laws
laws_of Au = au_laws
laws_of Dns = dns_laws
laws_of Voc = voc_laws
laws_of Svx = svx_laws
laws_of Sphere = sphere_laws

-- the first bytes of a head
head_is_known : (kind : Kind) (p : Parameters) (pieces : List NewChunk) → holds_pieces kind ≡ true → recognised (take 40 ((heads_of kind).head p pieces)) ≡ Ok kind
unfolding reserved_head riff_head rf64_head top svx_head_for
head_is_known Wave p pieces holds = kind_of_marks Wave (take 40 (wave_head p pieces)) refl
head_is_known Rf64 p pieces holds = kind_of_marks Rf64 (take 40 (rf64_head p pieces)) refl
head_is_known W64 p pieces holds = absurd (cc)
head_is_known Au p pieces holds = absurd (cc)
head_is_known Dns p pieces holds = absurd (cc)
head_is_known Voc p pieces holds = absurd (cc)
head_is_known Svx p pieces holds = kind_of_marks Svx (take 40 (svx_head p pieces)) refl
head_is_known Sphere p pieces holds = absurd (cc)

reserved_is_known : (r : Option ℕ) (p : Parameters) (pieces : List NewChunk) → recognised (take 40 (reserved_head r p pieces 0)) ≡ Ok Wave
unfolding reserved_head riff_head
reserved_is_known r p pieces = kind_of_marks Wave (take 40 (reserved_head r p pieces 0)) refl

reserved_kind : (r : Option ℕ) (p : Parameters) (pieces : List NewChunk) → (reserved_shape r p pieces 0).kind ≡ Wave
unfolding reserved_shape
reserved_kind r p pieces = refl

-- ---- any kind

module _ (kind : Kind) where
  says_any : (p : Parameters) (h : Shape) (b : List ℕ) → SaysNone kind (container_of kind) p h b → SaysNone kind (any kind) p h b
  says_any p h b says = record {
    kind_is = says.kind_is;
    params_are = says.params_are;
    frames = says.frames;
    free = says.free;
    known = says.known;
    declared = says.declared;
    no_bytes = says.no_bytes;
    start = says.start;
    unclosed = ap (λ (k : Kind). (container_of k).closing h 0) says.kind_is ∙ says.unclosed;
    room_ends = says.room_ends;
    few = says.few;
    fields = λ rule. ap (λ (k : Kind). with_values_of (container_of k) b h 0) says.kind_is ∙ says.fields rule;
  }

  opens_any : (b : List ℕ) (h : Shape) → h.kind ≡ kind → recognised (take 40 b) ≡ Ok kind → (container_of kind).layout b ≡ Ok h → layout_of b ≡ Ok h
  opens_any b h is found laid = of_kind b h (found ∙ ap (λ (k : Kind). Ok k) (sym is)) (ap (λ (k : Kind). (container_of k).layout b) is ∙ laid)

  pieces_any : (heads : Heads) → ((p : Parameters) (pieces : List NewChunk) → (heads.shape p pieces).kind ≡ kind)
      → ((p : Parameters) (pieces : List NewChunk) → recognised (take 40 (heads.head p pieces)) ≡ Ok kind)
      → KeepsPieceLaws kind (container_of kind) heads → KeepsPieceLaws kind (any kind) heads
  pieces_any heads is found own = record {
    may_once = own.may_once;
    says = λ p pieces may. says_any p (heads.shape p pieces) (heads.head p pieces) (own.says p pieces may);
    opens = λ p pieces may. opens_any (heads.head p pieces) (heads.shape p pieces) (is p pieces) (found p pieces) (own.opens p pieces may);
    read = own.read;
    outlined = own.outlined;
    before = own.before;
    blank_may = own.blank_may;
    blank_shape = own.blank_shape;
    blank_size = own.blank_size;
  }

  piece_laws : holds_pieces kind ≡ true → KeepsPieceLaws kind (any kind) (heads_of kind)
  piece_laws holds = pieces_any (heads_of kind) (laws_of kind).kind_is (λ p pieces. head_is_known kind p pieces holds) ((laws_of kind).pieces holds)

  bodies_any : holds_meta kind ≡ true → (b : List ℕ) (h : Shape) → layout_of b ≡ Ok h → h.kind ≡ kind → sum_by (λ (piece : Piece). piece.len) h.pieces ≤ length b
  bodies_any holds b h laid is = (laws_of kind).bodies holds b h (ap (λ (k : Kind). (container_of k).layout b) (sym is) ∙ (known b h laid).laid) is

pub keep_all_head_laws : KeepAllHeadLaws
keep_all_head_laws kind =
    let own = laws_of kind in
    record {
      kind_is = own.kind_is;
      params_are = own.params_are;
      frames = own.frames;
      free = own.free;
      joined = own.joined;
      bare_head = own.bare_head;
      bare_shape = own.bare_shape;
      reserve = own.reserve;
      may = own.may;
      pieces = piece_laws kind;
      bytes = own.bytes;
      bodies = bodies_any kind;
    }

-- .. with a reservation too
pub keep_reserved_head_laws : KeepReservedHeadLaws
keep_reserved_head_laws None kind holds = piece_laws kind holds
keep_reserved_head_laws (Some len) Wave holds = pieces_any Wave (reserved_heads (Some len)) (reserved_kind (Some len)) (reserved_is_known (Some len)) (wave_piece_laws (Some len))
keep_reserved_head_laws (Some len) Rf64 holds = piece_laws Rf64 holds
keep_reserved_head_laws (Some len) W64 holds = absurd (cc)
keep_reserved_head_laws (Some len) Au holds = absurd (cc)
keep_reserved_head_laws (Some len) Dns holds = absurd (cc)
keep_reserved_head_laws (Some len) Voc holds = absurd (cc)
keep_reserved_head_laws (Some len) Svx holds = piece_laws Svx holds
keep_reserved_head_laws (Some len) Sphere holds = absurd (cc)

-- ---- the parameters of a head, with a reservation and without

pub params_are : (r : Option ℕ) (kind : Kind) (p : Parameters) (pieces : List NewChunk) → ((heads_for r kind).shape p pieces).params ≡ p
unfolding reserved_shape
params_are None kind p pieces = (laws_of kind).params_are p pieces
params_are (Some len) Wave p pieces = refl
params_are (Some len) Rf64 p pieces = (laws_of Rf64).params_are p pieces
params_are (Some len) W64 p pieces = (laws_of W64).params_are p pieces
params_are (Some len) Au p pieces = (laws_of Au).params_are p pieces
params_are (Some len) Dns p pieces = (laws_of Dns).params_are p pieces
params_are (Some len) Voc p pieces = (laws_of Voc).params_are p pieces
params_are (Some len) Svx p pieces = (laws_of Svx).params_are p pieces
params_are (Some len) Sphere p pieces = (laws_of Sphere).params_are p pieces

-- ---- chunks that may be put

pub others_may_be_put : OthersMayBePut
others_may_be_put Wave piece holds is = record { four = is.four; other = is.other; few = is.few }
others_may_be_put Rf64 piece holds is = record { four = is.four; other = is.other; few = is.few }
others_may_be_put W64 piece holds is = absurd (cc)
others_may_be_put Au piece holds is = absurd (cc)
others_may_be_put Dns piece holds is = absurd (cc)
others_may_be_put Voc piece holds is = absurd (cc)
others_may_be_put Svx piece holds is = record { four = is.four; other = is.other; few = is.few }
others_may_be_put Sphere piece holds is = absurd (cc)

-- ---- a plain WAVE file

pub plain_wave_is_known : PlainWaveIsKnown
plain_wave_is_known p same = plain_is p same
