-- Late chunks read back in files of every kind, since they do in each.
use Rattle.std.proofs.Common.{◌≡◌, ◌∙◌, ap, sym, subst, refl, inl, ℕ, ◌≤◌, List, Option, None, Some, Ok, length, take, arith}
use Rattle.snd_chunks.specs.Heads.{Heads}
use Rattle.snd_chunks.specs.Late.{EndsLate, LateReadsBack, late_from}
use Rattle.snd_chunks.specs.Written.{NewChunk}
use Rattle.snd_layout.specs.Container.{closed_end, counted_shape}
use Rattle.snd_layout.specs.Params.{Parameters}
use Rattle.snd_layout.specs.Shape.{Shape}
use Rattle.snd_layout.specs.declared.kind.Kind.{Kind}
use Rattle.snd_layout.specs.declared.kind.Kind.TheVariants.{Wave, Rf64, W64, Au, Dns, Voc, Svx, Sphere}
use Rattle.snd_container.proofs.EveryKind.{laws_of}
use Rattle.snd_container.proofs.Marks.{SameMarks, kind_of_marks, recognised_too}
use Rattle.snd_container.proofs.OfKinds.{layout_by_kind}
use Rattle.snd_container.specs.Kinds.{container_of}
use Rattle.snd_container.specs.Late.{LateChunksReadBack}
use Rattle.snd_container.specs.Recognised.{recognised}
use Rattle.snd_container.specs.Values.{any}
use Rattle.snd_rf64.proofs.Public as rf64
use Rattle.snd_rf64.specs.Put.{rf64_heads}
use Rattle.snd_rf64.specs.Written as rf64_written
use Rattle.snd_svx.proofs.Public as svx
use Rattle.snd_svx.specs.Put.{svx_heads}
use Rattle.snd_svx.specs.Written as svx_written
use Rattle.snd_wave.proofs.Public as wave
use Rattle.snd_wave.specs.Put.{reserved_heads}
use Rattle.snd_wave.specs.Written.{MayBePiece, reserved_head, reserved_shape, riff_head}

-- heads of a kind, which are known as such, and read back
record AreKnown (kind : Kind) (heads : Heads) : Type 0 where
  says : (p : Parameters) (pieces : List NewChunk) → (heads.shape p pieces).kind ≡ kind
  found : (p : Parameters) (pieces : List NewChunk) → recognised (take 40 (heads.head p pieces)) ≡ Ok kind
  told : (p : Parameters) (pieces : List NewChunk) → heads.may p pieces → (container_of kind).layout (heads.head p pieces) ≡ Ok (heads.shape p pieces)

module _ (kind : Kind) (heads : Heads) (are : AreKnown kind heads) (may : NewChunk → Type 0) (late : LateReadsBack may (container_of kind) heads) where
  by_kind : LateReadsBack may (any kind) heads
  by_kind p pieces n l x may_be is =
      let h : Shape = heads.shape p pieces in
      let file : List ℕ = heads.head p pieces in
      let own : EndsLate (container_of h.kind) file h n l x = record { head = is.head; inner = is.inner; outer = is.outer; behind = is.behind; long = is.long } in
      let of_it : EndsLate (container_of kind) file h n l x = subst (λ (k : Kind). EndsLate (container_of k) file h n l x) (are.says p pieces) own in
      let within : h.start ≤ length x = omega (arith, is.long) in
      let marks : SameMarks kind x file = λ i mark.
      let place = ((laws_of kind).marks file h (are.told p pieces may_be.made)).marks i mark in
      (inl (omega (arith, place.0, within)), is.head i place.0 place.1) in
      layout_by_kind x (Ok kind) (recognised_too kind x file marks (are.found p pieces)) ∙ late p pieces n l x may_be of_it
      ∙ ap (λ (k : Kind). Ok (late_from (closed_end (container_of k) (counted_shape h n) n) (counted_shape h n) l)) (sym (are.says p pieces))

-- ---- each kind

wave_says : (r : Option ℕ) (p : Parameters) (pieces : List NewChunk) → (reserved_shape r p pieces 0).kind ≡ Wave
unfolding reserved_shape
wave_says r p pieces = refl

wave_found : (r : Option ℕ) (p : Parameters) (pieces : List NewChunk) → recognised (take 40 (reserved_head r p pieces 0)) ≡ Ok Wave
unfolding reserved_head riff_head
wave_found r p pieces = kind_of_marks Wave (take 40 (reserved_head r p pieces 0)) refl

wave_known : (r : Option ℕ) → AreKnown Wave (reserved_heads r)
wave_known r = record { says = wave_says r; found = wave_found r; told = wave.reserved_head_reads_back r }

rf64_says : (p : Parameters) (pieces : List NewChunk) → (rf64_written.made_shape p pieces).kind ≡ Rf64
unfolding rf64_written.made_shape
rf64_says p pieces = refl

rf64_found : (p : Parameters) (pieces : List NewChunk) → recognised (take 40 (rf64_written.rf64_head p pieces)) ≡ Ok Rf64
unfolding rf64_written.rf64_head rf64_written.top
rf64_found p pieces = kind_of_marks Rf64 (take 40 (rf64_written.rf64_head p pieces)) refl

rf64_known : AreKnown Rf64 rf64_heads
rf64_known = record { says = rf64_says; found = rf64_found; told = rf64.heads_read_back }

svx_says : (p : Parameters) (pieces : List NewChunk) → (svx_written.made_shape p pieces 0).kind ≡ Svx
unfolding svx_written.made_shape
svx_says p pieces = refl

svx_found : (p : Parameters) (pieces : List NewChunk) → recognised (take 40 (svx_written.svx_head p pieces)) ≡ Ok Svx
unfolding svx_written.head_for
svx_found p pieces = kind_of_marks Svx (take 40 (svx_written.svx_head p pieces)) refl

svx_known : AreKnown Svx svx_heads
svx_known = record { says = svx_says; found = svx_found; told = svx.heads_read_back }

-- ---- all of them

in_wave : (r : Option ℕ) → LateReadsBack MayBePiece (any Wave) (reserved_heads r)
in_wave r = by_kind Wave (reserved_heads r) (wave_known r) MayBePiece (wave.late_reads_back r)

in_rf64 : LateReadsBack MayBePiece (any Rf64) rf64_heads
in_rf64 = by_kind Rf64 rf64_heads rf64_known MayBePiece rf64.late_reads_back

in_svx : LateReadsBack svx_written.MayBePiece (any Svx) svx_heads
in_svx = by_kind Svx svx_heads svx_known svx_written.MayBePiece svx.late_reads_back

pub late_chunks_read_back : LateChunksReadBack
late_chunks_read_back None Wave holds = in_wave None
late_chunks_read_back None Rf64 holds = in_rf64
late_chunks_read_back None Svx holds = in_svx
late_chunks_read_back None W64 holds = absurd (cc)
late_chunks_read_back None Au holds = absurd (cc)
late_chunks_read_back None Dns holds = absurd (cc)
late_chunks_read_back None Voc holds = absurd (cc)
late_chunks_read_back None Sphere holds = absurd (cc)
late_chunks_read_back (Some len) Wave holds = in_wave (Some len)
late_chunks_read_back (Some len) Rf64 holds = in_rf64
late_chunks_read_back (Some len) Svx holds = in_svx
late_chunks_read_back (Some len) W64 holds = absurd (cc)
late_chunks_read_back (Some len) Au holds = absurd (cc)
late_chunks_read_back (Some len) Dns holds = absurd (cc)
late_chunks_read_back (Some len) Voc holds = absurd (cc)
late_chunks_read_back (Some len) Sphere holds = absurd (cc)
