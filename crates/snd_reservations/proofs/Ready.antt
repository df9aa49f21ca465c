-- What holds of an edited file that may be promoted.
use Rattle.std.proofs.Common.{◌≡◌, ◌∙◌, ⊎_elim, ap, sym, subst, ℕ, ◌-◌, ◌≤◌, Bool, false, true, List, All, Option, None, Some, Ok, length, arith}
use Rattle.std.specs.Prelude.{IfSome, is_some}
use Rattle.snd_container.specs.Laws.{FileSays}
use Rattle.snd_container.specs.Sound.{layout_of}
use Rattle.snd_disk.specs.Bytes.{over}
use Rattle.snd_fields.specs.Laws.{IsByte}
use Rattle.snd_layout.specs.Blocks.{is_adpcm}
use Rattle.snd_layout.specs.Container.{LiesIn}
use Rattle.snd_layout.specs.Shape.{IsReserve, Shape, end}
use Rattle.snd_layout.specs.declared.codec.Codec.{Codec}
use Rattle.snd_layout.specs.declared.kind.Kind.{Kind}
use Rattle.snd_layout.specs.declared.kind.Kind.TheVariants.{Voc, Wave}
use Rattle.snd_patch.specs.Sealed.{counted, sealed}
use Rattle.snd_promote.proofs.Public.{IsInside, front_counted, new_front_bytes, new_size_bytes, pieces_inside, promoted_opens, wave_is_told}
use Rattle.snd_ds64.specs.Promoted.{MayPromote, new_front, new_size, promoted_shape}
use Rattle.snd_edits.proofs.AreBytes.{bytes_over, leads_to_bytes}
use Rattle.snd_edits.proofs.Public.{lies_in, sealed_keeps_file, sealed_told}
use Rattle.snd_edits.specs.Editing.{Editing}
use Rattle.snd_edits.specs.Edits.{sealed_to}
use Rattle.snd_edits.specs.Laws.{IsEdited, KeepsFile, seals}
use Rattle.snd_reservations.specs.States.{MayTurn, promoted_to}

-- a layout with a reservation is one of a WAVE file, and its data begin behind the reservation
pub record HasLead (kind : Kind) (codec : Codec) (start : ℕ) : Type 0 where
  pub wave : kind ≡ Wave
  pub fixed : is_adpcm codec ≡ false
  pub early : 56 ≤ start

has_lead : (o : Option ℕ) (kind : Kind) (codec : Codec) (start : ℕ) → IfSome o (IsReserve kind codec start) → is_some o ≡ true → HasLead kind codec start
has_lead None kind codec start is some = absurd (cc)
has_lead (Some len) kind codec start is some = record { wave = is.is_wave; fixed = is.fixed; early = omega (arith, is.least, is.before) }

-- a WAVE file says one layout
pub told_plainly : (b : List ℕ) (g : Shape) → FileSays b g → g.kind ≡ Wave → layout_of b ≡ Ok g
told_plainly b g says wave =
    let same : says.goes_on ≡ g.trailing = ⊎_elim (λ voc. absurd (let no : ◌≡◌ {A = Kind} Wave Voc = sym wave ∙ voc in cc)) (λ same. same) says.same in
    says.told ∙ ap (λ (t : Bool). Ok (record g { trailing = t })) same

module _ (file : List ℕ) (e : Editing) (ed : IsEdited file e) (may : MayTurn e.shape) where
  abbrev h : Shape
  h = e.shape

  abbrev n : ℕ
  n = e.shape.frames

  -- the sealed file
  abbrev s : List ℕ
  s = sealed e.bytes e.shape e.shape.frames

  abbrev of : KeepsFile file e
  of = ed.keeps

  pub lead : HasLead h.kind h.params.codec h.start
  lead = has_lead h.reserve h.kind h.params.codec h.start of.rule.reserved may.reserved

  pub sealed_is_told : layout_of s ≡ Ok (counted h n)
  sealed_is_told = told_plainly s (counted h n) (sealed_told file e of) lead.wave

  pub sealed_there : end h n ≤ length s
  sealed_there = (sealed_keeps_file file e of).holds.held

  -- where its further chunks stand
  head_may : MayPromote file of.head of.head.frames
  head_may =
      let lies : LiesIn file of.head = lies_in file of.head of.bytes of.opened in
      let wave : of.head.kind ≡ Wave = sym (ap (λ (g : Shape). g.kind) of.shape) ∙ lead.wave in
      record {
        says = wave_is_told file of.head (told_plainly file of.head of.opened wave) wave;
        bytes = of.bytes;
        reserved = sym (ap (λ (g : Shape). is_some g.reserve) of.shape) ∙ may.reserved;
        free = sym (ap (λ (g : Shape). g.trailing) of.shape) ∙ may.free;
        there = lies.held;
        on_disk = lies.rule.data_end;
      }

  pub inside : All (IsInside h.start) h.pieces
  inside = subst (λ (g : Shape). All (IsInside g.start) g.pieces) (sym of.shape) (pieces_inside file of.head of.head.frames head_may)

  -- of bytes
  module _ (are : All IsByte e.bytes) where
    pub sealed_bytes : All IsByte s
    sealed_bytes = leads_to_bytes e (sealed_to e) are seals

    pub promotable : MayPromote s (counted h n) n
    promotable = record {
      says = wave_is_told s (counted h n) sealed_is_told lead.wave;
      bytes = sealed_bytes;
      reserved = may.reserved;
      free = may.free;
      there = sealed_there;
      on_disk = of.rule.data_end;
    }

    pub promoted_are_bytes : All IsByte (promoted_to e).bytes
    promoted_are_bytes = bytes_over (over s 0 (new_front h n)) (h.start - 4) new_size (bytes_over s 0 (new_front h n) sealed_bytes (new_front_bytes h n)) new_size_bytes

    -- what the promoted file says: the first bytes hang neither on the frames that the head declared nor on their number
    pub promoted_told : layout_of (promoted_to e).bytes ≡ Ok (promoted_shape h n)
    promoted_told =
        subst (λ (f : List ℕ). layout_of (over (over s 0 f) (h.start - 4) new_size) ≡ Ok (promoted_shape h n)) (front_counted h n n) (promoted_opens s (counted h n) n promotable)
