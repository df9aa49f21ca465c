-- Where calls leave a file at rest: it says what its state knows, and its size is that of its frames.
use Rattle.std.proofs.Common.{◌≡◌, ◌∙◌, ap, sym, subst, refl, inl, inr, ℕ, ◌+◌, ◌/◌, ◌^◌, ◌<◌, ◌≤◌, ℤ, Bool, true, false, cond, List, All, Option, None, Some, length, get_or, max, arith}
use Rattle.std.proofs.lemmas.Bool.{cases_Bool, cond_both, ltb-true}
use Rattle.std.specs.Prelude.{IfSome, IsTrue, is_none, nat_lt}
use Rattle.snd_container.proofs.Public as every
use Rattle.snd_container.specs.Laws.{FileSays}
use Rattle.snd_container.proofs.Public.{outer_value_fits}
use Rattle.snd_container.specs.Values.{closed_end, outer_value}
use Rattle.snd_fields.specs.Laws.{IsByte}
use Rattle.snd_layout.specs.Shape.{KeepsRule, Shape, end, is_outer_size}
use Rattle.snd_layout.specs.declared.field.Field.{Field}
use Rattle.snd_layout.specs.declared.kind.Kind.{Kind}
use Rattle.snd_layout.specs.declared.kind.Kind.TheVariants.{Voc}
use Rattle.snd_patch.proofs.Public.{order_is_free, sealed_length, shrunk_length}
use Rattle.snd_patch.specs.Images.{AllLieApart, HasNew, IsCutting}
use Rattle.snd_patch.specs.Sealed.{closed, counted, sealed, sealed_size, shrunk, with_fewer}
use Rattle.snd_edits.specs.Editing.{Editing}
use Rattle.snd_edits.specs.Edits.{automatic_to, closed_behind, count_written, cut_off, cut_to, over_data, sealed_to, trimmed, trimmed_to, truncated_to, written_to}
use Rattle.snd_edits.specs.Laws.{IsEdited, KeepsFile, MayTruncate, reads, seals, seeks, seeks_to_write, sets_automatic, trims, truncates, writes}
use Rattle.snd_edits.specs.SafeLaws.{AutomaticRests, CutRests, LeadsToRest, Rests, SealedRests, TrimmedIsSafe, TrimmedRests, WrittenRests}
use Rattle.snd_edits.specs.WriteCalls.{MayWrite, is_whole_field}
use Rattle.snd_edits.proofs.AreBytes.{bytes_off, bytes_sealed, bytes_shrunk, bytes_written}
use Rattle.snd_edits.proofs.EditedFiles.{counted_stays, head_linear, is_known, is_linear, longer_closed, off_before, off_length, room_ends, sealed_is, sealed_keeps_file, sealed_same, sealed_told, shrunk_says, trimmed_says}
use Rattle.snd_edits.proofs.EditedFrames.{closed_counted}
use Rattle.snd_edits.proofs.EditedSteps.{cut_says, few_declared, may_cut, shut_there, then, then_edited, trimmed_voice}
use Rattle.snd_edits.proofs.CutFrames.{closed_free, may_count_fewer}
use Rattle.snd_edits.proofs.ImageFields.{fewer_outer, fields_lie_apart, new_before}
use Rattle.snd_edits.proofs.Rooms.{room_by}
use Rattle.snd_edits.proofs.SafeImages.{safe_across}
use Rattle.snd_edits.proofs.SafeSeals.{tail_safe, voice_cut_safe}
use Rattle.snd_edits.proofs.SealedFrames.{sealed_declared}

-- a field that is missing has any value
if_none : (x v : List ℕ) (field : Option Field) → is_none field ≡ true → IfSome field (HasNew v x)
if_none x v None none = tt
if_none x v (Some field) none = absurd (cc)

-- the fields of an edited file have no byte in common
pub fields_apart : (file : List ℕ) (e : Editing) → KeepsFile file e → AllLieApart e.shape
fields_apart file e of = subst AllLieApart (sym of.shape) (fields_lie_apart file of.head e.shape.frames e.shape.declared of.opened)

-- ---- a file that ends with what closes its data

-- as a state holds it with such bytes and so many frames
abbrev pub holding : Editing → List ℕ → Shape → ℕ → Editing
holding g x h n = record g { bytes = x; shape = counted h n }

module _ (g : Editing) (x : List ℕ) (h : Shape) (n : ℕ) (free : h.trailing ≡ false) (bytes : All IsByte x) (told : FileSays x (counted h n)) (whole : is_whole_field h ≡ true)
    (outer : IfSome h.outer (HasNew (outer_value h n) x)) (closes : closed_end h n ≤ length x) where
  there : h.start + (counted h n).declared ≤ length x
  there = omega (arith, sealed_declared h n free, closes)

  pub rests_free : Rests (holding g x h n)
  rests_free = (
    record { bytes = bytes; told = told; there = λ still. inl there; whole = whole },
    λ still. record {
      outer = subst (λ (v : List ℕ). IfSome h.outer (HasNew v x)) (sym (every.free h n (counted h n).declared h.trailing n).outer) outer;
      declared = inl (sealed_declared h n free);
      closed = omega (arith, closed_counted h n, closes);
    },
  )

module _ (g : Editing) (x : List ℕ) (h : Shape) (n : ℕ) (goes_on : h.trailing ≡ true) (bytes : All IsByte x) (told : FileSays x (counted h n)) (whole : is_whole_field h ≡ true) where
  rests_trailing : Rests (holding g x h n)
  rests_trailing = (
    record { bytes = bytes; told = told; there = λ free. absurd (cc); whole = whole },
    λ free. absurd (cc),
  )

-- the size of the whole in a file that is sealed
module _ (b : List ℕ) (h : Shape) (n : ℕ) (rule : KeepsRule h) (apart : AllLieApart h) (free : h.trailing ≡ false) (held : end h n ≤ length b) where
  pub sealed_outer : IfSome h.outer (HasNew (outer_value h n) (sealed b h n))
  sealed_outer =
      let c = closed b h n in
      let begins : h.start ≤ length c = omega (arith, held, longer_closed b h n) in
      let is : sealed b h n ≡ with_fewer c h n = sealed_is b h n rule apart.inner free begins ∙ sym (order_is_free c h n rule apart.inner begins) in
      subst (λ (l : List ℕ). IfSome h.outer (HasNew (outer_value h n) l)) (sym is) (fewer_outer c h n rule apart begins)

  pub sealed_closes : closed_end h n ≤ length (sealed b h n)
  sealed_closes =
      let size : sealed_size (length b) h n ≡ max (length b) (closed_end h n) = ap (λ (t : Bool). cond t (length b) (max (length b) (closed_end h n))) free in
      omega (arith, sealed_length b h n rule held, size)

-- any state that holds a sealed file
sealed_holds_at : (g : Editing) (b : List ℕ) (h : Shape) (n : ℕ) → KeepsRule h → AllLieApart h → end h n ≤ length b → All IsByte b
    → FileSays (sealed b h n) (counted h n) → is_whole_field h ≡ true → Rests (holding g (sealed b h n) h n)
sealed_holds_at g b h n rule apart held are told whole = elim (cases_Bool h.trailing) [
  | inl goes_on ↦ rests_trailing g (sealed b h n) h n goes_on (bytes_sealed h n b are) told whole
  | inr free ↦ rests_free g (sealed b h n) h n free (bytes_sealed h n b are) told whole (sealed_outer b h n rule apart free held) (sealed_closes b h n rule apart free held)
]

pub automatic_rests : (file : List ℕ) (e : Editing) → KeepsFile file e → All IsByte e.bytes → is_whole_field e.shape ≡ true → (on : Bool) → Rests (automatic_to on e)
automatic_rests file e of are whole on =
    sealed_holds_at (automatic_to on e) e.bytes e.shape e.shape.frames of.rule (fields_apart file e of) of.holds.held are (sealed_told file e of) whole

module _ (file : List ℕ) (e : Editing) (ed : IsEdited file e) (are : All IsByte e.bytes) (whole : is_whole_field e.shape ≡ true) where
  abbrev h : Shape
  h = e.shape

  cut_rests : (to : ℕ) → to < h.frames → h.trailing ≡ false → Rests (cut_to to e)
  cut_rests to fewer free =
      let apart = fields_apart file e ed.keeps in
      let may = may_cut file e ed to fewer in
      let ends : end h to + 8 ≤ 2 ^ 63 = (may_count_fewer h to ed.keeps.rule (is_linear file e ed) (is_known file e ed.keeps) (room_ends file e ed.keeps) (omega (arith, fewer))).1 in
      let size : length (shrunk e.bytes h to) ≡ closed_end h to = shrunk_length e.bytes h to ed.keeps.rule may.0 in
      let early : (i : ℕ) → i < h.start → get_or (shrunk e.bytes h to) i 0 ≡ get_or (with_fewer e.bytes h to) i 0 = λ i lt. off_before (with_fewer e.bytes h to) h to i lt in
      rests_free (cut_to to e) (shrunk e.bytes h to) h to free (bytes_shrunk h to e.bytes are)
      (shrunk_says file ed.keeps.head ed.keeps.bytes ed.keeps.opened ed.keeps.joined ed.keeps.known h ed.keeps.shape ed.keeps.rule free to
      (room_by ed.keeps.head to (head_linear file e ed) may.1 (subst (λ (s : Shape). end s to + 8 ≤ 2 ^ 63) ed.keeps.shape ends)) ends e.bytes ed.keeps.kept may.0) whole
      (new_before h.outer (outer_value h to) h.start (shrunk e.bytes h to) (with_fewer e.bytes h to) (outer_value_fits h to ed.keeps.rule) ed.keeps.rule.outer_end early
      (fewer_outer e.bytes h to ed.keeps.rule apart (omega (arith, may.0))))
      (omega (arith, size))

  pub truncated_rests : (to : ℕ) → MayTruncate to h → Rests (truncated_to to e)
  truncated_rests to may =
      cond_both (nat_lt to h.frames) (cut_to to e) (sealed_to e) Rests
      (λ is. let fewer = ltb-true to h.frames is in cut_rests to fewer (may.free fewer))
      (λ other. automatic_rests file e ed.keeps are whole e.automatic)

  trimmed_free : h.trailing ≡ false → Rests (holding e (trimmed e.bytes h h.frames) h h.frames)
  trimmed_free free =
      let n = h.frames in
      let put = sealed e.bytes h n in
      let early : (i : ℕ) → i < h.start → get_or (cut_off put h n) i 0 ≡ get_or put i 0 = λ i lt. off_before put h n i lt in
      rests_free e (trimmed e.bytes h n) h n free (bytes_off h n put (bytes_sealed h n e.bytes are))
      (trimmed_says file ed.keeps.head ed.keeps.bytes ed.keeps.opened ed.keeps.joined ed.keeps.known h ed.keeps.shape ed.keeps.rule free n ed.keeps.room ed.keeps.rule.data_end e.bytes ed.keeps.kept ed.keeps.holds.held) whole
      (new_before h.outer (outer_value h n) h.start (cut_off put h n) put (outer_value_fits h n ed.keeps.rule) ed.keeps.rule.outer_end early
      (sealed_outer e.bytes h n ed.keeps.rule (fields_apart file e ed.keeps) free ed.keeps.holds.held))
      (omega (arith, off_length put h n))

  trimmed_voice_rests : h.trailing ≡ true → h.kind ≡ Voc → Rests (trimmed_to e)
  trimmed_voice_rests goes_on voc =
      let few = few_declared file e ed goes_on voc in
      let none : is_none h.outer ≡ true = subst (λ (k : Kind). IsTrue (is_outer_size k h.outer)) voc ed.keeps.rule.outer_size in
      let size = off_length e.bytes h h.frames in
      subst Rests (trimmed_voice file e ed goes_on voc) (
        record { bytes = bytes_off h h.frames e.bytes are; told = cut_says file e ed goes_on voc; there = λ free. inr (voc, few); whole = whole },
        λ free. record { outer = if_none (cut_off e.bytes h h.frames) (outer_value (record h { trailing = false }) h.frames) h.outer none; declared = inr (voc, few); closed = omega (arith, size, closed_free h h.frames) },
      )

  pub trimmed_rests : (h.trailing ≡ true → h.kind ≡ Voc) → Rests (trimmed_to e)
  trimmed_rests may = elim (cases_Bool h.trailing) [
    | inl goes_on ↦ trimmed_voice_rests goes_on (may goes_on)
    | inr free ↦
        subst (λ (s : Shape). Rests (record e { bytes = trimmed e.bytes h h.frames; shape = s })) (ap (λ (t : Bool). record (counted h h.frames) { trailing = t }) free) (trimmed_free free)
  ]

  pub written_rests : (xs : List ℤ) (may : MayWrite xs h e.write_place) → e.automatic ≡ true → Rests (written_to xs e)
  written_rests xs may on =
      let n = count_written h e.write_place (length xs / h.params.channels) in
      subst (λ (t : Bool). Rests (then file e ed xs may t)) (sym on)
      (sealed_holds_at (then file e ed xs may true) (closed_behind (over_data e.bytes h e.write_place xs) h n) h n ed.keeps.rule (fields_apart file e ed.keeps) (shut_there file e ed xs may)
      (bytes_written e.bytes h e.write_place xs n are) ((then_edited file e ed xs may true).keeps.told (inl refl)) whole)

-- ---- each of them

pub sealed_rest : SealedRests
sealed_rest file e of are whole = automatic_rests file e of are whole e.automatic

pub automatic_rest : AutomaticRests
automatic_rest file e on of are whole = automatic_rests file e of are whole on

pub cut_rest : CutRests
cut_rest file e to ed are whole may = truncated_rests file e ed are whole to may

pub trimmed_rest : TrimmedRests
trimmed_rest file e ed are whole may = trimmed_rests file e ed are whole may

pub written_rest : WrittenRests
written_rest file e xs ed are whole may on = written_rests file e ed are whole xs may on

-- from a sealed file all behind its data is cut off
pub trimmed_safe : TrimmedIsSafe
trimmed_safe file e e' x ed fit may cutting = elim (cases_Bool e.shape.trailing) [
  | inl goes_on ↦
      let h = e.shape in
      let bytes : IsCutting e.bytes (counted h h.frames) h.frames x = subst (λ (b : List ℕ). IsCutting b (counted h h.frames) h.frames x) (sealed_same e.bytes h h.frames goes_on) cutting in
      voice_cut_safe file e ed.keeps fit (may goes_on, few_declared file e ed goes_on (may goes_on)) x e' (subst (λ (s : Shape). IsCutting e.bytes s h.frames x) (counted_stays h goes_on) bytes)
  | inr free ↦
      let then = sealed_keeps_file file e ed.keeps in
      let rests = automatic_rests file e ed.keeps fit.bytes fit.whole e.automatic in
      safe_across file e (sealed_to e) e' x ed.keeps then refl (tail_safe file (sealed_to e) then rests.0 free x (sealed_to e) (rests.1 free) cutting)
]

-- a state with other places
moved : (e : Editing) (place write_place : ℕ) → Rests e → Rests (record e { place = place; write_place = write_place })
moved e place write_place rests = (
  record { bytes = rests.0.bytes; told = rests.0.told; there = rests.0.there; whole = rests.0.whole },
  λ free. let sized = rests.1 free in record { outer = sized.outer; declared = sized.declared; closed = sized.closed },
)

pub leads_to_rest : LeadsToRest
leads_to_rest file e _ ed rests on (writes xs may) = written_rests file e ed rests.0.bytes rests.0.whole xs may on
leads_to_rest file e _ ed rests on seals = automatic_rests file e ed.keeps rests.0.bytes rests.0.whole e.automatic
leads_to_rest file e _ ed rests on (sets_automatic t) = automatic_rests file e ed.keeps rests.0.bytes rests.0.whole t
leads_to_rest file e _ ed rests on (truncates to may) = truncated_rests file e ed rests.0.bytes rests.0.whole to may
leads_to_rest file e _ ed rests on (trims may) = trimmed_rests file e ed rests.0.bytes rests.0.whole may
leads_to_rest file e _ ed rests on (reads n within) = moved e (e.place + n) e.write_place rests
leads_to_rest file e _ ed rests on (seeks to within) = moved e to e.write_place rests
leads_to_rest file e _ ed rests on (seeks_to_write to within) = moved e e.place to rests
