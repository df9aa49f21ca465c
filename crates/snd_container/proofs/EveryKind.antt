-- The laws of layouts hold for files of every kind, since they hold for each.
use Rattle.std.proofs.Common.{◌≡◌, ◌∙◌, ap, sym, refl, inl, inr, ℕ, ◌<◌, ◌≤◌, Bool, List, All, Result, None, Ok, Err, length, take, get_or, arith}
use Rattle.snd_fields.specs.Laws.{IsByte}
use Rattle.snd_fields.specs.declared.field.Order.TheVariants.{Little, Big}
use Rattle.snd_layout.specs.Container.{AreBytes, ClosesNear, EndsAreInOrder, FieldsApart, FillsFields, FitsFields, IsNew, KeepsHead, KeepsLaws, LiesIn, MayBeCounted, NewCountReadsBack, OldCountReadsBack, OuterIsWithin, OuterReaches, OuterStops, PiecesStay, SameOutsideDataReadsBack, SameValues, Says, VoiceDeclares, VoiceReadsBack, counted_shape}
use Rattle.snd_layout.specs.Fit.{fit_refusal}
use Rattle.snd_layout.specs.Params.{AreParams, Parameters}
use Rattle.snd_layout.specs.Shape.{KeepsRule, Shape}
use Rattle.snd_layout.specs.declared.kind.Kind.{Kind}
use Rattle.snd_layout.specs.declared.kind.Kind.TheVariants.{Wave, Rf64, W64, Au, Dns, Voc, Svx, Sphere}
use Rattle.snd_layout.specs.declared.refusal.OpenRefusal.{OpenRefusal}
use Rattle.snd_container.proofs.Marks.{SameMarks, kind_of_marks, recognised_too}
use Rattle.snd_container.specs.Kinds.{container_of}
use Rattle.snd_container.specs.Laws.{FileSays, KeepAllLaws}
use Rattle.snd_container.specs.Recognised.{recognised}
use Rattle.snd_container.specs.Sound.{layout_as, layout_of}
use Rattle.snd_container.specs.Values.{any}
use Rattle.snd_wave.proofs.Public.{keeps_laws as wave_laws}
use Rattle.snd_wave.specs.Written.{reserved_head, riff_head}
use Rattle.snd_rf64.proofs.Public.{keeps_laws as rf64_laws}
use Rattle.snd_rf64.specs.Written.{rf64_head, top as rf64_top}
use Rattle.snd_w64.proofs.AllLaws.{keeps_laws as w64_laws}
use Rattle.snd_w64.specs.Written.{w64_head}
use Rattle.snd_au.proofs.Made.{keeps_laws as au_laws}
use Rattle.snd_au.specs.Written.{au_head}
use Rattle.snd_voc.proofs.Kept.{keeps_laws as voc_laws}
use Rattle.snd_voc.specs.Written.{voc_head, file_head as voc_file_head}
use Rattle.snd_svx.proofs.Public.{keeps_laws as svx_laws}
use Rattle.snd_svx.specs.Written.{head_for as svx_head_for}
use Rattle.snd_sphere.proofs.AllLaws.{keeps_laws as sphere_laws}
use Rattle.snd_sphere.specs.Written.{sphere_head}

-- ---- each kind

pub laws_of : (kind : Kind) → KeepsLaws kind (container_of kind)
laws_of Wave = wave_laws
laws_of Rf64 = rf64_laws
laws_of W64 = w64_laws
laws_of Au = au_laws Big
laws_of Dns = au_laws Little
laws_of Voc = voc_laws
laws_of Svx = svx_laws
laws_of Sphere = sphere_laws

-- the first bytes of a file that is made
head_is_known : (kind : Kind) (p : Parameters) → recognised (take 40 ((container_of kind).head p)) ≡ Ok kind
unfolding reserved_head riff_head rf64_head rf64_top w64_head au_head voc_head voc_file_head svx_head_for sphere_head
head_is_known Wave p = kind_of_marks Wave (take 40 ((container_of Wave).head p)) refl
head_is_known Rf64 p = kind_of_marks Rf64 (take 40 ((container_of Rf64).head p)) refl
head_is_known W64 p = kind_of_marks W64 (take 40 ((container_of W64).head p)) refl
head_is_known Au p = kind_of_marks Au (take 40 ((container_of Au).head p)) refl
head_is_known Dns p = kind_of_marks Dns (take 40 ((container_of Dns).head p)) refl
head_is_known Voc p = kind_of_marks Voc (take 40 ((container_of Voc).head p)) refl
head_is_known Svx p = kind_of_marks Svx (take 40 ((container_of Svx).head p)) refl
head_is_known Sphere p = kind_of_marks Sphere (take 40 ((container_of Sphere).head p)) refl

-- ---- a file with a layout is of the layout's kind

pub record IsKnown (b : List ℕ) (h : Shape) : Type 0 where
  pub found : recognised (take 40 b) ≡ Ok h.kind
  pub laid : (container_of h.kind).layout b ≡ Ok h

pub known : (b : List ℕ) (h : Shape) → layout_of b ≡ Ok h → IsKnown b h
unfolding layout_of
known b h is = by_result (recognised (take 40 b)) refl is
  where
    by_result : (r : Result Kind OpenRefusal) → recognised (take 40 b) ≡ r → layout_as r b ≡ Ok h → IsKnown b h
    by_result (Err refusal) found laid = absurd (cc)
    by_result (Ok kind) found laid =
        let same : h.kind ≡ kind = ((laws_of kind).marks b h laid).is_kind in
        record { found = found ∙ ap (λ (k : Kind). Ok k) (sym same); laid = ap (λ (k : Kind). (container_of k).layout b) same ∙ laid }

pub of_kind : (b : List ℕ) (h : Shape) → recognised (take 40 b) ≡ Ok h.kind → (container_of h.kind).layout b ≡ Ok h → layout_of b ≡ Ok h
unfolding layout_of
of_kind b h found laid = ap (λ (r : Result Kind OpenRefusal). layout_as r b) found ∙ laid

record SaysSo (b : List ℕ) (h : Shape) : Type 0 where
  pub found : recognised (take 40 b) ≡ Ok h.kind
  pub says : Says (container_of h.kind) b h

says_so : (kind : Kind) (b : List ℕ) (h : Shape) → Says (any kind) b h → SaysSo b h
says_so kind b h says =
    let is = known b (record h { trailing = says.goes_on }) says.told in
    record { found = is.found; says = record { goes_on = says.goes_on; told = is.laid; same = says.same } }

-- a file that says so much by its kind's layout
lift : (kind : Kind) (x : List ℕ) (h : Shape) → recognised (take 40 x) ≡ Ok h.kind → Says (container_of h.kind) x h → Says (any kind) x h
lift kind x h found says = record { goes_on = says.goes_on; told = of_kind x (record h { trailing = says.goes_on }) found says.told; same = says.same }

-- the marks of a file stand in one with its head
module _ (b x : List ℕ) (h : Shape) (t : Bool) (laid : (container_of h.kind).layout b ≡ Ok (record h { trailing = t })) where
  marks_there : h.start ≤ length x → KeepsHead h b x → SameMarks h.kind x b
  marks_there within keeps i mark =
      let place = ((laws_of h.kind).marks b (record h { trailing = t }) laid).marks i mark in
      (inl (omega (arith, place.0, within)), keeps i place.0 place.1)

  marks_same : length x ≡ length b → ((i : ℕ) → i < h.start → get_or x i 0 ≡ get_or b i 0) → SameMarks h.kind x b
  marks_same long same i mark =
      let place = ((laws_of h.kind).marks b (record h { trailing = t }) laid).marks i mark in
      (inr long, same i place.0)

-- ---- the laws

module _ (kind : Kind) where
  pub old : OldCountReadsBack (any kind)
  old b x h says bytes free length_known hold keeps inner ends =
      let so = says_so kind b h says in
      lift kind x h (recognised_too h.kind x b (marks_there b x h so.says.goes_on so.says.told (omega (arith, hold.new)) keeps) so.found)
      ((laws_of h.kind).old b x h so.says bytes free length_known hold keeps inner ends)

  pub new : NewCountReadsBack (any kind)
  new b x h n may keeps inner long ends =
      let so = says_so kind b h may.says in
      let counts : MayBeCounted (container_of h.kind) b h n =
      record { says = so.says; bytes = may.bytes; params = may.params; free = may.free; known = may.known; room = may.room; on_disk = may.on_disk; joined = may.joined } in
      lift kind x (counted_shape h n) (recognised_too h.kind x b (marks_there b x h so.says.goes_on so.says.told (omega (arith, long)) keeps) so.found)
      ((laws_of h.kind).new b x h n counts keeps inner long ends)

  pub outside : SameOutsideDataReadsBack (any kind)
  outside b x h is good long same =
      let so = known b h is in
      of_kind x h (recognised_too h.kind x b (marks_same b x h h.trailing so.laid long (λ i lt. same i (inl lt))) so.found)
      ((laws_of h.kind).outside b x h so.laid good long same)

  pub voice : VoiceReadsBack (any kind)
  voice b x h says voc few within same =
      let so = says_so kind b h says in
      lift kind x h (recognised_too h.kind x b (marks_there b x h so.says.goes_on so.says.told (omega (arith, within)) (λ i lt out. same i lt)) so.found)
      ((laws_of h.kind).voice b x h so.says voc few within same)

  pub declares : VoiceDeclares (any kind)
  declares b h is voc = let so = known b h is in (laws_of h.kind).declares b h so.laid voc

  pub reaches : OuterReaches (any kind)
  reaches b x h n says has = let so = says_so kind b h says in (laws_of h.kind).reaches b x h n so.says has

  pub stops : OuterStops (any kind)
  stops b x h says free has short = let so = says_so kind b h says in (laws_of h.kind).stops b x h so.says free has short

  pub order : EndsAreInOrder (any kind)
  order b h n says = let so = says_so kind b h says in (laws_of h.kind).order b h n so.says

  pub pieces : PiecesStay (any kind)
  pieces b x h is good within keeps behind = let so = known b h is in (laws_of h.kind).pieces b x h so.laid good within keeps behind

  pub made : (p : Parameters) → AreParams p → fit_refusal kind p ≡ None → IsNew kind (any kind) p
  made p good fits =
      let is = (laws_of kind).made p good fits in
      let h = (container_of kind).made p in
      let b = (container_of kind).head p in
      record {
        told = of_kind b h (head_is_known kind p ∙ ap (λ (k : Kind). Ok k) (sym is.is_kind)) (ap (λ (k : Kind). (container_of k).layout b) is.is_kind ∙ is.told);
        bytes = is.bytes;
        is_kind = is.is_kind;
        params = is.params;
        frames = is.frames;
        start = is.start;
        known = is.known;
        free = is.free;
        pieces = is.pieces;
      }

-- ---- those that hold of every layout

pub within : (kind : Kind) → OuterIsWithin (any kind)
within _ kind x = (laws_of kind).within kind x

pub closes : (kind : Kind) (h : Shape) → ClosesNear (any kind) h
closes kind h = let is = (laws_of h.kind).closes h in record { few = is.few; ordered = is.ordered }

pub fit : (h : Shape) (n : ℕ) → KeepsRule h → FitsFields (any h.kind) h n
fit h n rule =
    let is = (laws_of h.kind).fit h n refl rule in
    record { inner = is.inner; few_inner = is.few_inner; outer = is.outer; few_outer = is.few_outer; side = is.side; few_side = is.few_side }

pub free : (h : Shape) (f d : ℕ) (t : Bool) (n : ℕ) → SameValues (any h.kind) h (record h { frames = f; declared = d; trailing = t }) n
free h f d t n = let is = (laws_of h.kind).free h f d t n in record { inner = is.inner; outer = is.outer; side = is.side; closing = is.closing }

pub bytes : (h : Shape) (n : ℕ) → AreBytes (any h.kind) h n
bytes h n = let is = (laws_of h.kind).bytes h n in record { inner = is.inner; outer = is.outer; side = is.side; closing = is.closing }

-- ---- the rest

pub lies : (b : List ℕ) (h : Shape) → All IsByte b → layout_of b ≡ Ok h → LiesIn b h
lies b h are is = let so = known b h is in (laws_of h.kind).lies b h are so.laid

pub apart : (b : List ℕ) (h : Shape) → FileSays b h → FieldsApart h
apart b h says = let so = says_so h.kind b h says in (laws_of h.kind).apart b h so.says

pub fill : (b : List ℕ) (h : Shape) (n : ℕ) → FileSays b h → FillsFields (any h.kind) h n
fill b h n says =
    let so = says_so h.kind b h says in
    let is = (laws_of h.kind).fill b h n so.says in
    record { inner = is.inner; outer = is.outer; side = is.side }

pub keep_all_laws : KeepAllLaws
keep_all_laws = record {
  lies = lies;
  old = old;
  new = new;
  outside = outside;
  voice = voice;
  declares = declares;
  reaches = reaches;
  stops = stops;
  within = within;
  order = order;
  closes = closes;
  apart = apart;
  fill = fill;
  fit = fit;
  free = free;
  bytes = bytes;
  pieces = pieces;
  made = made;
}
