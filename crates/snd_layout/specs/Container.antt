-- What a container owes the layers above it: how a file of its kind says what it holds, and the laws that this keeps while the
-- file is edited, and after a crash. Nothing above names anything else of a container.
use Rattle.std.specs.Prelude.{◌≡◌, ◌⊎◌, ℕ, ◌+◌, ◌^◌, ◌<◌, ◌≤◌, Bool, true, false, ◌&&◌, ◌||◌, List, [], All, Option, None, Some, Result, Ok, IfSome, drop, get_or, length, max, nat_le, nat_lt, take}
use Rattle.snd_disk.specs.Runs.{AreApart, HasAt, HasFieldOf, IsInOneSector}
use Rattle.snd_fields.specs.Laws.{IsByte}
use Rattle.snd_layout.specs.Blocks.{is_adpcm}
use Rattle.snd_layout.specs.Fit.{fit_refusal}
use Rattle.snd_layout.specs.Params.{AreParams, Parameters, data_bytes}
use Rattle.snd_layout.specs.Shape.{KeepsRule, Shape, end, room}
use Rattle.snd_layout.specs.declared.field.Field.{Field}
use Rattle.snd_layout.specs.declared.kind.Kind.{Kind}
use Rattle.snd_layout.specs.declared.kind.Kind.TheVariants.{Wave, Rf64, W64, Au, Dns, Voc, Svx, Sphere}
use Rattle.snd_layout.specs.declared.piece.Piece.{Piece}
use Rattle.snd_layout.specs.declared.refusal.OpenRefusal.{OpenRefusal}

-- A container: the layout of a file, or its first refusal; what the three fields say of a number of frames, and what closes
-- their data; the place behind what closes the data that a head declares; the place up to which a file of a kind is read behind
-- its data, 0 where nothing is read there; and the bytes and the layout of a file that is made, without pieces and frames.
pub record Container : Type 0 where
  pub layout : List ℕ → Result Shape OpenRefusal
  pub inner : Shape → ℕ → List ℕ
  pub outer : Shape → ℕ → List ℕ
  pub side : Shape → ℕ → List ℕ
  pub closing : Shape → ℕ → List ℕ
  pub declared_end : Shape → ℕ
  pub reach : Kind → List ℕ → ℕ
  pub head : Parameters → List ℕ
  pub made : Parameters → Shape

-- the place behind what closes the data of so many frames
abbrev pub closed_end : Container → Shape → ℕ → ℕ
closed_end c h frames = end h frames + length (c.closing h frames)

-- ---- places of a head

-- a place is one of a field, and one of the three
abbrev pub is_in : Field → ℕ → Bool
is_in field i = nat_le field.at i && nat_lt i (field.at + field.size)

abbrev pub is_in_some : Option Field → ℕ → Bool
is_in_some None i = false
is_in_some (Some field) i = is_in field i

abbrev pub is_in_fields : Shape → ℕ → Bool
is_in_fields h i = is_in h.inner i || is_in_some h.outer i || is_in_some h.side i

-- before the data, every byte beside the fields of a layout is that of a file
abbrev pub KeepsHead : Shape → List ℕ → List ℕ → Type 0
KeepsHead h file x = (i : ℕ) → i < h.start → is_in_fields h i ≡ false → get_or x i 0 ≡ get_or file i 0

-- the places of the bytes that tell a kind
abbrev pub is_mark : Kind → ℕ → Bool
is_mark Wave i = nat_lt i 4 || (nat_le 8 i && nat_lt i 12)
is_mark Rf64 i = nat_lt i 4 || (nat_le 8 i && nat_lt i 12)
is_mark W64 i = nat_lt i 16 || (nat_le 24 i && nat_lt i 40)
is_mark Au i = nat_lt i 4
is_mark Dns i = nat_lt i 4
is_mark Voc i = nat_lt i 20
is_mark Svx i = nat_lt i 4 || (nat_le 8 i && nat_lt i 12)
is_mark Sphere i = nat_lt i 8

-- ---- what a file says

-- A file says a layout. Whether a Creative Voice file goes on behind its data hangs on the bytes there alone, which a crash and
-- the closing of an odd tail may leave, so that it says its layout either way.
pub record Says (c : Container) (b : List ℕ) (h : Shape) : Type 0 where
  pub goes_on : Bool
  pub told : c.layout b ≡ Ok (record h { trailing = goes_on })
  pub same : (h.kind ≡ Voc) ⊎ (goes_on ≡ h.trailing)

-- the layout with so many frames
abbrev pub counted_shape : Shape → ℕ → Shape
counted_shape h frames = record h { frames = frames; declared = data_bytes h.params frames }

-- The condition under which fields are written: the data of so many frames have room in the head, or are no more than it
-- declares already, and end on a disk; and the count of the `fact` in an ADPCM WAVE file holds the number.
pub record HasRoomFor (h : Shape) (frames : ℕ) : Type 0 where
  pub in_room : data_bytes h.params frames ≤ max (room h) h.declared
  pub on_disk : h.start + data_bytes h.params frames < 2 ^ 63
  pub counted : h.kind ≡ Wave → is_adpcm h.params.codec ≡ true → frames < 2 ^ 32

-- The declared data of a layout are all there, in two files.
pub record HoldDeclared (h : Shape) (b x : List ℕ) : Type 0 where
  pub old : h.start + h.declared ≤ length b
  pub new : h.start + h.declared ≤ length x

-- A file has a layout of a known length that does not go on behind its data, and whose fields have room for so many frames; in
-- ADPCM their count and their data size are one field.
pub record MayBeCounted (c : Container) (b : List ℕ) (h : Shape) (frames : ℕ) : Type 0 where
  pub says : Says c b h
  pub bytes : All IsByte b
  pub params : AreParams h.params
  pub free : h.trailing ≡ false
  pub known : h.unknown_length ≡ false
  pub room : HasRoomFor h frames
  pub on_disk : end h frames + 8 ≤ 2 ^ 63
  pub joined : is_adpcm h.params.codec ≡ true → 12 ≤ h.inner.size

-- ---- laws of files that are partly old and partly new, as a crash leaves them while a head is brought up to a number of frames

-- The old count: where the field that decides it has its old bytes, and the whole ends by the declared data, which are all
-- there, the file says what it said, whatever stands in the other fields and from the start of the data on.
abbrev pub OldCountReadsBack : Container → Type 0
OldCountReadsBack c = (b x : List ℕ) (h : Shape) → Says c b h → All IsByte b → h.trailing ≡ false → h.unknown_length ≡ false →
    HoldDeclared h b x → KeepsHead h b x → HasFieldOf x b h.inner.at h.inner.size → c.reach h.kind x ≤ c.declared_end h → Says c x h

-- The new count: where that field says so many frames, whose data are there, and the whole ends by these and what closes them,
-- the file says so many.
abbrev pub NewCountReadsBack : Container → Type 0
NewCountReadsBack c = (b x : List ℕ) (h : Shape) (frames : ℕ) → MayBeCounted c b h frames → KeepsHead h b x →
    HasAt x h.inner.at (c.inner h frames) → end h frames ≤ length x → c.reach h.kind x ≤ closed_end c h frames → Says c x (counted_shape h frames)

-- Files of one length that differ in the data of their frames alone say the same, also of what stands behind these.
abbrev pub SameOutsideDataReadsBack : Container → Type 0
SameOutsideDataReadsBack c = (b x : List ℕ) (h : Shape) → c.layout b ≡ Ok h → AreParams h.params → length x ≡ length b →
    ((i : ℕ) → (i < h.start) ⊎ (end h h.frames ≤ i) → get_or x i 0 ≡ get_or b i 0) → c.layout x ≡ Ok h

-- Where a Creative Voice file declares no whole frame more than it has, it says the same whatever stands from the end of these on.
abbrev pub VoiceReadsBack : Container → Type 0
VoiceReadsBack c = (b x : List ℕ) (h : Shape) → Says c b h → h.kind ≡ Voc → h.declared < data_bytes h.params (h.frames + 1) → end h h.frames ≤ length x →
    ((i : ℕ) → i < h.start → get_or x i 0 ≡ get_or b i 0) → Says c x h

-- One that goes on behind its data declares no more, and no Creative Voice file has further chunks.
abbrev pub VoiceDeclares : Container → Type 0
VoiceDeclares c = (b : List ℕ) (h : Shape) → c.layout b ≡ Ok h → h.kind ≡ Voc →
    (All IsByte b → h.trailing ≡ true → h.declared < data_bytes h.params (h.frames + 1)) × (h.pieces ≡ [])

-- Where the size of the whole is that of so many frames, the whole ends by what closes their data, however long the file is.
abbrev pub OuterReaches : Container → Type 0
OuterReaches c = (b x : List ℕ) (h : Shape) (frames : ℕ) → Says c b h → IfSome h.outer (λ field. HasAt x field.at (c.outer h frames)) →
    c.reach h.kind x ≤ closed_end c h frames

-- The whole of a file that does not go on behind its data ends by those that it declares. A file that is no longer and has its
-- size of the whole reaches no further.
abbrev pub OuterStops : Container → Type 0
OuterStops c = (b x : List ℕ) (h : Shape) → Says c b h → h.trailing ≡ false → IfSome h.outer (λ field. HasFieldOf x b field.at field.size) →
    length x ≤ length b → c.reach h.kind x ≤ c.declared_end h

-- It ends by the file in any case.
abbrev pub OuterIsWithin : Container → Type 0
OuterIsWithin c = (kind : Kind) (x : List ℕ) → c.reach kind x ≤ length x

-- Where the data of so many frames are no fewer than those that the head declares, they end no earlier, with what closes them;
-- and no later where they are no more.
abbrev pub EndsAreInOrder : Container → Type 0
EndsAreInOrder c = (b : List ℕ) (h : Shape) (frames : ℕ) → Says c b h →
    (h.declared ≤ data_bytes h.params frames → c.declared_end h ≤ closed_end c h frames) ×
    (data_bytes h.params frames ≤ h.declared → closed_end c h frames ≤ c.declared_end h)

-- What closes data is short, and closes no more data no later.
pub record ClosesNear (c : Container) (h : Shape) : Type 0 where
  pub few : (n : ℕ) → length (c.closing h n) ≤ 7
  pub ordered : (n m : ℕ) → data_bytes h.params n ≤ data_bytes h.params m → closed_end c h n ≤ closed_end c h m

-- ---- laws of the fields

-- No two fields have a byte in common, and the size of the whole lies in one sector.
pub record FieldsApart (h : Shape) : Type 0 where
  pub outer : IfSome h.outer (λ field. AreApart h.inner.at h.inner.size field.at field.size)
  pub side : IfSome h.side (λ field. AreApart h.inner.at h.inner.size field.at field.size)
  pub others : IfSome h.outer (λ outer. IfSome h.side (λ side. AreApart outer.at outer.size side.at side.size))
  pub whole : IfSome h.outer (λ field. IsInOneSector field.at field.size)

-- The values have the lengths of their fields.
pub record FillsFields (c : Container) (h : Shape) (frames : ℕ) : Type 0 where
  pub inner : length (c.inner h frames) ≡ h.inner.size
  pub outer : IfSome h.outer (λ field. length (c.outer h frames) ≡ field.size)
  pub side : IfSome h.side (λ field. length (c.side h frames) ≡ field.size)

-- a value has room in a field, which may be missing
abbrev pub FitsField : Option Field → List ℕ → Type 0
FitsField field v = IfSome field (λ f. length v ≤ f.size)

-- The values have room in the fields of every layout that keeps the rule, and are short.
pub record FitsFields (c : Container) (h : Shape) (frames : ℕ) : Type 0 where
  pub inner : length (c.inner h frames) ≤ h.inner.size
  pub few_inner : length (c.inner h frames) ≤ 32
  pub outer : FitsField h.outer (c.outer h frames)
  pub few_outer : length (c.outer h frames) ≤ 8
  pub side : FitsField h.side (c.side h frames)
  pub few_side : length (c.side h frames) ≤ 8

-- What the fields say of so many frames, and what closes their data, hang neither on the frames that there were, nor on the
-- declared length, nor on what stands behind the data.
pub record SameValues (c : Container) (h h' : Shape) (frames : ℕ) : Type 0 where
  pub inner : c.inner h' frames ≡ c.inner h frames
  pub outer : c.outer h' frames ≡ c.outer h frames
  pub side : c.side h' frames ≡ c.side h frames
  pub closing : c.closing h' frames ≡ c.closing h frames

-- They are bytes.
pub record AreBytes (c : Container) (h : Shape) (frames : ℕ) : Type 0 where
  pub inner : All IsByte (c.inner h frames)
  pub outer : All IsByte (c.outer h frames)
  pub side : All IsByte (c.side h frames)
  pub closing : All IsByte (c.closing h frames)

-- ---- laws of layouts

-- What holds of the layout of a file: its data begin there, and those of its frames are there; data for which its head has room
-- end on a disk; and where their length is known the head declares no fewer.
pub record LiesIn (b : List ℕ) (h : Shape) : Type 0 where
  pub params : AreParams h.params
  pub rule : KeepsRule h
  pub within : h.start ≤ length b
  pub held : end h h.frames ≤ length b
  pub room_ends : h.start + room h + 8 ≤ 2 ^ 63
  pub declared : h.unknown_length ≡ false → data_bytes h.params h.frames ≤ h.declared

-- The bytes that tell the kind stand before the data, beside the fields.
pub record KeepsMarks (kind : Kind) (h : Shape) : Type 0 where
  pub is_kind : h.kind ≡ kind
  pub marks : (i : ℕ) → is_mark kind i ≡ true → (i < h.start) × (is_in_fields h i ≡ false)

-- a piece has the same body in two files
abbrev pub SameBody : List ℕ → List ℕ → Piece → Type 0
SameBody x b piece = take piece.len (drop piece.at x) ≡ take piece.len (drop piece.at b)

-- The further chunks stay where a head stays, and all behind the data where the file goes on there.
abbrev pub PiecesStay : Container → Type 0
PiecesStay c = (b x : List ℕ) (h : Shape) → c.layout b ≡ Ok h → AreParams h.params → h.start ≤ length x → KeepsHead h b x →
    (h.trailing ≡ true → (length x ≡ length b) × ((i : ℕ) → end h h.frames ≤ i → get_or x i 0 ≡ get_or b i 0)) → All (SameBody x b) h.pieces

-- What is made has the layout that it is given: of its kind and parameters, without pieces and frames, of a known length, and
-- its data begin behind it.
pub record IsNew (kind : Kind) (c : Container) (p : Parameters) : Type 0 where
  pub told : c.layout (c.head p) ≡ Ok (c.made p)
  pub bytes : All IsByte (c.head p)
  pub is_kind : (c.made p).kind ≡ kind
  pub params : (c.made p).params ≡ p
  pub frames : (c.made p).frames ≡ 0
  pub start : (c.made p).start ≡ length (c.head p)
  pub known : (c.made p).unknown_length ≡ false
  pub free : (c.made p).trailing ≡ false
  pub pieces : (c.made p).pieces ≡ []

-- ---- all of them

pub record KeepsLaws (kind : Kind) (c : Container) : Type 0 where
  pub marks : (b : List ℕ) (h : Shape) → c.layout b ≡ Ok h → KeepsMarks kind h
  pub lies : (b : List ℕ) (h : Shape) → All IsByte b → c.layout b ≡ Ok h → LiesIn b h
  pub old : OldCountReadsBack c
  pub new : NewCountReadsBack c
  pub outside : SameOutsideDataReadsBack c
  pub voice : VoiceReadsBack c
  pub declares : VoiceDeclares c
  pub reaches : OuterReaches c
  pub stops : OuterStops c
  pub within : OuterIsWithin c
  pub order : EndsAreInOrder c
  pub closes : (h : Shape) → ClosesNear c h
  pub apart : (b : List ℕ) (h : Shape) → Says c b h → FieldsApart h
  pub fill : (b : List ℕ) (h : Shape) (frames : ℕ) → Says c b h → FillsFields c h frames
  pub fit : (h : Shape) (frames : ℕ) → h.kind ≡ kind → KeepsRule h → FitsFields c h frames
  pub free : (h : Shape) (frames declared : ℕ) (trailing : Bool) (n : ℕ) → SameValues c h (record h { frames = frames; declared = declared; trailing = trailing }) n
  pub bytes : (h : Shape) (frames : ℕ) → AreBytes c h frames
  pub pieces : PiecesStay c
  pub made : (p : Parameters) → AreParams p → fit_refusal kind p ≡ None → IsNew kind c p
