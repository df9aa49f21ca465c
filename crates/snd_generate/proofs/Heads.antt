-- The head of the file: what it says, and its fields.
use Rattle.std.proofs.Common.{◌≡◌, ◌∙◌, ap, sym, subst, refl, inr, ℕ, ◌+◌, ◌*◌, Bool, List, [], false, None, Ok, cond, length, arith}
use Rattle.std.specs.Prelude.{IfSome, is_none}
use Rattle.snd_container.proofs.Public.{fill, free, head_laws, made, wave_is_plain}
use Rattle.snd_container.specs.HeadLaws.{plain_wave}
use Rattle.snd_container.specs.Laws.{FileSays}
use Rattle.snd_container.specs.Sound.{fixed_of, layout_of}
use Rattle.snd_container.specs.Values.{any, closing, inner_value, outer_value, side_value}
use Rattle.snd_disk.proofs.Public.{length-over}
use Rattle.snd_disk.specs.Bytes.{over}
use Rattle.snd_layout.specs.Container.{SameValues}
use Rattle.snd_layout.specs.Filled.{over_field}
use Rattle.snd_layout.specs.Fit.{fit_refusal}
use Rattle.snd_layout.specs.Params.{AreParams, Parameters, data_bytes}
use Rattle.snd_layout.specs.Shape.{Shape, end, room}
use Rattle.snd_layout.specs.declared.kind.Kind.TheVariants.{Wave}
use Rattle.snd_edits.specs.Relaid.{head_with, shape_with}
use Rattle.snd_patch.specs.Sealed.{counted, with_fields}
use Rattle.snd_generate.specs.Edited.{params}
use Rattle.snd_generate.specs.Steps.{shape_of}
use Rattle.snd_generate.proofs.Lists.{both_again}

abbrev pub head : List ℕ
head = head_with Wave params []

abbrev pub says : Shape
says = shape_with Wave params []

pub good : AreParams params
good = record { some_channel = omega arith; most_channels = omega arith; some_rate = omega arith; most_rate = omega arith; blocks = refl }

pub fits : fit_refusal Wave params ≡ None
fits = refl

pub linear : is_none (fixed_of params.codec) ≡ false
linear = refl

-- it is that of a plain file
is_plain : says ≡ plain_wave params
is_plain = wave_is_plain params refl

pub params_are : says.params ≡ params
params_are = ap (λ (s : Shape). s.params) is_plain

pub known : says.unknown_length ≡ false
known = ap (λ (s : Shape). s.unknown_length) is_plain

pub no_tail : says.trailing ≡ false
no_tail = ap (λ (s : Shape). s.trailing) is_plain

pub starts : says.start ≡ 44
starts = ap (λ (s : Shape). s.start) is_plain

-- without frames
abbrev pub unwritten : Shape
unwritten = record says { frames = 0; params = params }

pub room_is : room unwritten ≡ 4294967258
room_is = ap (λ (s : Shape). room (record s { frames = 0; params = params })) is_plain

pub data_are : (n : ℕ) → data_bytes params n ≡ 4 * n
data_are n = omega arith

-- ---- its fields, for whatever frames a layout counts

-- what they say hangs on no count
same_values : (k n : ℕ) → SameValues (any says.kind) says (shape_of k) n
same_values k n = free says k (cond says.trailing says.declared (data_bytes says.params k)) says.trailing n

pub fields_of : (k n : ℕ) (b : List ℕ) → with_fields b (shape_of k) n ≡ with_fields b says n
fields_of k n b =
    let same = same_values k n in
    ap (λ (v : List ℕ). over_field says.side (over_field says.outer (over b says.inner.at v) (outer_value (shape_of k) n)) (side_value (shape_of k) n)) same.inner
    ∙ ap (λ (v : List ℕ). over_field says.side (over_field says.outer (over b says.inner.at (inner_value says n)) v) (side_value (shape_of k) n)) same.outer
    ∙ ap (λ (v : List ℕ). over_field says.side (over_field says.outer (over b says.inner.at (inner_value says n)) (outer_value says n)) v) same.side

pub closing_of : (k n : ℕ) → closing (shape_of k) n ≡ closing says n
closing_of k n = (same_values k n).closing

pub end_of : (k n : ℕ) → end (shape_of k) n ≡ 44 + 4 * n
end_of k n = omega (arith, starts, ap (λ (p : Parameters). data_bytes p n) params_are, data_are n)

-- the size of the data, and that of the whole
abbrev data_size : ℕ → List ℕ
data_size n = inner_value says n

abbrev whole_size : ℕ → List ℕ
whole_size n = outer_value says n

-- they fill their fields
told : FileSays head says
told =
    let new = made Wave params good fits in
    let laws = head_laws Wave in
    record { goes_on = says.trailing; told = ap layout_of (laws.bare_head params) ∙ new.told ∙ ap (λ (s : Shape). Ok s) (sym (laws.bare_shape params)); same = inr refl }

data_size_length : (n : ℕ) → length (data_size n) ≡ 4
data_size_length n = (fill head says n told).inner ∙ ap (λ (s : Shape). s.inner.size) is_plain

whole_size_length : (n : ℕ) → length (whole_size n) ≡ 4
whole_size_length n = subst (λ (s : Shape). IfSome s.outer (λ field. length (whole_size n) ≡ field.size)) is_plain (fill head says n told).outer

fields_are : (b : List ℕ) (n : ℕ) → with_fields b says n ≡ over (over b 40 (data_size n)) 4 (whole_size n)
fields_are b n = ap (λ (s : Shape). over_field s.side (over_field s.outer (over b s.inner.at (data_size n)) (whole_size n)) (side_value says n)) is_plain

pub fields_length : (b : List ℕ) (n : ℕ) → length b ≡ 44 → length (with_fields b says n) ≡ 44
fields_length b n long =
    let sized = data_size_length n in
    let whole = whole_size_length n in
    let first = over b 40 (data_size n) in
    ap length (fields_are b n) ∙ omega (arith, long, sized, whole, length-over b 40 (data_size n), length-over first 4 (whole_size n))

-- the layout of as many frames, whatever it was of
pub counted_again : (k n : ℕ) → counted (shape_of k) n ≡ shape_of n
counted_again k n =
    ap (λ (t : Bool). record says { frames = n; declared = cond t (cond t says.declared (data_bytes says.params k)) (data_bytes says.params n) }) no_tail
    ∙ sym (ap (λ (t : Bool). record says { frames = n; declared = cond t says.declared (data_bytes says.params n) }) no_tail)

-- the fields of n frames, put over those of others
pub fields_again : (b : List ℕ) (m n : ℕ) → length b ≡ 44 → with_fields (with_fields b says m) says n ≡ with_fields b says n
fields_again b m n long =
    let sized = data_size_length m in
    let whole = whole_size_length m in
    fields_are (with_fields b says m) n
    ∙ ap (λ (l : List ℕ). over (over l 40 (data_size n)) 4 (whole_size n)) (fields_are b m)
    ∙ both_again b (data_size m) (whole_size m) (data_size n) (whole_size n) 40 4 (inr (omega (arith, whole))) (sized ∙ sym (data_size_length n)) (whole ∙ sym (whole_size_length n)) (omega (arith, long, sized)) (omega (arith, long, whole))
    ∙ sym (fields_are b n)
