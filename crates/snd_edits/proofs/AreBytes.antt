-- The bytes of an open file are bytes, whatever calls do to it.
use Rattle.std.proofs.Common.{subst, ℕ, ◌+◌, ◌-◌, ◌/◌, ℤ, Bool, List, ◌++◌, All, Option, None, Some, length, take, drop, replicate, arith}
use Rattle.std.proofs.lemmas.Bool.{cond_both}
use Rattle.std.proofs.lemmas.List.Elements.{All-append, All-drop, All-nil, All-replicate, All-take}
use Rattle.std.specs.Prelude.{nat_le, nat_lt}
use Rattle.snd_container.specs.Sound.{fixed_of}
use Rattle.snd_container.proofs.Public.{bytes, count_of_bytes}
use Rattle.snd_container.specs.Values.{closed_end, closing, inner_value, outer_value, side_value}
use Rattle.snd_disk.specs.Bytes.{over}
use Rattle.snd_fields.specs.Laws.{IsByte}
use Rattle.snd_layout.specs.Params.{data_bytes}
use Rattle.snd_layout.specs.Shape.{Shape, end}
use Rattle.snd_layout.specs.declared.field.Field.{Field}
use Rattle.snd_patch.specs.Sealed.{closed, over_closing, patched, sealed, shrunk, with_fewer, with_fields, with_inner, with_others}
use Rattle.snd_layout.specs.Filled.{over_field}
use Rattle.snd_container.specs.declared.fixed.Fixed.{Fixed}
use Rattle.snd_edits.specs.Editing.{Editing}
use Rattle.snd_edits.specs.Edits.{closed_behind, coded, coded_as, count_written, cut_off, cut_to, over_data, sealed_to, sealed_where}
use Rattle.snd_edits.specs.Laws.{Leads, Reached, begins, goes_on, reads, seals, seeks, seeks_to_write, sets_automatic, trims, truncates, writes}
use Rattle.snd_edits.proofs.EditedFiles.{updating_begins}

-- ---- bytes that are put

pub bytes_over : (b : List ℕ) (at : ℕ) (s : List ℕ) → All IsByte b → All IsByte s → All IsByte (over b at s)
bytes_over b at s are are_new =
    let gap : List ℕ = replicate (at - length b) 0 in
    let front : All IsByte (take at b ++ gap) = All-append IsByte (take at b) gap (All-take IsByte at b are) (All-replicate IsByte (at - length b) 0 (omega arith)) in
    All-append IsByte (take at b ++ gap ++ s) (drop (at + length s) b) (All-append IsByte (take at b ++ gap) s front are_new) (All-drop IsByte (at + length s) b are)

pub bytes_coded : (o : Option Fixed) (xs : List ℤ) → All IsByte (coded_as o xs)
bytes_coded None xs = All-nil IsByte
bytes_coded (Some form) xs = (count_of_bytes form xs).1

pub bytes_closing : (h : Shape) (n : ℕ) → All IsByte (closing h n)
bytes_closing h n = (bytes h n).closing

pub bytes_shut : (b : List ℕ) (h : Shape) (n : ℕ) → All IsByte b → All IsByte (closed_behind b h n)
bytes_shut b h n are = cond_both (nat_lt h.frames n) (over_closing b h n) b (λ x. All IsByte x) (λ is. bytes_over b (end h n) (closing h n) are (bytes_closing h n)) (λ other. are)

-- ---- the file with them

bytes_field : (field : Option Field) (b v : List ℕ) → All IsByte b → All IsByte v → All IsByte (over_field field b v)
bytes_field None b v are values = are
bytes_field (Some field) b v are values = bytes_over b field.at v are values

module _ (h : Shape) (n : ℕ) where
  with_inner_bytes : (b : List ℕ) → All IsByte b → All IsByte (with_inner b h n)
  with_inner_bytes b are = bytes_over b h.inner.at (inner_value h n) are (bytes h n).inner

  with_others_bytes : (b : List ℕ) → All IsByte b → All IsByte (with_others b h n)
  with_others_bytes b are = bytes_field h.side (over_field h.outer b (outer_value h n)) (side_value h n) (bytes_field h.outer b (outer_value h n) are (bytes h n).outer) (bytes h n).side

  over_closing_bytes : (b : List ℕ) → All IsByte b → All IsByte (over_closing b h n)
  over_closing_bytes b are = bytes_over b (end h n) (closing h n) are (bytes_closing h n)

  closed_bytes : (b : List ℕ) → All IsByte b → All IsByte (closed b h n)
  closed_bytes b are = cond_both (nat_lt (length b) (closed_end h n)) (over_closing b h n) b (λ x. All IsByte x) (λ is. over_closing_bytes b are) (λ other. are)

  patched_bytes : (b : List ℕ) → All IsByte b → All IsByte (patched b h n)
  patched_bytes b are = cond_both (nat_le h.declared (data_bytes h.params n)) (with_fields b h n) (with_fewer b h n) (λ x. All IsByte x)
      (λ is. with_others_bytes (with_inner b h n) (with_inner_bytes b are)) (λ other. with_inner_bytes (with_others b h n) (with_others_bytes b are))

  pub bytes_sealed : (b : List ℕ) → All IsByte b → All IsByte (sealed b h n)
  bytes_sealed b are = cond_both h.trailing b (patched (closed b h n) h n) (λ x. All IsByte x) (λ is. are) (λ other. patched_bytes (closed b h n) (closed_bytes b are))

  pub bytes_off : (b : List ℕ) → All IsByte b → All IsByte (cut_off b h n)
  bytes_off b are = All-take IsByte (closed_end h n) (over_closing b h n) (over_closing_bytes b are)

  pub bytes_shrunk : (b : List ℕ) → All IsByte b → All IsByte (shrunk b h n)
  bytes_shrunk b are = bytes_off (with_fewer b h n) (with_inner_bytes (with_others b h n) (with_others_bytes b are))

  bytes_where : (automatic : Bool) (b : List ℕ) → All IsByte b → All IsByte (sealed_where automatic b h n)
  bytes_where automatic b are = cond_both automatic (sealed b h n) b (λ x. All IsByte x) (λ is. bytes_sealed b are) (λ other. are)

pub bytes_written : (b : List ℕ) (h : Shape) (place : ℕ) (xs : List ℤ) (n : ℕ) → All IsByte b → All IsByte (closed_behind (over_data b h place xs) h n)
bytes_written b h place xs n are = bytes_shut (over_data b h place xs) h n (bytes_over b (end h place) (coded h.params xs) are (bytes_coded (fixed_of h.params.codec) xs))

-- ---- what calls leave

pub leads_to_bytes : (e e' : Editing) → All IsByte e.bytes → Leads e e' → All IsByte e'.bytes
leads_to_bytes e _ are (writes xs may) =
    let n = count_written e.shape e.write_place (length xs / e.shape.params.channels) in
    bytes_where e.shape n e.automatic (closed_behind (over_data e.bytes e.shape e.write_place xs) e.shape n) (bytes_written e.bytes e.shape e.write_place xs n are)
leads_to_bytes e _ are seals = bytes_sealed e.shape e.shape.frames e.bytes are
leads_to_bytes e _ are (sets_automatic on) = bytes_sealed e.shape e.shape.frames e.bytes are
leads_to_bytes e _ are (truncates to may) =
    cond_both (nat_lt to e.shape.frames) (cut_to to e) (sealed_to e) (λ (s : Editing). All IsByte s.bytes) (λ is. bytes_shrunk e.shape to e.bytes are) (λ other. bytes_sealed e.shape e.shape.frames e.bytes are)
leads_to_bytes e _ are (trims may) = bytes_off e.shape e.shape.frames (sealed e.bytes e.shape e.shape.frames) (bytes_sealed e.shape e.shape.frames e.bytes are)
leads_to_bytes e _ are (reads n within) = are
leads_to_bytes e _ are (seeks to within) = are
leads_to_bytes e _ are (seeks_to_write to within) = are

pub reached_is_bytes : (file : List ℕ) (e : Editing) → All IsByte file → Reached file e → All IsByte e.bytes
reached_is_bytes file _ are (begins e is) =
    let from = updating_begins file e is in
    subst (λ (s : Editing). All IsByte s.bytes) from.0.is are
reached_is_bytes file _ are (goes_on e e' so_far leads) = leads_to_bytes e e' (reached_is_bytes file e are so_far) leads
