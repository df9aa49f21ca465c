-- Where the fields of a layout stand.
use Rattle.std.proofs.Common.{◌≡◌, ℕ, ◌+◌, ◌-◌, ◌≤◌, List, ◌&&◌, Option, None, Some, length, refl, ◌∙◌, inl, inr, arith}
use Rattle.std.proofs.lemmas.Bool.{and_parts, cases_Bool, eqb-true, leb-true}
use Rattle.std.specs.Prelude.{◌==◌, IfSome, codes, nat_le}
use Rattle.snd_chunks.proofs.Public.{find_has, in_order, is_head, IsBetween, IsHead, Reaches, say_next, SaysNext}
use Rattle.snd_chunks.specs.declared.chunk.Chunk.{Chunk}
use Rattle.snd_chunks.specs.Chunks.{chunk_at}
use Rattle.snd_fields.specs.declared.field.Order.TheVariants.{Little}
use Rattle.snd_layout.specs.Blocks.{is_adpcm}
use Rattle.snd_layout.specs.Params.{Parameters}
use Rattle.snd_chunks.specs.Parts.{fact_chunk, has_id, inner_field, is_fact, is_joined, side_field}
use Rattle.snd_wave.specs.Layout.{wave_front}
use Rattle.snd_wave.proofs.LayoutFacts.{FieldsAreApart}
use Rattle.snd_wave.proofs.Counts.{reached}
use Rattle.snd_wave.proofs.Opens.{Opens, opens}

-- a `fact` with its count, between the head of the whole and that of the data, with no gap behind a count alone
pub record StandsBefore (sound fact : Chunk) : Type 0 where
  pub behind : 20 ≤ fact.at
  pub before : fact.at + 4 ≤ sound.at - 8
  pub joined : fact.len ≡ 4 → fact.next ≡ fact.at + 4

inner_ends : (p : Parameters) (fact : Option Chunk) (sound : Chunk) → 20 ≤ sound.at → IfSome fact (StandsBefore sound)
    → (16 ≤ (inner_field 4 8 p fact sound).at) × ((inner_field 4 8 p fact sound).at + (inner_field 4 8 p fact sound).size ≡ sound.at)
inner_ends p None sound behind stands = elim (cases_Bool (is_adpcm p.codec)) [
  | inl is ↦ rw is (omega arith, omega arith)
  | inr other ↦ rw other (omega arith, omega arith)
]
inner_ends p (Some fact) sound behind stands = elim (cases_Bool (is_adpcm p.codec && is_joined 4 8 (Some fact) sound)) [
  | inl both ↦
      let parts = and_parts (fact.len == 4) (fact.next + 8 == sound.at) (and_parts (is_adpcm p.codec) (is_joined 4 8 (Some fact) sound) both).1 in
      let next : fact.next ≡ fact.at + 4 = stands.joined (eqb-true fact.len 4 parts.0) in
      let joined : fact.next + 8 ≡ sound.at = eqb-true (fact.next + 8) sound.at parts.1 in
      rw both (omega (arith, stands.behind), omega (arith, next, joined))
  | inr other ↦ rw other (omega arith, omega arith)
]

side_stands : (p : Parameters) (fact : Option Chunk) (sound : Chunk) → IfSome fact (StandsBefore sound)
    → IfSome (side_field 4 p fact) (λ field. (field.size ≡ 4) × (20 ≤ field.at) × (field.at + 4 ≤ (inner_field 4 8 p fact sound).at))
side_stands p None sound stands = elim (cases_Bool (is_adpcm p.codec)) [ inl is ↦ rw is tt | inr other ↦ rw other tt ]
side_stands p (Some fact) sound stands = elim (cases_Bool (is_adpcm p.codec)) [
  | inl is ↦ rw is tt
  | inr other ↦ rw other (refl, stands.behind, omega (arith, stands.before))
]

pub stands_before : (b : List ℕ) (sound : Chunk) (reach : Reaches (chunk_at Little b) (codes "data") (length b) 257 12 (wave_front b).chunks sound) (fact : Option Chunk)
    → fact_chunk 4 (wave_front b).chunks ≡ fact → IfSome fact (StandsBefore sound)
stands_before b sound reach None found = tt
stands_before b sound reach (Some fact) found =
    let head : IsHead Little b reach.last sound = is_head Little b reach.last sound reach.at in
    let ordered = in_order Little b (codes "data") (length b) 12 reach.last (wave_front b).chunks reach.chain in
    let between = find_has (is_fact 4) (IsBetween 12 reach.last) (wave_front b).chunks fact ordered.1 found in
    let next = (find_has (is_fact 4) SaysNext (wave_front b).chunks fact (say_next Little b (codes "data") (length b) 12 reach.last (wave_front b).chunks reach.chain) found).0 in
    let count : 4 ≤ fact.len = leb-true 4 fact.len (and_parts (has_id (codes "fact") fact) (nat_le 4 fact.len) between.1).1 in
    record {
      behind = omega (arith, between.0.after);
      before = omega (arith, between.0.before, head.at);
      joined = λ four. next ∙ rw four (omega arith);
    }

pub fields_are_apart : FieldsAreApart
fields_are_apart b h is =
    let from : Opens b (wave_front b) h = opens b h is in
    let reach = reached b from.sound from.sound_is in
    let head : IsHead Little b reach.last from.sound = is_head Little b reach.last from.sound reach.at in
    let ordered = in_order Little b (codes "data") (length b) 12 reach.last (wave_front b).chunks reach.chain in
    let stands : IfSome (fact_chunk 4 (wave_front b).chunks) (StandsBefore from.sound) = stands_before b from.sound reach (fact_chunk 4 (wave_front b).chunks) refl in
    let inner = inner_ends from.params (fact_chunk 4 (wave_front b).chunks) from.sound (omega (arith, head.at, ordered.0)) stands in
    rw from.shape (record { outer = refl; side = side_stands from.params (fact_chunk 4 (wave_front b).chunks) from.sound stands; inner = inner.0; start = inner.1 })
