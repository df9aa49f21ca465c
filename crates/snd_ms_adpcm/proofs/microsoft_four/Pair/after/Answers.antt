use Rattle.std.proofs.Common.{rules, ◌≡◌, ◌∙◌, sym, subst, ℕ, ℤ, pos, ◌/◌, ◌%◌, ◌≤◌, get_or, to_z, of_z, unsigned_abs, w32}
use Rattle.snd_ms_adpcm.specs.Four.{IsRow}
use Rattle.snd_ms_adpcm.specs.declared.microsoft_four.Row.{Row}
use Rattle.snd_ms_adpcm.proofs.Four.{follows}
use Rattle.snd_ms_adpcm.proofs.microsoft_four.Pair.after.Goals as goal

abbrev none : Row
none = record { left_deltas = pos 0; right_deltas = pos 0; left_factor = pos 0; right_factor = pos 0 }

pub moved-requires-clause-deltas : goal.moved-requires-clause-deltas
moved-requires-clause-deltas c =
    let row = get_or c.args.rows.now c.from.result none in
    let is : IsRow c.args.byte row = subst (λ (i : ℕ). IsRow c.args.byte (get_or c.args.rows.now i none)) (sym c.from.ensures) (c.requires c.args.byte none (search rules)) in
    let same : to_z w32 (of_z w32 row.left_deltas) ≡ row.left_deltas = search rules in
    subst (λ (z : ℤ). unsigned_abs z ≤ 8) (sym same) is.few_left

pub moved-requires-clause-factor : goal.moved-requires-clause-factor
moved-requires-clause-factor c =
    let row = get_or c.args.rows.now c.from.result none in
    let is : IsRow c.args.byte row = subst (λ (i : ℕ). IsRow c.args.byte (get_or c.args.rows.now i none)) (sym c.from.ensures) (c.requires c.args.byte none (search rules)) in
    let same : to_z w32 (of_z w32 row.left_factor) ≡ row.left_factor = search rules in
    subst (λ (z : ℤ). unsigned_abs z ≤ 768) (sym same) is.small_left

pub moved-requires-2-clause-deltas : goal.moved-requires-2-clause-deltas
moved-requires-2-clause-deltas c =
    let row = get_or c.args.rows.now c.from.result none in
    let is : IsRow c.args.byte row = subst (λ (i : ℕ). IsRow c.args.byte (get_or c.args.rows.now i none)) (sym c.from.ensures) (c.requires c.args.byte none (search rules)) in
    let same : to_z w32 (of_z w32 row.right_deltas) ≡ row.right_deltas = search rules in
    subst (λ (z : ℤ). unsigned_abs z ≤ 8) (sym same) is.few_right

pub moved-requires-2-clause-factor : goal.moved-requires-2-clause-factor
moved-requires-2-clause-factor c =
    let row = get_or c.args.rows.now c.from.result none in
    let is : IsRow c.args.byte row = subst (λ (i : ℕ). IsRow c.args.byte (get_or c.args.rows.now i none)) (sym c.from.ensures) (c.requires c.args.byte none (search rules)) in
    let same : to_z w32 (of_z w32 row.right_factor) ≡ row.right_factor = search rules in
    subst (λ (z : ℤ). unsigned_abs z ≤ 768) (sym same) is.small_right

pub returns-clause-left : goal.returns-clause-left
returns-clause-left c =
    let row = get_or c.args.rows.now c.from.result none in
    let is : IsRow c.args.byte row = subst (λ (i : ℕ). IsRow c.args.byte (get_or c.args.rows.now i none)) (sym c.from.ensures) (c.requires c.args.byte none (search rules)) in
    let deltas : to_z w32 (of_z w32 row.left_deltas) ≡ row.left_deltas = search rules in
    let factor : to_z w32 (of_z w32 row.left_factor) ≡ row.left_factor = search rules in
    let m = c.moved.ensures in
    follows c.args.self.left c.moved.result (c.args.byte / 16) _ _ (deltas ∙ is.left_deltas) (factor ∙ is.left_factor) m.newer m.older m.delta m.newer_by m.older_by

pub returns-clause-right : goal.returns-clause-right
returns-clause-right c =
    let row = get_or c.args.rows.now c.from.result none in
    let is : IsRow c.args.byte row = subst (λ (i : ℕ). IsRow c.args.byte (get_or c.args.rows.now i none)) (sym c.from.ensures) (c.requires c.args.byte none (search rules)) in
    let deltas : to_z w32 (of_z w32 row.right_deltas) ≡ row.right_deltas = search rules in
    let factor : to_z w32 (of_z w32 row.right_factor) ≡ row.right_factor = search rules in
    let m = c.moved-2.ensures in
    follows c.args.self.right c.moved-2.result (c.args.byte % 16) _ _ (deltas ∙ is.right_deltas) (factor ∙ is.right_factor) m.newer m.older m.delta m.newer_by m.older_by
