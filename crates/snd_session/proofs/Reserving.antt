-- Why nothing is reserved in a head, and why a file is not promoted, in the words of the calls and in those of the rules.
use Rattle.std.proofs.Common.{◌≡◌, ◌∙◌, ℕ, true, false, not, Option, None, Some, refl, ap}
use Rattle.std.specs.Prelude.{is_none, is_some}
use Rattle.snd_edits.specs.Known.{Known}
use Rattle.snd_edits.specs.PieceCalls.{IsUntouched}
use Rattle.snd_layout.specs.Shape.{Shape}
use Rattle.snd_reservations.specs.Calls.{MayReserve}
use Rattle.snd_reservations.specs.States.{MayTurn, has_place}
use Rattle.snd_rules.specs.Rules.{known_grounds, promote_refusal, reserve_refusal}
use Rattle.snd_lines.specs.declared.refusal.Refusal.TheVariants.{NoRoom, TrailingData}
use Rattle.snd_session.proofs.Puts.{untouched}
use Rattle.snd_session.proofs.Refused.{is_refused, not_refused}

-- ---- a reservation

pub reserve_free : (k : Known) → MayReserve k → reserve_refusal (known_grounds k) ≡ None
reserve_free k may = untouched k _ may.0 ∙ not_refused (not (has_place k.shape)) NoRoom None (ap not may.1)

pub reserve_placeless : (k : Known) → IsUntouched k → has_place k.shape ≡ false → reserve_refusal (known_grounds k) ≡ Some NoRoom
reserve_placeless k un none = untouched k _ un ∙ is_refused (not (has_place k.shape)) NoRoom None (ap not none)

-- ---- a promotion

not_none : (o : Option ℕ) → is_some o ≡ true → is_none o ≡ false
not_none None is = absurd (cc)
not_none (Some n) is = refl

pub promote_free : (h : Shape) → MayTurn h → promote_refusal h ≡ None
promote_free h may = not_refused (is_none h.reserve) NoRoom _ (not_none h.reserve may.reserved) ∙ not_refused h.trailing TrailingData None may.free

pub promote_roomless : (h : Shape) → h.reserve ≡ None → promote_refusal h ≡ Some NoRoom
promote_roomless h none = is_refused (is_none h.reserve) NoRoom _ (ap is_none none)

pub promote_trailing : (h : Shape) → is_some h.reserve ≡ true → h.trailing ≡ true → promote_refusal h ≡ Some TrailingData
promote_trailing h some trailing = not_refused (is_none h.reserve) NoRoom _ (not_none h.reserve some) ∙ is_refused h.trailing TrailingData None trailing
