-- A command that is refused changes no tap.
use Rattle.std.specs.Prelude.{if◌then◌else◌, is_none}
use Rattle.std.specs.List.{list_any}
use Rattle.std.proofs.Common.{◌≡◌, ℕ, ℤ, List, [], ◌∷◌, Bool, true, false, ◌||◌, Result, Ok, Err, refl, ap}
use Rattle.snd_command.specs.Said.{Said}
use Rattle.snd_layout.specs.declared.codec.Codec.{Codec}
use Rattle.snd_lines.specs.declared.refusal.Refusal.{Refusal}
use Rattle.snd_lines.specs.declared.refusal.Refusal.TheVariants.{AdpcmSeek, AdpcmUpdate, NoSuchTap, Pinned, TapOn}
use Rattle.snd_meta.specs.declared.bext.BextKey.{BextKey}
use Rattle.snd_meta.specs.declared.bext.BextKey.TheVariants.{Description, Originator, OrigRef, OrigDate, OrigTime, TimeRef, CodingHist}
use Rattle.snd_meters.specs.Gauge.{Gauge, waiting, on, is_on, is_waiting, same_kind, started_gauge}
use Rattle.snd_meters.specs.Gauges.{after_start, after_stop, first_changed, start_answer, stop_answer, without_first}
use Rattle.snd_pcm.specs.Pcm.{high, low}
use Rattle.snd_rules.specs.Desk.{Mode, encodes, encoding, is_pinned, makes, pinned, reading, reads, updates, updating, writes, writing}
use Rattle.snd_rules.specs.Laws.{RefusedLeavesTaps}
use Rattle.snd_rules.specs.Rules.{Grounds, Rule, auto_rule, by_blocks, encode_rule, in_mode, is_held, plain_rule, promote_rule, read_rule, refused_rule, reserve_rule, seek_read_rule, seek_rule, seek_write_rule, set_bext_rule, set_chunk_rule, set_cue_rule, set_string_rule, tap_range, trim_rule, truncate_rule, unless_pinned, update_rule, why_not, write_rule}
use Rattle.snd_taps.specs.declared.tap.TapKind.{TapKind}

-- ---- a tap that does not begin, and one that does not end

unchanged : (kind : TapKind) (f : Gauge → Gauge) (gs : List Gauge) → list_any (is_waiting kind) gs ≡ false → first_changed (is_waiting kind) f gs ≡ gs
unchanged kind f [] none = refl
unchanged kind f (v ∷ gs) none = at (is_waiting kind v) (unchanged kind f gs) none
  where
    at : (is : Bool) → (list_any (is_waiting kind) gs ≡ false → first_changed (is_waiting kind) f gs ≡ gs) → (is || list_any (is_waiting kind) gs) ≡ false
        → (if is then f v ∷ gs else v ∷ first_changed (is_waiting kind) f gs) ≡ v ∷ gs
    at true rest none = absurd (cc)
    at false rest none = ap (λ l. v ∷ l) (rest none)

-- by whether one is on, and whether one waits
abbrev answer : Bool → Bool → Result (Unit {0}) Refusal
answer ons waits = if ons then Err TapOn else (if waits then Ok tt else Err NoSuchTap)

start_at : (ons waits : Bool) (gs changed : List Gauge) → (waits ≡ false → changed ≡ gs) → is_none (why_not (answer ons waits)) ≡ false
    → (if ons then gs else changed) ≡ gs
start_at true waits gs changed none refused = refl
start_at false true gs changed none refused = absurd (cc)
start_at false false gs changed none refused = none refl

start_refused : (kind : TapKind) (l h : ℤ) (gs : List Gauge) → is_none (why_not (start_answer kind gs)) ≡ false → after_start kind l h gs ≡ gs
start_refused kind l h gs refused =
    start_at (list_any (is_on kind) gs) (list_any (is_waiting kind) gs) gs (first_changed (is_waiting kind) (started_gauge l h) gs)
    (λ none. unchanged kind (started_gauge l h) gs none) refused

stop_refused : (kind : TapKind) (gs : List Gauge) → is_none (why_not (stop_answer kind gs)) ≡ false → after_stop kind gs ≡ gs
stop_refused kind [] refused = refl
stop_refused kind (waiting k ∷ gs) refused = ap (λ l. waiting k ∷ l) (stop_refused kind gs refused)
stop_refused kind (on m ∷ gs) refused = stop_at (same_kind kind m.kind) (stop_refused kind gs) refused
  where
    stop_at : (is : Bool) → (is_none (why_not (stop_answer kind gs)) ≡ false → after_stop kind gs ≡ gs) → is_none (why_not (if is then Ok m.state else stop_answer kind gs)) ≡ false
        → (if is then gs else on m ∷ without_first (is_on kind) gs) ≡ on m ∷ gs
    stop_at true rest refused = absurd (cc)
    stop_at false rest refused = ap (λ l. on m ∷ l) (rest refused)

-- ---- each rule

pub record StaysRefused (taps : List Gauge) (rule : Rule) : Type 0 where
  pub same : (g : Grounds) (codec : Codec) (frames : List (List ℤ)) → is_none (rule.refusal g) ≡ false → rule.taps codec frames taps ≡ taps

stays_in : (taps : List Gauge) (has : Bool) (rule : Rule) → StaysRefused taps rule → StaysRefused taps (in_mode has rule)
stays_in taps true rule stays = stays
stays_in taps false rule stays = record { same = λ g codec frames refused. refl }

stays_by : (taps : List Gauge) (blocks : Bool) (rule rule' : Rule) → StaysRefused taps rule → StaysRefused taps rule' → StaysRefused taps (by_blocks blocks rule rule')
stays_by taps true rule rule' stays stays' = stays
stays_by taps false rule rule' stays stays' = stays'

stays_seek : (mode : Mode) (taps : List Gauge) (n : ℕ) → StaysRefused taps (seek_rule mode n)
stays_seek reading taps n = record { same = λ g codec frames refused. refl }
stays_seek writing taps n = record { same = λ g codec frames refused. refl }
stays_seek encoding taps n = record { same = λ g codec frames refused. refl }
stays_seek updating taps n = record { same = λ g codec frames refused. refl }
stays_seek pinned taps n = record { same = λ g codec frames refused. refl }

stays_bext : (taps : List Gauge) (key : BextKey) (text : List ℕ) → StaysRefused taps (set_bext_rule key text)
stays_bext taps Description text = record { same = λ g codec frames refused. refl }
stays_bext taps Originator text = record { same = λ g codec frames refused. refl }
stays_bext taps OrigRef text = record { same = λ g codec frames refused. refl }
stays_bext taps OrigDate text = record { same = λ g codec frames refused. refl }
stays_bext taps OrigTime text = record { same = λ g codec frames refused. refl }
stays_bext taps TimeRef text = record { same = λ g codec frames refused. refl }
stays_bext taps CodingHist text = record { same = λ g codec frames refused. refl }

stays_plain : (mode : Mode) (taps : List Gauge) (said : Said) → StaysRefused taps (plain_rule mode taps said)
stays_plain mode taps (Said.open_read name) = record { same = λ g codec frames refused. refl }
stays_plain mode taps (Said.open_update name) = record { same = λ g codec frames refused. refl }
stays_plain mode taps (Said.create kind codec channels rate name) = record { same = λ g codec frames refused. refl }
stays_plain mode taps Said.info = record { same = λ g codec frames refused. refl }
stays_plain mode taps Said.close = record { same = λ g codec frames refused. refl }
stays_plain mode taps (Said.seek_read n) = stays_in taps (reads mode) (seek_read_rule n) (record { same = λ g codec frames refused. refl })
stays_plain mode taps (Said.seek_write n) = stays_in taps (writes mode) _ (stays_by taps (encodes mode) (refused_rule AdpcmSeek) (seek_write_rule n) (record { same = λ g codec frames refused. refl }) (record { same = λ g codec frames refused. refl }))
stays_plain mode taps (Said.seek_both n) = stays_seek mode taps n
stays_plain mode taps (Said.read n) = stays_in taps (reads mode) (read_rule n) (record { same = λ g codec frames refused. absurd (cc) })
stays_plain mode taps (Said.write xs) = stays_in taps (writes mode) _ (stays_by taps (encodes mode) (encode_rule xs) (write_rule xs) (record { same = λ g codec frames refused. refl }) (record { same = λ g codec frames refused. refl }))
stays_plain mode taps (Said.truncate n) = stays_in taps (writes mode) _ (stays_by taps (encodes mode) (refused_rule AdpcmUpdate) (truncate_rule n) (record { same = λ g codec frames refused. refl }) (record { same = λ g codec frames refused. refl }))
stays_plain mode taps Said.trim = stays_in taps (writes mode) _ (stays_by taps (encodes mode) (refused_rule AdpcmUpdate) trim_rule (record { same = λ g codec frames refused. refl }) (record { same = λ g codec frames refused. refl }))
stays_plain mode taps Said.update = stays_in taps (writes mode) update_rule (record { same = λ g codec frames refused. refl })
stays_plain mode taps (Said.auto automatic) = stays_in taps (writes mode) (auto_rule automatic) (record { same = λ g codec frames refused. refl })
stays_plain mode taps Said.promote = stays_in taps (updates mode) promote_rule (record { same = λ g codec frames refused. refl })
stays_plain mode taps Said.reserve = stays_in taps (makes mode) reserve_rule (record { same = λ g codec frames refused. refl })
stays_plain mode taps (Said.set_chunk id hex) = stays_in taps (makes mode) (set_chunk_rule id hex) (record { same = λ g codec frames refused. refl })
stays_plain mode taps (Said.set_string key text) = stays_in taps (makes mode) (set_string_rule key text) (record { same = λ g codec frames refused. refl })
stays_plain mode taps (Said.set_bext key text) = stays_in taps (makes mode) (set_bext_rule key text) (stays_bext taps key text)
stays_plain mode taps (Said.set_cue places) = stays_in taps (makes mode) (set_cue_rule places) (record { same = λ g codec frames refused. refl })
stays_plain mode taps (Said.get_chunk id) = record { same = λ g codec frames refused. refl }
stays_plain mode taps Said.get_chunks = record { same = λ g codec frames refused. refl }
stays_plain mode taps Said.get_strings = record { same = λ g codec frames refused. refl }
stays_plain mode taps Said.get_bext = record { same = λ g codec frames refused. refl }
stays_plain mode taps Said.get_cues = record { same = λ g codec frames refused. refl }
stays_plain mode taps (Said.tap kind) = record { same = λ g codec frames refused. start_refused kind (low (tap_range codec)) (high (tap_range codec)) taps refused }
stays_plain mode taps (Said.untap kind) = record { same = λ g codec frames refused. stop_refused kind taps refused }

stays_pinned : (taps : List Gauge) (pins : Bool) (rule : Rule) → StaysRefused taps rule → StaysRefused taps (if pins then refused_rule Pinned else rule)
stays_pinned taps true rule stays = record { same = λ g codec frames refused. refl }
stays_pinned taps false rule stays = stays

stays_held : (taps : List Gauge) (held : Bool) (mode : Mode) (rule : Rule) → StaysRefused taps rule → StaysRefused taps (unless_pinned held mode rule)
stays_held taps true mode rule stays = stays_pinned taps (is_pinned mode) rule stays
stays_held taps false mode rule stays = stays

pub refused_leaves : RefusedLeavesTaps
refused_leaves mode taps said g codec frames refused =
    (stays_held taps (is_held said) mode (plain_rule mode taps said) (stays_plain mode taps said)).same g codec frames refused
