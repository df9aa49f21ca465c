-- What a read of frames does, by whether the block of one of them is bad.
use Rattle.std.proofs.Common.{◌≡◌, ap, refl, ℕ, Bool, true, false, cond, List, [], ◌∷◌}
use Rattle.snd_blocks.specs.Frames.{has_bad}
use Rattle.snd_lines.specs.declared.refusal.Refusal.TheVariants.{BadBlock}
use Rattle.snd_meters.specs.Gauge.{Gauge, on, waiting}
use Rattle.snd_meters.specs.Gauges.{after_feed}
use Rattle.snd_edits.specs.Editing.{Editing, frames_left, moved_by}
use Rattle.snd_rules.specs.Replies.{frames_text, refuses}
use Rattle.snd_rules.specs.Rules.{answered, frames_fed, frames_wanted, read_edit, says_of}

pub good_read : (n : ℕ) (e : Editing) → has_bad (frames_wanted n e) ≡ false → read_edit n e ≡ says_of (frames_text (frames_wanted n e)) (moved_by (frames_left e n) e)
good_read n e good = ap (λ (b : Bool). cond b (answered (refuses BadBlock) e) (says_of (frames_text (frames_wanted n e)) (moved_by (frames_left e n) e))) good

pub good_fed : (n : ℕ) (e : Editing) → has_bad (frames_wanted n e) ≡ false → frames_fed n e ≡ frames_wanted n e
good_fed n e good = ap (λ (b : Bool). cond b [] (frames_wanted n e)) good

pub bad_read : (n : ℕ) (e : Editing) → has_bad (frames_wanted n e) ≡ true → read_edit n e ≡ answered (refuses BadBlock) e
bad_read n e bad = ap (λ (b : Bool). cond b (answered (refuses BadBlock) e) (says_of (frames_text (frames_wanted n e)) (moved_by (frames_left e n) e))) bad

pub bad_fed : (n : ℕ) (e : Editing) → has_bad (frames_wanted n e) ≡ true → frames_fed n e ≡ []
bad_fed n e bad = ap (λ (b : Bool). cond b [] (frames_wanted n e)) bad

-- no frames leave the taps
pub fed_none : (taps : List Gauge) → taps ≡ after_feed [] taps
fed_none [] = refl
fed_none (waiting kind ∷ taps) = ap (λ l. waiting kind ∷ l) (fed_none taps)
fed_none (on m ∷ taps) = ap (λ l. on m ∷ l) (fed_none taps)
