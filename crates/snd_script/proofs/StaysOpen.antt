-- What a pinned file does: it refuses what would open or close a file, and does all else as one that is updated.
use Rattle.std.specs.Prelude.{if◌then◌else◌}
use Rattle.std.proofs.Common.{◌≡◌, ℕ, List, Bool, true, false, not, ◌&&◌, refl, sym, ◌∙◌, ap}
use Rattle.snd_command.specs.Said.{Said}
use Rattle.snd_disk.specs.declared.disk.Disk.{Ghosts}
use Rattle.snd_meters.specs.Gauge.{Gauge}
use Rattle.snd_edits.specs.Editing.{Editing}
use Rattle.snd_rules.specs.Desk.{Mode, OpenFile, Store, is_pinned, open_desk, pinned, updating, open_as}
use Rattle.snd_rules.specs.Edit.{close_edit, edit_open, keep_open, refused}
use Rattle.snd_session.specs.Handled.{mode_of}
use Rattle.snd_rules.specs.Rules.{Rule, is_close, is_held, refused_rule, rule_of}
use Rattle.snd_session.specs.declared.handle.Handle.{Handle}
use Rattle.snd_session.specs.declared.handle.Handle.TheVariants.{R, W, B, U}
use Rattle.snd_lines.specs.declared.refusal.Refusal.{Refusal}

-- a command that is not refused
pub record IsCarried (said : Said) : Type 0 where
  pub rule : (taps : List Gauge) → rule_of pinned taps said ≡ rule_of updating taps said
  pub stays : is_close said ≡ false

pub carried : (said : Said) → is_held said ≡ false → IsCarried said
carried (Said.open_read n) other = absurd cc
carried (Said.open_update n) other = absurd cc
carried (Said.create kind codec channels rate n) other = absurd cc
carried Said.info other = record { rule = λ taps. refl; stays = refl }
carried Said.close other = absurd cc
carried (Said.seek_read n) other = record { rule = λ taps. refl; stays = refl }
carried (Said.seek_write n) other = record { rule = λ taps. refl; stays = refl }
carried (Said.seek_both n) other = record { rule = λ taps. refl; stays = refl }
carried (Said.read n) other = record { rule = λ taps. refl; stays = refl }
carried (Said.write xs) other = record { rule = λ taps. refl; stays = refl }
carried (Said.truncate n) other = record { rule = λ taps. refl; stays = refl }
carried Said.trim other = record { rule = λ taps. refl; stays = refl }
carried Said.update other = record { rule = λ taps. refl; stays = refl }
carried (Said.auto on) other = absurd cc
carried Said.promote other = record { rule = λ taps. refl; stays = refl }
carried Said.reserve other = record { rule = λ taps. refl; stays = refl }
carried (Said.set_chunk id hex) other = record { rule = λ taps. refl; stays = refl }
carried (Said.set_string key text) other = record { rule = λ taps. refl; stays = refl }
carried (Said.set_bext key text) other = record { rule = λ taps. refl; stays = refl }
carried (Said.set_cue places) other = record { rule = λ taps. refl; stays = refl }
carried (Said.get_chunk id) other = record { rule = λ taps. refl; stays = refl }
carried Said.get_chunks other = record { rule = λ taps. refl; stays = refl }
carried Said.get_strings other = record { rule = λ taps. refl; stays = refl }
carried Said.get_bext other = record { rule = λ taps. refl; stays = refl }
carried Said.get_cues other = record { rule = λ taps. refl; stays = refl }
carried (Said.tap kind) other = record { rule = λ taps. refl; stays = refl }
carried (Said.untap kind) other = record { rule = λ taps. refl; stays = refl }

-- no handle is pinned by itself
pub plain_mode : {D : Type 0} {ghosts : Ghosts D} (handle : Handle D ghosts) → is_pinned (mode_of handle) ≡ false
plain_mode (R file) = refl
plain_mode (W file) = refl
plain_mode (B file) = refl
plain_mode (U file) = refl

-- ---- a command on an open file, which may be pinned

module _ (store : Store) (name : List ℕ) (mode : Mode) (taps : List Gauge) (said : Said) (e : Editing) where
  abbrev file_as : Bool → OpenFile
  file_as stays = record { name = name; mode = open_as stays mode; editing = e; taps = taps }

  stays_pinned : edit_open store (file_as true) said ≡ keep_open store (file_as true) (rule_of pinned taps said)
  stays_pinned = as_none (is_close said)
    where
      as_none : (closes : Bool) → (if closes && not true then close_edit store (file_as true) else keep_open store (file_as true) (rule_of pinned taps said)) ≡ keep_open store (file_as true) (rule_of pinned taps said)
      as_none true = refl
      as_none false = refl

  -- it is refused
  pub held_edit : (stays : Bool) (refusal : Refusal) → stays ≡ true → rule_of pinned taps said ≡ refused_rule refusal → edit_open store (file_as stays) said ≡ refused refusal (open_desk store (file_as stays))
  held_edit true refusal pins is = stays_pinned ∙ ap (λ (r : Rule). keep_open store (file_as true) r) is
  held_edit false refusal pins is = absurd cc

  -- it is carried out
  pub kept_edit : (stays : Bool) → (stays ≡ true → mode ≡ updating) → (stays ≡ true → is_held said ≡ false) → is_close said ≡ false → edit_open store (file_as stays) said ≡ keep_open store (file_as stays) (rule_of mode taps said)
  kept_edit true updated other remains =
      stays_pinned ∙ ap (λ (r : Rule). keep_open store (file_as true) r) ((carried said (other refl)).rule taps ∙ ap (λ (m : Mode). rule_of m taps said) (sym (updated refl)))
  kept_edit false updated other remains =
      ap (λ (b : Bool). if b && not (is_pinned mode) then close_edit store (file_as false) else keep_open store (file_as false) (rule_of mode taps said)) remains

  -- it closes the file
  pub closing_edit : (stays : Bool) → (stays ≡ true → is_held said ≡ false) → is_close said ≡ true → is_pinned mode ≡ false → edit_open store (file_as stays) said ≡ close_edit store (file_as stays)
  closing_edit true other closes plain = absurd (let e : true ≡ false = sym closes ∙ (carried said (other refl)).stays in cc)
  closing_edit false other closes plain = rw (closes, plain) refl

pub not_held_here : (stays : Bool) (said : Said) → (stays ≡ true → is_held said ≡ false) → is_close said ≡ true → stays ≡ false
not_held_here true said other closes = absurd (let e : true ≡ false = sym closes ∙ (carried said (other refl)).stays in cc)
not_held_here false said other closes = refl
