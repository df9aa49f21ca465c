-- A rule uses no more than its command may.
use Rattle.std.specs.Prelude.{if◌then◌else◌}
use Rattle.std.proofs.Common.{◌≡◌, ℕ, ℤ, ◌≤◌, ◌+◌, ◌*◌, List, Bool, true, false, not, ◌&&◌, length, ap, refl, arith}
use Rattle.snd_command.specs.Said.{Said}
use Rattle.snd_disk.specs.State.{AtMost}
use Rattle.snd_layout.specs.Blocks.{block_align, block_frames}
use Rattle.snd_layout.specs.Params.{Parameters}
use Rattle.snd_meta.specs.declared.bext.BextKey.{BextKey}
use Rattle.snd_meta.specs.declared.bext.BextKey.TheVariants.{Description, Originator, OrigRef, OrigDate, OrigTime, TimeRef, CodingHist}
use Rattle.snd_meters.specs.Gauge.{Gauge}
use Rattle.snd_rules.specs.Desk.{Mode, encodes, encoding, is_pinned, makes, pinned, reading, reads, updates, updating, writes, writing}
use Rattle.snd_rules.specs.SmallBlocks.{IsSmallIn}
use Rattle.snd_rules.specs.Rules.{Rule, auto_rule, by_blocks, encode_rule, in_mode, is_held, is_set, most_on, plain_rule, promote_rule, read_rule, refused_rule, reserve_rule, rule_of, seek_read_rule, seek_rule, seek_write_rule, set_bext_rule, set_chunk_rule, set_cue_rule, set_string_rule, trim_rule, truncate_rule, unless_pinned, update_rule, write_rule}
use Rattle.snd_rules.specs.Script.{asked_by, most_block, most_in, written_in, written_on, written_with}
use Rattle.snd_rules.proofs.WrittenBytes.{blocks_for_numbers}
use Rattle.snd_lines.specs.declared.refusal.Refusal.{Refusal}
use Rattle.snd_lines.specs.declared.refusal.Refusal.TheVariants.{AdpcmSeek, AdpcmUpdate, Pinned}

-- on a file with these parameters
pub record UsesUpTo (p : Parameters) (asked written : ℕ) (rule : Rule) : Type 0 where
  pub asks : rule.asked ≤ asked
  pub writes : rule.written p ≤ written

nothing_refused : (p : Parameters) (asked written : ℕ) (refusal : Refusal) → UsesUpTo p asked written (refused_rule refusal)
nothing_refused p asked written refusal = record { asks = omega arith; writes = omega arith }

up_in : (p : Parameters) (has : Bool) (asked written : ℕ) (rule : Rule) → UsesUpTo p asked written rule → UsesUpTo p asked written (in_mode has rule)
up_in p true asked written rule uses = uses
up_in p false asked written rule uses = record { asks = omega arith; writes = omega arith }

-- one that is done otherwise by blocks
up_by : (p : Parameters) (blocks : Bool) (asked written : ℕ) (coded placed : Rule) → (blocks ≡ true → UsesUpTo p asked written coded) → UsesUpTo p asked written placed
    → UsesUpTo p asked written (by_blocks blocks coded placed)
up_by p true asked written coded placed in_blocks at_places = in_blocks refl
up_by p false asked written coded placed in_blocks at_places = at_places

up_pinned : (p : Parameters) (pins : Bool) (asked written : ℕ) (rule : Rule) → UsesUpTo p asked written rule → UsesUpTo p asked written (if pins then refused_rule Pinned else rule)
up_pinned p true asked written rule uses = record { asks = omega arith; writes = omega arith }
up_pinned p false asked written rule uses = uses

up_held : (p : Parameters) (held : Bool) (mode : Mode) (asked written : ℕ) (rule : Rule) → UsesUpTo p asked written rule → UsesUpTo p asked written (unless_pinned held mode rule)
up_held p true mode asked written rule uses = up_pinned p (is_pinned mode) asked written rule uses
up_held p false mode asked written rule uses = uses

up_seek : (p : Parameters) (mode : Mode) (n : ℕ) → UsesUpTo p 0 0 (seek_rule mode n)
up_seek p reading n = record { asks = omega arith; writes = omega arith }
up_seek p writing n = record { asks = omega arith; writes = omega arith }
up_seek p encoding n = record { asks = omega arith; writes = omega arith }
up_seek p updating n = record { asks = omega arith; writes = omega arith }
up_seek p pinned n = record { asks = omega arith; writes = omega arith }

-- what is set, where the mode has it
up_set : (p : Parameters) (has : Bool) (asked written : ℕ) (rule : Rule) → UsesUpTo p asked written rule → UsesUpTo p (if true && not has then 0 else asked) (if true && not has then 0 else written) (in_mode has rule)
up_set p true asked written rule uses = uses
up_set p false asked written rule uses = record { asks = omega arith; writes = omega arith }

up_bext : (p : Parameters) (key : BextKey) (text : List ℕ) → UsesUpTo p 16777216 16777216 (set_bext_rule key text)
up_bext p Description text = record { asks = omega arith; writes = omega arith }
up_bext p Originator text = record { asks = omega arith; writes = omega arith }
up_bext p OrigRef text = record { asks = omega arith; writes = omega arith }
up_bext p OrigDate text = record { asks = omega arith; writes = omega arith }
up_bext p OrigTime text = record { asks = omega arith; writes = omega arith }
up_bext p TimeRef text = record { asks = omega arith; writes = omega arith }
up_bext p CodingHist text = record { asks = omega arith; writes = omega arith }

-- frames that are made blocks
up_encode : (p : Parameters) (mode : Mode) (xs : List ℤ) → IsSmallIn mode p → encodes mode ≡ true → UsesUpTo p 0 (4 * length xs + 72 + most_block mode) (encode_rule xs)
up_encode p mode xs small is =
    let block : most_block mode ≡ 2048 = ap (λ (b : Bool). if b then 2048 else 0) is in
    record {
      asks = omega arith;
      writes = omega (arith, block, blocks_for_numbers (length xs) p.channels (block_align p.channels p.codec) (block_frames p.codec) (small is).numbers (small is).bytes);
    }

up_plain : (p : Parameters) (mode : Mode) (taps : List Gauge) (said : Said) → IsSmallIn mode p → UsesUpTo p (most_on mode asked_by said) (written_on mode said) (plain_rule mode taps said)
up_plain p mode taps (Said.open_read n) small = record { asks = omega arith; writes = omega arith }
up_plain p mode taps (Said.open_update n) small = record { asks = omega arith; writes = omega arith }
up_plain p mode taps (Said.create kind codec channels rate n) small = record { asks = omega arith; writes = omega arith }
up_plain p mode taps Said.info small = record { asks = omega arith; writes = omega arith }
up_plain p mode taps Said.close small = record { asks = omega arith; writes = omega arith }
up_plain p mode taps (Said.seek_read n) small = up_in p (reads mode) _ _ (seek_read_rule n) (record { asks = omega arith; writes = omega arith })
up_plain p mode taps (Said.seek_write n) small = up_in p (writes mode) _ _ _ (up_by p (encodes mode) _ _ (refused_rule AdpcmSeek) (seek_write_rule n) (λ is. nothing_refused p _ _ AdpcmSeek) (record { asks = omega arith; writes = omega arith }))
up_plain p mode taps (Said.seek_both n) small = up_seek p mode n
up_plain p mode taps (Said.read n) small = up_in p (reads mode) _ _ (read_rule n) (record { asks = omega arith; writes = omega arith })
up_plain p mode taps (Said.write xs) small = up_in p (writes mode) _ _ _ (up_by p (encodes mode) _ _ (encode_rule xs) (write_rule xs) (up_encode p mode xs small) (record { asks = omega arith; writes = omega arith }))
up_plain p mode taps (Said.truncate n) small = up_in p (writes mode) _ _ _ (up_by p (encodes mode) _ _ (refused_rule AdpcmUpdate) (truncate_rule n) (λ is. nothing_refused p _ _ AdpcmUpdate) (record { asks = omega arith; writes = omega arith }))
up_plain p mode taps Said.trim small = up_in p (writes mode) _ _ _ (up_by p (encodes mode) _ _ (refused_rule AdpcmUpdate) trim_rule (λ is. nothing_refused p _ _ AdpcmUpdate) (record { asks = omega arith; writes = omega arith }))
up_plain p mode taps Said.update small = up_in p (writes mode) _ _ update_rule (record { asks = omega arith; writes = omega arith })
up_plain p mode taps (Said.auto on) small = up_in p (writes mode) _ _ (auto_rule on) (record { asks = omega arith; writes = omega arith })
up_plain p mode taps Said.promote small = up_in p (updates mode) _ _ promote_rule (record { asks = omega arith; writes = omega arith })
up_plain p mode taps Said.reserve small = up_set p (makes mode) _ _ reserve_rule (record { asks = omega arith; writes = omega arith })
up_plain p mode taps (Said.set_chunk id hex) small = up_set p (makes mode) _ _ (set_chunk_rule id hex) (record { asks = omega arith; writes = omega arith })
up_plain p mode taps (Said.set_string key text) small = up_set p (makes mode) _ _ (set_string_rule key text) (record { asks = omega arith; writes = omega arith })
up_plain p mode taps (Said.set_bext key text) small = up_set p (makes mode) _ _ (set_bext_rule key text) (up_bext p key text)
up_plain p mode taps (Said.set_cue places) small = up_set p (makes mode) _ _ (set_cue_rule places) (record { asks = omega arith; writes = omega arith })
up_plain p mode taps (Said.get_chunk id) small = record { asks = omega arith; writes = omega arith }
up_plain p mode taps Said.get_chunks small = record { asks = omega arith; writes = omega arith }
up_plain p mode taps Said.get_strings small = record { asks = omega arith; writes = omega arith }
up_plain p mode taps Said.get_bext small = record { asks = omega arith; writes = omega arith }
up_plain p mode taps Said.get_cues small = record { asks = omega arith; writes = omega arith }
up_plain p mode taps (Said.tap kind) small = record { asks = omega arith; writes = omega arith }
up_plain p mode taps (Said.untap kind) small = record { asks = omega arith; writes = omega arith }

pub more : (old n m new : ℕ) → n ≤ m → AtMost old n new → AtMost old m new
more old n m new le uses = record { later = uses.later; most = omega (arith, le, uses.most) }

pub uses_most : (mode : Mode) (taps : List Gauge) (said : Said) (p : Parameters) → IsSmallIn mode p → UsesUpTo p (most_on mode asked_by said) (written_on mode said) (rule_of mode taps said)
uses_most mode taps said p small = up_held p (is_held said) mode _ _ (plain_rule mode taps said) (up_plain p mode taps said small)

-- .. which is no more than in a run with a file that stays open, or without one
some_most : (set makes : Bool) (n : ℕ) → (if set && not makes then 0 else n) ≤ n
some_most true true n = omega arith
some_most true false n = omega arith
some_most false makes n = omega arith

held_most : (set : Bool) (n : ℕ) → (if set && not false then 0 else n) ≤ (if set then 0 else n)
held_most true n = omega arith
held_most false n = omega arith

pub most_within : (stays : Bool) (mode : Mode) (most : Said → ℕ) (said : Said) → (stays ≡ true → mode ≡ updating) → (stays ≡ true → is_held said ≡ false) → most_on mode most said ≤ most_in stays most said
most_within false mode most said updated other = some_most (is_set said) (makes mode) (most said)
most_within true mode most said updated other = rw (updated refl, other refl) (held_most (is_set said) (most said))

-- a smaller block is written with no more
few_block : (mode : Mode) → most_block mode ≤ 2048
few_block reading = omega arith
few_block writing = omega arith
few_block encoding = omega arith
few_block updating = omega arith
few_block pinned = omega arith

smaller_block : (block : ℕ) (said : Said) → block ≤ 2048 → written_with block said ≤ written_with 2048 said
smaller_block block (Said.open_read n) few = omega arith
smaller_block block (Said.open_update n) few = omega arith
smaller_block block (Said.create kind codec channels rate n) few = omega arith
smaller_block block Said.info few = omega arith
smaller_block block Said.close few = omega (arith, few)
smaller_block block (Said.seek_read n) few = omega arith
smaller_block block (Said.seek_write n) few = omega arith
smaller_block block (Said.seek_both n) few = omega arith
smaller_block block (Said.read n) few = omega arith
smaller_block block (Said.write xs) few = omega (arith, few)
smaller_block block (Said.truncate n) few = omega arith
smaller_block block Said.trim few = omega arith
smaller_block block Said.update few = omega arith
smaller_block block (Said.auto on) few = omega arith
smaller_block block Said.promote few = omega arith
smaller_block block Said.reserve few = omega arith
smaller_block block (Said.set_chunk id hex) few = omega arith
smaller_block block (Said.set_string key text) few = omega arith
smaller_block block (Said.set_bext key text) few = omega arith
smaller_block block (Said.set_cue places) few = omega arith
smaller_block block (Said.get_chunk id) few = omega arith
smaller_block block Said.get_chunks few = omega arith
smaller_block block Said.get_strings few = omega arith
smaller_block block Said.get_bext few = omega arith
smaller_block block Said.get_cues few = omega arith
smaller_block block (Said.tap kind) few = omega arith
smaller_block block (Said.untap kind) few = omega arith

pub written_within : (stays : Bool) (mode : Mode) (said : Said) → (stays ≡ true → mode ≡ updating) → (stays ≡ true → is_held said ≡ false) → written_on mode said ≤ written_in stays said
written_within false mode said updated other =
    omega (arith, some_most (is_set said) (makes mode) (written_with (most_block mode) said), smaller_block (most_block mode) said (few_block mode))
written_within true mode said updated other = rw (updated refl, other refl) (held_most (is_set said) (written_with 0 said))
