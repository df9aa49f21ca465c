-- A command that is not cut short leaves a handle whole.
use Rattle.std.specs.Prelude.{if◌then◌else◌, is_none}
use Rattle.std.proofs.Common.{◌≡◌, ℕ, ℤ, List, Bool, true, false, Option, None, Some, Result, Ok, Err, ⊎_elim, refl, ◌∙◌, ap}
use Rattle.snd_command.specs.Said.{Said}
use Rattle.snd_disk.specs.declared.disk.Step.{Step}
use Rattle.snd_layout.specs.Shape.{Shape}
use Rattle.snd_layout.specs.declared.kind.Kind.TheVariants.{Wave}
use Rattle.snd_meta.specs.declared.bext.BextKey.{BextKey}
use Rattle.snd_meta.specs.declared.bext.BextKey.TheVariants.{Description, Originator, OrigRef, OrigDate, OrigTime, TimeRef, CodingHist}
use Rattle.snd_edits.specs.Edits.{written_shape}
use Rattle.snd_edits.specs.Encoding.{counting_whole}
use Rattle.snd_edits.specs.Known.{Known}
use Rattle.snd_edits.specs.WriteCalls.{end_written}
use Rattle.snd_meters.specs.Gauge.{Gauge}
use Rattle.snd_rules.specs.Desk.{Mode, encodes, encoding, is_pinned, makes, pinned, reading, reads, updates, updating, writes, writing}
use Rattle.snd_rules.specs.Rules.{Rule, auto_rule, by_blocks, encode_rule, in_mode, is_held, plain_rule, promote_rule, read_rule, refused_rule, reserve_rule, rule_of, seek_read_rule, seek_rule, seek_write_rule, set_bext_rule, set_chunk_rule, set_cue_rule, set_string_rule, trim_rule, truncate_rule, unless_pinned, update_rule, write_rule}
use Rattle.snd_rules.specs.Stepped.{IsBrokenAt, IsKnown, Knows, RepliesBy, RepliesUnless}
use Rattle.snd_rules.specs.declared.reply.Reply.{Reply}
use Rattle.snd_rules.specs.declared.reply.StepFault.{StepFault}
use Rattle.snd_rules.specs.declared.reply.StepFault.TheVariants.{Disk, Out, Memory}
use Rattle.snd_lines.specs.declared.refusal.Refusal.{Refusal}
use Rattle.snd_lines.specs.declared.refusal.Refusal.TheVariants.{AdpcmSeek, AdpcmUpdate, Pinned}
use Rattle.snd_container.proofs.Public.{params_of_heads}

-- a command that is carried out breaks no handle, and leaves the parameters of its file
pub record KeepsBroken (rule : Rule) : Type 0 where
  pub same : (k : Known) → (rule.known k).broken ≡ k.broken
  pub params : (k : Known) → (rule.known k).shape.params ≡ k.shape.params

written_params : (automatic : Bool) (h : Shape) (n : ℕ) → (written_shape automatic h n).params ≡ h.params
written_params true h n = refl
written_params false h n = refl

keeps_in : (has : Bool) (rule : Rule) → KeepsBroken rule → KeepsBroken (in_mode has rule)
keeps_in true rule keeps = keeps
keeps_in false rule keeps = record { same = λ k. refl; params = λ k. refl }

keeps_by : (blocks : Bool) (rule rule' : Rule) → KeepsBroken rule → KeepsBroken rule' → KeepsBroken (by_blocks blocks rule rule')
keeps_by true rule rule' keeps keeps' = keeps
keeps_by false rule rule' keeps keeps' = keeps'

keeps_write : (xs : List ℤ) → KeepsBroken (write_rule xs)
keeps_write xs = record { same = λ k. refl; params = λ k. written_params k.automatic k.shape _ }

keeps_encode : (xs : List ℤ) → KeepsBroken (encode_rule xs)
keeps_encode xs = record { same = λ k. refl; params = λ k. written_params k.automatic (counting_whole k.shape (end_written xs k.shape k.write_place)) _ }

keeps_seek : (mode : Mode) (n : ℕ) → KeepsBroken (seek_rule mode n)
keeps_seek reading n = record { same = λ k. refl; params = λ k. refl }
keeps_seek writing n = record { same = λ k. refl; params = λ k. refl }
keeps_seek encoding n = record { same = λ k. refl; params = λ k. refl }
keeps_seek updating n = record { same = λ k. refl; params = λ k. refl }
keeps_seek pinned n = record { same = λ k. refl; params = λ k. refl }

keeps_bext : (key : BextKey) (text : List ℕ) → KeepsBroken (set_bext_rule key text)
keeps_bext Description text = record { same = λ k. refl; params = λ k. refl }
keeps_bext Originator text = record { same = λ k. refl; params = λ k. refl }
keeps_bext OrigRef text = record { same = λ k. refl; params = λ k. refl }
keeps_bext OrigDate text = record { same = λ k. refl; params = λ k. refl }
keeps_bext OrigTime text = record { same = λ k. refl; params = λ k. refl }
keeps_bext TimeRef text = record { same = λ k. refl; params = λ k. refl }
keeps_bext CodingHist text = record { same = λ k. refl; params = λ k. refl }

keeps_plain : (mode : Mode) (taps : List Gauge) (said : Said) → KeepsBroken (plain_rule mode taps said)
keeps_plain mode taps (Said.open_read name) = record { same = λ k. refl; params = λ k. refl }
keeps_plain mode taps (Said.open_update name) = record { same = λ k. refl; params = λ k. refl }
keeps_plain mode taps (Said.create kind codec channels rate name) = record { same = λ k. refl; params = λ k. refl }
keeps_plain mode taps Said.info = record { same = λ k. refl; params = λ k. refl }
keeps_plain mode taps Said.close = record { same = λ k. refl; params = λ k. refl }
keeps_plain mode taps (Said.seek_read n) = keeps_in (reads mode) (seek_read_rule n) (record { same = λ k. refl; params = λ k. refl })
keeps_plain mode taps (Said.seek_write n) = keeps_in (writes mode) _ (keeps_by (encodes mode) (refused_rule AdpcmSeek) (seek_write_rule n) (record { same = λ k. refl; params = λ k. refl }) (record { same = λ k. refl; params = λ k. refl }))
keeps_plain mode taps (Said.seek_both n) = keeps_seek mode n
keeps_plain mode taps (Said.read n) = keeps_in (reads mode) (read_rule n) (record { same = λ k. refl; params = λ k. refl })
keeps_plain mode taps (Said.write xs) = keeps_in (writes mode) _ (keeps_by (encodes mode) (encode_rule xs) (write_rule xs) (keeps_encode xs) (keeps_write xs))
keeps_plain mode taps (Said.truncate n) = keeps_in (writes mode) _ (keeps_by (encodes mode) (refused_rule AdpcmUpdate) (truncate_rule n) (record { same = λ k. refl; params = λ k. refl }) (record { same = λ k. refl; params = λ k. refl }))
keeps_plain mode taps Said.trim = keeps_in (writes mode) _ (keeps_by (encodes mode) (refused_rule AdpcmUpdate) trim_rule (record { same = λ k. refl; params = λ k. refl }) (record { same = λ k. refl; params = λ k. refl }))
keeps_plain mode taps Said.update = keeps_in (writes mode) update_rule (record { same = λ k. refl; params = λ k. refl })
keeps_plain mode taps (Said.auto on) = keeps_in (writes mode) (auto_rule on) (record { same = λ k. refl; params = λ k. refl })
keeps_plain mode taps Said.promote = keeps_in (updates mode) promote_rule (record { same = λ k. refl; params = λ k. refl })
keeps_plain mode taps Said.reserve = keeps_in (makes mode) reserve_rule (record { same = λ k. refl; params = λ k. params_of_heads (Some 28) Wave k.shape.params _ })
keeps_plain mode taps (Said.set_chunk id hex) = keeps_in (makes mode) (set_chunk_rule id hex) (record { same = λ k. refl; params = λ k. params_of_heads k.shape.reserve k.shape.kind k.shape.params _ })
keeps_plain mode taps (Said.set_string key text) = keeps_in (makes mode) (set_string_rule key text) (record { same = λ k. refl; params = λ k. refl })
keeps_plain mode taps (Said.set_bext key text) = keeps_in (makes mode) (set_bext_rule key text) (keeps_bext key text)
keeps_plain mode taps (Said.set_cue places) = keeps_in (makes mode) (set_cue_rule places) (record { same = λ k. refl; params = λ k. refl })
keeps_plain mode taps (Said.get_chunk id) = record { same = λ k. refl; params = λ k. refl }
keeps_plain mode taps Said.get_chunks = record { same = λ k. refl; params = λ k. refl }
keeps_plain mode taps Said.get_strings = record { same = λ k. refl; params = λ k. refl }
keeps_plain mode taps Said.get_bext = record { same = λ k. refl; params = λ k. refl }
keeps_plain mode taps Said.get_cues = record { same = λ k. refl; params = λ k. refl }
keeps_plain mode taps (Said.tap kind) = record { same = λ k. refl; params = λ k. refl }
keeps_plain mode taps (Said.untap kind) = record { same = λ k. refl; params = λ k. refl }

keeps_held : (held : Bool) (mode : Mode) (rule : Rule) → KeepsBroken rule → KeepsBroken (unless_pinned held mode rule)
keeps_held true mode rule keeps = keeps_pinned (is_pinned mode) rule keeps
  where
    keeps_pinned : (pins : Bool) (rule : Rule) → KeepsBroken rule → KeepsBroken (if pins then refused_rule Pinned else rule)
    keeps_pinned true rule keeps = record { same = λ k. refl; params = λ k. refl }
    keeps_pinned false rule keeps = keeps
keeps_held false mode rule keeps = keeps

keeps_rule : (mode : Mode) (taps : List Gauge) (said : Said) → KeepsBroken (rule_of mode taps said)
keeps_rule mode taps said = keeps_held (is_held said) mode (plain_rule mode taps said) (keeps_plain mode taps said)

keeps_known : (puts : Option (List ℕ)) (done k k' : Known) → done.broken ≡ k.broken → IsKnown puts done k k' → k'.broken ≡ k.broken
keeps_known None done k k' same is = ap (λ (x : Known). x.broken) is ∙ same
keeps_known (Some id) done k k' same (body, is) = ap (λ (x : Known). x.broken) is

keeps_unless : (refusal : Option Refusal) (rule : Rule) (k k' : Known) (reply : Reply) → KeepsBroken rule → RepliesUnless refusal rule k k' reply → k'.broken ≡ k.broken
keeps_unless (Some refusal) rule k k' reply keeps replies = ap (λ (x : Known). x.broken) replies.1
keeps_unless None rule k k' reply keeps replies =
    ⊎_elim (λ done. keeps_known rule.puts (rule.known k) k k' (keeps.same k) done.1) (λ found. ap (λ (x : Known). x.broken) found.3) replies

pub whole_after : (mode : Mode) (taps : List Gauge) (said : Said) (k k' : Known) (reply : Reply) → k.broken ≡ None → RepliesBy (rule_of mode taps said) k k' reply → k'.broken ≡ None
whole_after mode taps said k k' reply whole replies =
    keeps_unless _ (rule_of mode taps said) k k' reply (keeps_rule mode taps said) replies ∙ whole

-- .. and a fault of its disk breaks it
pub broken_after : (first : Bool) (step : Step) (k k' : Known) → IsBrokenAt first step k k' → is_none k'.broken ≡ false
broken_after true step k k' is = ⊎_elim (λ plain. ap (λ (x : Known). is_none x.broken) plain) (λ done. ap (λ (x : Known). is_none x.broken) done) is
broken_after false step k k' is = ap (λ (x : Known). is_none x.broken) is

-- ---- its parameters

params_known : (puts : Option (List ℕ)) (done k k' : Known) → done.shape.params ≡ k.shape.params → IsKnown puts done k k' → k'.shape.params ≡ k.shape.params
params_known None done k k' same is = ap (λ (x : Known). x.shape.params) is ∙ same
params_known (Some id) done k k' same (body, is) = ap (λ (x : Known). x.shape.params) is ∙ params_of_heads k.shape.reserve k.shape.kind k.shape.params _

params_unless : (refusal : Option Refusal) (rule : Rule) (k k' : Known) (reply : Reply) → KeepsBroken rule → RepliesUnless refusal rule k k' reply → k'.shape.params ≡ k.shape.params
params_unless (Some refusal) rule k k' reply keeps replies = ap (λ (x : Known). x.shape.params) replies.1
params_unless None rule k k' reply keeps replies =
    ⊎_elim (λ done. params_known rule.puts (rule.known k) k k' (keeps.params k) done.1) (λ found. ap (λ (x : Known). x.shape.params) found.3) replies

params_broken : (first : Bool) (step : Step) (k k' : Known) → IsBrokenAt first step k k' → k'.shape.params ≡ k.shape.params
params_broken true step k k' is = ⊎_elim (λ plain. ap (λ (x : Known). x.shape.params) plain) (λ done. ap (λ (x : Known). x.shape.params) done) is
params_broken false step k k' is = ap (λ (x : Known). x.shape.params) is

pub params_after : (mode : Mode) (taps : List Gauge) (said : Said) (r : Result Reply StepFault) (k k' : Known) → Knows r (rule_of mode taps said) k k' → k'.shape.params ≡ k.shape.params
params_after mode taps said (Ok reply) k k' knows = params_unless _ (rule_of mode taps said) k k' reply (keeps_rule mode taps said) knows
params_after mode taps said (Err Out) k k' (reply, knows) = params_unless _ (rule_of mode taps said) k k' reply (keeps_rule mode taps said) knows
params_after mode taps said (Err Disk) k k' (step, broken) = params_broken _ step k k' broken
params_after mode taps said (Err Memory) k k' same = ap (λ (x : Known). x.shape.params) same
