-- What becomes of the taps at a command.
use Rattle.std.proofs.Common.{◌≡◌, ◌⊎◌, inl, inr, ℕ, ℤ, Bool, true, false, not, ◌*◌, ◌/◌, ◌<◌, ◌≤◌, List, [], Result, Ok, Err, length, refl, sym, ◌∙◌, ap, arith}
use Rattle.std.specs.Borrow.{Bor}
use Rattle.std.proofs.Math.Nat.{mul-div_cancel_left}
use Rattle.snd_disk.specs.State.{State}
use Rattle.snd_disk.specs.declared.disk.Disk.{Ghosts}
use Rattle.snd_layout.specs.declared.codec.Codec.{Codec}
use Rattle.snd_meta.specs.declared.bext.BextKey.{BextKey}
use Rattle.snd_meta.specs.declared.bext.BextKey.TheVariants.{Description, Originator, OrigRef, OrigDate, OrigTime, TimeRef, CodingHist}
use Rattle.snd_meters.specs.Gauge.{Gauge}
use Rattle.snd_edits.specs.Editing.{Editing}
use Rattle.snd_edits.specs.Known.{Known}
use Rattle.snd_file.specs.Handle.{Stands, known_of}
use Rattle.snd_file.specs.declared.handle.File.{File}
use Rattle.snd_edits.specs.declared.mode.Mode.{Ghosts as ModeGhosts}
use Rattle.snd_pcm.specs.Groups.{first_groups, groups}
use Rattle.snd_rules.specs.Desk.{Mode, encodes, encoding, makes, pinned, reading, reads, updates, updating, writes, writing}
use Rattle.snd_rules.specs.Rules.{Rule, auto_rule, by_blocks, encode_rule, in_mode, promote_rule, read_rule, refused_rule, seek_read_rule, seek_rule, seek_write_rule, set_bext_rule, trim_rule, truncate_rule, unless_pinned, update_rule, write_rule}
use Rattle.snd_rules.specs.Stepped.{LeavesTaps, IsSent}
use Rattle.snd_session.specs.Follows.{FeedsFile, FeedsWork, IsReadFault}
use Rattle.snd_rules.specs.Work.{asking_rule, setting_rule, work_rule}
use Rattle.snd_rules.specs.declared.reply.Reply.{Reply}
use Rattle.snd_rules.specs.declared.reply.StepFault.{StepFault}
use Rattle.snd_rules.specs.declared.reply.StepFault.TheVariants.{Disk, Out, Memory}
use Rattle.snd_rules.specs.declared.work.Asking.{Asking}
use Rattle.snd_rules.specs.declared.work.Asking.TheVariants as asking
use Rattle.snd_rules.specs.declared.work.Setting.{Setting}
use Rattle.snd_rules.specs.declared.work.Setting.TheVariants as setting
use Rattle.snd_rules.specs.declared.work.Work.{Work}
use Rattle.snd_rules.specs.declared.work.Work.TheVariants.{Open, Update, Make, Close, Tell, SeekRead, SeekWrite, SeekBoth, Read, Write, Truncate, Trim, BringUp, Auto, Promote, Set, Ask, Tap, Untap}
use Rattle.snd_lines.specs.declared.refusal.Refusal.TheVariants.{AdpcmSeek, AdpcmUpdate, AlreadyOpen}

-- a rule that feeds nothing, and leaves the taps
pub record StaysFed (rule : Rule) : Type 0 where
  pub feeds : (e : Editing) → rule.feeds e ≡ []
  pub taps : (codec : Codec) (frames : List (List ℤ)) (taps : List Gauge) → rule.taps codec frames taps ≡ taps

module _ (after : List (List ℤ) → List Gauge → List Gauge) (are : List (List ℤ) → Type 0) (taps : List Gauge) where
  -- nothing is fed, and none changes
  pub taps_stay : (r : Result Reply StepFault) → are [] → after [] taps ≡ taps → LeavesTaps r after are taps taps
  taps_stay (Ok reply) none same = ([], none, sym same)
  taps_stay (Err Out) none same = ([], none, sym same)
  taps_stay (Err Disk) none same = refl
  taps_stay (Err Memory) none same = refl

  -- a reply was sent, whether or not it got out
  pub taps_sent : (r : Result Reply StepFault) (o o' : ℕ) (taps' : List Gauge) (frames : List (List ℤ)) → IsSent r o o' → are frames → taps' ≡ after frames taps → LeavesTaps r after are taps taps'
  taps_sent (Ok reply) o o' taps' frames sent here is = (frames, here, is)
  taps_sent (Err Out) o o' taps' frames sent here is = (frames, here, is)
  taps_sent (Err Disk) o o' taps' frames sent here is = absurd sent
  taps_sent (Err Memory) o o' taps' frames sent here is = absurd sent

  -- no frames were read
  pub taps_unfed : (fault : StepFault) (old new : Known) (n n' : ℕ) → IsReadFault old new n n' fault → LeavesTaps (Err fault) after are taps taps
  taps_unfed Disk old new n n' failed = refl
  taps_unfed Memory old new n n' failed = refl
  taps_unfed Out old new n n' failed = absurd failed

-- the whole groups of numbers that are so many frames
pub frames_in : (channels k : ℕ) (xs : List ℤ) → 1 ≤ channels → length xs ≡ k * channels → groups channels xs ≡ first_groups channels k xs
frames_in channels k xs some count =
    let turned : k * channels ≡ channels * k = omega arith in
    let is : length xs / channels ≡ k = ap (λ n. n / channels) (count ∙ turned) ∙ mul-div_cancel_left k (let e : 0 < channels = omega (arith, some) in e) in
    ap (λ n. first_groups channels n xs) is

-- what is asked of chunks, or set in them, leaves the taps
pub asking_stays : (asking : Asking) → StaysFed (asking_rule asking)
asking_stays (asking.Chunk id) = record { feeds = λ e. refl; taps = λ codec frames taps. refl }
asking_stays asking.Chunks = record { feeds = λ e. refl; taps = λ codec frames taps. refl }
asking_stays asking.Texts = record { feeds = λ e. refl; taps = λ codec frames taps. refl }
asking_stays asking.Broadcast = record { feeds = λ e. refl; taps = λ codec frames taps. refl }
asking_stays asking.Points = record { feeds = λ e. refl; taps = λ codec frames taps. refl }

field_stays : (key : BextKey) (text : List ℕ) → StaysFed (set_bext_rule key text)
field_stays Description text = record { feeds = λ e. refl; taps = λ codec frames taps. refl }
field_stays Originator text = record { feeds = λ e. refl; taps = λ codec frames taps. refl }
field_stays OrigRef text = record { feeds = λ e. refl; taps = λ codec frames taps. refl }
field_stays OrigDate text = record { feeds = λ e. refl; taps = λ codec frames taps. refl }
field_stays OrigTime text = record { feeds = λ e. refl; taps = λ codec frames taps. refl }
field_stays TimeRef text = record { feeds = λ e. refl; taps = λ codec frames taps. refl }
field_stays CodingHist text = record { feeds = λ e. refl; taps = λ codec frames taps. refl }

pub setting_stays : (setting : Setting) → StaysFed (setting_rule setting)
setting_stays (setting.Chunk id hex) = record { feeds = λ e. refl; taps = λ codec frames taps. refl }
setting_stays (setting.Text key text) = record { feeds = λ e. refl; taps = λ codec frames taps. refl }
setting_stays (setting.Field key text) = field_stays key text.now
setting_stays (setting.Points places) = record { feeds = λ e. refl; taps = λ codec frames taps. refl }
setting_stays setting.Reservation = record { feeds = λ e. refl; taps = λ codec frames taps. refl }

-- a rule that leaves them is followed
pub rule_stays : {D M : Type 0} {ghosts : Ghosts D} {mode : ModeGhosts M} (state : D → State) (rule : Rule) (r : Result Reply StepFault) (file : File D M ghosts mode) (taps : List Gauge) → StaysFed rule
    → FeedsFile state rule r file taps taps
rule_stays state rule r file taps stays =
    taps_stay (rule.taps (known_of file).shape.params.codec) (λ frames. (e : Editing) → Stands state file e → frames ≡ rule.feeds e) taps r (λ e here. sym (stays.feeds e)) (stays.taps (known_of file).shape.params.codec [] taps)

-- work that leaves them in a mode
abbrev pub is_quiet : Mode → Work → Bool
is_quiet mode (Read n) = not (reads mode)
is_quiet mode (Tap kind) = false
is_quiet mode (Untap kind) = false
is_quiet mode work = true

stays_in : (has : Bool) (rule : Rule) → StaysFed rule → StaysFed (in_mode has rule)
stays_in true rule stays = stays
stays_in false rule stays = record { feeds = λ e. refl; taps = λ codec frames taps. refl }

stays_by : (blocks : Bool) (rule rule' : Rule) → StaysFed rule → StaysFed rule' → StaysFed (by_blocks blocks rule rule')
stays_by true rule rule' stays stays' = stays
stays_by false rule rule' stays stays' = stays'

stays_unread : (has : Bool) (rule : Rule) → not has ≡ true → StaysFed (in_mode has rule)
stays_unread true rule quiet = absurd (cc)
stays_unread false rule quiet = record { feeds = λ e. refl; taps = λ codec frames taps. refl }

stays_held : (mode : Mode) (rule : Rule) → StaysFed rule → StaysFed (unless_pinned true mode rule)
stays_held reading rule stays = stays
stays_held writing rule stays = stays
stays_held encoding rule stays = stays
stays_held updating rule stays = stays
stays_held pinned rule stays = record { feeds = λ e. refl; taps = λ codec frames taps. refl }

seek_stays : (mode : Mode) (n : ℕ) → StaysFed (seek_rule mode n)
seek_stays reading n = record { feeds = λ e. refl; taps = λ codec frames taps. refl }
seek_stays writing n = record { feeds = λ e. refl; taps = λ codec frames taps. refl }
seek_stays encoding n = record { feeds = λ e. refl; taps = λ codec frames taps. refl }
seek_stays updating n = record { feeds = λ e. refl; taps = λ codec frames taps. refl }
seek_stays pinned n = record { feeds = λ e. refl; taps = λ codec frames taps. refl }

opens_none : (mode : Mode) → StaysFed (unless_pinned true mode (refused_rule AlreadyOpen))
opens_none mode = stays_held mode (refused_rule AlreadyOpen) (record { feeds = λ e. refl; taps = λ codec frames taps. refl })

work_stays : (mode : Mode) (taps : List Gauge) (work : Work) → is_quiet mode work ≡ true → StaysFed (work_rule mode taps work)
work_stays mode taps Tell quiet = record { feeds = λ e. refl; taps = λ codec frames taps. refl }
work_stays mode taps (SeekRead n) quiet = stays_in (reads mode) (seek_read_rule n) (record { feeds = λ e. refl; taps = λ codec frames taps. refl })
work_stays mode taps (SeekWrite n) quiet = stays_in (writes mode) _ (stays_by (encodes mode) (refused_rule AdpcmSeek) (seek_write_rule n) (record { feeds = λ e. refl; taps = λ codec frames taps. refl }) (record { feeds = λ e. refl; taps = λ codec frames taps. refl }))
work_stays mode taps (SeekBoth n) quiet = seek_stays mode n
work_stays mode taps (Read n) quiet = stays_unread (reads mode) (read_rule n) quiet
work_stays mode taps (Write xs) quiet = stays_in (writes mode) _ (stays_by (encodes mode) (encode_rule xs.now) (write_rule xs.now) (record { feeds = λ e. refl; taps = λ codec frames taps. refl }) (record { feeds = λ e. refl; taps = λ codec frames taps. refl }))
work_stays mode taps (Truncate n) quiet = stays_in (writes mode) _ (stays_by (encodes mode) (refused_rule AdpcmUpdate) (truncate_rule n) (record { feeds = λ e. refl; taps = λ codec frames taps. refl }) (record { feeds = λ e. refl; taps = λ codec frames taps. refl }))
work_stays mode taps Trim quiet = stays_in (writes mode) _ (stays_by (encodes mode) (refused_rule AdpcmUpdate) trim_rule (record { feeds = λ e. refl; taps = λ codec frames taps. refl }) (record { feeds = λ e. refl; taps = λ codec frames taps. refl }))
work_stays mode taps BringUp quiet = stays_in (writes mode) update_rule (record { feeds = λ e. refl; taps = λ codec frames taps. refl })
work_stays mode taps (Auto on) quiet = stays_held mode (in_mode (writes mode) (auto_rule on)) (stays_in (writes mode) (auto_rule on) (record { feeds = λ e. refl; taps = λ codec frames taps. refl }))
work_stays mode taps Promote quiet = stays_in (updates mode) promote_rule (record { feeds = λ e. refl; taps = λ codec frames taps. refl })
work_stays mode taps (Set setting) quiet = stays_in (makes mode) (setting_rule setting) (setting_stays setting)
work_stays mode taps (Ask asking) quiet = asking_stays asking
work_stays mode taps (Tap kind) quiet = absurd (cc)
work_stays mode taps (Untap kind) quiet = absurd (cc)
work_stays mode taps (Open name) quiet = opens_none mode
work_stays mode taps (Update name) quiet = opens_none mode
work_stays mode taps (Make kind codec channels rate name) quiet = opens_none mode
work_stays mode taps Close quiet = opens_none mode

-- so it is done
pub work_fed : {D M : Type 0} {ghosts : Ghosts D} {mode : ModeGhosts M} (state : D → State) (how : Mode) (work : Work) (r : Result Reply StepFault) (file : File D M ghosts mode) (taps : List Gauge) → is_quiet how work ≡ true
    → FeedsWork state how work r file taps taps
work_fed state how work r file taps quiet = rule_stays state (work_rule how taps work) r file taps (work_stays how taps work quiet)

-- several kinds of work that are refused alike
pub changing_is_quiet : (w : Work) → ((s : Setting) × (w ≡ Set s)) ⊎ (((n : ℕ) × (w ≡ SeekWrite n)) ⊎ (((xs : Bor (List ℤ)) × (w ≡ Write xs)) ⊎ (((n : ℕ) × (w ≡ Truncate n)) ⊎ ((w ≡ Trim) ⊎ ((w ≡ BringUp) ⊎ (((on : Bool) × (w ≡ Auto on)) ⊎ (w ≡ Promote)))))))
    → is_quiet reading w ≡ true
changing_is_quiet w (inl is) = ap (is_quiet reading) is.1
changing_is_quiet w (inr (inl is)) = ap (is_quiet reading) is.1
changing_is_quiet w (inr (inr (inl is))) = ap (is_quiet reading) is.1
changing_is_quiet w (inr (inr (inr (inl is)))) = ap (is_quiet reading) is.1
changing_is_quiet w (inr (inr (inr (inr (inl is))))) = ap (is_quiet reading) is
changing_is_quiet w (inr (inr (inr (inr (inr (inl is)))))) = ap (is_quiet reading) is
changing_is_quiet w (inr (inr (inr (inr (inr (inr (inl is))))))) = ap (is_quiet reading) is.1
changing_is_quiet w (inr (inr (inr (inr (inr (inr (inr is))))))) = ap (is_quiet reading) is
