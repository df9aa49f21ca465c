use Rattle.std.proofs.Common.{◌≡◌, List, false, refl, sym, ap, subst}
use Rattle.snd_command.specs.Said.{Said, said_of}
use Rattle.snd_meters.specs.Gauge.{Gauge}
use Rattle.snd_edits.specs.Known.{Known}
use Rattle.snd_file.specs.Handle.{known_of}
use Rattle.snd_rules.specs.Desk.{encoding, reading, updating, writing}
use Rattle.snd_rules.specs.Stepped.{changes_by}
use Rattle.snd_rules.specs.Rules.{Rule, rule_of}
use Rattle.snd_session.specs.Tapped.{meter_taps, session_taps}
use Rattle.snd_session.specs.Follows.{FeedsFile, Follows, switches_on}
use Rattle.snd_rules.specs.Work.{work_rule}
use Rattle.snd_rules.specs.declared.work.Work.{Work}
use Rattle.snd_rules.specs.declared.work.Work.TheVariants.{Open, Update, Make, Close, Tell, SeekRead, SeekWrite, SeekBoth, Read, Write, Truncate, Trim, BringUp, Auto, Promote, Set, Ask, Tap, Untap}
use Rattle.snd_rules.specs.declared.work.Asking.TheVariants as asking
use Rattle.snd_session.proofs.Resting.{Safely, ToRest, also_resting, works_safely, works_to_rest}
use Rattle.snd_rules.proofs.Public.{params_after}
use Rattle.snd_session.proofs.session.Session.carry_out.Goals as goal

-- a file that is read is not changed
only_read : (taps : List Gauge) (work : Work) (h : Known) → changes_by (work_rule reading taps work) h ≡ false
only_read taps (Open name) h = refl
only_read taps (Update name) h = refl
only_read taps (Make kind codec channels rate name) h = refl
only_read taps Close h = refl
only_read taps Tell h = refl
only_read taps (SeekRead n) h = refl
only_read taps (SeekWrite n) h = refl
only_read taps (SeekBoth n) h = refl
only_read taps (Read n) h = refl
only_read taps (Write xs) h = refl
only_read taps (Truncate n) h = refl
only_read taps Trim h = refl
only_read taps BringUp h = refl
only_read taps (Auto on) h = refl
only_read taps Promote h = refl
only_read taps (Set setting) h = refl
only_read taps (Ask (asking.Chunk id)) h = refl
only_read taps (Ask asking.Chunks) h = refl
only_read taps (Ask asking.Texts) h = refl
only_read taps (Ask asking.Broadcast) h = refl
only_read taps (Ask asking.Points) h = refl
only_read taps (Tap kind) h = refl
only_read taps (Untap kind) h = refl

pub returns-in-R-clause-steps : goal.returns-in-R-clause-steps
returns-in-R-clause-steps g c =
    let taps = session_taps (λ b. (goal.Tap-dyn g b).meter b.1) c.args.self.now in
    let work = c.work_of-work.result in
    let new = c.step_read.new.file in
    let is : work_rule reading taps work ≡ rule_of reading taps (said_of c.args.said) = sym (c.work_of-work.ensures.rule reading taps c.requires.step) in
    let follows = subst (λ (rule : Rule). Follows g.D.Disk g.O.Sink rule c.step_read.result c.in-R.file c.args.out.now new c.step_read.new.out) is c.step_read.ensures.follows in
    let safe = subst (λ (rule : Rule). Safely g.D.Disk rule c.in-R.file new) is (works_safely g.D.Disk g.O.Sink reading taps work c.step_read.result c.in-R.file c.args.out.now new c.step_read.new.out g.met.D.Disk.only_now c.step_read.ensures.follows) in
    let rests = subst (λ (rule : Rule). ToRest g.D.Disk rule c.step_read.result c.in-R.file new) is
    (works_to_rest g.D.Disk g.O.Sink reading taps work c.step_read.result c.in-R.file c.args.out.now new c.step_read.new.out g.met.D.Disk.only_now c.step_read.ensures.follows) in
    rw c.in-R.is (record {
      stands = follows.stands;
      said = follows.said;
      replies = follows.replies;
      silent = follows.silent;
      cause = follows.cause;
      memory = follows.memory;
      knows = follows.knows;
      leaves = record {
        mode = refl;
        params = params_after reading taps (said_of c.args.said) _ _ _ follows.knows;
        loan = follows.loan;
        tells = follows.tells;
        time = follows.time;
        reads = λ plain. c.step_read.ensures.follows.reads (only_read taps c.work_of-work.result (known_of c.in-R.file));
      };
      reads = follows.reads;
      safe = λ on e rest. safe on rest.0 e rest.1;
      rests = λ on e rest. rests on rest.0 e rest.1;
      begins = λ auto changes. absurd (let none : changes_by (rule_of reading taps (said_of c.args.said)) (known_of c.in-R.file) ≡ false = ap (λ (said : Said). changes_by (rule_of reading taps said) (known_of c.in-R.file)) auto in cc);
      asked = follows.asked;
      written = follows.written;
    })

pub returns-in-R-clause-taps : goal.returns-in-R-clause-taps
returns-in-R-clause-taps g c =
    let taps = session_taps (λ b. (goal.Tap-dyn g b).meter b.1) c.args.self.now in
    let is : work_rule reading taps c.work_of-work.result ≡ rule_of reading taps (said_of c.args.said) = sym (c.work_of-work.ensures.rule reading taps c.requires.step) in
    rw c.in-R.is (subst (λ (rule : Rule). FeedsFile g.D.Disk.state rule c.step_read.result c.in-R.file taps (meter_taps (λ b. (goal.Tap-dyn g b).meter b.1) c.step_read.new.meters)) is c.step_read.ensures.taps)

pub returns-in-W-clause-steps : goal.returns-in-W-clause-steps
returns-in-W-clause-steps g c =
    let taps = session_taps (λ b. (goal.Tap-dyn g b).meter b.1) c.args.self.now in
    let work = c.work_of-work.result in
    let new = c.step_made.new.file in
    let is : work_rule writing taps work ≡ rule_of writing taps (said_of c.args.said) = sym (c.work_of-work.ensures.rule writing taps c.requires.step) in
    let follows = subst (λ (rule : Rule). Follows g.D.Disk g.O.Sink rule c.step_made.result c.in-W.file c.args.out.now new c.step_made.new.out) is c.step_made.ensures.follows in
    let safe = subst (λ (rule : Rule). Safely g.D.Disk rule c.in-W.file new) is (works_safely g.D.Disk g.O.Sink writing taps work c.step_made.result c.in-W.file c.args.out.now new c.step_made.new.out g.met.D.Disk.only_now c.step_made.ensures.follows) in
    let rests = subst (λ (rule : Rule). ToRest g.D.Disk rule c.step_made.result c.in-W.file new) is
    (works_to_rest g.D.Disk g.O.Sink writing taps work c.step_made.result c.in-W.file c.args.out.now new c.step_made.new.out g.met.D.Disk.only_now c.step_made.ensures.follows) in
    rw c.in-W.is (record {
      stands = follows.stands;
      said = follows.said;
      replies = follows.replies;
      silent = follows.silent;
      cause = follows.cause;
      memory = follows.memory;
      knows = follows.knows;
      leaves = record {
        mode = refl;
        params = params_after writing taps (said_of c.args.said) _ _ _ follows.knows;
        loan = follows.loan;
        tells = follows.tells;
        time = follows.time;
        reads = λ plain. absurd (cc);
      };
      reads = follows.reads;
      safe = λ on e rest. safe on rest.0 e rest.1;
      rests = λ on e rest. rests on rest.0 e rest.1;
      begins = λ auto changes opened e of bytes here. also_resting g.D.Disk opened c.step_made.result _ e new
          (follows.begins changes (ap (λ (said : Said). switches_on (rule_of writing taps said) (known_of c.in-W.file)) auto) opened e of bytes here);
      asked = follows.asked;
      written = follows.written;
    })

pub returns-in-W-clause-taps : goal.returns-in-W-clause-taps
returns-in-W-clause-taps g c =
    let taps = session_taps (λ b. (goal.Tap-dyn g b).meter b.1) c.args.self.now in
    let is : work_rule writing taps c.work_of-work.result ≡ rule_of writing taps (said_of c.args.said) = sym (c.work_of-work.ensures.rule writing taps c.requires.step) in
    rw c.in-W.is (subst (λ (rule : Rule). FeedsFile g.D.Disk.state rule c.step_made.result c.in-W.file taps (meter_taps (λ b. (goal.Tap-dyn g b).meter b.1) c.step_made.new.meters)) is c.step_made.ensures.taps)

pub returns-in-B-clause-steps : goal.returns-in-B-clause-steps
returns-in-B-clause-steps g c =
    let taps = session_taps (λ b. (goal.Tap-dyn g b).meter b.1) c.args.self.now in
    let work = c.work_of-work.result in
    let new = c.step_blocks.new.file in
    let is : work_rule encoding taps work ≡ rule_of encoding taps (said_of c.args.said) = sym (c.work_of-work.ensures.rule encoding taps c.requires.step) in
    let follows = subst (λ (rule : Rule). Follows g.D.Disk g.O.Sink rule c.step_blocks.result c.in-B.file c.args.out.now new c.step_blocks.new.out) is c.step_blocks.ensures.follows in
    let safe = subst (λ (rule : Rule). Safely g.D.Disk rule c.in-B.file new) is (works_safely g.D.Disk g.O.Sink encoding taps work c.step_blocks.result c.in-B.file c.args.out.now new c.step_blocks.new.out g.met.D.Disk.only_now c.step_blocks.ensures.follows) in
    let rests = subst (λ (rule : Rule). ToRest g.D.Disk rule c.step_blocks.result c.in-B.file new) is
    (works_to_rest g.D.Disk g.O.Sink encoding taps work c.step_blocks.result c.in-B.file c.args.out.now new c.step_blocks.new.out g.met.D.Disk.only_now c.step_blocks.ensures.follows) in
    rw c.in-B.is (record {
      stands = follows.stands;
      said = follows.said;
      replies = follows.replies;
      silent = follows.silent;
      cause = follows.cause;
      memory = follows.memory;
      knows = follows.knows;
      leaves = record {
        mode = refl;
        params = params_after encoding taps (said_of c.args.said) _ _ _ follows.knows;
        loan = follows.loan;
        tells = follows.tells;
        time = follows.time;
        reads = λ plain. absurd (cc);
      };
      reads = follows.reads;
      safe = λ on e rest. safe on rest.0 e rest.1;
      rests = λ on e rest. rests on rest.0 e rest.1;
      begins = λ auto changes opened e of bytes here. also_resting g.D.Disk opened c.step_blocks.result _ e new
          (follows.begins changes (ap (λ (said : Said). switches_on (rule_of encoding taps said) (known_of c.in-B.file)) auto) opened e of bytes here);
      asked = follows.asked;
      written = follows.written;
    })

pub returns-in-B-clause-taps : goal.returns-in-B-clause-taps
returns-in-B-clause-taps g c =
    let taps = session_taps (λ b. (goal.Tap-dyn g b).meter b.1) c.args.self.now in
    let is : work_rule encoding taps c.work_of-work.result ≡ rule_of encoding taps (said_of c.args.said) = sym (c.work_of-work.ensures.rule encoding taps c.requires.step) in
    rw c.in-B.is (subst (λ (rule : Rule). FeedsFile g.D.Disk.state rule c.step_blocks.result c.in-B.file taps (meter_taps (λ b. (goal.Tap-dyn g b).meter b.1) c.step_blocks.new.meters)) is c.step_blocks.ensures.taps)

pub returns-in-U-clause-steps : goal.returns-in-U-clause-steps
returns-in-U-clause-steps g c =
    let taps = session_taps (λ b. (goal.Tap-dyn g b).meter b.1) c.args.self.now in
    let work = c.work_of-work.result in
    let new = c.step_update.new.file in
    let is : work_rule updating taps work ≡ rule_of updating taps (said_of c.args.said) = sym (c.work_of-work.ensures.rule updating taps c.requires.step) in
    let follows = subst (λ (rule : Rule). Follows g.D.Disk g.O.Sink rule c.step_update.result c.in-U.file c.args.out.now new c.step_update.new.out) is c.step_update.ensures.follows in
    let safe = subst (λ (rule : Rule). Safely g.D.Disk rule c.in-U.file new) is (works_safely g.D.Disk g.O.Sink updating taps work c.step_update.result c.in-U.file c.args.out.now new c.step_update.new.out g.met.D.Disk.only_now c.step_update.ensures.follows) in
    let rests = subst (λ (rule : Rule). ToRest g.D.Disk rule c.step_update.result c.in-U.file new) is
    (works_to_rest g.D.Disk g.O.Sink updating taps work c.step_update.result c.in-U.file c.args.out.now new c.step_update.new.out g.met.D.Disk.only_now c.step_update.ensures.follows) in
    rw c.in-U.is (record {
      stands = follows.stands;
      said = follows.said;
      replies = follows.replies;
      silent = follows.silent;
      cause = follows.cause;
      memory = follows.memory;
      knows = follows.knows;
      leaves = record {
        mode = refl;
        params = params_after updating taps (said_of c.args.said) _ _ _ follows.knows;
        loan = follows.loan;
        tells = follows.tells;
        time = follows.time;
        reads = λ plain. absurd (cc);
      };
      reads = follows.reads;
      safe = λ on e rest. safe on rest.0 e rest.1;
      rests = λ on e rest. rests on rest.0 e rest.1;
      begins = λ auto changes opened e of bytes here. also_resting g.D.Disk opened c.step_update.result _ e new
          (follows.begins changes (ap (λ (said : Said). switches_on (rule_of updating taps said) (known_of c.in-U.file)) auto) opened e of bytes here);
      asked = follows.asked;
      written = follows.written;
    })

pub returns-in-U-clause-taps : goal.returns-in-U-clause-taps
returns-in-U-clause-taps g c =
    let taps = session_taps (λ b. (goal.Tap-dyn g b).meter b.1) c.args.self.now in
    let is : work_rule updating taps c.work_of-work.result ≡ rule_of updating taps (said_of c.args.said) = sym (c.work_of-work.ensures.rule updating taps c.requires.step) in
    rw c.in-U.is (subst (λ (rule : Rule). FeedsFile g.D.Disk.state rule c.step_update.result c.in-U.file taps (meter_taps (λ b. (goal.Tap-dyn g b).meter b.1) c.step_update.new.meters)) is c.step_update.ensures.taps)
