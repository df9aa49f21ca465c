use Rattle.std.proofs.Common.{rules, ◌≡◌, ap, sym, subst, ◌<◌, ◌≤◌, Bool, cond, false, arith}
use Rattle.std.proofs.lemmas.Bool.{le-ltb, lt-ltb}
use Rattle.snd_layout.specs.Shape.{Shape}
use Rattle.snd_edits.specs.Edits.{cut_to, sealed_to, truncated_to}
use Rattle.snd_file.specs.Handle.{Stands}
use Rattle.snd_edits.specs.Laws.{MayTruncate, truncates}
use Rattle.snd_file.proofs.KeptChunks.{stay_cut}
use Rattle.snd_file.proofs.LeftSafe.{edited_of, rests_after, truncating_is_safe, unchanged, where_failed}
use Rattle.snd_edits.proofs.Public.{cut_rest}
use Rattle.snd_file.proofs.handle.File.truncate.Goals as goal

pub returns-then-to-frames-2-clause-stands : goal.returns-then-to-frames-2-clause-stands
returns-then-to-frames-2-clause-stands g c = λ e stands.
    let same : c.args.to ≡ c.args.self.now.layout.frames = search rules in
    let all : e.shape.frames ≤ c.args.to = omega (arith, same, ap (λ (s : Shape). s.frames) stands.shape) in
    subst (λ (t : Bool). Stands g.D.Disk.state c.seal_file.new.self (cond t (cut_to c.args.to e) (sealed_to e))) (sym (le-ltb c.args.to e.shape.frames all)) (c.in_ok-seal_file.ensures.stands e stands)

pub returns-clause-stands : goal.returns-clause-stands
returns-clause-stands g c = λ e stands.
    let fewer : c.args.to < c.args.self.now.layout.frames = search rules in
    let some : c.args.to < e.shape.frames = omega (arith, fewer, ap (λ (s : Shape). s.frames) stands.shape) in
    subst (λ (t : Bool). Stands g.D.Disk.state c.cut_file.new.self (cond t (cut_to c.args.to e) (sealed_to e))) (sym (lt-ltb c.args.to e.shape.frames some)) (c.in_ok-cut_file.ensures.stands e stands)

pub returns-in-Some-clause-leaves : goal.returns-in-Some-clause-leaves
returns-in-Some-clause-leaves g c = λ opened e rest. unchanged g.D.Disk opened c.args.self.now e rest g.met.D.Disk.only_now e

pub returns-then-to-frames-clause-leaves : goal.returns-then-to-frames-clause-leaves
returns-then-to-frames-clause-leaves g c = λ opened e rest. unchanged g.D.Disk opened c.args.self.now e rest g.met.D.Disk.only_now e

pub returns-then-self-clause-leaves : goal.returns-then-self-clause-leaves
returns-then-self-clause-leaves g c = λ opened e rest. unchanged g.D.Disk opened c.args.self.now e rest g.met.D.Disk.only_now e

pub returns-in_err-seal_file-clause-leaves : goal.returns-in_err-seal_file-clause-leaves
returns-in_err-seal_file-clause-leaves g c = λ opened e rest. c.seal_file.ensures.leaves opened e _ rest

pub returns-then-to-frames-2-clause-leaves : goal.returns-then-to-frames-2-clause-leaves
returns-then-to-frames-2-clause-leaves g c = λ opened e rest. c.seal_file.ensures.leaves opened e (truncated_to c.args.to e) rest

pub returns-then-to-frames-2-clause-rests : goal.returns-then-to-frames-2-clause-rests
returns-then-to-frames-2-clause-rests g c = λ opened e rest.
    let to = c.args.to in
    let same : to ≡ c.args.self.now.layout.frames = search rules in
    let may : MayTruncate to e.shape = subst (MayTruncate to) rest.stands.shape (record { within = omega (arith, same); free = λ fewer. absurd (omega (arith, same, fewer)) }) in
    rests_after g.D.Disk opened c.seal_file.new.self e (truncated_to to e) g.met.M.CanWrite.by_place (edited_of g.M.Mode.ENCODES opened e g.met.M.CanWrite.by_place rest.state) (truncates to may)
    (cut_rest opened e to (edited_of g.M.Mode.ENCODES opened e g.met.M.CanWrite.by_place rest.state) rest.fit.bytes rest.fit.whole may)
    (returns-then-to-frames-2-clause-stands g c e rest.stands) c.in_ok-seal_file.ensures.stable

pub returns-in_err-cut_file-clause-leaves : goal.returns-in_err-cut_file-clause-leaves
returns-in_err-cut_file-clause-leaves g c = λ opened e rest.
    let fewer : c.args.to < c.args.self.now.layout.frames = search rules in
    where_failed g.D.Disk _ _ e _ (truncated_to c.args.to) (search rules) (truncating_is_safe g.D.Disk opened c.args.self.now e rest c.cut_file.new.self c.args.to fewer c.cut_file.ensures.leaves)

pub returns-clause-leaves : goal.returns-clause-leaves
returns-clause-leaves g c = λ opened e rest.
    let fewer : c.args.to < c.args.self.now.layout.frames = search rules in
    truncating_is_safe g.D.Disk opened c.args.self.now e rest c.cut_file.new.self c.args.to fewer c.cut_file.ensures.leaves

pub returns-clause-rests : goal.returns-clause-rests
returns-clause-rests g c = λ opened e rest.
    let to = c.args.to in
    let fewer : to < c.args.self.now.layout.frames = search rules in
    let free : c.args.self.now.layout.trailing ≡ false = search rules in
    let may : MayTruncate to e.shape = subst (MayTruncate to) rest.stands.shape (record { within = omega (arith, fewer); free = λ less. free }) in
    rests_after g.D.Disk opened c.cut_file.new.self e (truncated_to to e) g.met.M.CanWrite.by_place (edited_of g.M.Mode.ENCODES opened e g.met.M.CanWrite.by_place rest.state) (truncates to may)
    (cut_rest opened e to (edited_of g.M.Mode.ENCODES opened e g.met.M.CanWrite.by_place rest.state) rest.fit.bytes rest.fit.whole may)
    (returns-clause-stands g c e rest.stands) c.in_ok-cut_file.ensures.stable

pub returns-then-to-frames-2-clause-chunks : goal.returns-then-to-frames-2-clause-chunks
returns-then-to-frames-2-clause-chunks g c =
    let same : c.args.to ≡ c.args.self.now.layout.frames = search rules in
    stay_cut g.D.Disk c.args.self.now c.seal_file.new.self c.args.to (record { within = omega (arith, same); free = λ fewer. absurd (omega (arith, same, fewer)) }) (returns-then-to-frames-2-clause-stands g c)

pub returns-clause-chunks : goal.returns-clause-chunks
returns-clause-chunks g c =
    let fewer : c.args.to < c.args.self.now.layout.frames = search rules in
    let free : c.args.self.now.layout.trailing ≡ false = search rules in
    stay_cut g.D.Disk c.args.self.now c.cut_file.new.self c.args.to (record { within = omega (arith, fewer); free = λ less. free }) (returns-clause-stands g c)
