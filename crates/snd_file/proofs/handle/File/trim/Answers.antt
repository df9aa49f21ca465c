use Rattle.std.proofs.Common.{rules, ◌≡◌, subst, ℕ, true, List}
use Rattle.snd_layout.specs.Shape.{Shape}
use Rattle.snd_layout.specs.declared.kind.Kind.TheVariants.{Voc}
use Rattle.snd_patch.specs.Sealed.{sealed}
use Rattle.snd_edits.specs.Edits.{sealed_to, trimmed_to, without_tail}
use Rattle.snd_file.specs.Handle.{Stands, disk_of}
use Rattle.snd_edits.specs.Laws.{trims}
use Rattle.snd_edits.proofs.Public.{off_counted, trimmed_rest}
use Rattle.snd_file.proofs.KeptChunks.{stay_trimmed}
use Rattle.snd_file.proofs.LeftSafe.{edited_of, rests_after, trimming_is_safe, unchanged}
use Rattle.snd_file.proofs.handle.File.trim.Goals as goal

pub returns-clause-stands : goal.returns-clause-stands
returns-clause-stands g c = λ e stands.
    let n = e.shape.frames in
    subst (λ (l : List ℕ). Stands g.D.Disk.state c.cut_tail.new.self (record (without_tail (sealed_to e)) { bytes = l })) (off_counted (sealed e.bytes e.shape n) e.shape n)
    (c.in_ok-cut_tail.ensures.stands (sealed_to e) (c.in_ok-seal_file.ensures.stands e stands))

pub returns-in-Some-clause-leaves : goal.returns-in-Some-clause-leaves
returns-in-Some-clause-leaves g c = λ opened e rest. unchanged g.D.Disk opened c.args.self.now e rest g.met.D.Disk.only_now e

pub returns-then-not-is_voc-clause-leaves : goal.returns-then-not-is_voc-clause-leaves
returns-then-not-is_voc-clause-leaves g c = λ opened e rest. unchanged g.D.Disk opened c.args.self.now e rest g.met.D.Disk.only_now e

pub returns-in_err-seal_file-clause-leaves : goal.returns-in_err-seal_file-clause-leaves
returns-in_err-seal_file-clause-leaves g c = λ opened e rest. c.seal_file.ensures.leaves opened e _ rest

pub returns-in_err-cut_tail-clause-leaves : goal.returns-in_err-cut_tail-clause-leaves
returns-in_err-cut_tail-clause-leaves g c = λ opened e rest.
    let may : c.args.self.now.layout.trailing ≡ true → c.args.self.now.layout.kind ≡ Voc = search rules in
    trimming_is_safe g.D.Disk opened c.args.self.now e rest c.seal_file.new.self (disk_of c.cut_tail.new.self) _ g.met.M.CanWrite.by_place may (c.seal_file.ensures.leaves opened e _ rest)
    (c.in_ok-seal_file.ensures.stands e rest.stands) c.in_ok-seal_file.ensures.stable c.cut_tail.ensures.leaves

pub returns-clause-leaves : goal.returns-clause-leaves
returns-clause-leaves g c = λ opened e rest.
    let may : c.args.self.now.layout.trailing ≡ true → c.args.self.now.layout.kind ≡ Voc = search rules in
    trimming_is_safe g.D.Disk opened c.args.self.now e rest c.seal_file.new.self (disk_of c.cut_tail.new.self) (trimmed_to e) g.met.M.CanWrite.by_place may (c.seal_file.ensures.leaves opened e (trimmed_to e) rest)
    (c.in_ok-seal_file.ensures.stands e rest.stands) c.in_ok-seal_file.ensures.stable c.cut_tail.ensures.leaves

pub returns-clause-rests : goal.returns-clause-rests
returns-clause-rests g c = λ opened e rest.
    let may : c.args.self.now.layout.trailing ≡ true → c.args.self.now.layout.kind ≡ Voc = search rules in
    let may' : e.shape.trailing ≡ true → e.shape.kind ≡ Voc = subst (λ (s : Shape). s.trailing ≡ true → s.kind ≡ Voc) rest.stands.shape may in
    let ed = edited_of g.M.Mode.ENCODES opened e g.met.M.CanWrite.by_place rest.state in
    rests_after g.D.Disk opened c.cut_tail.new.self e (trimmed_to e) g.met.M.CanWrite.by_place ed (trims may') (trimmed_rest opened e ed rest.fit.bytes rest.fit.whole may')
    (returns-clause-stands g c e rest.stands) c.in_ok-cut_tail.ensures.stable

pub returns-clause-chunks : goal.returns-clause-chunks
returns-clause-chunks g c =
    let may : c.args.self.now.layout.trailing ≡ true → c.args.self.now.layout.kind ≡ Voc = search rules in
    stay_trimmed g.D.Disk c.args.self.now c.cut_tail.new.self may (returns-clause-stands g c)
