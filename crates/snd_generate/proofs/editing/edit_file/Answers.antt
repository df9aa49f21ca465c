use Rattle.std.proofs.Common.{◌≡◌, ◌∙◌, subst, ℕ, suc, ◌+◌, ◌≤◌, true, false, Ok, arith}
use Rattle.std.proofs.lemmas.Result.{on_ok_weaker}
use Rattle.snd_edits.specs.Edits.{automatic_to, truncated_to}
use Rattle.snd_generate.specs.Edited.{frames_kept, overwritten}
use Rattle.snd_generate.specs.Steps.{Holds}
use Rattle.snd_generate.proofs.Calling.{calls_then}
use Rattle.snd_generate.proofs.States.{cut_holds, kept_up}
use Rattle.snd_generate.proofs.editing.edit_file.Goals as goal

pub loop-i-init : goal.loop-i-init
loop-i-init g c = record {
  loan = c.in_ok-keep_up.ensures.loan;
  becomes = λ xs e stands holds. (automatic_to true e, c.in_ok-keep_up.ensures.stands e stands, kept_up false c.args.frames xs e holds);
  calls = c.in_ok-keep_up.ensures.calls;
}

pub loop-i-preserved : goal.loop-i-preserved
loop-i-preserved g c =
    let inv = c.loop-i.invariant in
    let one = c.in_ok-overwrite.ensures in
    let n = c.args.frames in
    let next : suc c.loop-i.i ≡ c.loop-i.i + 1 = omega arith in
    record {
      loan = one.loan ∙ inv.loan;
      becomes = λ xs e stands holds.
          let before = inv.becomes xs e stands holds in
          let then = one.becomes (overwritten n c.loop-i.i xs) before.0 before.1 before.2 in
          (then.0, then.1, subst (λ (k : ℕ). Holds true n (overwritten n k xs) then.0) next then.2);
      calls = calls_then g.E.Disk.state g.E.Disk.left_between c.args.file.now c.loop-i.file c.overwrite.new.file (tt {0}) (Ok (tt {0})) inv.calls one.calls;
    }

pub returns-clause-becomes : goal.returns-clause-becomes
returns-clause-becomes g c =
    on_ok_weaker c.cut.result
    (λ stands. λ xs e standing holds.
    let n = c.args.frames in
    let before = c.loop-i.invariant.becomes xs e standing holds in
    let four : c.loop-i.i ≡ 4 = omega (arith, c.loop-i-test.false, c.loop-i.auto.i-end) in
    let all : Holds true n (overwritten n 4 xs) before.0 = subst (λ (k : ℕ). Holds true n (overwritten n k xs) before.0) four before.2 in
    let some : 1 ≤ frames_kept n = omega (arith, all.numbers.some) in
    (truncated_to (frames_kept n) before.0, stands before.0 before.1, cut_holds n (frames_kept n) (overwritten n 4 xs) before.0 all some (omega arith)))
    c.cut.ensures.stands

pub returns-clause-calls : goal.returns-clause-calls
returns-clause-calls g c = calls_then g.E.Disk.state g.E.Disk.left_between c.args.file.now c.loop-i.file c.cut.new.file (tt {0}) c.cut.result c.loop-i.invariant.calls c.cut.ensures.calls
