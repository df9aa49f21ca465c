use Rattle.std.proofs.Common.{◌≡◌, ◌∙◌, [], ◌∷◌, ℕ, true, ap, length, option_map, sym}
use Rattle.std.specs.Prelude.{nat_lt}
use Rattle.snd_disk.proofs.Public.{runs_join}
use Rattle.snd_patch.specs.Images.{held_closing}
use Rattle.snd_patch.specs.Sealed.{closed, over_closing}
use Rattle.snd_container.specs.Values.{closed_end}
use Rattle.snd_patch.proofs.Running.{closed_missing, held_as, held_missing, mapped_as, more_held}
use Rattle.snd_patch.proofs.fields.close_data.Goals as goal

pub returns-in_err-lacks_closing-clause-run : goal.returns-in_err-lacks_closing-clause-run
returns-in_err-lacks_closing-clause-run g c = λ b told.
    more_held g.D.Disk.state g.D.Disk.may_leave g.D.Disk.left_between c.args.disk.now c.lacks_closing.new.disk [] (held_closing b c.args.layout.now c.args.to) c.lacks_closing.ensures.run

pub returns-in_err-put_closing-clause-run : goal.returns-in_err-put_closing-clause-run
returns-in_err-put_closing-clause-run g c = λ b told.
    let size = g.met.D.Disk.size_told c.args.disk.now b told in
    let missing : nat_lt (length b) (closed_end c.args.layout.now c.args.to) ≡ true = ap (λ (s : ℕ). nat_lt s (closed_end c.args.layout.now c.args.to)) (sym size) ∙ sym c.in_ok-lacks_closing.ensures.answer ∙ c.if-branch.true in
    held_as g.D.Disk.state g.D.Disk.may_leave g.D.Disk.left_between c.args.disk.now c.put_closing.new.disk _ _ (held_missing b c.args.layout.now c.args.to missing)
    (runs_join g.D.Disk.state g.D.Disk.may_leave g.D.Disk.left_between c.args.disk.now c.lacks_closing.new.disk c.put_closing.new.disk [] (over_closing b c.args.layout.now c.args.to ∷ [])
    c.lacks_closing.ensures.run (c.put_closing.ensures.run b (c.lacks_closing.ensures.same.contents ∙ told)))

pub returns-in_ok-put_closing-clause-run : goal.returns-in_ok-put_closing-clause-run
returns-in_ok-put_closing-clause-run g c = λ b told.
    let size = g.met.D.Disk.size_told c.args.disk.now b told in
    let missing : nat_lt (length b) (closed_end c.args.layout.now c.args.to) ≡ true = ap (λ (s : ℕ). nat_lt s (closed_end c.args.layout.now c.args.to)) (sym size) ∙ sym c.in_ok-lacks_closing.ensures.answer ∙ c.if-branch.true in
    held_as g.D.Disk.state g.D.Disk.may_leave g.D.Disk.left_between c.args.disk.now c.put_closing.new.disk _ _ (held_missing b c.args.layout.now c.args.to missing)
    (runs_join g.D.Disk.state g.D.Disk.may_leave g.D.Disk.left_between c.args.disk.now c.lacks_closing.new.disk c.put_closing.new.disk [] (over_closing b c.args.layout.now c.args.to ∷ [])
    c.lacks_closing.ensures.run (c.put_closing.ensures.run b (c.lacks_closing.ensures.same.contents ∙ told)))

pub returns-in_ok-put_closing-clause-contents : goal.returns-in_ok-put_closing-clause-contents
returns-in_ok-put_closing-clause-contents g c =
    c.in_ok-put_closing.ensures.contents ∙ ap (option_map (λ b. over_closing b c.args.layout.now c.args.to)) c.lacks_closing.ensures.same.contents
    ∙ mapped_as (λ b. over_closing b c.args.layout.now c.args.to) (λ b. closed b c.args.layout.now c.args.to) (g.D.Disk.state c.args.disk.now).contents (λ b told.
    let size = g.met.D.Disk.size_told c.args.disk.now b told in
    let missing : nat_lt (length b) (closed_end c.args.layout.now c.args.to) ≡ true = ap (λ (s : ℕ). nat_lt s (closed_end c.args.layout.now c.args.to)) (sym size) ∙ sym c.in_ok-lacks_closing.ensures.answer ∙ c.if-branch.true in
    closed_missing b c.args.layout.now c.args.to missing)
