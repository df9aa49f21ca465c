use Rattle.std.proofs.Common.{ℕ, List, ◌∙◌, ◌≡◌, ap, arith, inl, length}
use Rattle.snd_disk.specs.Bytes.{over}
use Rattle.snd_layout.specs.Shape.{end}
use Rattle.snd_patch.proofs.Running.{one_as}
use Rattle.snd_patch.specs.Sealed.{over_closing}
use Rattle.snd_patch.proofs.Updating.{updates_more}
use Rattle.snd_patch.specs.Steps.{IsOutside}
use Rattle.snd_patch.proofs.fields.put_closing.Goals as goal

pub returns-in_err-put_bytes-clause-updates : goal.returns-in_err-put_bytes-clause-updates
returns-in_err-put_bytes-clause-updates g c =
    let size : length c.as_slice.result.now ≡ length c.closing_bytes-bytes.result.items = ap length c.as_slice.ensures.value in
    let outside : IsOutside c.args.layout.now c.args.to c.data_end-at.result (length c.as_slice.result.now) = λ i lt other. inl (omega (arith, lt, c.data_end-at.ensures)) in
    updates_more g.D.Disk.state g.D.Disk.left_between c.args.layout.now c.args.to c.args.disk.now c.put_bytes.new.disk (length c.as_slice.result.now) 8
    (omega (arith, size, c.closing_bytes-bytes.ensures.few)) (c.put_bytes.ensures.updates c.args.layout.now c.args.to outside)

pub returns-clause-updates : goal.returns-clause-updates
returns-clause-updates g c =
    let size : length c.as_slice.result.now ≡ length c.closing_bytes-bytes.result.items = ap length c.as_slice.ensures.value in
    let outside : IsOutside c.args.layout.now c.args.to c.data_end-at.result (length c.as_slice.result.now) = λ i lt other. inl (omega (arith, lt, c.data_end-at.ensures)) in
    updates_more g.D.Disk.state g.D.Disk.left_between c.args.layout.now c.args.to c.args.disk.now c.put_bytes.new.disk (length c.as_slice.result.now) 8
    (omega (arith, size, c.closing_bytes-bytes.ensures.few)) (c.put_bytes.ensures.updates c.args.layout.now c.args.to outside)

pub returns-in_err-put_bytes-clause-run : goal.returns-in_err-put_bytes-clause-run
returns-in_err-put_bytes-clause-run g c = λ b told.
    let is : over b c.data_end-at.result c.as_slice.result.now ≡ over_closing b c.args.layout.now c.args.to = ap (λ (a : ℕ). over b a c.as_slice.result.now) c.data_end-at.ensures ∙ ap (λ (v : List ℕ). over b (end c.args.layout.now c.args.to) v) (c.as_slice.ensures.value ∙ c.closing_bytes-bytes.ensures.value) in
    one_as g.D.Disk.state g.D.Disk.may_leave g.D.Disk.left_between c.args.disk.now c.put_bytes.new.disk _ _ is (c.put_bytes.ensures.run b told)

pub returns-clause-run : goal.returns-clause-run
returns-clause-run g c = λ b told.
    let is : over b c.data_end-at.result c.as_slice.result.now ≡ over_closing b c.args.layout.now c.args.to = ap (λ (a : ℕ). over b a c.as_slice.result.now) c.data_end-at.ensures ∙ ap (λ (v : List ℕ). over b (end c.args.layout.now c.args.to) v) (c.as_slice.ensures.value ∙ c.closing_bytes-bytes.ensures.value) in
    one_as g.D.Disk.state g.D.Disk.may_leave g.D.Disk.left_between c.args.disk.now c.put_bytes.new.disk _ _ is (c.put_bytes.ensures.run b told)
