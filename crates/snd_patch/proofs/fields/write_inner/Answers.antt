use Rattle.std.proofs.Common.{ℕ, List, ◌∙◌, ◌≡◌, ap, arith, length, sym}
use Rattle.snd_layout.specs.Shape.{Shape}
use Rattle.snd_disk.specs.Bytes.{over}
use Rattle.snd_patch.proofs.Running.{one_as}
use Rattle.snd_patch.specs.Sealed.{with_inner}
use Rattle.snd_patch.proofs.Places.{inner_outside}
use Rattle.snd_patch.proofs.Updating.{updates_more}
use Rattle.snd_patch.proofs.fields.write_inner.Goals as goal

pub returns-clause-updates : goal.returns-clause-updates
returns-clause-updates g c =
    let size : length c.as_slice.result.now ≡ length c.inner_bytes-bytes.result.items = ap length c.as_slice.ensures.value in
    let outside = inner_outside c.args.layout.now c.args.to c.layout.inside.inner.at c.as_slice.result.now (sym (ap (λ (s : Shape). s.inner.at) c.layout.view_is)) (omega (arith, size, c.inner_bytes-bytes.ensures.fits)) in
    updates_more g.D.Disk.state g.D.Disk.left_between c.args.layout.now c.args.to c.args.disk.now c.put_bytes.new.disk (length c.as_slice.result.now) 32
    (omega (arith, size, c.inner_bytes-bytes.ensures.few)) (c.put_bytes.ensures.updates c.args.layout.now c.args.to outside)

pub returns-clause-run : goal.returns-clause-run
returns-clause-run g c = λ b told.
    let is : over b c.layout.inside.inner.at c.as_slice.result.now ≡ with_inner b c.args.layout.now c.args.to = ap (λ (a : ℕ). over b a c.as_slice.result.now) (ap (λ (s : Shape). s.inner.at) c.layout.view_is) ∙ ap (λ (v : List ℕ). over b c.args.layout.now.inner.at v) (c.as_slice.ensures.value ∙ c.inner_bytes-bytes.ensures.value) in
    one_as g.D.Disk.state g.D.Disk.may_leave g.D.Disk.left_between c.args.disk.now c.put_bytes.new.disk _ _ is (c.put_bytes.ensures.run b told)
