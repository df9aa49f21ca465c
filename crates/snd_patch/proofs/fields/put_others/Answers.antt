use Rattle.std.proofs.Common.{Option, ap, arith, subst, sym, ◌≡◌, ◌∙◌, ℕ, List, Some, option_map}
use Rattle.snd_layout.specs.Shape.{Shape}
use Rattle.snd_layout.specs.declared.field.Field.{Field}
use Rattle.snd_container.specs.Values.{outer_value, side_value}
use Rattle.snd_disk.proofs.Public.{runs_join}
use Rattle.snd_disk.specs.Device.{Tells}
use Rattle.snd_disk.specs.Runs.{Since}
use Rattle.snd_patch.proofs.Running.{held_as, held_same, more_held, put_same, then_synced}
use Rattle.snd_patch.specs.Sealed.{held_field, held_others}
use Rattle.snd_layout.specs.Filled.{over_field}
use Rattle.snd_patch.proofs.Places.{outer_is_field, side_is_field}
use Rattle.snd_patch.proofs.Updating.{settled, updates_more, updates_then}
use Rattle.snd_patch.specs.Steps.{IsFieldOf}
use Rattle.snd_patch.proofs.fields.put_others.Goals as goal

pub returns-in_err-put_field-clause-updates : goal.returns-in_err-put_field-clause-updates
returns-in_err-put_field-clause-updates g c =
    let outer : IsFieldOf c.args.layout.now c.layout.inside.outer = subst (λ (o : Option Field). IsFieldOf c.args.layout.now o) (sym (ap (λ (s : Shape). s.outer) c.layout.view_is)) (outer_is_field c.args.layout.now) in
    updates_more g.D.Disk.state g.D.Disk.left_between c.args.layout.now c.args.to c.args.disk.now c.put_field.new.disk 8 16 (omega arith) (c.put_field.ensures.updates c.args.layout.now c.args.to outer)

pub returns-in_err-put_field-2-clause-updates : goal.returns-in_err-put_field-2-clause-updates
returns-in_err-put_field-2-clause-updates g c =
    let outer : IsFieldOf c.args.layout.now c.layout.inside.outer = subst (λ (o : Option Field). IsFieldOf c.args.layout.now o) (sym (ap (λ (s : Shape). s.outer) c.layout.view_is)) (outer_is_field c.args.layout.now) in
    let side : IsFieldOf c.args.layout.now c.layout.inside.side = subst (λ (o : Option Field). IsFieldOf c.args.layout.now o) (sym (ap (λ (s : Shape). s.side) c.layout.view_is)) (side_is_field c.args.layout.now) in
    updates_then g.D.Disk.state g.D.Disk.left_between c.args.layout.now c.args.to c.args.disk.now c.put_field.new.disk c.put_field-2.new.disk 8 8 16 (omega arith)
    (c.put_field.ensures.updates c.args.layout.now c.args.to outer) (c.put_field-2.ensures.updates c.args.layout.now c.args.to side)

pub returns-clause-updates : goal.returns-clause-updates
returns-clause-updates g c =
    let outer : IsFieldOf c.args.layout.now c.layout.inside.outer = subst (λ (o : Option Field). IsFieldOf c.args.layout.now o) (sym (ap (λ (s : Shape). s.outer) c.layout.view_is)) (outer_is_field c.args.layout.now) in
    let side : IsFieldOf c.args.layout.now c.layout.inside.side = subst (λ (o : Option Field). IsFieldOf c.args.layout.now o) (sym (ap (λ (s : Shape). s.side) c.layout.view_is)) (side_is_field c.args.layout.now) in
    updates_then g.D.Disk.state g.D.Disk.left_between c.args.layout.now c.args.to c.args.disk.now c.put_field-2.new.disk c.settle.new.disk 16 0 16 (omega arith)
    (updates_then g.D.Disk.state g.D.Disk.left_between c.args.layout.now c.args.to c.args.disk.now c.put_field.new.disk c.put_field-2.new.disk 8 8 16 (omega arith)
    (c.put_field.ensures.updates c.args.layout.now c.args.to outer) (c.put_field-2.ensures.updates c.args.layout.now c.args.to side))
    (settled g.D.Disk.state g.D.Disk.left_between c.args.layout.now c.args.to c.put_field-2.new.disk c.settle.new.disk c.settle.ensures.same c.settle.ensures.time c.settle.ensures.written c.settle.ensures.asked)

pub returns-in_err-put_field-clause-run : goal.returns-in_err-put_field-clause-run
returns-in_err-put_field-clause-run g c = λ b told.
    let h : Shape = c.args.layout.now in
    let outer : c.layout.inside.outer ≡ h.outer = ap (λ (s : Shape). s.outer) c.layout.view_is in
    let put = c.as_slice.ensures.value ∙ c.outer_bytes-outer.ensures.value in
    let one : Since g.D.Disk.state g.D.Disk.may_leave g.D.Disk.left_between c.args.disk.now c.put_field.new.disk (held_field h.outer b (outer_value h c.args.to)) =
    held_as g.D.Disk.state g.D.Disk.may_leave g.D.Disk.left_between c.args.disk.now c.put_field.new.disk _ _ (held_same b c.layout.inside.outer h.outer c.as_slice.result.now (outer_value h c.args.to) outer put) (c.put_field.ensures.run b told) in
    more_held g.D.Disk.state g.D.Disk.may_leave g.D.Disk.left_between c.args.disk.now c.put_field.new.disk (held_field h.outer b (outer_value h c.args.to)) (held_field h.side (over_field h.outer b (outer_value h c.args.to)) (side_value h c.args.to)) one

pub returns-in_err-put_field-2-clause-run : goal.returns-in_err-put_field-2-clause-run
returns-in_err-put_field-2-clause-run g c = λ b told.
    let h : Shape = c.args.layout.now in
    let outer : c.layout.inside.outer ≡ h.outer = ap (λ (s : Shape). s.outer) c.layout.view_is in
    let put = c.as_slice.ensures.value ∙ c.outer_bytes-outer.ensures.value in
    let one : Since g.D.Disk.state g.D.Disk.may_leave g.D.Disk.left_between c.args.disk.now c.put_field.new.disk (held_field h.outer b (outer_value h c.args.to)) =
    held_as g.D.Disk.state g.D.Disk.may_leave g.D.Disk.left_between c.args.disk.now c.put_field.new.disk _ _ (held_same b c.layout.inside.outer h.outer c.as_slice.result.now (outer_value h c.args.to) outer put) (c.put_field.ensures.run b told) in
    let mid : List ℕ = over_field h.outer b (outer_value h c.args.to) in
    let told' : Tells g.D.Disk.state c.put_field.new.disk mid = c.in_ok-put_field.ensures.contents ∙ ap (option_map (λ l. over_field c.layout.inside.outer l c.as_slice.result.now)) told
    ∙ ap (λ (l : List ℕ). Some l) (put_same b c.layout.inside.outer h.outer c.as_slice.result.now (outer_value h c.args.to) outer put) in
    let two : Since g.D.Disk.state g.D.Disk.may_leave g.D.Disk.left_between c.put_field.new.disk c.put_field-2.new.disk (held_field h.side mid (side_value h c.args.to)) =
    held_as g.D.Disk.state g.D.Disk.may_leave g.D.Disk.left_between c.put_field.new.disk c.put_field-2.new.disk _ _
    (held_same mid c.layout.inside.side h.side c.as_slice-2.result.now (side_value h c.args.to) (ap (λ (s : Shape). s.side) c.layout.view_is) (c.as_slice-2.ensures.value ∙ c.side_bytes-side.ensures.value)) (c.put_field-2.ensures.run mid told') in
    let both : Since g.D.Disk.state g.D.Disk.may_leave g.D.Disk.left_between c.args.disk.now c.put_field-2.new.disk (held_others b h c.args.to) =
    runs_join g.D.Disk.state g.D.Disk.may_leave g.D.Disk.left_between c.args.disk.now c.put_field.new.disk c.put_field-2.new.disk (held_field h.outer b (outer_value h c.args.to)) (held_field h.side mid (side_value h c.args.to)) one two in
    both

pub returns-clause-run : goal.returns-clause-run
returns-clause-run g c = λ b told.
    let h : Shape = c.args.layout.now in
    let outer : c.layout.inside.outer ≡ h.outer = ap (λ (s : Shape). s.outer) c.layout.view_is in
    let put = c.as_slice.ensures.value ∙ c.outer_bytes-outer.ensures.value in
    let one : Since g.D.Disk.state g.D.Disk.may_leave g.D.Disk.left_between c.args.disk.now c.put_field.new.disk (held_field h.outer b (outer_value h c.args.to)) =
    held_as g.D.Disk.state g.D.Disk.may_leave g.D.Disk.left_between c.args.disk.now c.put_field.new.disk _ _ (held_same b c.layout.inside.outer h.outer c.as_slice.result.now (outer_value h c.args.to) outer put) (c.put_field.ensures.run b told) in
    let mid : List ℕ = over_field h.outer b (outer_value h c.args.to) in
    let told' : Tells g.D.Disk.state c.put_field.new.disk mid = c.in_ok-put_field.ensures.contents ∙ ap (option_map (λ l. over_field c.layout.inside.outer l c.as_slice.result.now)) told
    ∙ ap (λ (l : List ℕ). Some l) (put_same b c.layout.inside.outer h.outer c.as_slice.result.now (outer_value h c.args.to) outer put) in
    let two : Since g.D.Disk.state g.D.Disk.may_leave g.D.Disk.left_between c.put_field.new.disk c.put_field-2.new.disk (held_field h.side mid (side_value h c.args.to)) =
    held_as g.D.Disk.state g.D.Disk.may_leave g.D.Disk.left_between c.put_field.new.disk c.put_field-2.new.disk _ _
    (held_same mid c.layout.inside.side h.side c.as_slice-2.result.now (side_value h c.args.to) (ap (λ (s : Shape). s.side) c.layout.view_is) (c.as_slice-2.ensures.value ∙ c.side_bytes-side.ensures.value)) (c.put_field-2.ensures.run mid told') in
    let both : Since g.D.Disk.state g.D.Disk.may_leave g.D.Disk.left_between c.args.disk.now c.put_field-2.new.disk (held_others b h c.args.to) =
    runs_join g.D.Disk.state g.D.Disk.may_leave g.D.Disk.left_between c.args.disk.now c.put_field.new.disk c.put_field-2.new.disk (held_field h.outer b (outer_value h c.args.to)) (held_field h.side mid (side_value h c.args.to)) one two in
    then_synced g.D.Disk.state g.D.Disk.may_leave g.D.Disk.left_between c.args.disk.now c.put_field-2.new.disk c.settle.new.disk (held_others b h c.args.to) both c.settle.ensures.run
