use Rattle.std.proofs.Common.{rules, ◌≡◌, sym, subst, ◌+◌, ◌/◌, ◌≤◌, ℕ, length, max, inl, inr, arith}
use Rattle.std.specs.Prelude.{◌⊎◌}
use Rattle.std.proofs.lemmas.Bool.{cases_lt}
use Rattle.snd_layout.specs.Params.{data_bytes}
use Rattle.snd_layout.specs.Shape.{end, room}
use Rattle.snd_patch.specs.Steps.{Updates}
use Rattle.snd_frames.specs.Given.{given}
use Rattle.snd_frames.specs.Putting.{LeavesWritten}
use Rattle.snd_edits.specs.Writing.{most_fields}
use Rattle.snd_edits.proofs.Public.{coded_size, end_max, ends_before, may_count, whole_frames, written_end}
use Rattle.snd_frames.proofs.updates.write_over.Goals as goal

pub put_frames-requires-clause-within : goal.put_frames-requires-clause-within
put_frames-requires-clause-within g c =
    let h = c.args.layout.now in
    let to : c.max-to.result ≡ max h.frames (c.args.place + c.args.count) = search rules in
    let some : 1 ≤ h.params.channels = search rules in
    let whole = whole_frames (length (given c.args.layout.now c.args.from)) h.params.channels c.args.count some c.requires.ready.frames.whole c.requires.count in
    let over : c.args.place + c.args.count ≤ c.max-to.result = omega (arith, to) in
    omega (arith, written_end h (given c.args.layout.now c.args.from) c.args.place c.args.count c.requires.linear whole, ends_before h (c.args.place + c.args.count) c.max-to.result c.requires.linear over)

pub put_frames-requires-clause-reaches : goal.put_frames-requires-clause-reaches
put_frames-requires-clause-reaches g c =
    let h = c.args.layout.now in
    let to : c.max-to.result ≡ max h.frames (c.args.place + c.args.count) = search rules in
    let some : 1 ≤ h.params.channels = search rules in
    let whole = whole_frames (length (given c.args.layout.now c.args.from)) h.params.channels c.args.count some c.requires.ready.frames.whole c.requires.count in
    let most : end h c.max-to.result ≤ max (end h h.frames) (end h (c.args.place + c.args.count)) =
    subst (λ (m : ℕ). end h m ≤ max (end h h.frames) (end h (c.args.place + c.args.count))) (sym to) (end_max h h.frames (c.args.place + c.args.count)) in
    omega (arith, most, written_end h (given c.args.layout.now c.args.from) c.args.place c.args.count c.requires.linear whole)

pub put_frames-requires-clause-on_disk : goal.put_frames-requires-clause-on_disk
put_frames-requires-clause-on_disk g c =
    let h = c.args.layout.now in
    let to : c.max-to.result ≡ max h.frames (c.args.place + c.args.count) = search rules in
    let either : (c.max-to.result ≡ h.frames) ⊎ (data_bytes h.params c.max-to.result ≤ room h) = elim (cases_lt h.frames (c.args.place + c.args.count)) [
      | inl lt ↦
          let same : c.args.place + length (given c.args.layout.now c.args.from) / h.params.channels ≡ c.max-to.result = omega (arith, to, lt, c.requires.count) in
          inr (subst (λ (m : ℕ). data_bytes h.params m ≤ room h) same (c.requires.ready.in_room (omega (arith, lt, c.requires.count))))
      | inr le ↦ inl (omega (arith, to, le))
    ] in
    (may_count h c.max-to.result c.keeps_rule.ensures c.requires.linear c.requires.sized c.requires.room_ends either).1

pub returns-clause-updates : goal.returns-clause-updates
returns-clause-updates g c =
    let h = c.args.layout.now in
    let some : 1 ≤ h.params.channels = search rules in
    let whole = whole_frames (length (given c.args.layout.now c.args.from)) h.params.channels c.args.count some c.requires.ready.frames.whole c.requires.count in
    subst (λ (m : ℕ). Updates g.D.Disk.state g.D.Disk.left_between h c.args.place (m + 8 + most_fields c.args.automatic) c.args.disk.now c.put_frames.new.disk)
    (coded_size h.params (given c.args.layout.now c.args.from) c.args.count c.requires.linear whole) c.put_frames.ensures.updates

pub returns-clause-leaves : goal.returns-clause-leaves
returns-clause-leaves g c =
    let h = c.args.layout.now in
    let to : c.max-to.result ≡ max h.frames (c.args.place + c.args.count) = search rules in
    subst (λ (n : ℕ). LeavesWritten g.D.Disk h c.args.place n (given h c.args.from) c.args.disk.now c.put_frames.new.disk) to c.put_frames.ensures.leaves
