use Rattle.std.proofs.Common.{rules, ◌≡◌, ◌∙◌, ap, sym, subst, inl, inr, ℕ, ◌+◌, ◌<◌, [], true, false, Some, length, get_or, set, slice_get, Ok, Err, arith}
use Rattle.std.proofs.lemmas.Bool.{cases_lt}
use Rattle.std.proofs.lemmas.List.{get_or_default}
use Rattle.std.proofs.lemmas.Option.{slice_get-get_or}
use Rattle.snd_inputs.proofs.Public.{bad_first, bad_none}
use Rattle.snd_inputs.specs.Copying.{bytes_checked}
use Rattle.snd_inputs.specs.Inputs.{is_bad}
use Rattle.snd_edits.specs.Editing.{first_editing}
use Rattle.snd_interleave.specs.Channels.{CountsInputs}
use Rattle.snd_interleave.proofs.Asking.{first_each, first_more, first_none}
use Rattle.snd_interleave.proofs.Bad.{held_at}
use Rattle.snd_interleave.proofs.Counts.{calm_itself, calm_then, counts_one, inputs_then}
use Rattle.snd_interleave.proofs.Inputs.{all_unread, hold_still, one_read, read_then}
use Rattle.snd_interleave.proofs.checking.first_bad.Goals as goal

pub loop-i-init : goal.loop-i-init
loop-i-init g c = record {
  good = λ es hold k d lt. absurd (omega (arith, lt));
  calm = calm_itself g.D.Disk.state c.args.inputs.now;
  reads = all_unread g.D.Disk c.args.inputs.now;
  asked = first_none g.D.Disk.state bytes_checked c.args.inputs.now;
}

pub returns-in_err-bad-clause-faults : goal.returns-in_err-bad-clause-faults
returns-in_err-bad-clause-faults g c =
    let inv = c.loop-i.invariant in
    let first = c.args.inputs.now in
    let now = c.loop-i.inputs in
    let i = c.loop-i.i in
    let x = get_or now i c.index-inputs-i.result in
    let y = c.is_bad.new.input in
    let within : i < length now = omega (arith, c.loop-i-test.true, c.loop-i.auto.inputs) in
    let is : x ≡ get_or now i x = get_or_default now i c.index-inputs-i.result x within in
    let stop = c.in_err-bad.field-0.0 in
    let failed : c.from_residual.result ≡ Err stop = search rules in
    subst (CountsInputs g.D.Disk.state first (set now i y)) (sym failed)
    (inputs_then g.D.Disk.state first now (set now i y) c.loop-i.auto.inputs {T = Unit {0}} (Err stop) inv.calm (counts_one g.D.Disk.state now i x y within is {T = Unit {0}} (Err stop) c.in_err-bad.ensures.faults))

pub returns-in_err-bad-clause-reads : goal.returns-in_err-bad-clause-reads
returns-in_err-bad-clause-reads g c =
    let inv = c.loop-i.invariant in
    let first = c.args.inputs.now in
    let now = c.loop-i.inputs in
    let i = c.loop-i.i in
    let x = get_or now i c.index-inputs-i.result in
    let y = c.is_bad.new.input in
    let within : i < length now = omega (arith, c.loop-i-test.true, c.loop-i.auto.inputs) in
    let is : x ≡ get_or now i x = get_or_default now i c.index-inputs-i.result x within in
    read_then g.D.Disk first now (set now i y) inv.reads (one_read g.D.Disk now i x y within is c.is_bad.ensures.reads)

pub returns-in_err-bad-clause-asked : goal.returns-in_err-bad-clause-asked
returns-in_err-bad-clause-asked g c =
    let inv = c.loop-i.invariant in
    let first = c.args.inputs.now in
    let now = c.loop-i.inputs in
    let i = c.loop-i.i in
    let x = get_or now i c.index-inputs-i.result in
    let y = c.is_bad.new.input in
    let within : i < length now = omega (arith, c.loop-i-test.true, c.loop-i.auto.inputs) in
    let is : x ≡ get_or now i x = get_or_default now i c.index-inputs-i.result x within in
    first_each g.D.Disk.state (i + 1) bytes_checked first (set now i y) (first_more g.D.Disk.state bytes_checked first now i x y within is inv.reads c.is_bad.ensures.asked inv.asked)

pub returns-then-bad-clause-found : goal.returns-then-bad-clause-found
returns-then-bad-clause-found g c = λ es hold.
    let inv = c.loop-i.invariant in
    let first = c.args.inputs.now in
    let now = c.loop-i.inputs in
    let i = c.loop-i.i in
    let x = get_or now i c.index-inputs-i.result in
    let y = c.is_bad.new.input in
    let within : i < length now = omega (arith, c.loop-i-test.true, c.loop-i.auto.inputs) in
    let is : x ≡ get_or now i x = get_or_default now i c.index-inputs-i.result x within in
    let d = first_editing [] x.layout in
    let still = hold_still g.D.Disk first now es inv.reads hold in
    let bad : is_bad (get_or es i d) ≡ true = sym (c.in_ok-bad.ensures.found (get_or es i d) (held_at g.D.Disk.state now es i x within is still)) ∙ c.if-bad.true in
    let there : slice_get es i ≡ Some (get_or es i d) = slice_get-get_or es i d (omega (arith, within, still.count)) in
    bad_first es i (get_or es i d) there bad (inv.good es hold)

pub returns-then-bad-clause-faults : goal.returns-then-bad-clause-faults
returns-then-bad-clause-faults g c =
    let inv = c.loop-i.invariant in
    let first = c.args.inputs.now in
    let now = c.loop-i.inputs in
    let i = c.loop-i.i in
    let x = get_or now i c.index-inputs-i.result in
    let y = c.is_bad.new.input in
    let within : i < length now = omega (arith, c.loop-i-test.true, c.loop-i.auto.inputs) in
    let is : x ≡ get_or now i x = get_or_default now i c.index-inputs-i.result x within in
    calm_then g.D.Disk.state first now (set now i y) c.loop-i.auto.inputs inv.calm (counts_one g.D.Disk.state now i x y within is {T = Unit {0}} (Ok (tt {0})) c.in_ok-bad.ensures.faults)

pub returns-then-bad-clause-reads : goal.returns-then-bad-clause-reads
returns-then-bad-clause-reads g c =
    let inv = c.loop-i.invariant in
    let first = c.args.inputs.now in
    let now = c.loop-i.inputs in
    let i = c.loop-i.i in
    let x = get_or now i c.index-inputs-i.result in
    let y = c.is_bad.new.input in
    let within : i < length now = omega (arith, c.loop-i-test.true, c.loop-i.auto.inputs) in
    let is : x ≡ get_or now i x = get_or_default now i c.index-inputs-i.result x within in
    read_then g.D.Disk first now (set now i y) inv.reads (one_read g.D.Disk now i x y within is c.is_bad.ensures.reads)

pub returns-then-bad-clause-asked : goal.returns-then-bad-clause-asked
returns-then-bad-clause-asked g c =
    let inv = c.loop-i.invariant in
    let first = c.args.inputs.now in
    let now = c.loop-i.inputs in
    let i = c.loop-i.i in
    let x = get_or now i c.index-inputs-i.result in
    let y = c.is_bad.new.input in
    let within : i < length now = omega (arith, c.loop-i-test.true, c.loop-i.auto.inputs) in
    let is : x ≡ get_or now i x = get_or_default now i c.index-inputs-i.result x within in
    first_each g.D.Disk.state (i + 1) bytes_checked first (set now i y) (first_more g.D.Disk.state bytes_checked first now i x y within is inv.reads c.is_bad.ensures.asked inv.asked)

pub loop-i-preserved : goal.loop-i-preserved
loop-i-preserved g c =
    let inv = c.loop-i.invariant in
    let first = c.args.inputs.now in
    let now = c.loop-i.inputs in
    let i = c.loop-i.i in
    let x = get_or now i c.index-inputs-i.result in
    let y = c.is_bad.new.input in
    let within : i < length now = omega (arith, c.loop-i-test.true, c.loop-i.auto.inputs) in
    let is : x ≡ get_or now i x = get_or_default now i c.index-inputs-i.result x within in
    record {
      good = λ es hold k e lt.
          let d = first_editing [] x.layout in
          let still = hold_still g.D.Disk first now es inv.reads hold in
          let good : is_bad (get_or es i d) ≡ false = sym (c.in_ok-bad.ensures.found (get_or es i d) (held_at g.D.Disk.state now es i x within is still)) ∙ c.if-bad.false in
          elim (cases_lt k i) [
            | inl before ↦ inv.good es hold k e before
            | inr past ↦
                let here : k ≡ i = omega (arith, lt, past) in
                ap (λ (n : ℕ). is_bad (get_or es n e)) here ∙ ap is_bad (get_or_default es i e d (omega (arith, within, still.count))) ∙ good
          ];
      calm = calm_then g.D.Disk.state first now (set now i y) c.loop-i.auto.inputs inv.calm (counts_one g.D.Disk.state now i x y within is {T = Unit {0}} (Ok (tt {0})) c.in_ok-bad.ensures.faults);
      reads = read_then g.D.Disk first now (set now i y) inv.reads (one_read g.D.Disk now i x y within is c.is_bad.ensures.reads);
      asked = first_more g.D.Disk.state bytes_checked first now i x y within is inv.reads c.is_bad.ensures.asked inv.asked;
    }

pub returns-clause-found : goal.returns-clause-found
returns-clause-found g c = λ es hold. bad_none es (λ k d lt. c.loop-i.invariant.good es hold k d (omega (arith, lt, hold.count, c.loop-i-test.false)))

pub returns-clause-asked : goal.returns-clause-asked
returns-clause-asked g c = first_each g.D.Disk.state c.loop-i.i bytes_checked c.args.inputs.now c.loop-i.inputs c.loop-i.invariant.asked
