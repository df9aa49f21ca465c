use Rattle.std.proofs.Common.{rules, ◌≡◌, ◌∙◌, ◌*◌, Some, ap, length, drop, take, arith}
use Rattle.std.proofs.lemmas.List.{length-take-le}
use Rattle.snd_container.specs.Sound.{fixed_of}
use Rattle.snd_output.proofs.Public.{changed_as}
use Rattle.snd_export.proofs.Found.{samples_put}
use Rattle.snd_export.proofs.coding.code_numbers.Goals as goal

pub returns-clause-coded : goal.returns-clause-coded
returns-clause-coded g c = λ vox.
    let h = c.args.layout.now in
    let codec = c.args.codec in
    let xs = c.read_numbers.new.into in
    let size = c.bytes.result * length xs in
    let front = c.put_samples.new.bytes in
    let form_is : fixed_of codec ≡ Some c.in-Some.form = search rules in
    let many : length xs ≡ c.args.count * h.params.channels = search rules in
    let whole : size ≡ length front = search rules in
    samples_put g.D.Disk.state c.args.from.now h codec c.args.place c.args.count c.in-Some.form xs front (drop size c.args.coded.now) size vox form_is many c.in_ok-read_numbers.ensures.read c.put_samples.ensures whole (ap (λ n. n * length xs) c.bytes.ensures)

pub returns-in_err-read_numbers-clause-changed : goal.returns-in_err-read_numbers-clause-changed
returns-in_err-read_numbers-clause-changed g c = changed_as _ _ c.in_err-read_numbers.field-0.0 c.from_residual.result (search rules) (λ bad. bad) c.in_err-read_numbers.ensures.changed
