use Rattle.std.proofs.Common.{rules, ◌≡◌, ◌∙◌, ◌*◌, ◌/◌, ℤ, List, All, ap, sym, subst, refl, length, drop, take, arith}
use Rattle.std.proofs.lemmas.List.{take_at}
use Rattle.snd_vox.specs.Vox.{made_even}
use Rattle.snd_fields.specs.declared.field.Order.TheVariants.{Little}
use Rattle.snd_layout.specs.declared.codec.Codec.TheVariants.{S16}
use Rattle.snd_output.proofs.Public.{changed_as, fits_width}
use Rattle.snd_pcm.specs.Width.{HasWidth}
use Rattle.snd_export.proofs.Found.{codes_put}
use Rattle.snd_export.proofs.coding.code_vox.Goals as goal

pub returns-clause-coded : goal.returns-clause-coded
returns-clause-coded g c =
    let h = c.args.layout.now in
    let xs = c.read_numbers.new.into in
    let rest = drop c.args.count c.args.numbers.now in
    let even = c.make_even-even.result in
    let ys = take even c.make_even-even.new.numbers in
    let size = even / 2 in
    let front = c.put_pairs.new.into in
    let many : length xs ≡ c.args.count = search rules in
    let are : ys ≡ made_even xs = c.make_even-even.ensures.even ∙ ap made_even (take_at xs rest c.args.count many) in
    codes_put g.D.Disk.state c.args.from.now h c.args.place c.args.count even xs ys front (drop size c.args.coded.now) size c.args.writer.now c.put_pairs.new.writer c.requires.mono many c.in_ok-read_numbers.ensures.read c.make_even-even.ensures.size are refl (search rules) c.put_pairs.ensures.codes c.put_pairs.ensures.state

pub make_even-even-requires-clause-in_range : goal.make_even-even-requires-clause-in_range
make_even-even-requires-clause-in_range g c =
    let xs = c.read_numbers.new.into in
    let many : length xs ≡ c.args.count = search rules in
    subst (λ (l : List ℤ). All (HasWidth 16) l) (sym (take_at xs (drop c.args.count c.args.numbers.now) c.args.count many)) (fits_width (S16 Little) xs c.in_ok-read_numbers.ensures.in_range)

pub returns-in_err-read_numbers-clause-changed : goal.returns-in_err-read_numbers-clause-changed
returns-in_err-read_numbers-clause-changed g c = changed_as _ _ c.in_err-read_numbers.field-0.0 c.from_residual.result (search rules) (λ bad. bad) c.in_err-read_numbers.ensures.changed
