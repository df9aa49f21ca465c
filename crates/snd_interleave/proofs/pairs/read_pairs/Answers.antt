use Rattle.std.proofs.Common.{◌≡◌, ◌∙◌, ap, sym, subst, ℕ, ◌-◌, ◌/◌, ℤ, List, length, min}
use Rattle.snd_layout.specs.declared.codec.Codec.{Codec}
use Rattle.snd_edits.specs.Bytes.{numbers_in}
use Rattle.snd_edits.specs.Editing.{Editing}
use Rattle.snd_recode.proofs.Public.{all_same_width}
use Rattle.snd_output.specs.Widths.{change_numbers, width_of}
use Rattle.snd_interleave.specs.Interleave.{channel_in, numbers_of}
use Rattle.snd_interleave.specs.Held.{pairs_in}
use Rattle.snd_interleave.specs.Reading.{AreNumbersAt}
use Rattle.snd_interleave.proofs.PairNumbers.{pairs_read}
use Rattle.snd_interleave.proofs.pairs.read_pairs.Goals as goal

pub returns-clause-read : goal.returns-clause-read
returns-clause-read g c = λ e holds.
    let h = c.args.input.now.layout in
    let codec = h.params.codec in
    let all : h.frames ≡ length e.frames = sym (ap (λ (f : Editing). f.shape.frames) holds.opened) ∙ holds.count in
    let own : e.shape.params.codec ≡ codec = ap (λ (f : Editing). f.shape.params.codec) holds.opened in
    let same : channel_in codec e ≡ numbers_of e = ap (λ (q : Codec). change_numbers q codec (numbers_of e)) own ∙ all_same_width (width_of codec) (numbers_of e) in
    subst (λ (xs : List ℤ). AreNumbersAt c.args.place (pairs_in c.args.into.now) xs (numbers_in codec c.put_zeros.new.into)) (sym same)
    (subst (λ (n : ℕ). AreNumbersAt c.args.place n (numbers_of e) (numbers_in codec c.put_zeros.new.into)) (ap (λ (n : ℕ). n / 2) c.read_input.auto.into)
    (pairs_read codec c.args.place c.in_ok-count.count h.frames e c.read_input.new.into c.put_zeros.new.into c.requires.pairs all c.put_zeros.auto.into
    (c.in_ok-count.ensures.count ∙ ap (λ (n : ℕ). min (n / 2) (h.frames - c.args.place)) (sym c.read_input.auto.into)) (c.in_ok-count.ensures.read e holds) c.put_zeros.ensures.front c.put_zeros.ensures.zeros))
