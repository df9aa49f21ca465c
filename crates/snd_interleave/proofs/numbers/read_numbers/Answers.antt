use Rattle.std.proofs.Common.{rules, ◌≡◌, ◌∙◌, ◌-◌, ap, sym, subst, ℕ, ℤ, pos, List, get_or, length, min, take, arith}
use Rattle.std.proofs.lemmas.List.{length-map}
use Rattle.snd_layout.specs.declared.codec.Codec.{Codec}
use Rattle.snd_edits.specs.Editing.{Editing}
use Rattle.snd_edits.specs.Reading.{FitCodec}
use Rattle.snd_output.proofs.Public.{changed_as, fits_width, width_fits}
use Rattle.snd_output.specs.Widths.{change_numbers, width_of}
use Rattle.snd_pcm.specs.Width.{HasWidth}
use Rattle.snd_interleave.specs.Interleave.{channel_in, numbers_of}
use Rattle.snd_interleave.specs.Reading.{AreNumbersAt}
use Rattle.snd_interleave.proofs.ChannelNumbers.{channel_numbers, width_is, zero_fits}
use Rattle.snd_interleave.proofs.Reading.{all_fit, numbers_whole}
use Rattle.snd_interleave.proofs.numbers.read_numbers.Goals as goal

pub change_numbers-requires : goal.change_numbers-requires
change_numbers-requires g c =
    let codec = c.args.input.now.layout.params.codec in
    let fit = fits_width codec (take c.in_ok-count.count c.read_input.new.into) c.in_ok-count.ensures.in_range in
    subst (λ (q : Codec). FitCodec q c.put_zeros.new.into) (sym c.codec_in-own.ensures)
    (width_fits codec c.put_zeros.new.into
    (all_fit (HasWidth (width_of codec)) c.read_input.new.into c.put_zeros.new.into c.in_ok-count.count (zero_fits (width_of codec) (width_is codec)) fit c.put_zeros.ensures.front c.put_zeros.ensures.zeros))

pub returns-clause-read : goal.returns-clause-read
returns-clause-read g c = λ e holds.
    let h = c.args.input.now.layout in
    let all : h.frames ≡ length e.frames = sym (ap (λ (f : Editing). f.shape.frames) holds.opened) ∙ holds.count in
    let many : length (numbers_of e) ≡ h.frames = length-map e.frames (λ frame. get_or frame 0 (pos 0)) ∙ sym all in
    let own : e.shape.params.codec ≡ c.codec_in-own.result = ap (λ (f : Editing). f.shape.params.codec) holds.opened ∙ sym c.codec_in-own.ensures in
    let xs = c.put_zeros.new.into in
    let size : length xs ≡ length c.args.into.now = c.put_zeros.auto.into ∙ c.read_input.auto.into in
    let count = c.in_ok-count.count in
    let is : count ≡ min (length xs) (length (numbers_of e) - c.args.place) = omega (arith, c.in_ok-count.ensures.count, size, many) in
    let are = numbers_whole c.args.place count (numbers_of e) xs is (c.put_zeros.ensures.front ∙ c.in_ok-count.ensures.read e holds) c.put_zeros.ensures.zeros in
    let put = channel_numbers c.args.codec e c.args.place (length xs) xs are in
    subst (λ (n : ℕ). AreNumbersAt c.args.place n (channel_in c.args.codec e) c.change_numbers.new.numbers) size
    (subst (λ (l : List ℤ). AreNumbersAt c.args.place (length xs) (channel_in c.args.codec e) l) (ap (λ (q : Codec). change_numbers q c.args.codec xs) own ∙ sym c.change_numbers.ensures.changed) put)

pub returns-clause-in_range : goal.returns-clause-in_range
returns-clause-in_range g c = fits_width c.args.codec c.change_numbers.new.numbers c.change_numbers.ensures.in_range

pub returns-in_err-count-clause-changed : goal.returns-in_err-count-clause-changed
returns-in_err-count-clause-changed g c = changed_as _ _ c.in_err-count.field-0.0 c.from_residual.result (search rules) (λ bad. bad) c.in_err-count.ensures.changed
