use Rattle.std.proofs.Common.{rules, ◌≡◌, ◌∙◌, ap, ℤ, pos, ◌<◌, get_or, length, to_z, of_z, w32}
use Rattle.std.proofs.lemmas.List.{get_or_default}
use Rattle.std.proofs.lemmas.List.Edits.{map_over_more}
use Rattle.snd_pcm.specs.Width.{HasWidth, changed}
use Rattle.snd_recode.proofs.Numbers.{fit_more, rest_more, set_same}
use Rattle.snd_recode.proofs.recoding.change_all.Goals as goal

pub loop-number-preserved : goal.loop-number-preserved
loop-number-preserved c =
    let i = c.loop-number.number-index in
    let xs = c.loop-number.numbers in
    let f = changed c.args.from c.args.to in
    let x : ℤ = get_or xs i (pos 0) in
    let within : i < length xs = search rules in
    let old_within : i < length c.args.numbers.now = search rules in
    let is : to_z w32 (of_z w32 x) ≡ x = search rules in
    let made : to_z w32 (of_z w32 c.change_width.result) ≡ c.change_width.result = search rules in
    let value : c.change_width.result ≡ f x = c.change_width.ensures.value ∙ ap f is in
    record {
      so_far = set_same xs i _ (f x) (made ∙ value) ∙ map_over_more f c.args.numbers.now xs i x old_within c.loop-number.invariant.so_far (get_or_default xs i (pos 0) x within);
      fit = fit_more (HasWidth c.args.to) xs i _ within (search rules) c.loop-number.invariant.fit;
      rest = rest_more xs c.args.numbers.now i _ c.loop-number.invariant.rest;
    }
