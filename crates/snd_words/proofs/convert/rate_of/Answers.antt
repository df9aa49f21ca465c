use Rattle.std.proofs.Common.{rules, ◌≡◌, Some, codes}
use Rattle.snd_words.specs.Convert.{rate_of}
use Rattle.snd_words.specs.Options.{text_behind}
use Rattle.snd_words.proofs.convert.rate_of.Goals as goal

pub returns : goal.returns
unfolding rate_of text_behind
returns c =
    let digits : text_behind (codes "-override-sample-rate=") c.args.word.now ≡ Some c.in_ok-digits.digits.now = search rules in
    rw digits c.decimal.ensures
