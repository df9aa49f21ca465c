use Rattle.std.proofs.Common.{rules, ◌≡◌, Some, codes}
use Rattle.snd_words.specs.Convert.{rack_in_word}
use Rattle.snd_words.specs.Options.{text_behind}
use Rattle.snd_words.proofs.convert.rack_in_word.Goals as goal

pub returns : goal.returns
unfolding rack_in_word text_behind
returns c =
    let text : text_behind (codes "-rack=") c.args.word.now ≡ Some c.in_ok-text.text.now = search rules in
    rw text c.read.ensures
