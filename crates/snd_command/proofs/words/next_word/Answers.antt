use Rattle.std.proofs.Common.{rules, ◌≡◌, ◌<◌, length, refl, arith}
use Rattle.std.proofs.lemmas.List.{take_rest, length-take}
use Rattle.std.specs.List.{position_or_len}
use Rattle.snd_command.specs.Words.{behind_word, is_space, without_spaces}
use Rattle.snd_command.proofs.Cuts.{no_words, words-next, word_there}
use Rattle.snd_command.proofs.words.next_word.Goals as goal

pub returns-then-is_empty-clause-none : goal.returns-then-is_empty-clause-none
returns-then-is_empty-clause-none c =
    let none : length (without_spaces c.args.text.now) ≡ 0 = search rules in
    no_words c.args.text.now none

pub returns-clause-words : goal.returns-clause-words
returns-clause-words c =
    let some : 0 < length (without_spaces c.args.text.now) = search rules in
    let first = words-next c.args.text.now some in
    rw (take_rest, c.length_to_space-end.ensures.length, c.skip_spaces-text.ensures) first

pub returns-clause-rest : goal.returns-clause-rest
unfolding behind_word
returns-clause-rest c = rw (take_rest, c.length_to_space-end.ensures.length, c.skip_spaces-text.ensures) refl

pub returns-clause-filled : goal.returns-clause-filled
returns-clause-filled c =
    let some : 0 < length (without_spaces c.args.text.now) = search rules in
    let there = word_there c.args.text.now some in
    let end : c.length_to_space-end.result ≡ position_or_len is_space (without_spaces c.args.text.now) = search rules in
    omega (arith, length-take c.length_to_space-end.result c.skip_spaces-text.result.now)
