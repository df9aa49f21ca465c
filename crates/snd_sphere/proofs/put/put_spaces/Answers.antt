use Rattle.std.proofs.Common.{List, ℕ, ap, rules, ◌∙◌, ◌++◌, length}
use Rattle.snd_sphere.proofs.Laid.{trimmed}
use Rattle.snd_sphere.proofs.put.put_spaces.Goals as goal

pub returns : goal.returns
returns c = c.put_all.ensures.items ∙ ap (λ (l : List ℕ). c.args.into.now.items ++ l) (trimmed c.len-count.result (length c.args.into.now.items) (search rules))
