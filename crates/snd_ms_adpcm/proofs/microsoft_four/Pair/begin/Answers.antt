use Rattle.std.proofs.Common.{rules, ◌≡◌, to_z, of_z, w32}
use Rattle.snd_ms_adpcm.proofs.Four.{four_begin}
use Rattle.snd_ms_adpcm.proofs.microsoft_four.Pair.begin.Goals as goal

pub returns-clause-begun : goal.returns-clause-begun
returns-clause-begun c =
    let l = c.args.self.left in
    let r = c.args.self.right in
    let one : to_z w32 (of_z w32 l.older) ≡ l.older = search rules in
    let two : to_z w32 (of_z w32 r.older) ≡ r.older = search rules in
    let three : to_z w32 (of_z w32 l.newer) ≡ l.newer = search rules in
    let four : to_z w32 (of_z w32 r.newer) ≡ r.newer = search rules in
    four_begin c.args.into.now _ _ _ _ _ _ _ _ c.requires one two three four
