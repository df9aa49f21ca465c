use Rattle.std.proofs.Common.{rules, ◌≡◌, ◌∙◌, sym}
use Rattle.snd_layout.specs.Kinds.{is_reserved}
use Rattle.snd_layout.proofs.Public.{not_reserved}
use Rattle.snd_file.proofs.handle.File.add_piece.Goals as goal

pub put_wanted-requires-clause-other : goal.put_wanted-requires-clause-other
put_wanted-requires-clause-other g c = λ free.
    let same : c.is_reserved.result ≡ is_reserved c.args.self.now.layout.kind c.args.id.0 = search rules in
    not_reserved c.args.self.now.layout.kind c.args.id.0 (sym same ∙ free)
