use Rattle.std.proofs.Common.{rules, ◌≡◌, ◌∙◌, length}
use Rattle.std.specs.Prelude.{position, unwrap_or}
use Rattle.snd_edits.specs.Pieces.{has_name}
use Rattle.snd_frames.proofs.ReadBodies.{place_or}
use Rattle.snd_frames.proofs.wanted.place_named.Goals as goal

pub returns-clause-place : goal.returns-clause-place
returns-clause-place c =
    let pieces = c.args.layout.now.pieces in
    let found : c.unwrap_or.result ≡ unwrap_or (position (has_name c.args.id.0) pieces) (length pieces) = search rules in
    found ∙ place_or (has_name c.args.id.0) pieces
