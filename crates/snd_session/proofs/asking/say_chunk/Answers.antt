use Rattle.std.proofs.Common.{rules, Ok, Err}
use Rattle.snd_file.specs.Handle.{known_of}
use Rattle.snd_edits.specs.Pieces.{first_piece}
use Rattle.snd_edits.specs.declared.tag_error.TagError.TheVariants.{Get}
use Rattle.snd_rules.specs.Replies.{body_text}
use Rattle.snd_rules.specs.Rules.{chunk_of, finds_none, piece_refusal}
use Rattle.snd_lines.specs.declared.refusal.Refusal.TheVariants.{NoSuchChunk}
use Rattle.snd_session.proofs.Decided.{asks_more, body_answers, decides_body, gathered_reply}
use Rattle.snd_session.proofs.Tells.{told}
use Rattle.snd_session.proofs.asking.say_chunk.Goals as goal

pub returns-in-Ok : goal.returns-in-Ok
returns-in-Ok g c =
    told g.D.Disk g.O.Sink NoSuchChunk body_text (chunk_of c.args.id.0) (λ g. piece_refusal (first_piece c.args.id.0 g.shape)) finds_none c.say_gathered.result c.args.file.now c.args.out.now c.piece_bytes.new.self c.say_gathered.new.out (Ok c.in-Ok.body.items)
    (record {
      loan = c.piece_bytes.ensures.loan;
      answers = body_answers g.D.Disk.state c.args.file.now c.piece_bytes.new.self c.args.id.0 (Ok c.in-Ok.body) c.in-Ok.ensures.left c.in-Ok.ensures.body;
      stands = c.piece_bytes.ensures.stands;
      faults = c.in-Ok.ensures.faults;
      reads = c.piece_bytes.ensures.reads;
      asked = asks_more g.D.Disk.state _ _ c.piece_bytes.ensures.asked;
      decides = decides_body c.args.id.0 (known_of c.args.file.now) (known_of c.piece_bytes.new.self) (Ok c.in-Ok.body) c.requires c.in-Ok.ensures.left;
    })
    (gathered_reply g.O.Sink c.body_text.result _ _ _ _ (search rules) c.say_gathered.ensures)

pub returns-in-Err : goal.returns-in-Err
returns-in-Err g c =
    told g.D.Disk g.O.Sink NoSuchChunk body_text (chunk_of c.args.id.0) (λ g. piece_refusal (first_piece c.args.id.0 g.shape)) finds_none c.say_lack.result c.args.file.now c.args.out.now c.piece_bytes.new.self c.say_lack.new.out (Err (Get c.in-Err.error))
    (record {
      loan = c.piece_bytes.ensures.loan;
      answers = body_answers g.D.Disk.state c.args.file.now c.piece_bytes.new.self c.args.id.0 (Err c.in-Err.error) c.in-Err.ensures.left c.in-Err.ensures.body;
      stands = c.piece_bytes.ensures.stands;
      faults = c.in-Err.ensures.faults;
      reads = c.piece_bytes.ensures.reads;
      asked = asks_more g.D.Disk.state _ _ c.piece_bytes.ensures.asked;
      decides = decides_body c.args.id.0 (known_of c.args.file.now) (known_of c.piece_bytes.new.self) (Err c.in-Err.error) c.requires c.in-Err.ensures.left;
    })
    c.say_lack.ensures
