use Rattle.std.proofs.Common.{◌+◌, ◌-◌, length, arith}
use Rattle.snd_meta.proofs.Texts.{padded_by}
use Rattle.snd_meta.proofs.bext.push_padded.Goals as goal

pub returns : goal.returns
returns c = padded_by c.args.body.now.items c.args.text.now c.extend_from_slice.new.self.items c.resize.new.self.items c.args.size (c.len.result + (c.args.size - length c.args.text.now)) c.extend_from_slice.new.self.len (omega arith) (omega arith)
    c.in_ok-extend_from_slice.ensures.items c.in_ok-resize.ensures.items
