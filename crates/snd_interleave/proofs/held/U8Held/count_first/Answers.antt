use Rattle.std.proofs.Common.{arith}
use Rattle.snd_file.specs.Handle.{codec_of}
use Rattle.snd_interleave.specs.Held.{pairs_whole}
use Rattle.snd_interleave.proofs.PairNumbers.{pairs_plain}
use Rattle.snd_interleave.proofs.held.U8Held.count_first.Goals as goal

pub frames_first-requires-clause-fixed : goal.frames_first-requires-clause-fixed
frames_first-requires-clause-fixed g c = pairs_plain (codec_of c.args.to.now) c.requires.0

pub returns-clause-whole : goal.returns-clause-whole
returns-clause-whole g c = λ own suits blocks. absurd (omega (arith, pairs_whole (codec_of c.args.to.now) own suits blocks))
