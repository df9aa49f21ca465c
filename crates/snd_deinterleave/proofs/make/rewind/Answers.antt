use Rattle.snd_file.specs.Handle.{known_of}
use Rattle.snd_deinterleave.proofs.MakeFilling.{never_unsought}
use Rattle.snd_deinterleave.proofs.make.rewind.Goals as goal

pub unreachable-requires : goal.unreachable-requires
unreachable-requires g c = never_unsought (known_of c.args.from.now) (known_of c.seek_read.new.self) c.seek_read.result _ c.requires c.seek_read.ensures.left c.in-Err.is
