use Rattle.std.proofs.Common.{◌/◌, ◌<◌, arith}
use Rattle.std.proofs.Math.Nat.{mul-div_cancel, mul-mod_left}
use Rattle.snd_output.proofs.blocks.places_of.Goals as goal

pub returns-then-is_adpcm-clause-whole : goal.returns-then-is_adpcm-clause-whole
returns-then-is_adpcm-clause-whole c = mul-mod_left (c.args.places / c.args.channels) c.args.channels

pub returns-then-is_adpcm-clause-all : goal.returns-then-is_adpcm-clause-all
returns-then-is_adpcm-clause-all c = λ blocks. mul-div_cancel (c.args.places / c.args.channels) (let e : 0 < c.args.channels = omega (arith, c.requires.some) in e)

pub returns-clause-whole : goal.returns-clause-whole
returns-clause-whole c = mul-mod_left _ c.args.channels
