use Rattle.snd_reservations.proofs.Placed.{place_is}
use Rattle.snd_reservations.proofs.laying.lay_ruled.Goals as goal

pub lay_reserved-requires-clause-wave : goal.lay_reserved-requires-clause-wave
lay_reserved-requires-clause-wave g c = (place_is c.args.layout.now c.requires.place).wave

pub lay_reserved-requires-clause-fixed : goal.lay_reserved-requires-clause-fixed
lay_reserved-requires-clause-fixed g c = (place_is c.args.layout.now c.requires.place).fixed

pub lay_reserved-requires-clause-free : goal.lay_reserved-requires-clause-free
lay_reserved-requires-clause-free g c = (place_is c.args.layout.now c.requires.place).free
