use Rattle.std.proofs.Common.{◌≡◌, ◌*◌, ◌<◌, Some, sym, arith}
use Rattle.std.proofs.lemmas.Bool.Decides.{nat_tests}
use Rattle.snd_container.specs.Sound.{fixed_of}
use Rattle.snd_container.proofs.Public.{byte_count_pos}
use Rattle.snd_edits.proofs.Public.{room_holds}
use Rattle.snd_frames.proofs.growth.has_room.Goals as goal

pub returns : goal.returns
returns c =
    let p = c.args.layout.now.params in
    let is : fixed_of p.codec ≡ Some c.in-Some.form = sym c.in-Some.ensures.form in
    let some : 0 < c.bytes.result * c.channels_of.result = grind (arith, c.bytes.ensures, c.channels_of.ensures.some, byte_count_pos c.in-Some.form) in
    let holds = room_holds p c.in-Some.form c.args.frames c.room.result c.bytes.result c.channels_of.result is (sym c.bytes.ensures) (sym c.channels_of.ensures.value) some in
    (λ yes. let few = holds.0 (grind (arith, nat_tests)) in grind (arith, few, c.room.ensures), λ few. grind (arith, nat_tests, holds.1, c.room.ensures))
