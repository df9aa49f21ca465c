use Rattle.std.proofs.Common.{◌≡◌, refl, rules}
use Rattle.snd_ima_adpcm.specs.Frames.{bytes_16}
use Rattle.snd_ms_adpcm.proofs.MsWritten.{two_bytes}
use Rattle.snd_ms_adpcm.proofs.microsoft_writer.Heads.bytes.Goals as goal

pub returns : goal.returns
returns c =
    let s = c.args.self in
    let one : c.number_bytes.result ≡ bytes_16 s.left.delta = search rules in
    let two : c.number_bytes-2.result ≡ bytes_16 s.right.delta = search rules in
    let three : c.number_bytes-3.result ≡ bytes_16 s.left.newer = search rules in
    let four : c.number_bytes-4.result ≡ bytes_16 s.right.newer = search rules in
    let five : c.number_bytes-5.result ≡ bytes_16 s.left.older = search rules in
    let six : c.number_bytes-6.result ≡ bytes_16 s.right.older = search rules in
    rw (two_bytes _ _ one, two_bytes _ _ two, two_bytes _ _ three, two_bytes _ _ four, two_bytes _ _ five, two_bytes _ _ six) refl
