-- The bodies of the further chunks of a file are no more bytes than the file.
use Rattle.std.proofs.Common.{◌≡◌, ap, ℕ, ◌-◌, ◌≤◌, List, Ok, length, arith}
use Rattle.std.specs.Prelude.{codes}
use Rattle.snd_chunks.proofs.Public.{front_lens, lens, tail_lens}
use Rattle.snd_chunks.specs.declared.chunk.Chunk.{Chunk}
use Rattle.snd_chunks.specs.declared.front.Front.{Front}
use Rattle.snd_layout.specs.Shape.{Shape}
use Rattle.snd_rf64.proofs.Opens.{opens as rf64_opens, reached as rf64_reached}
use Rattle.snd_rf64.specs.Layout.{data_end as rf64_data_end, outer_end as rf64_outer_end, rf64_front, rf64_layout, rf64_tail}
use Rattle.snd_wave.proofs.Public.{body_bytes, both_fit}

pub rf64_fits : (b : List ℕ) (h : Shape) → rf64_layout b ≡ Ok h → body_bytes h.pieces ≤ length b
rf64_fits b h is =
    let from = rf64_opens b h is in
    let front : Front = rf64_front b from.sizes.next in
    let reach = rf64_reached b from.sizes.next from.sound from.sound_is in
    let before = front_lens b (codes "data") (length b) 256 from.sizes.next front.chunks from.sound reach in
    let end : ℕ = rf64_outer_end (length b) from.sizes.whole in
    let begin : ℕ = rf64_data_end (length b) from.sound.at from.sizes.sound in
    let back : List Chunk = rf64_tail b from.sizes front from.sound.at in
    let behind : lens back ≤ end - begin = tail_lens b end (255 - length front.chunks) begin in
    let within : end ≤ length b = omega arith in
    let later : from.sound.at ≤ begin = omega arith in
    omega (arith, ap (λ (s : Shape). body_bytes s.pieces) from.shape, both_fit (length b) from.sound.at end begin front.chunks back before.0 before.1 behind within later)
