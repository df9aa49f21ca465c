use Rattle.std.proofs.Common.{◌≡◌, ◌∙◌, ap, sym, ℕ, Some, Option, ◌*◌, ◌≤◌, length, take, drop, arith}
use Rattle.snd_layout.specs.Params.{data_bytes}
use Rattle.snd_layout.specs.Shape.{end}
use Rattle.snd_pcm.specs.Groups.{first_groups}
use Rattle.snd_container.specs.Fixed.{byte_count, samples}
use Rattle.snd_container.specs.Sound.{fixed_of}
use Rattle.snd_container.specs.declared.fixed.Fixed.{Fixed}
use Rattle.snd_edits.specs.Bytes.{numbers_as}
use Rattle.snd_edits.proofs.Public.{bytes_counted, frames_fixed, frames_told, linear_bytes, span_fits}
use Rattle.snd_frames.proofs.frames.read_raw.Goals as goal

pub fill-requires : goal.fill-requires
fill-requires g c =
    let s = c.args.layout.now in
    let form = c.in-Some.form in
    let is : fixed_of s.params.codec ≡ Some form = sym c.in-Some.ensures.form in
    let size : data_bytes s.params s.frames ≡ byte_count form * (s.params.channels * s.frames) = linear_bytes s.params form s.frames is in
    let span = span_fits (byte_count form) s.params.channels c.args.place c.args.count s.frames c.requires.within in
    let room = bytes_counted s.params.codec form s.params.channels c.args.count (length c.args.into.now) is c.requires.room in
    let turn : byte_count form * (s.params.channels * c.args.count) ≡ byte_count form * (c.args.count * s.params.channels) =
    ap (λ (m : ℕ). byte_count form * m) (let e : s.params.channels * c.args.count ≡ c.args.count * s.params.channels = omega arith in e) in
    omega (arith, c.requires.held, size, span, room, turn, c.place_of.ensures)

pub returns-clause-told : goal.returns-clause-told
returns-clause-told g c = λ b told.
    let s = c.args.layout.now in
    let form = c.in-Some.form in
    let w = byte_count form in
    let channels = s.params.channels in
    let is : fixed_of s.params.codec ≡ Some form = sym c.in-Some.ensures.form in
    let room = bytes_counted s.params.codec form channels c.args.count (length c.args.into.now) is c.requires.room in
    let fits : end s s.frames ≤ length b = omega (arith, c.requires.held, g.met.D.Disk.size_told c.args.disk.now b told) in
    ap (λ (o : Option Fixed). first_groups channels c.args.count (numbers_as o c.fill.new.into)) is
    ∙ ap (λ l. first_groups channels c.args.count (samples form l)) (c.in_ok-fill.ensures.told b told)
    ∙ ap (λ (m : ℕ). first_groups channels c.args.count (samples form (take m (drop c.place_of.result b)))) room
    ∙ ap (λ (m : ℕ). first_groups channels c.args.count (samples form (take (w * (channels * c.args.count)) (drop m b)))) c.place_of.ensures
    ∙ frames_told b s form c.args.place c.args.count is c.in-Some.ensures.params.some_channel c.requires.within fits
    ∙ ap (λ l. take c.args.count (drop c.args.place l)) (sym (frames_fixed b s c.requires.linear))
