use Rattle.std.proofs.Common.{◌≡◌, ◌∙◌, ap, sym, ℕ, Some, ◌*◌, ◌≤◌, length, take, drop, arith}
use Rattle.snd_layout.specs.Params.{data_bytes}
use Rattle.snd_layout.specs.Shape.{end}
use Rattle.snd_pcm.specs.Groups.{first_groups}
use Rattle.snd_container.specs.Fixed.{byte_count, samples}
use Rattle.snd_container.specs.Sound.{fixed_of}
use Rattle.snd_edits.proofs.Public.{fits_form, frame_bytes, frames_fixed, frames_told, linear_bytes, span_fits}
use Rattle.snd_frames.proofs.frames.read_from.Goals as goal

pub read_run-requires : goal.read_run-requires
read_run-requires g c =
    let s = c.args.layout.now in
    let form = c.in-Some.form in
    let is : fixed_of s.params.codec ≡ Some form = sym c.in-Some.ensures.form in
    let size : data_bytes s.params s.frames ≡ byte_count form * (s.params.channels * s.frames) = linear_bytes s.params form s.frames is in
    let span = span_fits (byte_count form) s.params.channels c.args.place c.args.count s.frames c.requires.within in
    let room : byte_count form * length c.args.into.now ≡ byte_count form * (c.args.count * s.params.channels) = ap (λ (m : ℕ). byte_count form * m) c.requires.room in
    omega (arith, c.requires.held, size, span, room, c.place_of.ensures)

pub returns-clause-told : goal.returns-clause-told
returns-clause-told g c = λ b told.
    let s = c.args.layout.now in
    let form = c.in-Some.form in
    let w = byte_count form in
    let channels = s.params.channels in
    let is : fixed_of s.params.codec ≡ Some form = sym c.in-Some.ensures.form in
    let room : length c.read_run.new.into ≡ channels * c.args.count = omega (arith, c.requires.room, c.read_run.auto.into) in
    let fits : end s s.frames ≤ length b = omega (arith, c.requires.held, g.met.D.Disk.size_told c.args.disk.now b told) in
    ap (first_groups channels c.args.count) (c.in_ok-read_run.ensures.told b told)
    ∙ ap (λ (m : ℕ). first_groups channels c.args.count (samples form (take (w * m) (drop c.place_of.result b)))) room
    ∙ ap (λ (m : ℕ). first_groups channels c.args.count (samples form (take (w * (channels * c.args.count)) (drop m b)))) c.place_of.ensures
    ∙ frames_told b s form c.args.place c.args.count is c.in-Some.ensures.params.some_channel c.requires.within fits
    ∙ ap (λ l. take c.args.count (drop c.args.place l)) (sym (frames_fixed b s c.requires.linear))

pub returns-clause-asked : goal.returns-clause-asked
returns-clause-asked g c =
    let s = c.args.layout.now in
    let all = frame_bytes s.params.codec c.in-Some.form s.params.channels c.args.count (length c.args.into.now) (sym c.in-Some.ensures.form) c.requires.room in
    record { later = c.read_run.ensures.asked.later; most = omega (arith, all, c.read_run.ensures.asked.most) }

pub returns-in_err-read_run-clause-asked : goal.returns-in_err-read_run-clause-asked
returns-in_err-read_run-clause-asked g c =
    let s = c.args.layout.now in
    let all = frame_bytes s.params.codec c.in-Some.form s.params.channels c.args.count (length c.args.into.now) (sym c.in-Some.ensures.form) c.requires.room in
    record { later = c.read_run.ensures.asked.later; most = omega (arith, all, c.read_run.ensures.asked.most) }

pub returns-clause-in_range : goal.returns-clause-in_range
returns-clause-in_range g c = fits_form c.args.layout.now.params.codec c.in-Some.form c.read_run.new.into (sym c.in-Some.ensures.form) c.in_ok-read_run.ensures.in_range
