use Rattle.std.proofs.Common.{rules, ◌≡◌, sym, subst, ◌+◌, ◌*◌, ◌++◌, All, List, drop, take, ℕ, ℤ, arith}
use Rattle.std.proofs.lemmas.List.Elements.{All-append, All-drop, All-take}
use Rattle.snd_ima_adpcm.specs.Frames.{Is16Bit}
use Rattle.snd_layout.specs.Blocks.{block_frames}
use Rattle.snd_pcm.specs.Groups.{first_groups}
use Rattle.snd_blocks.specs.Calls.{block_at}
use Rattle.snd_blocks.specs.Frames.{block_samples, wanted_frames}
use Rattle.snd_blocks.specs.Spans.{count_before}
use Rattle.snd_blocks.proofs.Places.{times_le}
use Rattle.snd_blocks.proofs.ReadSpans.{IsSpan, good_span}
use Rattle.snd_blocks.proofs.read.put_span.Goals as goal

pub span_of-span-requires-clause-fits : goal.span_of-span-requires-clause-fits
span_of-span-requires-clause-fits c = omega (arith, c.requires.within, c.keeps_rules.ensures.frames)

pub returns-clause-told : goal.returns-clause-told
returns-clause-told c = λ b fits block so_far.
    let s = c.args.layout.now in
    let k = s.params.channels in
    let per = block_frames s.params.codec in
    let span = c.span_of-span.result in
    let wanted = wanted_frames b s c.args.place c.args.count in
    let done : span.done ≡ count_before per c.args.place c.args.count c.args.number = search rules in
    let next : span.done + span.count ≡ count_before per c.args.place c.args.count (c.args.number + 1) = search rules in
    let is : IsSpan per c.args.place c.args.count c.args.number span.skipped span.done span.count = record {
      starts = search rules;
      within = search rules;
      room = c.span_of-span.ensures.room;
      some = c.span_of-span.ensures.some;
    } in
    let channels : c.channels_of.result ≡ k = c.channels_of.ensures.value in
    let samples : c.args.samples.now ≡ block_samples k s.params.codec (block_at b s c.args.number) = block.samples_of in
    let copied : take (k * (span.done + span.count)) c.copy_span.new.into
    ≡ take (k * span.done) c.args.into.now ++ take (k * span.count) (drop (k * span.skipped) c.args.samples.now) =
    subst (λ (m : ℕ). take (m * (span.done + span.count)) c.copy_span.new.into ≡ take (m * span.done) c.args.into.now ++ take (m * span.count) (drop (m * span.skipped) c.args.samples.now))
    channels c.copy_span.ensures in
    subst (λ (m : ℕ). first_groups k m c.copy_span.new.into ≡ take m wanted) next
    (good_span b s c.args.place c.args.count c.args.number c.keeps_blocks.ensures fits c.requires.within span.skipped span.done span.count c.args.into.now c.copy_span.new.into is
    block.good
    (subst (λ (l : List ℤ). take (k * (span.done + span.count)) c.copy_span.new.into ≡ take (k * span.done) c.args.into.now ++ take (k * span.count) (drop (k * span.skipped) l)) samples copied)
    (omega (arith, c.requires.room, times_le k span.done c.args.count (omega (arith, c.span_of-span.ensures.room))))
    (subst (λ (m : ℕ). first_groups k m c.args.into.now ≡ take m wanted) (sym done) so_far))

pub returns-clause-range : goal.returns-clause-range
returns-clause-range c = λ so_far.
    let s = c.args.layout.now in
    let k = s.params.channels in
    let per = block_frames s.params.codec in
    let span = c.span_of-span.result in
    let done : span.done ≡ count_before per c.args.place c.args.count c.args.number = search rules in
    let next : span.done + span.count ≡ count_before per c.args.place c.args.count (c.args.number + 1) = search rules in
    let channels : c.channels_of.result ≡ k = c.channels_of.ensures.value in
    let copied : take (k * (span.done + span.count)) c.copy_span.new.into
    ≡ take (k * span.done) c.args.into.now ++ take (k * span.count) (drop (k * span.skipped) c.args.samples.now) =
    subst (λ (m : ℕ). take (m * (span.done + span.count)) c.copy_span.new.into ≡ take (m * span.done) c.args.into.now ++ take (m * span.count) (drop (m * span.skipped) c.args.samples.now))
    channels c.copy_span.ensures in
    let part = take (k * span.count) (drop (k * span.skipped) c.args.samples.now) in
    let before : All Is16Bit (take (k * span.done) c.args.into.now) = subst (λ (m : ℕ). All Is16Bit (take (k * m) c.args.into.now)) (sym done) so_far in
    subst (λ (m : ℕ). All Is16Bit (take (k * m) c.copy_span.new.into)) next
    (subst (All Is16Bit) (sym copied)
    (All-append Is16Bit (take (k * span.done) c.args.into.now) part before (All-take Is16Bit (k * span.count) (drop (k * span.skipped) c.args.samples.now) (All-drop Is16Bit (k * span.skipped) c.args.samples.now c.requires.range))))
