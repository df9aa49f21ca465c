use Rattle.std.proofs.Common.{◌≡◌, ◌++◌, ◌∙◌, ap, sym, subst, refl, ℕ, ℤ, ◌*◌, ◌≤◌, List, length, take, drop, arith, rules}
use Rattle.std.proofs.Math.Nat.{mul-le-mul_left}
use Rattle.std.proofs.lemmas.List.{take-append-le, take_all}
use Rattle.snd_blocks.specs.Frames.{has_bad}
use Rattle.snd_layout.specs.Params.{AreParams}
use Rattle.snd_edits.specs.Calls.{count_read}
use Rattle.snd_edits.specs.Editing.{frames_read}
use Rattle.snd_file.specs.Handle.{channels_of, known_of}
use Rattle.snd_edits.specs.Reading.{GivesFrames}
use Rattle.snd_session.proofs.Asked.{asked_for_frames, count_left, no_part, read_on}
use Rattle.snd_edits.proofs.Public.{few_numbers}
use Rattle.snd_session.proofs.reading.read_some.Goals as goal

pub returns-in-Ok-read_frames-clause-asked : goal.returns-in-Ok-read_frames-clause-asked
returns-in-Ok-read_frames-clause-asked g c =
    asked_for_frames _ _ (known_of c.args.file.now) _ c.min-count.result c.args.wanted c.read_frames.ensures.asked c.keeps_rule.ensures (subst AreParams c.params-params.ensures c.are_good.ensures) (search rules) (omega arith)

pub returns-in-Err-DiskFault-clause-asked : goal.returns-in-Err-DiskFault-clause-asked
returns-in-Err-DiskFault-clause-asked g c =
    asked_for_frames _ _ (known_of c.args.file.now) _ c.min-count.result c.args.wanted c.read_frames.ensures.asked c.keeps_rule.ensures (subst AreParams c.params-params.ensures c.are_good.ensures) (search rules) (omega arith)

pub unreachable-requires-in-Err-PartFrame : goal.unreachable-requires-in-Err-PartFrame
unreachable-requires-in-Err-PartFrame g c =
    let cause = rw c.in-Err-PartFrame.field-0-is at c.in-Err-PartFrame.ensures.left in
    cause.1 (no_part _ c.min-count.result c.args.file.now.layout.params.channels (search rules))

pub returns-in-Ok-read_frames-clause-held : goal.returns-in-Ok-read_frames-clause-held
returns-in-Ok-read_frames-clause-held g c =
    read_on _ _ c.args.wanted c.in-Ok-read_frames.frames _ c.min-count.result _ c.in-Ok-read_frames.ensures.left.2 c.in-Ok-read_frames.ensures.left.1 (search rules) (search rules) (search rules)

pub returns-in-Ok-read_frames-clause-count : goal.returns-in-Ok-read_frames-clause-count
returns-in-Ok-read_frames-clause-count g c = λ e stands.
    count_left (known_of c.args.file.now) e c.args.wanted c.in-Ok-read_frames.frames _ c.min-count.result _ c.in-Ok-read_frames.ensures.left.1 (search rules) (search rules) (search rules) stands.shape stands.place stands.count

pub returns-in-Err-BadBlock-clause-asked : goal.returns-in-Err-BadBlock-clause-asked
returns-in-Err-BadBlock-clause-asked g c =
    asked_for_frames _ _ (known_of c.args.file.now) _ c.min-count.result c.args.wanted c.read_frames.ensures.asked c.keeps_rule.ensures (subst AreParams c.params-params.ensures c.are_good.ensures) (search rules) (omega arith)

pub overflow_mul-count : goal.overflow_mul-count
overflow_mul-count g c =
    let shape = (known_of c.args.file.now).shape in
    let count = c.min-count.result in
    let many = few_numbers shape c.keeps_rule.ensures (subst AreParams c.params-params.ensures c.are_good.ensures) in
    let channels : c.from-channels.result ≡ shape.params.channels = search rules in
    let fewer : count ≤ shape.frames = omega (arith, c.min-count.ensures, c.frames.ensures) in
    let less : shape.params.channels * count ≤ shape.params.channels * shape.frames = mul-le-mul_left shape.params.channels fewer in
    let same : count * c.from-channels.result ≡ count * shape.params.channels = ap (λ (n : ℕ). count * n) channels in
    omega (arith, many, less, same, c.keeps_rule.ensures.data_end)

pub returns-in-Ok-read_frames-clause-read : goal.returns-in-Ok-read_frames-clause-read
returns-in-Ok-read_frames-clause-read g c = λ e stands.
    let into = c.read_frames.new.into in
    let size : length into ≡ c.resize.new.self.len = search (rules, arith, c.read_frames.auto.into, c.deref_mut.ensures.len) in
    let rest = drop (length into) c.resize.new.self.items in
    let same : take c.resize.new.self.len (into ++ rest) ≡ into = take-append-le _ into rest (omega (arith, size)) ∙ take_all _ into (omega (arith, size)) in
    subst (λ (l : List ℤ). GivesFrames (channels_of c.args.file.now) l e c.in-Ok-read_frames.frames) (sym same) (c.in-Ok-read_frames.ensures.read e stands)

pub returns-in-Err-BadBlock-clause-bad : goal.returns-in-Err-BadBlock-clause-bad
returns-in-Err-BadBlock-clause-bad g c = λ none e stands.
    let bad = rw c.in-Err-BadBlock.field-0-is at c.in-Err-BadBlock.ensures.bad in
    let known = known_of c.args.file.now in
    let count = count_left known e c.args.wanted (count_read _ known) _ c.min-count.result _ refl (search rules) (search rules) (search rules) stands.shape stands.place stands.count in
    ap (λ (n : ℕ). has_bad (frames_read e n)) (sym count) ∙ bad e stands
