use Rattle.std.proofs.Common.{◌≡◌, ◌∙◌, ap, sym, subst, ◌*◌, ◌≤◌, ℕ, ℤ, List, ◌++◌, length, map, take, arith}
use Rattle.std.proofs.lemmas.List.{length-take-le}
use Rattle.snd_edits.specs.Bytes.{AreWhole, numbers_in}
use Rattle.snd_edits.specs.Reading.{FitCodec}
use Rattle.snd_file.specs.Handle.{known_of}
use Rattle.snd_layout.specs.Blocks.{block_align}
use Rattle.snd_layout.specs.Params.{Parameters}
use Rattle.snd_output.specs.Appended.{coded_in, read_on}
use Rattle.snd_output.specs.Made.{IsMaking}
use Rattle.snd_output.proofs.Public.{longer_as}
use Rattle.snd_edits.proofs.Public.{numbers_are_whole}
use Rattle.snd_rack.specs.Held.{Held}
use Rattle.snd_rack.specs.Passing.{later}
use Rattle.snd_racking.specs.Appending.{frames_of_bytes, passed_bytes}
use Rattle.snd_racking.proofs.Taken.{bytes_within, given, given_fit, given_fits, given_is, given_longer, given_room, given_whole, given_within, held_frames, held_whole}
use Rattle.snd_racking.proofs.bytes.pass_block.Goals as goal

pub read_some_bytes-requires-clause-ready : goal.read_some_bytes-requires-clause-ready
read_some_bytes-requires-clause-ready g c =
    let from = known_of c.args.from.now in
    record { working = c.requires.may.working; whole = numbers_are_whole from.shape.params c.args.bytes.now c.requires.pass.0 c.requires.whole }

pub overflow_mul-held : goal.overflow_mul-held
overflow_mul-held g c =
    let hs : List Held = map (λ b. (goal.Stage-dyn g (b.vtable, b.value)).stage b.value) c.args.stages.now in
    let from = known_of c.args.from.now in
    let to = known_of c.args.to.now in
    let some : 1 ≤ from.shape.params.channels = omega (arith, c.are_good.ensures.some_channel, ap (λ (q : Parameters). q.channels) c.params-params.ensures) in
    let to_some : 1 ≤ to.shape.params.channels = omega (arith, c.are_good-2.ensures.some_channel, ap (λ (q : Parameters). q.channels) c.params-wanted.ensures) in
    let size : c.from-align.result ≡ block_align from.shape.params.channels from.shape.params.codec = c.from-align.ensures ∙ c.block_align.ensures ∙ ap (λ (q : Parameters). block_align q.channels q.codec) c.params-params.ensures in
    let to_size : c.from-to_align.result ≡ block_align to.shape.params.channels to.shape.params.codec = c.from-to_align.ensures ∙ c.block_align-2.ensures ∙ ap (λ (q : Parameters). block_align q.channels q.codec) c.params-wanted.ensures in
    let within = bytes_within hs from to c.in_ok-count.count c.from-align.result c.from-to_align.result c.args.bytes.now c.read_some_bytes.new.into c.requires.may c.requires.pass some to_some c.requires.whole c.read_some_bytes.auto.into size to_size c.in_ok-count.ensures.count in
    omega (arith, within)

pub slice_bounds-held-end : goal.slice_bounds-held-end
slice_bounds-held-end g c =
    let hs : List Held = map (λ b. (goal.Stage-dyn g (b.vtable, b.value)).stage b.value) c.args.stages.now in
    let from = known_of c.args.from.now in
    let to = known_of c.args.to.now in
    let some : 1 ≤ from.shape.params.channels = omega (arith, c.are_good.ensures.some_channel, ap (λ (q : Parameters). q.channels) c.params-params.ensures) in
    let to_some : 1 ≤ to.shape.params.channels = omega (arith, c.are_good-2.ensures.some_channel, ap (λ (q : Parameters). q.channels) c.params-wanted.ensures) in
    let size : c.from-align.result ≡ block_align from.shape.params.channels from.shape.params.codec = c.from-align.ensures ∙ c.block_align.ensures ∙ ap (λ (q : Parameters). block_align q.channels q.codec) c.params-params.ensures in
    let to_size : c.from-to_align.result ≡ block_align to.shape.params.channels to.shape.params.codec = c.from-to_align.ensures ∙ c.block_align-2.ensures ∙ ap (λ (q : Parameters). block_align q.channels q.codec) c.params-wanted.ensures in
    bytes_within hs from to c.in_ok-count.count c.from-align.result c.from-to_align.result c.args.bytes.now c.read_some_bytes.new.into c.requires.may c.requires.pass some to_some c.requires.whole c.read_some_bytes.auto.into size to_size c.in_ok-count.ensures.count

pub slice_bounds-held-end-2 : goal.slice_bounds-held-end-2
slice_bounds-held-end-2 g c =
    let hs : List Held = map (λ b. (goal.Stage-dyn g (b.vtable, b.value)).stage b.value) c.args.stages.now in
    let from = known_of c.args.from.now in
    let to = known_of c.args.to.now in
    let some : 1 ≤ from.shape.params.channels = omega (arith, c.are_good.ensures.some_channel, ap (λ (q : Parameters). q.channels) c.params-params.ensures) in
    let to_some : 1 ≤ to.shape.params.channels = omega (arith, c.are_good-2.ensures.some_channel, ap (λ (q : Parameters). q.channels) c.params-wanted.ensures) in
    let size : c.from-align.result ≡ block_align from.shape.params.channels from.shape.params.codec = c.from-align.ensures ∙ c.block_align.ensures ∙ ap (λ (q : Parameters). block_align q.channels q.codec) c.params-params.ensures in
    let to_size : c.from-to_align.result ≡ block_align to.shape.params.channels to.shape.params.codec = c.from-to_align.ensures ∙ c.block_align-2.ensures ∙ ap (λ (q : Parameters). block_align q.channels q.codec) c.params-wanted.ensures in
    sym (length-take-le (c.in_ok-count.count * c.from-align.result) c.read_some_bytes.new.into (bytes_within hs from to c.in_ok-count.count c.from-align.result c.from-to_align.result c.args.bytes.now c.read_some_bytes.new.into c.requires.may c.requires.pass some to_some c.requires.whole c.read_some_bytes.auto.into size to_size c.in_ok-count.ensures.count))

pub overflow_mul-given : goal.overflow_mul-given
overflow_mul-given g c =
    let hs : List Held = map (λ b. (goal.Stage-dyn g (b.vtable, b.value)).stage b.value) c.args.stages.now in
    let from = known_of c.args.from.now in
    let to = known_of c.args.to.now in
    let some : 1 ≤ from.shape.params.channels = omega (arith, c.are_good.ensures.some_channel, ap (λ (q : Parameters). q.channels) c.params-params.ensures) in
    let to_some : 1 ≤ to.shape.params.channels = omega (arith, c.are_good-2.ensures.some_channel, ap (λ (q : Parameters). q.channels) c.params-wanted.ensures) in
    let size : c.from-align.result ≡ block_align from.shape.params.channels from.shape.params.codec = c.from-align.ensures ∙ c.block_align.ensures ∙ ap (λ (q : Parameters). block_align q.channels q.codec) c.params-params.ensures in
    let to_size : c.from-to_align.result ≡ block_align to.shape.params.channels to.shape.params.codec = c.from-to_align.ensures ∙ c.block_align-2.ensures ∙ ap (λ (q : Parameters). block_align q.channels q.codec) c.params-wanted.ensures in
    let within = given_within hs from to c.in_ok-count.count c.from-align.result c.from-to_align.result c.args.bytes.now c.read_some_bytes.new.into c.requires.may c.requires.pass some to_some c.requires.whole c.read_some_bytes.auto.into size to_size c.in_ok-count.ensures.count (length c.args.coded.now) c.requires.fits in
    omega (arith, within)

pub slice_bounds-given-end : goal.slice_bounds-given-end
slice_bounds-given-end g c =
    let hs : List Held = map (λ b. (goal.Stage-dyn g (b.vtable, b.value)).stage b.value) c.args.stages.now in
    let from = known_of c.args.from.now in
    let to = known_of c.args.to.now in
    let some : 1 ≤ from.shape.params.channels = omega (arith, c.are_good.ensures.some_channel, ap (λ (q : Parameters). q.channels) c.params-params.ensures) in
    let to_some : 1 ≤ to.shape.params.channels = omega (arith, c.are_good-2.ensures.some_channel, ap (λ (q : Parameters). q.channels) c.params-wanted.ensures) in
    let size : c.from-align.result ≡ block_align from.shape.params.channels from.shape.params.codec = c.from-align.ensures ∙ c.block_align.ensures ∙ ap (λ (q : Parameters). block_align q.channels q.codec) c.params-params.ensures in
    let to_size : c.from-to_align.result ≡ block_align to.shape.params.channels to.shape.params.codec = c.from-to_align.ensures ∙ c.block_align-2.ensures ∙ ap (λ (q : Parameters). block_align q.channels q.codec) c.params-wanted.ensures in
    given_within hs from to c.in_ok-count.count c.from-align.result c.from-to_align.result c.args.bytes.now c.read_some_bytes.new.into c.requires.may c.requires.pass some to_some c.requires.whole c.read_some_bytes.auto.into size to_size c.in_ok-count.ensures.count (length c.args.coded.now) c.requires.fits

pub slice_bounds-given-end-2 : goal.slice_bounds-given-end-2
slice_bounds-given-end-2 g c =
    let hs : List Held = map (λ b. (goal.Stage-dyn g (b.vtable, b.value)).stage b.value) c.args.stages.now in
    let from = known_of c.args.from.now in
    let to = known_of c.args.to.now in
    let some : 1 ≤ from.shape.params.channels = omega (arith, c.are_good.ensures.some_channel, ap (λ (q : Parameters). q.channels) c.params-params.ensures) in
    let to_some : 1 ≤ to.shape.params.channels = omega (arith, c.are_good-2.ensures.some_channel, ap (λ (q : Parameters). q.channels) c.params-wanted.ensures) in
    let size : c.from-align.result ≡ block_align from.shape.params.channels from.shape.params.codec = c.from-align.ensures ∙ c.block_align.ensures ∙ ap (λ (q : Parameters). block_align q.channels q.codec) c.params-params.ensures in
    let to_size : c.from-to_align.result ≡ block_align to.shape.params.channels to.shape.params.codec = c.from-to_align.ensures ∙ c.block_align-2.ensures ∙ ap (λ (q : Parameters). block_align q.channels q.codec) c.params-wanted.ensures in
    sym (length-take-le (c.in_ok-count.count * c.from-to_align.result) c.args.coded.now (given_within hs from to c.in_ok-count.count c.from-align.result c.from-to_align.result c.args.bytes.now c.read_some_bytes.new.into c.requires.may c.requires.pass some to_some c.requires.whole c.read_some_bytes.auto.into size to_size c.in_ok-count.ensures.count (length c.args.coded.now) c.requires.fits))

pub pass_samples-requires-clause-whole : goal.pass_samples-requires-clause-whole
pass_samples-requires-clause-whole g c =
    let hs : List Held = map (λ b. (goal.Stage-dyn g (b.vtable, b.value)).stage b.value) c.args.stages.now in
    let from = known_of c.args.from.now in
    let to = known_of c.args.to.now in
    let some : 1 ≤ from.shape.params.channels = omega (arith, c.are_good.ensures.some_channel, ap (λ (q : Parameters). q.channels) c.params-params.ensures) in
    let to_some : 1 ≤ to.shape.params.channels = omega (arith, c.are_good-2.ensures.some_channel, ap (λ (q : Parameters). q.channels) c.params-wanted.ensures) in
    let size : c.from-align.result ≡ block_align from.shape.params.channels from.shape.params.codec = c.from-align.ensures ∙ c.block_align.ensures ∙ ap (λ (q : Parameters). block_align q.channels q.codec) c.params-params.ensures in
    let to_size : c.from-to_align.result ≡ block_align to.shape.params.channels to.shape.params.codec = c.from-to_align.ensures ∙ c.block_align-2.ensures ∙ ap (λ (q : Parameters). block_align q.channels q.codec) c.params-wanted.ensures in
    subst (λ (q : Parameters). AreWhole q (length (take (c.in_ok-count.count * c.from-align.result) c.read_some_bytes.new.into))) (sym c.params-params.ensures) (held_whole hs from to c.in_ok-count.count c.from-align.result c.from-to_align.result c.args.bytes.now c.read_some_bytes.new.into c.requires.may c.requires.pass some to_some c.requires.whole c.read_some_bytes.auto.into size to_size c.in_ok-count.ensures.count)

pub pass_samples-requires-clause-fits : goal.pass_samples-requires-clause-fits
pass_samples-requires-clause-fits g c =
    let hs : List Held = map (λ b. (goal.Stage-dyn g (b.vtable, b.value)).stage b.value) c.args.stages.now in
    let from = known_of c.args.from.now in
    let to = known_of c.args.to.now in
    let some : 1 ≤ from.shape.params.channels = omega (arith, c.are_good.ensures.some_channel, ap (λ (q : Parameters). q.channels) c.params-params.ensures) in
    let to_some : 1 ≤ to.shape.params.channels = omega (arith, c.are_good-2.ensures.some_channel, ap (λ (q : Parameters). q.channels) c.params-wanted.ensures) in
    let size : c.from-align.result ≡ block_align from.shape.params.channels from.shape.params.codec = c.from-align.ensures ∙ c.block_align.ensures ∙ ap (λ (q : Parameters). block_align q.channels q.codec) c.params-params.ensures in
    let to_size : c.from-to_align.result ≡ block_align to.shape.params.channels to.shape.params.codec = c.from-to_align.ensures ∙ c.block_align-2.ensures ∙ ap (λ (q : Parameters). block_align q.channels q.codec) c.params-wanted.ensures in
    let sized : length (take (c.in_ok-count.count * c.from-to_align.result) c.args.coded.now) ≡ c.in_ok-count.count * c.from-to_align.result =
    length-take-le (c.in_ok-count.count * c.from-to_align.result) c.args.coded.now (given_within hs from to c.in_ok-count.count c.from-align.result c.from-to_align.result c.args.bytes.now c.read_some_bytes.new.into c.requires.may c.requires.pass some to_some c.requires.whole c.read_some_bytes.auto.into size to_size c.in_ok-count.ensures.count (length c.args.coded.now) c.requires.fits) in
    given_fits hs from to c.in_ok-count.count c.from-align.result c.from-to_align.result c.args.bytes.now c.read_some_bytes.new.into c.requires.may c.requires.pass some to_some c.requires.whole c.read_some_bytes.auto.into size to_size c.in_ok-count.ensures.count (length (take (c.in_ok-count.count * c.from-to_align.result) c.args.coded.now)) sized
    ∙ ap (λ (q : Parameters). frames_of_bytes q (length (take (c.in_ok-count.count * c.from-align.result) c.read_some_bytes.new.into)) * block_align to.shape.params.channels to.shape.params.codec) (sym c.params-params.ensures)
    ∙ ap (λ (q : Parameters). frames_of_bytes c.params-params.result (length (take (c.in_ok-count.count * c.from-align.result) c.read_some_bytes.new.into)) * block_align q.channels q.codec) (sym c.params-wanted.ensures)

pub give_samples-requires-clause-whole : goal.give_samples-requires-clause-whole
give_samples-requires-clause-whole g c =
    let hs : List Held = map (λ b. (goal.Stage-dyn g (b.vtable, b.value)).stage b.value) c.args.stages.now in
    let from = known_of c.args.from.now in
    let to = known_of c.args.to.now in
    let some : 1 ≤ from.shape.params.channels = omega (arith, c.are_good.ensures.some_channel, ap (λ (q : Parameters). q.channels) c.params-params.ensures) in
    let to_some : 1 ≤ to.shape.params.channels = omega (arith, c.are_good-2.ensures.some_channel, ap (λ (q : Parameters). q.channels) c.params-wanted.ensures) in
    let size : c.from-align.result ≡ block_align from.shape.params.channels from.shape.params.codec = c.from-align.ensures ∙ c.block_align.ensures ∙ ap (λ (q : Parameters). block_align q.channels q.codec) c.params-params.ensures in
    let to_size : c.from-to_align.result ≡ block_align to.shape.params.channels to.shape.params.codec = c.from-to_align.ensures ∙ c.block_align-2.ensures ∙ ap (λ (q : Parameters). block_align q.channels q.codec) c.params-wanted.ensures in
    let sized : length (take (c.in_ok-count.count * c.from-to_align.result) c.args.coded.now) ≡ c.in_ok-count.count * c.from-to_align.result =
    length-take-le (c.in_ok-count.count * c.from-to_align.result) c.args.coded.now (given_within hs from to c.in_ok-count.count c.from-align.result c.from-to_align.result c.args.bytes.now c.read_some_bytes.new.into c.requires.may c.requires.pass some to_some c.requires.whole c.read_some_bytes.auto.into size to_size c.in_ok-count.ensures.count (length c.args.coded.now) c.requires.fits) in
    let given_size : length c.pass_samples.new.coded ≡ c.in_ok-count.count * c.from-to_align.result = c.pass_samples.auto.coded ∙ sized in
    given_whole hs from to c.in_ok-count.count c.from-align.result c.from-to_align.result c.args.bytes.now c.read_some_bytes.new.into c.requires.may c.requires.pass some to_some c.requires.whole c.read_some_bytes.auto.into size to_size c.in_ok-count.ensures.count (length c.pass_samples.new.coded) given_size

pub give_samples-requires-clause-room : goal.give_samples-requires-clause-room
give_samples-requires-clause-room g c =
    let hs : List Held = map (λ b. (goal.Stage-dyn g (b.vtable, b.value)).stage b.value) c.args.stages.now in
    let from = known_of c.args.from.now in
    let to = known_of c.args.to.now in
    let some : 1 ≤ from.shape.params.channels = omega (arith, c.are_good.ensures.some_channel, ap (λ (q : Parameters). q.channels) c.params-params.ensures) in
    let to_some : 1 ≤ to.shape.params.channels = omega (arith, c.are_good-2.ensures.some_channel, ap (λ (q : Parameters). q.channels) c.params-wanted.ensures) in
    let size : c.from-align.result ≡ block_align from.shape.params.channels from.shape.params.codec = c.from-align.ensures ∙ c.block_align.ensures ∙ ap (λ (q : Parameters). block_align q.channels q.codec) c.params-params.ensures in
    let to_size : c.from-to_align.result ≡ block_align to.shape.params.channels to.shape.params.codec = c.from-to_align.ensures ∙ c.block_align-2.ensures ∙ ap (λ (q : Parameters). block_align q.channels q.codec) c.params-wanted.ensures in
    let sized : length (take (c.in_ok-count.count * c.from-to_align.result) c.args.coded.now) ≡ c.in_ok-count.count * c.from-to_align.result =
    length-take-le (c.in_ok-count.count * c.from-to_align.result) c.args.coded.now (given_within hs from to c.in_ok-count.count c.from-align.result c.from-to_align.result c.args.bytes.now c.read_some_bytes.new.into c.requires.may c.requires.pass some to_some c.requires.whole c.read_some_bytes.auto.into size to_size c.in_ok-count.ensures.count (length c.args.coded.now) c.requires.fits) in
    let given_size : length c.pass_samples.new.coded ≡ c.in_ok-count.count * c.from-to_align.result = c.pass_samples.auto.coded ∙ sized in
    given_room hs from to c.in_ok-count.count c.from-align.result c.from-to_align.result c.args.bytes.now c.read_some_bytes.new.into c.requires.may c.requires.pass some to_some c.requires.whole c.read_some_bytes.auto.into size to_size c.in_ok-count.ensures.count (length c.pass_samples.new.coded) given_size

pub returns-clause-left : goal.returns-clause-left
returns-clause-left g c =
    let hs : List Held = map (λ b. (goal.Stage-dyn g (b.vtable, b.value)).stage b.value) c.args.stages.now in
    let from = known_of c.args.from.now in
    let to = known_of c.args.to.now in
    let some : 1 ≤ from.shape.params.channels = omega (arith, c.are_good.ensures.some_channel, ap (λ (q : Parameters). q.channels) c.params-params.ensures) in
    let to_some : 1 ≤ to.shape.params.channels = omega (arith, c.are_good-2.ensures.some_channel, ap (λ (q : Parameters). q.channels) c.params-wanted.ensures) in
    let size : c.from-align.result ≡ block_align from.shape.params.channels from.shape.params.codec = c.from-align.ensures ∙ c.block_align.ensures ∙ ap (λ (q : Parameters). block_align q.channels q.codec) c.params-params.ensures in
    let to_size : c.from-to_align.result ≡ block_align to.shape.params.channels to.shape.params.codec = c.from-to_align.ensures ∙ c.block_align-2.ensures ∙ ap (λ (q : Parameters). block_align q.channels q.codec) c.params-wanted.ensures in
    let sized : length (take (c.in_ok-count.count * c.from-to_align.result) c.args.coded.now) ≡ c.in_ok-count.count * c.from-to_align.result =
    length-take-le (c.in_ok-count.count * c.from-to_align.result) c.args.coded.now (given_within hs from to c.in_ok-count.count c.from-align.result c.from-to_align.result c.args.bytes.now c.read_some_bytes.new.into c.requires.may c.requires.pass some to_some c.requires.whole c.read_some_bytes.auto.into size to_size c.in_ok-count.ensures.count (length c.args.coded.now) c.requires.fits) in
    let given_size : length c.pass_samples.new.coded ≡ c.in_ok-count.count * c.from-to_align.result = c.pass_samples.auto.coded ∙ sized in
    let longer = given_longer hs from to c.in_ok-count.count c.from-align.result c.from-to_align.result c.args.bytes.now c.read_some_bytes.new.into c.requires.may c.requires.pass some to_some c.requires.whole c.read_some_bytes.auto.into size to_size c.in_ok-count.ensures.count (length c.pass_samples.new.coded) (known_of c.give_samples.new.to) given_size c.in_ok-give_samples.ensures.left in (
      c.in_ok-count.ensures.left ∙ ap (λ (n : ℕ). read_on n from) c.in_ok-count.ensures.count,
      longer_as _ _ to (known_of c.give_samples.new.to) c.in_ok-count.ensures.count longer,
    )

pub returns-clause-lengthens : goal.returns-clause-lengthens
returns-clause-lengthens g c = λ kind p pieces xs r e reads stands making.
    let hs : List Held = map (λ b. (goal.Stage-dyn g (b.vtable, b.value)).stage b.value) c.args.stages.now in
    let from = known_of c.args.from.now in
    let to = known_of c.args.to.now in
    let some : 1 ≤ from.shape.params.channels = omega (arith, c.are_good.ensures.some_channel, ap (λ (q : Parameters). q.channels) c.params-params.ensures) in
    let to_some : 1 ≤ to.shape.params.channels = omega (arith, c.are_good-2.ensures.some_channel, ap (λ (q : Parameters). q.channels) c.params-wanted.ensures) in
    let size : c.from-align.result ≡ block_align from.shape.params.channels from.shape.params.codec = c.from-align.ensures ∙ c.block_align.ensures ∙ ap (λ (q : Parameters). block_align q.channels q.codec) c.params-params.ensures in
    let to_size : c.from-to_align.result ≡ block_align to.shape.params.channels to.shape.params.codec = c.from-to_align.ensures ∙ c.block_align-2.ensures ∙ ap (λ (q : Parameters). block_align q.channels q.codec) c.params-wanted.ensures in
    let held : List ℕ = (take (c.in_ok-count.count * c.from-align.result) c.read_some_bytes.new.into) in
    let zs : List ℤ = given hs from to c.in_ok-count.count c.from-align.result c.from-to_align.result c.args.bytes.now c.read_some_bytes.new.into c.requires.may c.requires.pass some to_some c.requires.whole c.read_some_bytes.auto.into size to_size c.in_ok-count.ensures.count in
    let fit : FitCodec from.shape.params.codec (numbers_in from.shape.params.codec held) = subst (λ (q : Parameters). FitCodec q.codec (numbers_in q.codec held)) c.params-params.ensures c.pass_samples.ensures.in_range in
    let bytes : c.pass_samples.new.coded ≡ coded_in to.shape.params.codec zs =
    c.pass_samples.ensures.coded
    ∙ ap (λ (q : Parameters). passed_bytes q c.params-wanted.result hs held) c.params-params.ensures
    ∙ ap (λ (q : Parameters). passed_bytes from.shape.params q hs held) c.params-wanted.ensures in
    let are = given_is hs from to c.in_ok-count.count c.from-align.result c.from-to_align.result c.args.bytes.now c.read_some_bytes.new.into c.requires.may c.requires.pass some to_some c.requires.whole c.read_some_bytes.auto.into size to_size c.in_ok-count.ensures.count r (c.in_ok-count.ensures.read r reads).frames in
    let got = c.in_ok-give_samples.ensures.gains zs bytes (given_fit hs from to c.in_ok-count.count c.from-align.result c.from-to_align.result c.args.bytes.now c.read_some_bytes.new.into c.requires.may c.requires.pass some to_some c.requires.whole c.read_some_bytes.auto.into size to_size c.in_ok-count.ensures.count fit) kind p pieces xs e stands making in
    (got.0, got.1, subst (λ (l : List ℤ). IsMaking kind p pieces (xs ++ l) got.0) are got.2)

pub returns-clause-states : goal.returns-clause-states
returns-clause-states g c =
    let hs : List Held = map (λ b. (goal.Stage-dyn g (b.vtable, b.value)).stage b.value) c.args.stages.now in
    let from = known_of c.args.from.now in
    let to = known_of c.args.to.now in
    let some : 1 ≤ from.shape.params.channels = omega (arith, c.are_good.ensures.some_channel, ap (λ (q : Parameters). q.channels) c.params-params.ensures) in
    let to_some : 1 ≤ to.shape.params.channels = omega (arith, c.are_good-2.ensures.some_channel, ap (λ (q : Parameters). q.channels) c.params-wanted.ensures) in
    let size : c.from-align.result ≡ block_align from.shape.params.channels from.shape.params.codec = c.from-align.ensures ∙ c.block_align.ensures ∙ ap (λ (q : Parameters). block_align q.channels q.codec) c.params-params.ensures in
    let to_size : c.from-to_align.result ≡ block_align to.shape.params.channels to.shape.params.codec = c.from-to_align.ensures ∙ c.block_align-2.ensures ∙ ap (λ (q : Parameters). block_align q.channels q.codec) c.params-wanted.ensures in
    c.pass_samples.ensures.states
    ∙ ap (λ (n : ℕ). later n hs) (ap (λ (q : Parameters). frames_of_bytes q (length (take (c.in_ok-count.count * c.from-align.result) c.read_some_bytes.new.into))) c.params-params.ensures ∙ held_frames hs from to c.in_ok-count.count c.from-align.result c.from-to_align.result c.args.bytes.now c.read_some_bytes.new.into c.requires.may c.requires.pass some to_some c.requires.whole c.read_some_bytes.auto.into size to_size c.in_ok-count.ensures.count)
