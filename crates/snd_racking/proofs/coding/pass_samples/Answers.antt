use Rattle.std.proofs.Common.{rules, ◌≡◌, ◌∙◌, refl, ◌*◌, ◌/◌, ◌-◌, ◌≤◌, List, length, map, min, arith}
use Rattle.snd_layout.specs.Blocks.{block_align}
use Rattle.snd_rack.specs.Held.{Held}
use Rattle.snd_racking.proofs.Samples.{bytes_end, coded_on, end_within, none_yet, piece_few, piece_fits, piece_held, piece_placed, piece_whole, states_on}
use Rattle.snd_fields.proofs.Numbers.{all_from_bytes}
use Rattle.snd_racking.proofs.Taken.{bytes_fit}
use Rattle.snd_racking.proofs.coding.pass_samples.Goals as goal

pub loop-at-init : goal.loop-at-init
loop-at-init g c = record {
  within = omega arith;
  coded = none_yet c.args.from c.args.to (map (λ b. (goal.Stage-dyn g (b.vtable, b.value)).stage b.value) c.args.stages.now) c.args.bytes.now c.args.coded.now c.from-align.result c.from-to_align.result c.requires.pass;
  states = refl;
}

pub slice_bounds-piece-end : goal.slice_bounds-piece-end
slice_bounds-piece-end g c =
    let hs : List Held = map (λ b. (goal.Stage-dyn g (b.vtable, b.value)).stage b.value) c.args.stages.now in
    let then : List Held = map (λ b. (goal.Stage-dyn g (b.vtable, b.value)).stage b.value) c.loop-at.stages in
    let from = c.args.from in
    let to = c.args.to in
    let bytes = c.args.bytes.now in
    let coded = c.loop-at.coded in
    let numbers = c.loop-at.numbers in
    let at = c.loop-at.at in
    let k = c.min.result in
    let channels = c.from-channels.result in
    let align = c.from-align.result in
    let to_align = c.from-to_align.result in
    let most = c.frames_at_once-most.result in
    let some : 1 ≤ from.channels = search rules in
    let alike : channels ≡ from.channels = search rules in
    let align_is : align ≡ block_align from.channels from.codec = search rules in
    let to_align_is : to_align ≡ block_align to.channels to.codec = search rules in
    let fits = c.loop-at.auto.coded ∙ c.requires.fits in
    let few : k ≡ min most (length bytes / align - at) = search rules in
    let places : most * channels ≤ length numbers = omega (arith, c.frames_at_once-most.ensures.places, c.loop-at.auto.numbers) in
    bytes_end from to hs then bytes coded numbers channels align to_align at k most c.requires.pass some alike align_is to_align_is c.requires.placed c.requires.whole fits c.loop-at.invariant.within few places c.loop-at.invariant.states

pub pass_piece-requires-clause-placed : goal.pass_piece-requires-clause-placed
pass_piece-requires-clause-placed g c =
    let hs : List Held = map (λ b. (goal.Stage-dyn g (b.vtable, b.value)).stage b.value) c.args.stages.now in
    let then : List Held = map (λ b. (goal.Stage-dyn g (b.vtable, b.value)).stage b.value) c.loop-at.stages in
    let from = c.args.from in
    let to = c.args.to in
    let bytes = c.args.bytes.now in
    let coded = c.loop-at.coded in
    let numbers = c.loop-at.numbers in
    let at = c.loop-at.at in
    let k = c.min.result in
    let channels = c.from-channels.result in
    let align = c.from-align.result in
    let to_align = c.from-to_align.result in
    let most = c.frames_at_once-most.result in
    let some : 1 ≤ from.channels = search rules in
    let alike : channels ≡ from.channels = search rules in
    let align_is : align ≡ block_align from.channels from.codec = search rules in
    let to_align_is : to_align ≡ block_align to.channels to.codec = search rules in
    let fits = c.loop-at.auto.coded ∙ c.requires.fits in
    let few : k ≡ min most (length bytes / align - at) = search rules in
    let places : most * channels ≤ length numbers = omega (arith, c.frames_at_once-most.ensures.places, c.loop-at.auto.numbers) in
    piece_placed from to hs then bytes coded numbers channels align to_align at k most c.requires.pass some alike align_is to_align_is c.requires.placed c.requires.whole fits c.loop-at.invariant.within few places c.loop-at.invariant.states

pub pass_piece-requires-clause-held : goal.pass_piece-requires-clause-held
pass_piece-requires-clause-held g c =
    let hs : List Held = map (λ b. (goal.Stage-dyn g (b.vtable, b.value)).stage b.value) c.args.stages.now in
    let then : List Held = map (λ b. (goal.Stage-dyn g (b.vtable, b.value)).stage b.value) c.loop-at.stages in
    let from = c.args.from in
    let to = c.args.to in
    let bytes = c.args.bytes.now in
    let coded = c.loop-at.coded in
    let numbers = c.loop-at.numbers in
    let at = c.loop-at.at in
    let k = c.min.result in
    let channels = c.from-channels.result in
    let align = c.from-align.result in
    let to_align = c.from-to_align.result in
    let most = c.frames_at_once-most.result in
    let some : 1 ≤ from.channels = search rules in
    let alike : channels ≡ from.channels = search rules in
    let align_is : align ≡ block_align from.channels from.codec = search rules in
    let to_align_is : to_align ≡ block_align to.channels to.codec = search rules in
    let fits = c.loop-at.auto.coded ∙ c.requires.fits in
    let few : k ≡ min most (length bytes / align - at) = search rules in
    let places : most * channels ≤ length numbers = omega (arith, c.frames_at_once-most.ensures.places, c.loop-at.auto.numbers) in
    piece_held from to hs then bytes coded numbers channels align to_align at k most c.requires.pass some alike align_is to_align_is c.requires.placed c.requires.whole fits c.loop-at.invariant.within few places c.loop-at.invariant.states

pub pass_piece-requires-clause-whole : goal.pass_piece-requires-clause-whole
pass_piece-requires-clause-whole g c =
    let hs : List Held = map (λ b. (goal.Stage-dyn g (b.vtable, b.value)).stage b.value) c.args.stages.now in
    let then : List Held = map (λ b. (goal.Stage-dyn g (b.vtable, b.value)).stage b.value) c.loop-at.stages in
    let from = c.args.from in
    let to = c.args.to in
    let bytes = c.args.bytes.now in
    let coded = c.loop-at.coded in
    let numbers = c.loop-at.numbers in
    let at = c.loop-at.at in
    let k = c.min.result in
    let channels = c.from-channels.result in
    let align = c.from-align.result in
    let to_align = c.from-to_align.result in
    let most = c.frames_at_once-most.result in
    let some : 1 ≤ from.channels = search rules in
    let alike : channels ≡ from.channels = search rules in
    let align_is : align ≡ block_align from.channels from.codec = search rules in
    let to_align_is : to_align ≡ block_align to.channels to.codec = search rules in
    let fits = c.loop-at.auto.coded ∙ c.requires.fits in
    let few : k ≡ min most (length bytes / align - at) = search rules in
    let places : most * channels ≤ length numbers = omega (arith, c.frames_at_once-most.ensures.places, c.loop-at.auto.numbers) in
    piece_whole from to hs then bytes coded numbers channels align to_align at k most c.requires.pass some alike align_is to_align_is c.requires.placed c.requires.whole fits c.loop-at.invariant.within few places c.loop-at.invariant.states

pub pass_piece-requires-clause-few : goal.pass_piece-requires-clause-few
pass_piece-requires-clause-few g c =
    let hs : List Held = map (λ b. (goal.Stage-dyn g (b.vtable, b.value)).stage b.value) c.args.stages.now in
    let then : List Held = map (λ b. (goal.Stage-dyn g (b.vtable, b.value)).stage b.value) c.loop-at.stages in
    let from = c.args.from in
    let to = c.args.to in
    let bytes = c.args.bytes.now in
    let coded = c.loop-at.coded in
    let numbers = c.loop-at.numbers in
    let at = c.loop-at.at in
    let k = c.min.result in
    let channels = c.from-channels.result in
    let align = c.from-align.result in
    let to_align = c.from-to_align.result in
    let most = c.frames_at_once-most.result in
    let some : 1 ≤ from.channels = search rules in
    let alike : channels ≡ from.channels = search rules in
    let align_is : align ≡ block_align from.channels from.codec = search rules in
    let to_align_is : to_align ≡ block_align to.channels to.codec = search rules in
    let fits = c.loop-at.auto.coded ∙ c.requires.fits in
    let few : k ≡ min most (length bytes / align - at) = search rules in
    let places : most * channels ≤ length numbers = omega (arith, c.frames_at_once-most.ensures.places, c.loop-at.auto.numbers) in
    let after : most * to.channels ≤ 4096 = search rules in
    piece_few from to hs then bytes coded numbers channels align to_align at k most c.requires.pass some alike align_is to_align_is c.requires.placed c.requires.whole fits c.loop-at.invariant.within few places c.loop-at.invariant.states after

pub pass_piece-requires-clause-fits : goal.pass_piece-requires-clause-fits
pass_piece-requires-clause-fits g c =
    let hs : List Held = map (λ b. (goal.Stage-dyn g (b.vtable, b.value)).stage b.value) c.args.stages.now in
    let then : List Held = map (λ b. (goal.Stage-dyn g (b.vtable, b.value)).stage b.value) c.loop-at.stages in
    let from = c.args.from in
    let to = c.args.to in
    let bytes = c.args.bytes.now in
    let coded = c.loop-at.coded in
    let numbers = c.loop-at.numbers in
    let at = c.loop-at.at in
    let k = c.min.result in
    let channels = c.from-channels.result in
    let align = c.from-align.result in
    let to_align = c.from-to_align.result in
    let most = c.frames_at_once-most.result in
    let some : 1 ≤ from.channels = search rules in
    let alike : channels ≡ from.channels = search rules in
    let align_is : align ≡ block_align from.channels from.codec = search rules in
    let to_align_is : to_align ≡ block_align to.channels to.codec = search rules in
    let fits = c.loop-at.auto.coded ∙ c.requires.fits in
    let few : k ≡ min most (length bytes / align - at) = search rules in
    let places : most * channels ≤ length numbers = omega (arith, c.frames_at_once-most.ensures.places, c.loop-at.auto.numbers) in
    piece_fits from to hs then bytes coded numbers channels align to_align at k most c.requires.pass some alike align_is to_align_is c.requires.placed c.requires.whole fits c.loop-at.invariant.within few places c.loop-at.invariant.states

pub loop-at-preserved : goal.loop-at-preserved
loop-at-preserved g c =
    let hs : List Held = map (λ b. (goal.Stage-dyn g (b.vtable, b.value)).stage b.value) c.args.stages.now in
    let then : List Held = map (λ b. (goal.Stage-dyn g (b.vtable, b.value)).stage b.value) c.loop-at.stages in
    let from = c.args.from in
    let to = c.args.to in
    let bytes = c.args.bytes.now in
    let coded = c.loop-at.coded in
    let numbers = c.loop-at.numbers in
    let at = c.loop-at.at in
    let k = c.min.result in
    let channels = c.from-channels.result in
    let align = c.from-align.result in
    let to_align = c.from-to_align.result in
    let most = c.frames_at_once-most.result in
    let some : 1 ≤ from.channels = search rules in
    let alike : channels ≡ from.channels = search rules in
    let align_is : align ≡ block_align from.channels from.codec = search rules in
    let to_align_is : to_align ≡ block_align to.channels to.codec = search rules in
    let fits = c.loop-at.auto.coded ∙ c.requires.fits in
    let few : k ≡ min most (length bytes / align - at) = search rules in
    let places : most * channels ≤ length numbers = omega (arith, c.frames_at_once-most.ensures.places, c.loop-at.auto.numbers) in
    record {
      within = end_within from to hs then bytes coded numbers channels align to_align at k most c.requires.pass some alike align_is to_align_is c.requires.placed c.requires.whole fits c.loop-at.invariant.within few places c.loop-at.invariant.states;
      coded = coded_on from to hs then bytes coded numbers channels align to_align at k most c.requires.pass some alike align_is to_align_is c.requires.placed c.requires.whole fits c.loop-at.invariant.within few places c.loop-at.invariant.states c.pass_piece.new.coded c.pass_piece.ensures.coded c.pass_piece.auto.coded c.loop-at.invariant.coded;
      states = states_on from to hs then bytes coded numbers channels align to_align at k most c.requires.pass some alike align_is to_align_is c.requires.placed c.requires.whole fits c.loop-at.invariant.within few places c.loop-at.invariant.states (map (λ b. (goal.Stage-dyn g (b.vtable, b.value)).stage b.value) c.pass_piece.new.stages) c.pass_piece.ensures.states;
    }

pub returns-clause-in_range : goal.returns-clause-in_range
returns-clause-in_range g c = bytes_fit c.args.from.codec c.args.bytes.now c.requires.pass.0 (all_from_bytes c.args.bytes.now (λ i. omega (arith, c.type_inv.bytes i)))
