use Rattle.std.proofs.Common.{◌∙◌, ℕ, ℤ, List, map, pos, slice_index_or, arith}
use Rattle.std.proofs.lemmas.List.{length-map}
use Rattle.snd_rack.proofs.Block.{flat_left, flat_on, flat_room}
use Rattle.snd_rack.proofs.samples.pick_all.Goals as goal

-- the samples at some places of a frame
abbrev picked : List ℕ → List ℤ → List ℤ
picked places frame = map (λ place. slice_index_or frame place (pos 0)) places

pub pick_more-requires-clause-room : goal.pick_more-requires-clause-room
pick_more-requires-clause-room c =
    let steps = c.in-Some.ensures.steps in
    let inv = c.loop-frame.invariant in
    let f : List ℤ = c.in-Some.frame.now in
    let room = flat_room (picked c.args.places.now) c.args.channels f _ _ (omega (arith, c.requires.some)) (steps.1.1 ∙ inv.size) steps.1.0 c.loop-frame.into.items _ inv.samples in
    omega (arith, room, c.requires.room, length-map c.args.places.now (λ (place : ℕ). slice_index_or f place (pos 0)))

pub loop-frame-preserved : goal.loop-frame-preserved
loop-frame-preserved c =
    let steps = c.in-Some.ensures.steps in
    let inv = c.loop-frame.invariant in
    let f : List ℤ = c.in-Some.frame.now in
    record {
      size = steps.0 ∙ inv.size;
      samples = flat_on (picked c.args.places.now) c.args.channels f _ _ (omega (arith, c.requires.some)) (steps.1.1 ∙ inv.size) steps.1.0 c.loop-frame.into.items c.pick_more.new.into.items c.pick_more.ensures ∙ inv.samples;
    }

pub returns : goal.returns
returns c =
    let steps = c.in-None.ensures.steps in
    let inv = c.loop-frame.invariant in
    flat_left (picked c.args.places.now) c.args.channels c.loop-frame.frame-iterator.rest.now c.loop-frame.into.items (omega (arith, steps.1.0, inv.size)) ∙ inv.samples
