use Rattle.std.proofs.Common.{◌≡◌, ◌∙◌, ℤ, List, ap, refl, arith}
use Rattle.snd_rack.specs.Held.{Held, next, passed}
use Rattle.snd_rack.specs.Rises.{fade_from}
use Rattle.snd_rack.proofs.Block.{frames_on, none_left, rise_room}
use Rattle.snd_rack.proofs.samples.rise_all.Goals as goal

pub rise_more-requires : goal.rise_more-requires
rise_more-requires c =
    let h : Held = fade_from c.args.count c.loop-frame.i in
    let steps = c.in-Some.ensures.steps in
    let inv = c.loop-frame.invariant in
    let f : List ℤ = c.in-Some.frame.now in
    rise_room c.args.count c.loop-frame.i c.args.channels f _ _ (omega (arith, c.requires.some)) (steps.1.1 ∙ inv.size) steps.1.0 c.loop-frame.into.items _ 16384 inv.samples c.requires.room

pub loop-frame-preserved : goal.loop-frame-preserved
loop-frame-preserved c =
    let h : Held = fade_from c.args.count c.loop-frame.i in
    let steps = c.in-Some.ensures.steps in
    let inv = c.loop-frame.invariant in
    let f : List ℤ = c.in-Some.frame.now in
    let state : fade_from c.args.count c.saturating_add-i.result ≡ next h = ap (fade_from c.args.count) c.saturating_add-i.ensures in
    record {
      size = steps.0 ∙ inv.size;
      samples = frames_on h c.args.channels f _ _ (omega (arith, c.requires.some)) (steps.1.1 ∙ inv.size) steps.1.0 c.loop-frame.into.items (passed h f) c.rise_more.new.into.items _ c.rise_more.ensures refl state ∙ inv.samples;
    }

pub returns : goal.returns
returns c =
    let steps = c.in-None.ensures.steps in
    let inv = c.loop-frame.invariant in
    none_left (fade_from c.args.count c.loop-frame.i) c.args.channels c.loop-frame.frame-iterator.rest.now c.loop-frame.into.items (omega (arith, steps.1.0, inv.size)) ∙ inv.samples
