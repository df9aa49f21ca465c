use Rattle.std.proofs.Common.{◌≡◌, ◌∙◌, refl, ap, pos, ◌<◌, ℤ, length, get_or, set, w32, to_z, of_z, rules}
use Rattle.std.proofs.lemmas.List.{length-set}
use Rattle.std.proofs.lemmas.List.Elements.{All-set}
use Rattle.snd_ima_adpcm.specs.Frames.{Is16Bit}
use Rattle.snd_ms_adpcm.specs.Lanes.{IsDelta}
use Rattle.snd_ms_adpcm.specs.Microsoft.{ms_code, ms_delta, ms_sample}
use Rattle.snd_ms_adpcm.proofs.LaneCodes.{left_more, takes_more}
use Rattle.snd_ms_adpcm.proofs.microsoft_four_writer.take_samples.Goals as goal

pub loop-k-preserved : goal.loop-k-preserved
loop-k-preserved c =
    let k = c.loop-k.k in
    let old = c.args.lanes.now in
    let l = c.loop-k.lanes in
    let inv = c.loop-k.invariant in
    let by = get_or l.newer_by k (pos 0) in
    let by_older = get_or l.older_by k (pos 0) in
    let newer = get_or l.newer k (pos 0) in
    let older = get_or l.older k (pos 0) in
    let delta = get_or l.delta k (pos 0) in
    let x = get_or c.args.samples.now k (pos 0) in
    let code = c.coded-code.result.0 in
    let next = to_z w32 (of_z w32 c.coded-code.result.1) in
    let delta_after = to_z w32 (of_z w32 c.coded-code.result.2) in
    let its = ms_code by by_older newer older delta x in
    let newers : length l.newer ≡ 8 = search rules in
    let olders : length l.older ≡ 8 = search rules in
    let deltas : length l.delta ≡ 8 = search rules in
    let lt : k < 8 = search rules in
    let same : to_z w32 (of_z w32 newer) ≡ newer = search rules in
    let older_is : set l.older k (to_z w32 (of_z w32 newer)) ≡ set l.older k newer = ap (λ (z : ℤ). set l.older k z) same in
    let code_is : code ≡ its = search rules in
    let next_is : next ≡ ms_sample by by_older newer older delta its = search rules in
    let delta_is : delta_after ≡ ms_delta delta its = search rules in
    let next_range : Is16Bit next = search rules in
    let newer_range : Is16Bit (to_z w32 (of_z w32 newer)) = search rules in
    let delta_range : IsDelta delta_after = search rules in
    record {
      ready = record {
        newer_by = inv.ready.newer_by;
        older_by = inv.ready.older_by;
        newer = All-set Is16Bit l.newer k next next_range inv.ready.newer;
        older = All-set Is16Bit l.older k (to_z w32 (of_z w32 newer)) newer_range inv.ready.older;
        delta = All-set IsDelta l.delta k delta_after delta_range inv.ready.delta;
      };
      taken = takes_more old l _ c.args.samples.now c.loop-k.codes k code next delta_after lt newers olders deltas inv.places refl refl refl older_is refl code_is next_is delta_is inv.left inv.taken;
      left = left_more old l _ c.args.samples.now c.loop-k.codes k code next delta_after lt newers olders deltas inv.places refl refl refl older_is refl inv.left;
      places = length-set c.loop-k.codes k code ∙ inv.places;
      small = All-set (λ b. b < 16) c.loop-k.codes k code c.coded-code.ensures.bound inv.small;
    }
