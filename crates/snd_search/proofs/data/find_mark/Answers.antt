use Rattle.std.proofs.Common.{◌≡◌, ◌∙◌, ℕ, ◌+◌, ◌≤◌, take, drop, length, sym, refl, ap, arith, rules}
use Rattle.snd_disk.proofs.Public.{only_reads_then}
use Rattle.snd_search.proofs.Marks.{asked_block, block_ends, block_len, first_in_part, in_front, long_front, none_in_part}
use Rattle.snd_search.proofs.data.find_mark.Goals as goal

pub returns-in-Some-clause-told : goal.returns-in-Some-clause-told
returns-in-Some-clause-told g c = λ b told.
    let size = c.args.size in
    let at = c.loop-at.at in
    let x = c.fill.new.into in
    let few : c.min-count.result ≤ 16384 = omega (arith, c.min-count.ensures) in
    let fills : length x ≡ c.min-count.result = block_len c.min-count.result c.loop-at.block x c.fill.auto.into (search rules) few in
    let within : at + length x ≤ size = omega (arith, fills, c.min-count.ensures) in
    let long : length (take size b) ≡ size = long_front size b (omega (arith, c.requires.size, g.met.D.Disk.size_told c.args.disk.now b told)) in
    let is : x ≡ take (length x) (drop at b) =
    c.in_ok-fill.ensures.told b (c.loop-at.invariant.reads.keeps.contents ∙ told) ∙ ap (λ (n : ℕ). take n (drop at b)) (sym c.fill.auto.into) in
    first_in_part c.args.mark.now (take size b) x c.args.from at (length x) c.in-Some.place (in_front (length x) at size b x is within) (omega (arith, within, long)) refl
    c.loop-at.invariant.behind (c.loop-at.invariant.so_far b told) c.in-Some.ensures

pub loop-at-preserved : goal.loop-at-preserved
loop-at-preserved g c =
    let size = c.args.size in
    let at = c.loop-at.at in
    let x = c.fill.new.into in
    let few : c.min-count.result ≤ 16384 = omega (arith, c.min-count.ensures) in
    let fills : length x ≡ c.min-count.result = block_len c.min-count.result c.loop-at.block x c.fill.auto.into (search rules) few in
    let within : at + length x ≤ size = omega (arith, fills, c.min-count.ensures) in
    record {
      so_far = λ b told.
          let long : length (take size b) ≡ size = long_front size b (omega (arith, c.requires.size, g.met.D.Disk.size_told c.args.disk.now b told)) in
          let is : x ≡ take (length x) (drop at b) =
          c.in_ok-fill.ensures.told b (c.loop-at.invariant.reads.keeps.contents ∙ told) ∙ ap (λ (n : ℕ). take n (drop at b)) (sym c.fill.auto.into) in
          none_in_part c.args.mark.now (take size b) x c.args.from at (length x) (at + 16381) (omega (arith, c.requires.mark)) (in_front (length x) at size b x is within)
          (block_ends size at c.min-count.result (length x) (length c.args.mark.now) (length (take size b)) c.min-count.ensures c.loop-at-test.true fills c.requires.mark long)
          (c.loop-at.invariant.so_far b told) c.in_default.ensures;
      behind = omega (arith, c.loop-at.invariant.behind);
      size = search rules;
      calm = search rules;
      reads = only_reads_then _ _ _ _ _ _ _ _ _ c.loop-at.invariant.reads c.fill.ensures.reads;
      asked = asked_block size c.args.from at c.min-count.result _ _ _ _ c.min-count.ensures c.loop-at-test.true c.loop-at.invariant.behind (sym c.fill.auto.into ∙ fills) c.loop-at.invariant.asked c.fill.ensures.asked;
    }
