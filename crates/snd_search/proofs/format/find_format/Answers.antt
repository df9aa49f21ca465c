use Rattle.std.proofs.Common.{◌≡◌, ◌∙◌, ℕ, ◌+◌, ◌-◌, ◌*◌, ◌≤◌, None, take, drop, length, sym, refl, ap, arith, rules}
use Rattle.snd_disk.proofs.Public.{only_reads_then}
use Rattle.snd_disk.specs.State.{AtMost}
use Rattle.snd_search.specs.Search.{FormatWithin, IsFirstFormat}
use Rattle.snd_search.proofs.Blocks.{asked_formats, first_format, no_formats, none_then}
use Rattle.snd_search.proofs.Marks.{block_ends, block_len, in_front, long_front}
use Rattle.snd_search.proofs.format.find_format.Goals as goal

pub returns-in-Some-clause-told : goal.returns-in-Some-clause-told
returns-in-Some-clause-told g c = λ b told.
    let size = c.args.size in
    let at = c.loop-at.at in
    let x = c.fill.new.into in
    let few : c.min-count.result ≤ 16384 = omega (arith, c.min-count.ensures) in
    let fills : length x ≡ c.min-count.result = block_len c.min-count.result c.loop-at.block x c.fill.auto.into (search rules) few in
    let within : at + length x ≤ size = omega (arith, fills, c.min-count.ensures) in
    let told_now = c.loop-at.invariant.reads.keeps.contents ∙ told in
    let is : x ≡ take (length x) (drop at b) = c.in_ok-fill.ensures.told b told_now ∙ ap (λ (n : ℕ). take n (drop at b)) (sym c.fill.auto.into) in
    let first : IsFirstFormat (take size b) at (length x) c.in-Some.stated =
    rw c.in-Some.is at (c.in_ok-stated.ensures.told b (c.fill.ensures.reads.keeps.contents ∙ told_now) (in_front (length x) at size b x is within)) in
    first_format (take size b) at (length x) c.in-Some.stated (c.loop-at.invariant.so_far b told) first

pub loop-at-preserved : goal.loop-at-preserved
loop-at-preserved g c =
    let size = c.args.size in
    let at = c.loop-at.at in
    let x = c.fill.new.into in
    let few : c.min-count.result ≤ 16384 = omega (arith, c.min-count.ensures) in
    let fills : length x ≡ c.min-count.result = block_len c.min-count.result c.loop-at.block x c.fill.auto.into (search rules) few in
    let within : at + length x ≤ size = omega (arith, fills, c.min-count.ensures) in
    let block : AtMost (g.D.Disk.state c.loop-at.disk).asked (length x) (g.D.Disk.state c.fill.new.disk).asked =
    record { later = c.fill.ensures.asked.later; most = omega (arith, c.fill.ensures.asked.most, c.fill.auto.into) } in
    let formats : AtMost (g.D.Disk.state c.fill.new.disk).asked (18 * (at + length x - at)) (g.D.Disk.state c.format_within.new.disk).asked = rw c.in_default.is at c.in_ok-stated.ensures.asked in
    record {
      so_far = λ b told.
          let long : length (take size b) ≡ size = long_front size b (omega (arith, c.requires, g.met.D.Disk.size_told c.args.disk.now b told)) in
          let told_now = c.loop-at.invariant.reads.keeps.contents ∙ told in
          let is : x ≡ take (length x) (drop at b) = c.in_ok-fill.ensures.told b told_now ∙ ap (λ (n : ℕ). take n (drop at b)) (sym c.fill.auto.into) in
          let none : FormatWithin (take size b) at (length x) None =
          rw c.in_default.is at (c.in_ok-stated.ensures.told b (c.fill.ensures.reads.keeps.contents ∙ told_now) (in_front (length x) at size b x is within)) in
          none_then (take size b) at (length x) (at + 16381)
          (block_ends size at c.min-count.result (length x) 4 (length (take size b)) c.min-count.ensures c.loop-at-test.true fills refl long)
          (c.loop-at.invariant.so_far b told) none;
      size = search rules;
      calm = search rules;
      reads = only_reads_then _ _ _ _ _ _ _ _ _ (only_reads_then _ _ _ _ _ _ _ _ _ c.loop-at.invariant.reads c.fill.ensures.reads) c.format_within.ensures.reads;
      asked = asked_formats size at c.min-count.result (length x) _ _ _ _ c.min-count.ensures c.loop-at-test.true fills c.loop-at.invariant.asked block formats;
    }

pub returns-clause-told : goal.returns-clause-told
returns-clause-told g c = λ b told.
    let long : length (take c.args.size b) ≡ c.args.size = long_front c.args.size b (omega (arith, c.requires, g.met.D.Disk.size_told c.args.disk.now b told)) in
    no_formats (take c.args.size b) c.loop-at.at (omega (arith, long)) (c.loop-at.invariant.so_far b told)
