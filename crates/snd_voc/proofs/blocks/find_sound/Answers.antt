use Rattle.std.proofs.Common.{◌≡◌, ◌∙◌, ◌+◌, ◌-◌, None, Err, length, rules, sym, ap, arith}
use Rattle.snd_disk.proofs.Public.{only_reads_then}
use Rattle.snd_layout.specs.declared.refusal.OpenRefusal.{OpenRefusal}
use Rattle.snd_layout.specs.declared.refusal.OpenRefusal.TheVariants.{NoData}
use Rattle.snd_voc.specs.Layout.{seen, walk}
use Rattle.snd_voc.specs.Parts.{HasHeadAt}
use Rattle.snd_voc.specs.declared.blocks.Seen.TheVariants.{Found, Refused, Passed}
use Rattle.snd_layout.proofs.Answered.{opens_on}
use Rattle.snd_voc.proofs.Walking.{asked_more, last_near, remembered_near, step_cut, step_found, step_passed, step_refused}
use Rattle.snd_voc.proofs.blocks.find_sound.Goals as goal

pub overflow_add-end : goal.overflow_add-end
overflow_add-end g c =
    let placed : HasHeadAt c.loop-passed.place c.in-Passed.block = rw c.in-Passed.is at c.in_ok-kind.ensures.placed in
    omega (arith, placed.at, placed.len, c.loop-passed.invariant.near, c.requires.early, c.requires.few)

pub returns-in-Found-clause-told : goal.returns-in-Found-clause-told
returns-in-Found-clause-told g c = λ b told.
    let is : Found c.in-Found.kind ≡ seen b c.loop-passed.place = sym c.in-Found.is ∙ c.in_ok-kind.ensures.told b (c.loop-passed.invariant.reads.keeps.contents ∙ told) in
    c.loop-passed.invariant.so_far b told
    ∙ step_found b c.loop-passed.place c.loop-passed.extension (c.args.most - (c.loop-passed._passed + 1)) (c.args.most - c.loop-passed._passed) c.in-Found.kind (omega arith) is

pub returns-in-Refused-clause-told : goal.returns-in-Refused-clause-told
returns-in-Refused-clause-told g c = λ refusal b by told.
    let same : c.in-Refused.refusal ≡ refusal = cc in
    let is : Refused c.in-Refused.refusal ≡ seen b c.loop-passed.place = sym c.in-Refused.is ∙ c.in_ok-kind.ensures.told b (c.loop-passed.invariant.reads.keeps.contents ∙ told) in
    c.loop-passed.invariant.so_far b told
    ∙ step_refused b c.loop-passed.place c.loop-passed.extension (c.args.most - (c.loop-passed._passed + 1)) (c.args.most - c.loop-passed._passed) c.in-Refused.refusal (omega arith) is
    ∙ ap (λ (r : OpenRefusal). Err r) same

pub returns-then-size-end-clause-told : goal.returns-then-size-end-clause-told
returns-then-size-end-clause-told g c = λ refusal b by told.
    let same : NoData ≡ refusal = cc in
    let size : c.args.size ≡ length b = c.requires.size ∙ g.met.D.Disk.size_told c.args.disk.now b told in
    let is : Passed c.in-Passed.block ≡ seen b c.loop-passed.place = sym c.in-Passed.is ∙ c.in_ok-kind.ensures.told b (c.loop-passed.invariant.reads.keeps.contents ∙ told) in
    c.loop-passed.invariant.so_far b told
    ∙ step_cut b c.loop-passed.place c.loop-passed.extension (c.args.most - (c.loop-passed._passed + 1)) (c.args.most - c.loop-passed._passed) c.in-Passed.block (omega arith) is (omega (arith, size))
    ∙ ap (λ (r : OpenRefusal). Err r) same

pub returns-clause-told : goal.returns-clause-told
returns-clause-told g c =
    opens_on g.D.Disk.state c.args.disk.now c.loop-passed.disk (λ b. walk b 0 c.loop-passed.place c.loop-passed.extension) (λ b. walk b c.args.most c.args.from None) c.look_last.result c.loop-passed.invariant.reads.keeps.contents
    (λ b told. c.loop-passed.invariant.so_far b told ∙ ap (λ n. walk b n c.loop-passed.place c.loop-passed.extension) (omega arith)) c.look_last.ensures.told

pub returns-clause-placed : goal.returns-clause-placed
returns-clause-placed g c = last_near c.args.from c.args.most c.loop-passed.place c.loop-passed.extension c.look_last.result (omega (arith, c.loop-passed.invariant.near)) c.loop-passed.invariant.extension c.look_last.ensures.kind c.look_last.ensures.at c.look_last.ensures.extension

pub loop-passed-preserved : goal.loop-passed-preserved
loop-passed-preserved g c =
    let placed : HasHeadAt c.loop-passed.place c.in-Passed.block = rw c.in-Passed.is at c.in_ok-kind.ensures.placed in
    record {
      so_far = λ b told.
          let size : c.args.size ≡ length b = c.requires.size ∙ g.met.D.Disk.size_told c.args.disk.now b told in
          let is : Passed c.in-Passed.block ≡ seen b c.loop-passed.place = sym c.in-Passed.is ∙ c.in_ok-kind.ensures.told b (c.loop-passed.invariant.reads.keeps.contents ∙ told) in
          c.loop-passed.invariant.so_far b told
          ∙ step_passed b c.loop-passed.place c.loop-passed.extension (c.args.most - (c.loop-passed._passed + 1)) (c.args.most - c.loop-passed._passed) c.in-Passed.block (omega arith) is (omega (arith, size))
          ∙ ap (λ e. walk b (c.args.most - (c.loop-passed._passed + 1)) (c.in-Passed.block.at + c.in-Passed.block.len) e) (sym c.remembered-extension.ensures);
      size = search rules;
      near = omega (arith, c.loop-passed.invariant.near, placed.at, placed.len);
      extension = remembered_near c.in-Passed.block c.loop-passed.extension c.remembered-extension.result c.loop-passed.place (c.in-Passed.block.at + c.in-Passed.block.len) c.remembered-extension.ensures (omega (arith, placed.at)) (omega arith) c.loop-passed.invariant.extension;
      calm = search rules;
      reads = only_reads_then _ _ _ _ _ _ _ _ _ c.loop-passed.invariant.reads c.look.ensures.reads;
      asked = asked_more _ _ _ c.loop-passed._passed c.loop-passed.invariant.asked c.look.ensures.asked;
    }
