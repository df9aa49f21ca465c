use Rattle.std.proofs.Common.{◌≡◌, ◌∙◌, ◌*◌, ◌/◌, ◌<◌, ◌≤◌, ℕ, ap, length, map, sym, subst, refl, arith}
use Rattle.std.proofs.lemmas.List.{drop_all, length-set}
use Rattle.snd_pcm.specs.Groups.{groups}
use Rattle.snd_rack.specs.Passing.{AllHaveRoom, EachMayPass, MayPassBlock, each_passed, joined, later, next_by, passed_block}
use Rattle.snd_rack.proofs.Block.{all_passed, frames_are_so_many, later_is, may_here, may_left, most_on, passed_left, room_left, size_on, some_on, state_as}
use Rattle.snd_rack.proofs.Cut.{count_is}
use Rattle.snd_rack.proofs.Each.{all_changed, each_more, is_old, rest_more}
use Rattle.snd_rack.proofs.passing.pass_block.Goals as goal

pub loop-each-init : goal.loop-each-init
loop-each-init g c =
    let xs = c.args.block.now.items in
    let q = c.args.channels in
    let len : c.len.result ≡ length xs = omega arith in
    let n_is : c.len.result / q ≡ length xs / q = ap (λ (m : ℕ). m / q) len in
    let f = frames_are_so_many q (c.len.result / q) (length xs) c.requires.some c.requires.one c.requires.whole n_is in
    record {
      so_far = refl;
      rest = refl;
      same_length = refl;
      size = f.0 ∙ ap (λ (m : ℕ). c.len.result / q * m) (sym f.1);
      some = omega (arith, f.1, c.requires.some);
      most = omega (arith, f.1, c.requires.most);
      block = ap (λ (m : ℕ). joined (each_passed (map (λ b. (goal.Stage-dyn g (b.vtable, b.value)).stage b.value) c.args.stages.now) (groups m xs))) f.1;
      may = subst (λ (m : ℕ). EachMayPass (map (λ b. (goal.Stage-dyn g (b.vtable, b.value)).stage b.value) c.args.stages.now) (groups m xs)) (sym f.1) c.requires.may;
      room = subst (λ (m : ℕ). AllHaveRoom (map (λ b. (goal.Stage-dyn g (b.vtable, b.value)).stage b.value) c.args.stages.now) m (c.len.result / q)) (sym f.1)
          (subst (λ (m : ℕ). AllHaveRoom (map (λ b. (goal.Stage-dyn g (b.vtable, b.value)).stage b.value) c.args.stages.now) q m) (sym n_is) c.requires.room);
    }

pub nonzero_div-width : goal.nonzero_div-width
nonzero_div-width g c =
    let len : c.len.result ≡ length c.args.block.now.items = omega arith in
    let n_is : c.len.result / c.args.channels ≡ length c.args.block.now.items / c.args.channels = ap (λ (m : ℕ). m / c.args.channels) len in
    omega (arith, n_is, c.requires.one)

pub apply_all-requires : goal.apply_all-requires
apply_all-requires g c =
    let inv = c.loop-each.invariant in
    let items = c.loop-each.stages in
    let old = c.args.stages.now in
    let i = c.loop-each.each-index in
    let x = c.each-item.result in
    let xs = c.loop-each.block.items in
    let n = c.len.result / c.args.channels in
    let len : c.len.result ≡ length c.args.block.now.items = omega arith in
    let n_is : n ≡ length c.args.block.now.items / c.args.channels = ap (λ (m : ℕ). m / c.args.channels) len in
    let width : c.len-in-loop-each.result / n ≡ length xs / n = ap (λ (m : ℕ). m / n) (let e : c.len-in-loop-each.result ≡ length xs = omega arith in e) in
    let there = is_old items old i x x (omega arith) inv.same_length c.each-item.is inv.rest in
    subst (λ b. MayPassBlock ((goal.Stage-dyn g (b.vtable, b.value)).stage b.value) (c.len-in-loop-each.result / n) xs) c.each-item.is
    (subst (λ (m : ℕ). MayPassBlock ((goal.Stage-dyn g (x.vtable, x.value)).stage x.value) m xs) (sym width)
    (may_here (λ b. (goal.Stage-dyn g (b.vtable, b.value)).stage b.value) old i x (omega (arith, inv.same_length)) there (length xs / n) n xs inv.some inv.most (omega (arith, n_is, c.requires.one)) inv.size inv.may inv.room))

pub loop-each-preserved : goal.loop-each-preserved
loop-each-preserved g c =
    let inv = c.loop-each.invariant in
    let items = c.loop-each.stages in
    let old = c.args.stages.now in
    let i = c.loop-each.each-index in
    let x = c.each-item.result in
    let y = c.apply_all.new.each in
    let xs = c.loop-each.block.items in
    let new = c.apply_all.new.block.items in
    let n = c.len.result / c.args.channels in
    let len : c.len.result ≡ length c.args.block.now.items = omega arith in
    let n_is : n ≡ length c.args.block.now.items / c.args.channels = ap (λ (m : ℕ). m / c.args.channels) len in
    let width : c.len-in-loop-each.result / n ≡ length xs / n = ap (λ (m : ℕ). m / n) (let e : c.len-in-loop-each.result ≡ length xs = omega arith in e) in
    let same = inv.same_length in
    let lt = (let e : i < length old = omega (arith, same) in e) in
    let one = (let e : 1 ≤ n = omega (arith, n_is, c.requires.one) in e) in
    let there = is_old items old i x y (omega arith) same c.each-item.is inv.rest in
    let count : length xs / (c.len-in-loop-each.result / n) ≡ n = ap (λ (m : ℕ). length xs / m) width ∙ count_is (length xs / n) n xs inv.some inv.size in
    let state = state_as _ _ _ _ n c.apply_all.ensures.state count (ap (λ b. (goal.Stage-dyn g (b.vtable, b.value)).stage b.value) (sym c.each-item.is)) in
    let made : new ≡ passed_block ((goal.Stage-dyn g (x.vtable, x.value)).stage x.value) (length xs / n) xs =
    c.apply_all.ensures.block ∙ ap (λ b. passed_block ((goal.Stage-dyn g (b.vtable, b.value)).stage b.value) (c.len-in-loop-each.result / n) xs) (sym c.each-item.is)
    ∙ ap (λ (m : ℕ). passed_block ((goal.Stage-dyn g (x.vtable, x.value)).stage x.value) m xs) width in
    record {
      so_far = each_more items old i x y (omega arith) same c.each-item.is inv.rest _ _ inv.so_far state;
      rest = rest_more items old i x y (omega arith) same c.each-item.is inv.rest;
      same_length = length-set items i y ∙ same;
      size = size_on (λ b. (goal.Stage-dyn g (b.vtable, b.value)).stage b.value) old i x lt there (length xs / n) n xs inv.some inv.most one inv.size inv.may new made;
      some = some_on (λ b. (goal.Stage-dyn g (b.vtable, b.value)).stage b.value) old i x lt there (length xs / n) n xs inv.some inv.most one inv.size inv.may new made;
      most = most_on (λ b. (goal.Stage-dyn g (b.vtable, b.value)).stage b.value) old i x lt there (length xs / n) n xs inv.some inv.most one inv.size inv.may new made;
      block = passed_left (λ b. (goal.Stage-dyn g (b.vtable, b.value)).stage b.value) old i x lt there (length xs / n) n xs inv.some inv.most one inv.size inv.may new made ∙ inv.block;
      may = may_left (λ b. (goal.Stage-dyn g (b.vtable, b.value)).stage b.value) old i x lt there (length xs / n) n xs inv.some inv.most one inv.size inv.may new made;
      room = room_left (λ b. (goal.Stage-dyn g (b.vtable, b.value)).stage b.value) old i x lt there (length xs / n) n xs inv.some inv.most one inv.size inv.may new made inv.room;
    }

pub returns-clause-block : goal.returns-clause-block
returns-clause-block g c =
    let inv = c.loop-each.invariant in
    let old = c.args.stages.now in
    let i = c.loop-each.each-index in
    let xs = c.loop-each.block.items in
    let n = c.len.result / c.args.channels in
    let none = ap (map (λ b. (goal.Stage-dyn g (b.vtable, b.value)).stage b.value)) (drop_all i old (omega (arith, inv.same_length, c.loop-each-test.false))) in
    all_passed _ (length xs / n) n xs none inv.some inv.size ∙ inv.block

pub returns-clause-states : goal.returns-clause-states
returns-clause-states g c =
    let inv = c.loop-each.invariant in
    let n = c.len.result / c.args.channels in
    let len : c.len.result ≡ length c.args.block.now.items = omega arith in
    let n_is : n ≡ length c.args.block.now.items / c.args.channels = ap (λ (m : ℕ). m / c.args.channels) len in
    all_changed _ (next_by n) c.loop-each.stages c.args.stages.now c.loop-each.each-index (omega (arith, c.loop-each-test.false)) inv.same_length inv.so_far
    ∙ later_is n _ ∙ ap (λ (m : ℕ). later m (map (λ b. (goal.Stage-dyn g (b.vtable, b.value)).stage b.value) c.args.stages.now)) n_is
