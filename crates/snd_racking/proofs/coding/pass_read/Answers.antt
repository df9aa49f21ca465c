use Rattle.std.proofs.Common.{◌≡◌, ◌∙◌, ap, sym, subst, ◌/◌, ◌%◌, ◌≤◌, ℕ, ℤ, List, length, map}
use Rattle.snd_container.specs.Fixed.{samples}
use Rattle.snd_rack.specs.Held.{Held}
use Rattle.snd_rack.specs.Passing.{later}
use Rattle.snd_rack.proofs.Public.{size_kept}
use Rattle.snd_racking.proofs.Coded.{count_read}
use Rattle.snd_racking.proofs.coding.pass_read.Goals as goal

pub read_into-requires-clause-fits : goal.read_into-requires-clause-fits
read_into-requires-clause-fits g c =
    let xs : List ℤ = samples c.args.form c.args.bytes.now in
    let count : length xs ≡ length c.args.numbers.now = count_read c.args.form c.args.bytes.now (length c.args.numbers.now) c.requires.held in
    let whole : length xs % c.args.channels ≡ 0 = ap (λ (n : ℕ). n % c.args.channels) count ∙ c.requires.whole in
    let keep = sym c.keep_width.ensures ∙ c.if-keep_width.true in
    subst (λ (n : ℕ). n ≤ 16384) count
    (size_kept (λ b. (goal.Stage-dyn g (b.vtable, b.value)).stage b.value) c.args.stages.now c.args.channels 16384 xs c.requires.some whole keep c.requires.kinds c.requires.room)

pub pass_in_place-requires-clause-whole : goal.pass_in_place-requires-clause-whole
pass_in_place-requires-clause-whole g c =
    ap (λ (l : List ℤ). length l % c.args.channels) c.read_into.ensures
    ∙ ap (λ (n : ℕ). n % c.args.channels) (count_read c.args.form c.args.bytes.now (length c.args.numbers.now) c.requires.held)
    ∙ c.requires.whole

pub returns-then-keep_width-clause-states : goal.returns-then-keep_width-clause-states
returns-then-keep_width-clause-states g c =
    let hs : List Held = map (λ b. (goal.Stage-dyn g (b.vtable, b.value)).stage b.value) c.args.stages.now in
    c.pass_in_place.ensures.states
    ∙ ap (λ (l : List ℤ). later (length l / c.args.channels) hs) c.read_into.ensures
    ∙ ap (λ (n : ℕ). later (n / c.args.channels) hs) (count_read c.args.form c.args.bytes.now (length c.args.numbers.now) c.requires.held)
