use Rattle.std.proofs.Common.{◌≡◌, ◌∙◌, ◌+◌, ◌-◌, ◌≤◌, None, Some, take, drop, length, false, sym, refl, arith}
use Rattle.snd_layout.specs.Blocks.{is_adpcm}
use Rattle.snd_search.proofs.Formats.{no_room, not_there, states_by}
use Rattle.snd_search.proofs.Marks.{in_front, long_front}
use Rattle.snd_search.proofs.format.format_at.Goals as goal

pub returns-then-size-place-lt-HEAD-clause-told : goal.returns-then-size-place-lt-HEAD-clause-told
returns-then-size-place-lt-HEAD-clause-told g c = λ b told.
    let long : length (take c.args.size b) ≡ c.args.size = long_front c.args.size b (omega (arith, c.requires.size, g.met.D.Disk.size_told c.args.disk.now b told)) in
    no_room c.args.place (take c.args.size b) (omega (arith, long))

pub returns-in_default-clause-told : goal.returns-in_default-clause-told
returns-in_default-clause-told g c = λ b told.
    let size = c.args.size in
    let long : length (take size b) ≡ size = long_front size b (omega (arith, c.requires.size, g.met.D.Disk.size_told c.args.disk.now b told)) in
    let fits : c.args.place + 8 ≤ size = omega arith in
    let is : c.fill.new.into ≡ take 8 (drop c.args.place (take size b)) = in_front 8 c.args.place size b c.fill.new.into (c.in_ok-fill.ensures.told b told) fits in
    not_there c.args.place size (take size b) c.fill.new.into is long fits (sym c.in_default.is ∙ c.body_len.ensures.value)

pub returns-in_default-2-clause-told : goal.returns-in_default-2-clause-told
returns-in_default-2-clause-told g c = λ b told.
    let size = c.args.size in
    let at = c.args.place + 8 in
    let len = c.in-Some.len in
    let long : length (take size b) ≡ size = long_front size b (omega (arith, c.requires.size, g.met.D.Disk.size_told c.args.disk.now b told)) in
    let fits : at ≤ size = omega arith in
    let is : c.fill.new.into ≡ take 8 (drop c.args.place (take size b)) = in_front 8 c.args.place size b c.fill.new.into (c.in_ok-fill.ensures.told b told) fits in
    let most : len ≤ size - at = rw c.in-Some.is at c.body_len.ensures.most in
    states_by c.args.place size (take size b) c.fill.new.into is long fits len (take len (drop at b)) None (sym c.in-Some.is ∙ c.body_len.ensures.value)
    (sym c.in_default-2.is ∙ c.in_ok-params.ensures.told b (c.in_ok-fill.ensures.reads.keeps.contents ∙ told)) (in_front len at size b (take len (drop at b)) refl (omega (arith, most, fits)))

pub returns-clause-told : goal.returns-clause-told
returns-clause-told g c = λ b told.
    let size = c.args.size in
    let at = c.args.place + 8 in
    let len = c.in-Some.len in
    let long : length (take size b) ≡ size = long_front size b (omega (arith, c.requires.size, g.met.D.Disk.size_told c.args.disk.now b told)) in
    let fits : at ≤ size = omega arith in
    let is : c.fill.new.into ≡ take 8 (drop c.args.place (take size b)) = in_front 8 c.args.place size b c.fill.new.into (c.in_ok-fill.ensures.told b told) fits in
    let most : len ≤ size - at = rw c.in-Some.is at c.body_len.ensures.most in
    states_by c.args.place size (take size b) c.fill.new.into is long fits len (take len (drop at b)) (Some c.in-Some-2.params) (sym c.in-Some.is ∙ c.body_len.ensures.value)
    (sym c.in-Some-2.is ∙ c.in_ok-params.ensures.told b (c.in_ok-fill.ensures.reads.keeps.contents ∙ told)) (in_front len at size b (take len (drop at b)) refl (omega (arith, most, fits)))

pub returns-clause-placed : goal.returns-clause-placed
returns-clause-placed g c =
    let least : 16 ≤ c.in-Some.len = rw c.in-Some.is at c.body_len.ensures.least in
    let most : c.in-Some.len ≤ c.args.size - (c.args.place + 8) = rw c.in-Some.is at c.body_len.ensures.most in
    let is_fixed : is_adpcm c.in-Some-2.params.codec ≡ false = rw c.in-Some-2.is at c.in_ok-params.ensures.is_fixed in
    record { behind = omega (arith, least); within = omega (arith, most); is_fixed = is_fixed }
