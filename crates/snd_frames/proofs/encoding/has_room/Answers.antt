use Rattle.std.proofs.Common.{rules, ◌≡◌, ◌∙◌, ap, ℕ, ◌+◌, ◌-◌, ◌≤◌, ◌/◌, arith}
use Rattle.std.proofs.lemmas.Bool.Decides.{nat_tests}
use Rattle.std.specs.Int.{div_ceil}
use Rattle.snd_container.proofs.Public.{rounded_up}
use Rattle.snd_layout.specs.Blocks.{block_align, block_frames}
use Rattle.snd_layout.specs.Params.{data_bytes}
use Rattle.snd_layout.specs.declared.kind.Kind.TheVariants.{Wave}
use Rattle.snd_edits.proofs.Public.{blocks_of, room_for}
use Rattle.snd_frames.proofs.encoding.has_room.Goals as goal

pub returns-else-in_room : goal.returns-else-in_room
returns-else-in_room c =
    let h = c.args.layout.now in
    let form = blocks_of h c.keeps_rules.ensures.rule c.requires c.keeps_rules.ensures.params in
    let per : c.from.result ≡ block_frames h.params.codec = search rules in
    let align : c.from-2.result ≡ block_align h.params.channels h.params.codec = search rules in
    let up : c.div_ceil-blocks.result ≡ (c.args.frames + block_frames h.params.codec - 1) / block_frames h.params.codec =
    c.div_ceil-blocks.ensures ∙ ap (λ (m : ℕ). div_ceil c.args.frames m) per ∙ rounded_up c.args.frames (block_frames h.params.codec) form.some_frames in
    let fits = room_for h.params c.args.frames c.div_ceil-blocks.result c.room.result c.from-2.result form.some_bytes up align in
    (λ so. absurd (cc), λ has. absurd (let few = fits.1 (omega (arith, has.in_room, c.room.ensures)) in grind (arith, nat_tests, few)))

pub returns-then-ne : goal.returns-then-ne
returns-then-ne c =
    let h = c.args.layout.now in
    let form = blocks_of h c.keeps_rules.ensures.rule c.requires c.keeps_rules.ensures.params in
    let per : c.from.result ≡ block_frames h.params.codec = search rules in
    let align : c.from-2.result ≡ block_align h.params.channels h.params.codec = search rules in
    let up : c.div_ceil-blocks.result ≡ (c.args.frames + block_frames h.params.codec - 1) / block_frames h.params.codec =
    c.div_ceil-blocks.ensures ∙ ap (λ (m : ℕ). div_ceil c.args.frames m) per ∙ rounded_up c.args.frames (block_frames h.params.codec) form.some_frames in
    let fits = room_for h.params c.args.frames c.div_ceil-blocks.result c.room.result c.from-2.result form.some_bytes up align in
    let few : data_bytes h.params c.args.frames ≤ c.room.result = fits.0 (grind (arith, nat_tests)) in
    (λ so. record { in_room = omega (arith, few, c.room.ensures); few = λ wave. absurd (search (rules, wave)) }, λ has. search rules)

pub returns-else-ne : goal.returns-else-ne
returns-else-ne c =
    let h = c.args.layout.now in
    let form = blocks_of h c.keeps_rules.ensures.rule c.requires c.keeps_rules.ensures.params in
    let per : c.from.result ≡ block_frames h.params.codec = search rules in
    let align : c.from-2.result ≡ block_align h.params.channels h.params.codec = search rules in
    let up : c.div_ceil-blocks.result ≡ (c.args.frames + block_frames h.params.codec - 1) / block_frames h.params.codec =
    c.div_ceil-blocks.ensures ∙ ap (λ (m : ℕ). div_ceil c.args.frames m) per ∙ rounded_up c.args.frames (block_frames h.params.codec) form.some_frames in
    let fits = room_for h.params c.args.frames c.div_ceil-blocks.result c.room.result c.from-2.result form.some_bytes up align in
    let few : data_bytes h.params c.args.frames ≤ c.room.result = fits.0 (grind (arith, nat_tests)) in
    let wave : h.kind ≡ Wave = search rules in
    (λ so. record { in_room = omega (arith, few, c.room.ensures); few = λ same. grind (arith, nat_tests, so) }, λ has. let small = has.few wave in grind (arith, nat_tests, small))
