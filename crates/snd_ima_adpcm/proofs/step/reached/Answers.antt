use Rattle.std.proofs.Common.{◌≡◌, ◌≤◌, ◌/◌, pos, negsuc, ◌+ℤ◌, ◌-ℤ◌, ◌≤ℤ◌, ◌<ℤ◌, unsigned_abs, w32, to_z, of_z, rules, sym, ap, subst, ◌∙◌}
use Rattle.std.specs.Int.{int_min}
use Rattle.snd_ima_adpcm.specs.Frames.{clamp}
use Rattle.snd_ima_adpcm.specs.Step.{moved, code_for}
use Rattle.snd_ima_adpcm.proofs.Numbers.{clamp_least, clamp_most}
use Rattle.snd_ima_adpcm.proofs.Reached.{reached_up, reached_down, held_up, held_down}
use Rattle.snd_ima_adpcm.proofs.step.reached.Goals as goal

pub returns-then-way-lt0-clause-value : goal.returns-then-way-lt0-clause-value
returns-then-way-lt0-clause-value c =
    let rest = c.distance_rest_of-rest.result in
    let below : c.args.way <ℤ pos 0 = search rules in
    let abs : c.unsigned_abs.result ≡ unsigned_abs c.args.way = search rules in
    let is : moved (c.args.target -ℤ c.args.way) c.args.step (code_for c.args.step c.args.way) ≡ c.args.target -ℤ (pos (c.args.step / 8) -ℤ pos rest) =
    rw (c.distance_rest_of-rest.ensures.value, abs) (reached_down c.args.target c.args.way c.args.step below) in
    let few : rest ≤ unsigned_abs c.args.way = subst (λ n. rest ≤ n) abs c.distance_rest_of-rest.ensures.most in
    let target : to_z w32 (of_z w32 c.args.target) ≡ c.args.target = search rules in
    let room : to_z w32 (of_z w32 c.room_past.result) ≡ c.room_past.result = search rules in
    let past : c.past_target-past.result ≡ int_min (pos (c.args.step / 8) -ℤ pos rest) (c.args.target +ℤ pos 32768) =
    c.past_target-past.ensures.value ∙ ap (λ room. int_min (pos (c.args.step / 8) -ℤ pos rest) room) (room ∙ c.room_past.ensures.down (search rules) ∙ ap (λ t. t +ℤ pos 32768) target) in
    let difference : to_z w32 (of_z w32 (to_z w32 (of_z w32 c.args.target) -ℤ to_z w32 (of_z w32 c.past_target-past.result))) ≡ c.args.target -ℤ c.past_target-past.result = search rules in
    difference ∙ held_down c.args.target c.args.way c.past_target-past.result (c.args.step / 8) rest c.requires.least c.requires.from_most below few past ∙ ap (λ z. clamp (negsuc 32767) (pos 32767) z) (sym is)

pub returns-else-way-lt0-clause-value : goal.returns-else-way-lt0-clause-value
returns-else-way-lt0-clause-value c =
    let rest = c.distance_rest_of-rest.result in
    let above : pos 0 ≤ℤ c.args.way = search rules in
    let abs : c.unsigned_abs.result ≡ unsigned_abs c.args.way = search rules in
    let is : moved (c.args.target -ℤ c.args.way) c.args.step (code_for c.args.step c.args.way) ≡ c.args.target +ℤ (pos (c.args.step / 8) -ℤ pos rest) =
    rw (c.distance_rest_of-rest.ensures.value, abs) (reached_up c.args.target c.args.way c.args.step above) in
    let few : rest ≤ unsigned_abs c.args.way = subst (λ n. rest ≤ n) abs c.distance_rest_of-rest.ensures.most in
    let target : to_z w32 (of_z w32 c.args.target) ≡ c.args.target = search rules in
    let room : to_z w32 (of_z w32 c.room_past.result) ≡ c.room_past.result = search rules in
    let past : c.past_target-past.result ≡ int_min (pos (c.args.step / 8) -ℤ pos rest) (pos 32767 -ℤ c.args.target) =
    c.past_target-past.ensures.value ∙ ap (λ room. int_min (pos (c.args.step / 8) -ℤ pos rest) room) (room ∙ c.room_past.ensures.up (search rules) ∙ ap (λ t. pos 32767 -ℤ t) target) in
    let sum : to_z w32 (of_z w32 (to_z w32 (of_z w32 c.args.target) +ℤ to_z w32 (of_z w32 c.past_target-past.result))) ≡ c.args.target +ℤ c.past_target-past.result = search rules in
    sum ∙ held_up c.args.target c.args.way c.past_target-past.result (c.args.step / 8) rest c.requires.most c.requires.from_least above few past ∙ ap (λ z. clamp (negsuc 32767) (pos 32767) z) (sym is)

pub returns-then-way-lt0-clause-least : goal.returns-then-way-lt0-clause-least
returns-then-way-lt0-clause-least c = clamp_least _ (moved (c.args.target -ℤ c.args.way) c.args.step (code_for c.args.step c.args.way)) (returns-then-way-lt0-clause-value c)

pub returns-then-way-lt0-clause-most : goal.returns-then-way-lt0-clause-most
returns-then-way-lt0-clause-most c = clamp_most _ (moved (c.args.target -ℤ c.args.way) c.args.step (code_for c.args.step c.args.way)) (returns-then-way-lt0-clause-value c)

pub returns-else-way-lt0-clause-least : goal.returns-else-way-lt0-clause-least
returns-else-way-lt0-clause-least c = clamp_least _ (moved (c.args.target -ℤ c.args.way) c.args.step (code_for c.args.step c.args.way)) (returns-else-way-lt0-clause-value c)

pub returns-else-way-lt0-clause-most : goal.returns-else-way-lt0-clause-most
returns-else-way-lt0-clause-most c = clamp_most _ (moved (c.args.target -ℤ c.args.way) c.args.step (code_for c.args.step c.args.way)) (returns-else-way-lt0-clause-value c)
