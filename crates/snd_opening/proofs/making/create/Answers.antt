use Rattle.std.proofs.Common.{rules, ◌≡◌, ◌∙◌, ap, sym, refl, Ok, Some, None, ℕ, false, List, [], option_map, arith}
use Rattle.std.specs.Prelude.{is_none}
use Rattle.snd_container.specs.Made.{new_file, new_shape}
use Rattle.snd_container.specs.Sound.{fixed_of}
use Rattle.snd_layout.specs.Fit.{fit_refusal}
use Rattle.snd_layout.specs.Shape.{Shape}
use Rattle.snd_layout.specs.declared.refusal.OpenRefusal.{OpenRefusal}
use Rattle.snd_edits.specs.Editing.{first_editing}
use Rattle.snd_edits.proofs.Public.{ends_at_start, is_new, making_ok, making_refused, never_refused, no_refusal, not_adpcm}
use Rattle.snd_opening.proofs.WithoutMemory.{laid_without}
use Rattle.snd_opening.proofs.making.create.Goals as goal

pub returns-clause-made : goal.returns-clause-made
returns-clause-made g c = λ b told.
    let kind = c.args.kind in
    let p = c.args.params in
    let fits : fit_refusal kind p ≡ None = search rules in
    let made : c.in-Ok.layout ≡ new_shape kind p = search rules in (
      first_editing (new_file kind p) c.in-Ok.layout,
      making_ok kind p fits ∙ ap (λ (s : Shape). Ok (first_editing (new_file kind p) s)) (sym made),
      c.at_first_frame.ensures.stands (new_file kind p) (c.in-Ok.ensures.laid.contents ∙ ap (option_map (λ (l : List ℕ). new_file kind p)) told),
    )

pub returns-in-Err-clause-made : goal.returns-in-Err-clause-made
returns-in-Err-clause-made g c = λ r is.
    let same : c.in-Err.refusal ≡ r = cc in
    making_refused c.args.kind c.args.params r (c.in-Err.ensures.refused ∙ ap (λ (x : OpenRefusal). Some x) same)

pub returns-in-Err-lay_head-clause-made : goal.returns-in-Err-lay_head-clause-made
returns-in-Err-lay_head-clause-made g c = λ r is.
    absurd (no_refusal _ _ c.in-Err-lay_head.error r is c.in-Err-lay_head.ensures.cause)

pub returns-in-Err-lay_head-clause-memory : goal.returns-in-Err-lay_head-clause-memory
returns-in-Err-lay_head-clause-memory g c = laid_without _ _ c.in-Err-lay_head.error _ c.in-Err-lay_head.ensures.cause

pub returns-in-Err-lay_head-clause-untouched : goal.returns-in-Err-lay_head-clause-untouched
returns-in-Err-lay_head-clause-untouched g c = λ r is.
    let fits : fit_refusal c.args.kind c.args.params ≡ None = search rules in
    let linear = c.requires.linear in
    absurd (never_refused c.args.kind c.args.params fits r is)

pub returns-clause-untouched : goal.returns-clause-untouched
returns-clause-untouched g c = λ r is.
    let fits : fit_refusal c.args.kind c.args.params ≡ None = search rules in
    let linear = c.requires.linear in
    absurd (never_refused c.args.kind c.args.params fits r is)

pub at_first_frame-requires-clause-held : goal.at_first_frame-requires-clause-held
at_first_frame-requires-clause-held g c =
    let s = c.in-Ok.layout in
    let made : s ≡ new_shape c.args.kind c.args.params = search rules in
    let fits : fit_refusal c.args.kind c.args.params ≡ None = search rules in
    let linear = c.requires.linear in
    let new = is_new c.args.kind c.args.params s c.are_good.ensures fits made in
    let linear' : is_none (fixed_of s.params.codec) ≡ false = ap (λ q. is_none (fixed_of q.codec)) new.params ∙ linear in
    omega (arith, ends_at_start s linear' new.frames, new.start, c.in-Ok.ensures.laid.size)

pub at_first_frame-requires-clause-linear : goal.at_first_frame-requires-clause-linear
at_first_frame-requires-clause-linear g c = λ writes.
    let made : c.in-Ok.layout ≡ new_shape c.args.kind c.args.params = search rules in
    let linear = c.requires.linear in
    let fits : fit_refusal c.args.kind c.args.params ≡ None = search rules in
    ap (λ q. is_none (fixed_of q.codec)) (is_new c.args.kind c.args.params c.in-Ok.layout c.are_good.ensures fits made).params ∙ linear

pub at_first_frame-requires-clause-room_ends : goal.at_first_frame-requires-clause-room_ends
at_first_frame-requires-clause-room_ends g c =
    let made : c.in-Ok.layout ≡ new_shape c.args.kind c.args.params = search rules in
    let fits : fit_refusal c.args.kind c.args.params ≡ None = search rules in
    let linear = c.requires.linear in
    (is_new c.args.kind c.args.params c.in-Ok.layout c.are_good.ensures fits made).room_ends

pub at_first_frame-requires-clause-sized : goal.at_first_frame-requires-clause-sized
at_first_frame-requires-clause-sized g c = λ writes.
    let made : c.in-Ok.layout ≡ new_shape c.args.kind c.args.params = search rules in
    let fits : fit_refusal c.args.kind c.args.params ≡ None = search rules in
    let linear = c.requires.linear in
    (is_new c.args.kind c.args.params c.in-Ok.layout c.are_good.ensures fits made).known

pub at_first_frame-requires-clause-headed : goal.at_first_frame-requires-clause-headed
at_first_frame-requires-clause-headed g c = λ makes holds. ∣ (c.args.params, [], c.in-Ok.ensures.head) ∣₁

pub at_first_frame-requires-clause-blocks : goal.at_first_frame-requires-clause-blocks
at_first_frame-requires-clause-blocks g c = λ by_place. sym (not_adpcm c.in-Ok.layout.params.codec (at_first_frame-requires-clause-linear g c refl))
