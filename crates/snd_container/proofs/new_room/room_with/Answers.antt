use Rattle.std.proofs.Common.{◌≡◌, None, sym, ap, ◌∙◌, arith, subst}
use Rattle.snd_layout.specs.Fit.{fit_refusal}
use Rattle.snd_layout.specs.Params.{Parameters}
use Rattle.snd_layout.specs.declared.kind.Kind.{Kind}
use Rattle.snd_layout.specs.declared.kind.Kind.TheVariants.{Rf64, Sphere, Svx, Voc, W64, Wave}
use Rattle.snd_container.proofs.Rooms.{as_known, rf64_room, sphere_room, svx_room, voc_room, w64_room, wave_room}
use Rattle.snd_container.proofs.new_room.room_with.Goals as goal

pub returns-in-Wave : goal.returns-in-Wave
returns-in-Wave c =
    as_known c.args.kind Wave c.args.params c.args.chunks _ c.in-Wave.is
    (wave_room c.args.params c.args.chunks c.params.inside.codec c.start_with.result (sym (ap (λ (p : Parameters). p.codec) c.params.view_is)) c.start_with.ensures.begins)

pub returns-in-Rf64 : goal.returns-in-Rf64
returns-in-Rf64 c =
    let fits : fit_refusal Rf64 c.args.params ≡ None = subst (λ (k : Kind). fit_refusal k c.args.params ≡ None) c.in-Rf64.is c.requires.fits in
    as_known c.args.kind Rf64 c.args.params c.args.chunks _ c.in-Rf64.is
    (rf64_room c.args.params c.args.chunks c.params.inside.codec c.start_with-in-Rf64.result fits (sym (ap (λ (p : Parameters). p.codec) c.params.view_is)) c.start_with-in-Rf64.ensures.begins)

pub returns-in-Svx : goal.returns-in-Svx
returns-in-Svx c = as_known c.args.kind Svx c.args.params c.args.chunks _ c.in-Svx.is (svx_room c.args.params c.args.chunks c.start_with-in-Svx.result c.start_with-in-Svx.ensures.begins)

pub returns-in-W64 : goal.returns-in-W64
returns-in-W64 c =
    as_known c.args.kind W64 c.args.params c.args.chunks _ c.in-W64.is
    (w64_room c.args.params c.args.chunks c.params.inside.codec c.start_with-in-W64.result (sym (ap (λ (p : Parameters). p.codec) c.params.view_is)) c.start_with-in-W64.ensures.value)

pub returns-in-Voc : goal.returns-in-Voc
returns-in-Voc c = as_known c.args.kind Voc c.args.params c.args.chunks _ c.in-Voc.is (voc_room c.args.params c.args.chunks)

pub returns-in-Sphere : goal.returns-in-Sphere
returns-in-Sphere c = as_known c.args.kind Sphere c.args.params c.args.chunks _ c.in-Sphere.is (sphere_room c.args.params c.args.chunks c.from.result (c.from.ensures ∙ c.block_align.ensures) (omega (arith, c.from.ensures, c.block_align.type_inv)))
