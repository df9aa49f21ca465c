use Rattle.std.proofs.Common.{◌≡◌, None, refl, subst}
use Rattle.snd_layout.specs.Fit.{fit_refusal}
use Rattle.snd_layout.specs.Params.{Parameters}
use Rattle.snd_layout.specs.declared.kind.Kind.{Kind}
use Rattle.snd_layout.specs.declared.kind.Kind.TheVariants.{Wave, Rf64, W64, Au, Dns, Voc, Svx, Sphere}
use Rattle.snd_rf64.proofs.Public.{no_pieces}
use Rattle.snd_svx.proofs.Public.{plain_may}
use Rattle.snd_wave.proofs.Public as wave
use Rattle.snd_container.proofs.Laid.{IsPlain, holds_plain, laid, made_kind}
use Rattle.snd_container.proofs.made.lay_head.Goals as goal

fit_as : (kind known : Kind) (p : Parameters) → kind ≡ known → fit_refusal kind p ≡ None → fit_refusal known p ≡ None
fit_as kind known p is fits = subst (λ (k : Kind). fit_refusal k p ≡ None) is fits

pub returns-in-Wave-clause-laid : goal.returns-in-Wave-clause-laid
returns-in-Wave-clause-laid g c = laid c.lay_head.result c.args.kind Wave c.args.params (g.D.Disk.state c.args.disk.now) (g.D.Disk.state c.lay_head.new.disk) c.in-Wave.is c.lay_head.ensures.laid

pub returns-in-Wave-clause-head : goal.returns-in-Wave-clause-head
returns-in-Wave-clause-head g c =
    let fits : fit_refusal Wave c.args.params ≡ None = fit_as c.args.kind Wave c.args.params c.in-Wave.is c.requires in
    let plain : IsPlain Wave c.args.params = record { may = wave.plain_may c.args.params c.are_good.ensures fits; shape = refl; head = refl } in
    holds_plain c.lay_head.result Wave c.args.params (g.D.Disk.state c.args.disk.now) (g.D.Disk.state c.lay_head.new.disk) plain (made_kind Wave c.args.params c.are_good.ensures fits) c.lay_head.ensures.layout c.lay_head.ensures.laid

pub returns-in-Rf64-clause-laid : goal.returns-in-Rf64-clause-laid
returns-in-Rf64-clause-laid g c = laid c.lay_head-in-Rf64.result c.args.kind Rf64 c.args.params (g.D.Disk.state c.args.disk.now) (g.D.Disk.state c.lay_head-in-Rf64.new.disk) c.in-Rf64.is c.lay_head-in-Rf64.ensures.laid

pub returns-in-Rf64-clause-head : goal.returns-in-Rf64-clause-head
returns-in-Rf64-clause-head g c =
    let fits : fit_refusal Rf64 c.args.params ≡ None = fit_as c.args.kind Rf64 c.args.params c.in-Rf64.is c.requires in
    let plain : IsPlain Rf64 c.args.params = record { may = no_pieces c.args.params c.are_good.ensures fits; shape = refl; head = refl } in
    holds_plain c.lay_head-in-Rf64.result Rf64 c.args.params (g.D.Disk.state c.args.disk.now) (g.D.Disk.state c.lay_head-in-Rf64.new.disk) plain (made_kind Rf64 c.args.params c.are_good.ensures fits) c.lay_head-in-Rf64.ensures.layout c.lay_head-in-Rf64.ensures.laid

pub returns-in-W64-clause-laid : goal.returns-in-W64-clause-laid
returns-in-W64-clause-laid g c = laid c.lay_head-in-W64.result c.args.kind W64 c.args.params (g.D.Disk.state c.args.disk.now) (g.D.Disk.state c.lay_head-in-W64.new.disk) c.in-W64.is c.lay_head-in-W64.ensures.laid

pub returns-in-W64-clause-head : goal.returns-in-W64-clause-head
returns-in-W64-clause-head g c =
    let fits : fit_refusal W64 c.args.params ≡ None = fit_as c.args.kind W64 c.args.params c.in-W64.is c.requires in
    let plain : IsPlain W64 c.args.params = record { may = refl; shape = refl; head = refl } in
    holds_plain c.lay_head-in-W64.result W64 c.args.params (g.D.Disk.state c.args.disk.now) (g.D.Disk.state c.lay_head-in-W64.new.disk) plain (made_kind W64 c.args.params c.are_good.ensures fits) c.lay_head-in-W64.ensures.layout c.lay_head-in-W64.ensures.laid

pub returns-in-Au-clause-laid : goal.returns-in-Au-clause-laid
returns-in-Au-clause-laid g c = laid c.lay_head-in-Au.result c.args.kind Au c.args.params (g.D.Disk.state c.args.disk.now) (g.D.Disk.state c.lay_head-in-Au.new.disk) c.in-Au.is c.lay_head-in-Au.ensures.laid

pub returns-in-Au-clause-head : goal.returns-in-Au-clause-head
returns-in-Au-clause-head g c =
    let fits : fit_refusal Au c.args.params ≡ None = fit_as c.args.kind Au c.args.params c.in-Au.is c.requires in
    let plain : IsPlain Au c.args.params = record { may = refl; shape = refl; head = refl } in
    holds_plain c.lay_head-in-Au.result Au c.args.params (g.D.Disk.state c.args.disk.now) (g.D.Disk.state c.lay_head-in-Au.new.disk) plain (made_kind Au c.args.params c.are_good.ensures fits) c.lay_head-in-Au.ensures.layout c.lay_head-in-Au.ensures.laid

pub returns-in-Dns-clause-laid : goal.returns-in-Dns-clause-laid
returns-in-Dns-clause-laid g c = laid c.lay_head-in-Dns.result c.args.kind Dns c.args.params (g.D.Disk.state c.args.disk.now) (g.D.Disk.state c.lay_head-in-Dns.new.disk) c.in-Dns.is c.lay_head-in-Dns.ensures.laid

pub returns-in-Dns-clause-head : goal.returns-in-Dns-clause-head
returns-in-Dns-clause-head g c =
    let fits : fit_refusal Dns c.args.params ≡ None = fit_as c.args.kind Dns c.args.params c.in-Dns.is c.requires in
    let plain : IsPlain Dns c.args.params = record { may = refl; shape = refl; head = refl } in
    holds_plain c.lay_head-in-Dns.result Dns c.args.params (g.D.Disk.state c.args.disk.now) (g.D.Disk.state c.lay_head-in-Dns.new.disk) plain (made_kind Dns c.args.params c.are_good.ensures fits) c.lay_head-in-Dns.ensures.layout c.lay_head-in-Dns.ensures.laid

pub returns-in-Voc-clause-laid : goal.returns-in-Voc-clause-laid
returns-in-Voc-clause-laid g c = laid c.lay_head-in-Voc.result c.args.kind Voc c.args.params (g.D.Disk.state c.args.disk.now) (g.D.Disk.state c.lay_head-in-Voc.new.disk) c.in-Voc.is c.lay_head-in-Voc.ensures.laid

pub returns-in-Voc-clause-head : goal.returns-in-Voc-clause-head
returns-in-Voc-clause-head g c =
    let fits : fit_refusal Voc c.args.params ≡ None = fit_as c.args.kind Voc c.args.params c.in-Voc.is c.requires in
    let plain : IsPlain Voc c.args.params = record { may = refl; shape = refl; head = refl } in
    holds_plain c.lay_head-in-Voc.result Voc c.args.params (g.D.Disk.state c.args.disk.now) (g.D.Disk.state c.lay_head-in-Voc.new.disk) plain (made_kind Voc c.args.params c.are_good.ensures fits) c.lay_head-in-Voc.ensures.layout c.lay_head-in-Voc.ensures.laid

pub returns-in-Svx-clause-laid : goal.returns-in-Svx-clause-laid
returns-in-Svx-clause-laid g c = laid c.lay_head-in-Svx.result c.args.kind Svx c.args.params (g.D.Disk.state c.args.disk.now) (g.D.Disk.state c.lay_head-in-Svx.new.disk) c.in-Svx.is c.lay_head-in-Svx.ensures.laid

pub returns-in-Svx-clause-head : goal.returns-in-Svx-clause-head
returns-in-Svx-clause-head g c =
    let fits : fit_refusal Svx c.args.params ≡ None = fit_as c.args.kind Svx c.args.params c.in-Svx.is c.requires in
    let plain : IsPlain Svx c.args.params = record { may = plain_may c.args.params c.are_good.ensures fits; shape = refl; head = refl } in
    holds_plain c.lay_head-in-Svx.result Svx c.args.params (g.D.Disk.state c.args.disk.now) (g.D.Disk.state c.lay_head-in-Svx.new.disk) plain (made_kind Svx c.args.params c.are_good.ensures fits) c.lay_head-in-Svx.ensures.layout c.lay_head-in-Svx.ensures.laid

pub returns-in-Sphere-clause-laid : goal.returns-in-Sphere-clause-laid
returns-in-Sphere-clause-laid g c = laid c.lay_head-in-Sphere.result c.args.kind Sphere c.args.params (g.D.Disk.state c.args.disk.now) (g.D.Disk.state c.lay_head-in-Sphere.new.disk) c.in-Sphere.is c.lay_head-in-Sphere.ensures.laid

pub returns-in-Sphere-clause-head : goal.returns-in-Sphere-clause-head
returns-in-Sphere-clause-head g c =
    let fits : fit_refusal Sphere c.args.params ≡ None = fit_as c.args.kind Sphere c.args.params c.in-Sphere.is c.requires in
    let plain : IsPlain Sphere c.args.params = record { may = refl; shape = refl; head = refl } in
    holds_plain c.lay_head-in-Sphere.result Sphere c.args.params (g.D.Disk.state c.args.disk.now) (g.D.Disk.state c.lay_head-in-Sphere.new.disk) plain (made_kind Sphere c.args.params c.are_good.ensures fits) c.lay_head-in-Sphere.ensures.layout c.lay_head-in-Sphere.ensures.laid
