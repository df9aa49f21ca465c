use Rattle.std.proofs.Common.{rules, ◌≡◌, Ok}
use Rattle.snd_layout.specs.declared.kind.Kind.TheVariants.{Wave, Rf64, W64, Au, Dns, Voc, Svx, Sphere}
use Rattle.snd_container.proofs.OfKinds.{found_as, opens_by, refused_by}
use Rattle.snd_container.proofs.open.open_layout.Goals as goal

pub returns-in_err-kind_on-clause-opened : goal.returns-in_err-kind_on-clause-opened
returns-in_err-kind_on-clause-opened g c =
    refused_by g.D.Disk.state c.args.disk.now c.kind_on.result c.from_residual.result c.in_err-kind_on.field-0.0 (search rules) (search rules) c.kind_on.ensures.found

pub returns-in-Wave-clause-opened : goal.returns-in-Wave-clause-opened
returns-in-Wave-clause-opened g c =
    let is : c.kind_on.result ≡ Ok Wave = search rules in
    opens_by g.D.Disk.state c.args.disk.now c.kind_on.new.disk Wave c.open_layout.result c.kind_on.ensures.reads.keeps.contents (found_as g.D.Disk.state c.args.disk.now Wave c.kind_on.result is c.kind_on.ensures.found) c.open_layout.ensures.opened

pub returns-in-Rf64-clause-opened : goal.returns-in-Rf64-clause-opened
returns-in-Rf64-clause-opened g c =
    let is : c.kind_on.result ≡ Ok Rf64 = search rules in
    opens_by g.D.Disk.state c.args.disk.now c.kind_on.new.disk Rf64 c.open_layout-in-Rf64.result c.kind_on.ensures.reads.keeps.contents (found_as g.D.Disk.state c.args.disk.now Rf64 c.kind_on.result is c.kind_on.ensures.found) c.open_layout-in-Rf64.ensures.opened

pub returns-in-W64-clause-opened : goal.returns-in-W64-clause-opened
returns-in-W64-clause-opened g c =
    let is : c.kind_on.result ≡ Ok W64 = search rules in
    opens_by g.D.Disk.state c.args.disk.now c.kind_on.new.disk W64 c.open_layout-in-W64.result c.kind_on.ensures.reads.keeps.contents (found_as g.D.Disk.state c.args.disk.now W64 c.kind_on.result is c.kind_on.ensures.found) c.open_layout-in-W64.ensures.opened

pub returns-in-Au-clause-opened : goal.returns-in-Au-clause-opened
returns-in-Au-clause-opened g c =
    let is : c.kind_on.result ≡ Ok Au = search rules in
    opens_by g.D.Disk.state c.args.disk.now c.kind_on.new.disk Au c.open_layout-in-Au.result c.kind_on.ensures.reads.keeps.contents (found_as g.D.Disk.state c.args.disk.now Au c.kind_on.result is c.kind_on.ensures.found) c.open_layout-in-Au.ensures.opened

pub returns-in-Dns-clause-opened : goal.returns-in-Dns-clause-opened
returns-in-Dns-clause-opened g c =
    let is : c.kind_on.result ≡ Ok Dns = search rules in
    opens_by g.D.Disk.state c.args.disk.now c.kind_on.new.disk Dns c.open_layout-in-Dns.result c.kind_on.ensures.reads.keeps.contents (found_as g.D.Disk.state c.args.disk.now Dns c.kind_on.result is c.kind_on.ensures.found) c.open_layout-in-Dns.ensures.opened

pub returns-in-Voc-clause-opened : goal.returns-in-Voc-clause-opened
returns-in-Voc-clause-opened g c =
    let is : c.kind_on.result ≡ Ok Voc = search rules in
    opens_by g.D.Disk.state c.args.disk.now c.kind_on.new.disk Voc c.open_layout-in-Voc.result c.kind_on.ensures.reads.keeps.contents (found_as g.D.Disk.state c.args.disk.now Voc c.kind_on.result is c.kind_on.ensures.found) c.open_layout-in-Voc.ensures.opened

pub returns-in-Svx-clause-opened : goal.returns-in-Svx-clause-opened
returns-in-Svx-clause-opened g c =
    let is : c.kind_on.result ≡ Ok Svx = search rules in
    opens_by g.D.Disk.state c.args.disk.now c.kind_on.new.disk Svx c.open_layout-in-Svx.result c.kind_on.ensures.reads.keeps.contents (found_as g.D.Disk.state c.args.disk.now Svx c.kind_on.result is c.kind_on.ensures.found) c.open_layout-in-Svx.ensures.opened

pub returns-in-Sphere-clause-opened : goal.returns-in-Sphere-clause-opened
returns-in-Sphere-clause-opened g c =
    let is : c.kind_on.result ≡ Ok Sphere = search rules in
    opens_by g.D.Disk.state c.args.disk.now c.kind_on.new.disk Sphere c.open_layout-in-Sphere.result c.kind_on.ensures.reads.keeps.contents (found_as g.D.Disk.state c.args.disk.now Sphere c.kind_on.result is c.kind_on.ensures.found) c.open_layout-in-Sphere.ensures.opened
