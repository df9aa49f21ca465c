use Rattle.std.proofs.Common.{◌≡◌, ◌∙◌, ap, sym, subst, ℕ, ◌+◌, ◌^◌, ◌≤◌, List, Some, option_map, length, arith}
use Rattle.snd_layout.specs.Shape.{KeepsRule, Shape, end, room}
use Rattle.snd_patch.specs.Sealed.{counted, sealed}
use Rattle.snd_container.specs.Values.{closed_end}
use Rattle.snd_file.proofs.BareHeads.{sealed_head}
use Rattle.snd_edits.proofs.Public.{given_sealed, sealed_closed, sealed_decoded, sealed_may, sealed_no_less}
use Rattle.snd_file.proofs.LeftSafe.{sealing_is_safe}
use Rattle.snd_file.proofs.handle.File.seal_file.Goals as goal

pub seal-requires : goal.seal-requires
seal-requires g c =
    let file = c.args.self.now in
    record {
      counts = sealed_may g.M.Mode.ENCODES file.layout file.write_place file.writer (g.D.Disk.state file.disk.now).size c.keeps_rules.ensures.rule c.keeps_rules.ensures.params (file.sized g.met.M.CanSeal.writes) file.room_ends (file.stands c.requires)
          (λ by_place. file.linear (g.M.Mode.ways g.met.M.CanSeal.writes by_place)) file.encodes file.roomy (λ encodes. file.paced encodes c.requires);
    }

pub returns-in-Ok-clause-stands : goal.returns-in-Ok-clause-stands
returns-in-Ok-clause-stands g c = λ e stands.
    let h = c.args.self.now.layout in
    let told = g.met.D.Disk.size_told c.args.self.now.disk.now e.bytes stands.bytes in
    let held : end h h.frames ≤ length e.bytes = omega (arith, told, c.args.self.now.stands c.requires) in
    let fits : end e.shape e.shape.frames ≤ length e.bytes = subst (λ (s : Shape). end s s.frames ≤ length e.bytes) stands.shape held in
    let bytes : (g.D.Disk.state c.seal.new.disk).contents ≡ Some (sealed e.bytes e.shape e.shape.frames) =
    c.in-Ok.ensures.contents
    ∙ ap (option_map (λ (b : List ℕ). sealed b h h.frames)) stands.bytes
    ∙ ap (λ (s : Shape). Some (sealed e.bytes s s.frames)) stands.shape in
    let long : length e.bytes ≤ length (sealed e.bytes e.shape e.shape.frames) =
    omega (arith, told, c.in-Ok.ensures.size, sealed_no_less (g.D.Disk.state c.args.self.now.disk.now).size h h.frames, g.met.D.Disk.size_told c.seal.new.disk _ bytes) in
    record {
      bytes = bytes;
      shape = c.in-Ok.ensures.layout ∙ ap (λ (s : Shape). counted s s.frames) stands.shape;
      place = stands.place;
      write_place = stands.write_place;
      automatic = stands.automatic;
      written = stands.written;
      sound = stands.sound ∙ sealed_decoded e.bytes e.shape (subst KeepsRule stands.shape c.keeps_rules.ensures.rule) fits (omega (arith, fits, long));
      count = stands.count;
      none_given = stands.none_given;
      given = λ encodes. given_sealed c.args.self.now.writer e.given e.bytes e.shape e.write_place (subst KeepsRule stands.shape c.keeps_rules.ensures.rule) (stands.given encodes);
    }

pub returns-in-Ok-clause-closed : goal.returns-in-Ok-clause-closed
returns-in-Ok-clause-closed g c = λ free.
    let h = c.args.self.now.layout in
    subst (λ (s : Shape). closed_end s s.frames ≤ (g.D.Disk.state c.seal.new.disk).size) (sym c.in-Ok.ensures.layout) (sealed_closed _ h h.frames _ c.in-Ok.ensures.size free)

pub returns-in-Ok-clause-leaves : goal.returns-in-Ok-clause-leaves
returns-in-Ok-clause-leaves g c = λ opened e e' rest. sealing_is_safe g.D.Disk opened c.args.self.now e rest c.seal.new.disk c.seal.ensures.leaves e' c.seal.ensures.still

pub returns-in-Err-clause-leaves : goal.returns-in-Err-clause-leaves
returns-in-Err-clause-leaves g c = λ opened e e' rest. sealing_is_safe g.D.Disk opened c.args.self.now e rest c.seal.new.disk c.seal.ensures.leaves e' c.seal.ensures.still

pub invariant_of-self-clause-room_ends : goal.invariant_of-self-clause-room_ends
invariant_of-self-clause-room_ends g c = subst (λ (s : Shape). s.start + room s + 8 ≤ 2 ^ 63) (sym c.in-Ok.ensures.layout) c.args.self.now.room_ends

pub invariant_of-self-clause-closed : goal.invariant_of-self-clause-closed
invariant_of-self-clause-closed g c = λ automatic working free.
    let h = c.args.self.now.layout in
    subst (λ (s : Shape). closed_end s s.frames ≤ (g.D.Disk.state c.seal.new.disk).size) (sym c.in-Ok.ensures.layout)
    (sealed_closed _ h h.frames _ c.in-Ok.ensures.size (sym (ap (λ (s : Shape). s.trailing) c.in-Ok.ensures.layout) ∙ free))

pub invariant_of-self-clause-headed : goal.invariant_of-self-clause-headed
invariant_of-self-clause-headed g c = λ makes empty working.
    let state = g.D.Disk.state in
    let file = c.args.self.now in
    sealed_head (state file.disk.now) (state c.seal.new.disk) file.layout c.seal.new.layout c.keeps_rules.ensures.rule (file.headed makes empty c.requires) (g.met.D.Disk.size_told file.disk.now)
    c.in-Ok.ensures.layout c.in-Ok.ensures.size c.in-Ok.ensures.contents
