use Rattle.std.proofs.Common.{◌≡◌, ◌∙◌, ap, sym, subst, ℕ, ◌≤◌, true, false, List, Some, option_map, length, take, arith}
use Rattle.std.specs.Prelude.{is_none}
use Rattle.std.proofs.lemmas.List.{length-take}
use Rattle.snd_container.specs.Sound.{fixed_of}
use Rattle.snd_layout.specs.Shape.{KeepsRule, Shape, end}
use Rattle.snd_patch.specs.Sealed.{counted, shrunk}
use Rattle.snd_container.specs.Values.{closed_end}
use Rattle.snd_layout.specs.Kinds.{holds_pieces}
use Rattle.snd_file.proofs.BareHeads.{no_fewer}
use Rattle.snd_edits.proofs.Public.{closed_counted, cut_decoded, ends_before, may_count_fewer}
use Rattle.snd_file.proofs.KindHeads.{bare_head}
use Rattle.snd_file.proofs.LeftSafe.{cutting_is_safe}
use Rattle.snd_file.proofs.handle.File.cut_file.Goals as goal

pub returns-in-Ok-clause-stands : goal.returns-in-Ok-clause-stands
returns-in-Ok-clause-stands g c = λ e stands.
    let h = c.args.self.now.layout in
    let to = c.args.to in
    let told = g.met.D.Disk.size_told c.args.self.now.disk.now e.bytes stands.bytes in
    let held : end h h.frames ≤ length e.bytes = omega (arith, told, c.args.self.now.stands c.requires.working) in
    let fits : end e.shape e.shape.frames ≤ length e.bytes = subst (λ (s : Shape). end s s.frames ≤ length e.bytes) stands.shape held in
    let bytes : (g.D.Disk.state c.shrink.new.disk).contents ≡ Some (shrunk e.bytes e.shape to) =
    c.in-Ok.ensures.contents
    ∙ ap (option_map (λ (b : List ℕ). shrunk b h to)) stands.bytes
    ∙ ap (λ (s : Shape). Some (shrunk e.bytes s to)) stands.shape in
    let ends : closed_end h to ≡ closed_end e.shape to = ap (λ (s : Shape). closed_end s to) stands.shape in
    let long : end e.shape to ≤ length (shrunk e.bytes e.shape to) = omega (arith, ends, c.in-Ok.ensures.size, g.met.D.Disk.size_told c.shrink.new.disk _ bytes) in
    let within : to ≤ e.shape.frames = omega (arith, c.requires.fewer, ap (λ (s : Shape). s.frames) stands.shape) in
    let some : 1 ≤ h.params.channels = c.keeps_rules.ensures.params.some_channel in
    record {
      bytes = bytes;
      shape = c.in-Ok.ensures.layout ∙ ap (λ (s : Shape). counted s to) stands.shape;
      place = omega (arith, stands.place);
      write_place = omega (arith, stands.write_place);
      automatic = stands.automatic;
      written = stands.written;
      sound = ap (λ l. take to l) stands.sound ∙ cut_decoded e.bytes e.shape to (subst (λ (s : Shape). is_none (fixed_of s.params.codec) ≡ false) stands.shape (c.args.self.now.linear g.met.M.CanWrite.places))
          (subst KeepsRule stands.shape c.keeps_rules.ensures.rule) (subst (λ (s : Shape). 1 ≤ s.params.channels) stands.shape some) within fits long;
      count = omega (arith, within, stands.count, length-take to e.frames);
      none_given = stands.none_given;
      given = λ encodes. absurd (let by_place = g.met.M.CanWrite.by_place in cc);
    }

pub shrink-requires-clause-counts : goal.shrink-requires-clause-counts
shrink-requires-clause-counts g c =
    let h = c.args.self.now.layout in
    let held : end h h.frames ≤ (g.D.Disk.state c.args.self.now.disk.now).size = c.args.self.now.stands c.requires.working in
    let room = may_count_fewer h c.args.to c.keeps_rules.ensures.rule (c.args.self.now.linear g.met.M.CanWrite.places) (c.args.self.now.sized g.met.M.CanSeal.writes) c.args.self.now.room_ends (omega (arith, c.requires.fewer)) in
    record { room = room.0; on_disk = room.1; there = omega (arith, held, ends_before h c.args.to h.frames (c.args.self.now.linear g.met.M.CanWrite.places) (omega (arith, c.requires.fewer))) }

pub invariant_of-self-clause-closed : goal.invariant_of-self-clause-closed
invariant_of-self-clause-closed g c = λ auto working free.
    let h = c.args.self.now.layout in
    let size = (g.D.Disk.state c.shrink.new.disk).size in
    let ends : closed_end (counted h c.args.to) c.args.to ≤ size = omega (arith, closed_counted h c.args.to, c.in-Ok.ensures.size) in
    subst (λ (s : Shape). closed_end s s.frames ≤ size) (sym c.in-Ok.ensures.layout) ends

pub returns-in-Ok-clause-leaves : goal.returns-in-Ok-clause-leaves
returns-in-Ok-clause-leaves g c = λ opened e rest. cutting_is_safe g.D.Disk opened c.args.self.now e rest g.met.M.CanWrite.by_place c.shrink.new.disk c.args.to c.requires.fewer c.requires.free c.shrink.ensures.leaves

pub returns-in-Err-clause-leaves : goal.returns-in-Err-clause-leaves
returns-in-Err-clause-leaves g c = λ opened e rest. cutting_is_safe g.D.Disk opened c.args.self.now e rest g.met.M.CanWrite.by_place c.shrink.new.disk c.args.to c.requires.fewer c.requires.free c.shrink.ensures.leaves

pub invariant_of-self-clause-headed : goal.invariant_of-self-clause-headed
invariant_of-self-clause-headed g c = λ makes empty working holds.
    let state = g.D.Disk.state in
    let file = c.args.self.now in
    let same : holds_pieces file.layout.kind ≡ true = sym (ap (λ (s : Shape). holds_pieces s.kind) c.in-Ok.ensures.layout) ∙ holds in
    absurd (no_fewer (state file.disk.now) file.layout c.args.to (bare_head (state file.disk.now) file.layout same c.keeps_rules.ensures.rule (file.headed makes empty c.requires.working same)) c.requires.fewer)
