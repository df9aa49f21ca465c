use Rattle.std.proofs.Common.{◌≡◌, ◌∙◌, ap, sym, subst, ℕ, ◌+◌, ◌^◌, ◌≤◌, List, Some, option_map, length, false, arith}
use Rattle.snd_layout.specs.Shape.{KeepsRule, Shape, end, room}
use Rattle.snd_container.specs.Values.{closed_end}
use Rattle.snd_edits.specs.Edits.{cut_off}
use Rattle.snd_file.proofs.BareHeads.{cut_head}
use Rattle.snd_edits.proofs.Public.{closed_free, off_decoded}
use Rattle.snd_file.proofs.handle.File.cut_tail.Goals as goal

pub returns-in-Ok-clause-stands : goal.returns-in-Ok-clause-stands
returns-in-Ok-clause-stands g c = λ e stands.
    let h = c.args.self.now.layout in
    let told = g.met.D.Disk.size_told c.args.self.now.disk.now e.bytes stands.bytes in
    let held : end h h.frames ≤ length e.bytes = omega (arith, told, c.args.self.now.stands c.requires.working) in
    let fits : end e.shape e.shape.frames ≤ length e.bytes = subst (λ (s : Shape). end s s.frames ≤ length e.bytes) stands.shape held in
    let bytes : (g.D.Disk.state c.cut_off.new.disk).contents ≡ Some (cut_off e.bytes e.shape e.shape.frames) =
    c.in-Ok.ensures.contents
    ∙ ap (option_map (λ (b : List ℕ). cut_off b h h.frames)) stands.bytes
    ∙ ap (λ (s : Shape). Some (cut_off e.bytes s s.frames)) stands.shape in
    let ends : closed_end h h.frames ≡ closed_end e.shape e.shape.frames = ap (λ (s : Shape). closed_end s s.frames) stands.shape in
    let long : end e.shape e.shape.frames ≤ length (cut_off e.bytes e.shape e.shape.frames) = omega (arith, ends, c.in-Ok.ensures.size, g.met.D.Disk.size_told c.cut_off.new.disk _ bytes) in
    record {
      bytes = bytes;
      shape = c.in-Ok.ensures.layout ∙ ap (λ (s : Shape). record s { trailing = false }) stands.shape;
      place = stands.place;
      write_place = stands.write_place;
      automatic = stands.automatic;
      written = stands.written;
      sound = stands.sound ∙ off_decoded e.bytes e.shape (subst KeepsRule stands.shape c.keeps_rules.ensures.rule) fits long;
      count = stands.count;
      none_given = stands.none_given;
      given = λ encodes. absurd (let by_place = g.met.M.CanWrite.by_place in cc);
    }

pub invariant_of-self-clause-room_ends : goal.invariant_of-self-clause-room_ends
invariant_of-self-clause-room_ends g c = subst (λ (s : Shape). s.start + room s + 8 ≤ 2 ^ 63) (sym c.in-Ok.ensures.layout) c.args.self.now.room_ends

pub invariant_of-self-clause-closed : goal.invariant_of-self-clause-closed
invariant_of-self-clause-closed g c = λ automatic working free.
    let h = c.args.self.now.layout in
    subst (λ (s : Shape). closed_end s s.frames ≤ (g.D.Disk.state c.cut_off.new.disk).size) (sym c.in-Ok.ensures.layout) (omega (arith, c.in-Ok.ensures.size, closed_free h h.frames))

pub invariant_of-self-clause-headed : goal.invariant_of-self-clause-headed
invariant_of-self-clause-headed g c = λ makes empty working.
    let state = g.D.Disk.state in
    let file = c.args.self.now in
    cut_head (state file.disk.now) (state c.cut_off.new.disk) file.layout c.cut_off.new.layout c.keeps_rules.ensures.rule (file.headed makes empty c.requires.working) (g.met.D.Disk.size_told file.disk.now)
    c.in-Ok.ensures.layout c.in-Ok.ensures.size c.in-Ok.ensures.contents
