use Rattle.std.proofs.Common.{◌≡◌, ◌∙◌, ap, sym, subst, inl, refl, ℕ, ◌+◌, ◌^◌, ◌≤◌, true, List, Some, option_map, length, arith}
use Rattle.std.specs.Prelude.{is_none, is_some}
use Rattle.snd_container.specs.Sound.{fixed_of}
use Rattle.snd_container.specs.Values.{closed_end}
use Rattle.snd_layout.specs.Blocks.{is_adpcm}
use Rattle.snd_layout.specs.Params.{data_bytes}
use Rattle.snd_layout.specs.Shape.{KeepsRule, Shape, end, room}
use Rattle.snd_patch.specs.Sealed.{sealed}
use Rattle.snd_ds64.specs.Promoted.{promoted, promoted_shape}
use Rattle.snd_edits.proofs.Public.{may_count}
use Rattle.snd_file.proofs.Turned.{turned_closed, turned_room, turned_sound, turned_there, turning_is_safe}
use Rattle.snd_file.proofs.promoting.«File+D+Update».turn.Goals as goal

pub promote-requires-clause-counts : goal.promote-requires-clause-counts
promote-requires-clause-counts g c =
    let file = c.args.self.now in
    let h = file.layout in
    let room = may_count h h.frames c.keeps_rules.ensures.rule (file.linear refl) (file.sized refl) file.room_ends (inl refl) in
    record { room = room.0; on_disk = room.1; there = file.stands c.requires.working }

pub promote-requires-clause-reserved : goal.promote-requires-clause-reserved
promote-requires-clause-reserved g c = c.requires.may.reserved

pub promote-requires-clause-free : goal.promote-requires-clause-free
promote-requires-clause-free g c = c.requires.may.free

pub returns-in-Ok-clause-stands : goal.returns-in-Ok-clause-stands
returns-in-Ok-clause-stands g c = λ e stands.
    let h = c.args.self.now.layout in
    let told = g.met.D.Disk.size_told c.args.self.now.disk.now e.bytes stands.bytes in
    let held : end h h.frames ≤ length e.bytes = omega (arith, told, c.args.self.now.stands c.requires.working) in
    let fits : end e.shape e.shape.frames ≤ length e.bytes = subst (λ (s : Shape). end s s.frames ≤ length e.bytes) stands.shape held in
    record {
      bytes = c.in-Ok.ensures.contents
          ∙ ap (option_map (λ (b : List ℕ). promoted (sealed b h h.frames) h h.frames)) stands.bytes
          ∙ ap (λ (s : Shape). Some (promoted (sealed e.bytes s s.frames) s s.frames)) stands.shape;
      shape = c.in-Ok.ensures.layout ∙ ap (λ (s : Shape). promoted_shape s s.frames) stands.shape;
      place = stands.place;
      write_place = stands.write_place;
      automatic = stands.automatic;
      written = stands.written;
      sound = stands.sound ∙ turned_sound e.shape (subst KeepsRule stands.shape c.keeps_rules.ensures.rule) (subst (λ (s : Shape). is_some s.reserve ≡ true) stands.shape c.requires.may.reserved) e.bytes fits;
      count = stands.count;
      none_given = stands.none_given;
      given = λ encodes. absurd (cc);
    }

pub returns-in-Ok-clause-leaves : goal.returns-in-Ok-clause-leaves
returns-in-Ok-clause-leaves g c = λ opened e rest. turning_is_safe g.D.Disk opened c.args.self.now e rest refl c.requires.may c.promote.new.disk c.promote.ensures.leaves

pub returns-in-Err-clause-leaves : goal.returns-in-Err-clause-leaves
returns-in-Err-clause-leaves g c = λ opened e rest. turning_is_safe g.D.Disk opened c.args.self.now e rest refl c.requires.may c.promote.new.disk c.promote.ensures.leaves

pub invariant_of-self : goal.invariant_of-self
invariant_of-self g c =
    let file = c.args.self.now in
    let h = file.layout in
    let rule = c.keeps_rules.ensures.rule in
    let laid = c.in-Ok.ensures.layout in
    let was = (g.D.Disk.state file.disk.now).size in
    let size = (g.D.Disk.state c.promote.new.disk).size in
    record {
      stands = λ working. subst (λ (s : Shape). end s s.frames ≤ size) (sym laid) (turned_there h rule c.requires.may.reserved was size c.in-Ok.ensures.size (file.stands c.requires.working));
      placed = omega (arith, file.placed, ap (λ (s : Shape). s.frames) laid);
      write_placed = λ places. omega (arith, file.write_placed refl, ap (λ (s : Shape). s.frames) laid);
      linear = λ places. ap (λ (s : Shape). is_none (fixed_of s.params.codec)) laid ∙ file.linear refl;
      blocks = λ by_place. file.blocks refl ∙ sym (ap (λ (s : Shape). is_adpcm s.params.codec) laid);
      encodes = file.encodes;
      paced = λ encodes. absurd (cc);
      roomy = λ encodes. absurd (cc);
      unwritten = λ encodes. absurd (cc);
      cached = λ reads. absurd (cc);
      room_ends = subst (λ (s : Shape). s.start + room s + 8 ≤ 2 ^ 63) (sym laid) (turned_room h rule c.requires.may.reserved);
      sized = λ writes. ap (λ (s : Shape). s.unknown_length) laid;
      pieces_held = λ reads. absurd (cc);
      headed = λ makes. absurd (cc);
      counted = λ automatic working free other. subst (λ (s : Shape). s.declared ≡ data_bytes s.params s.frames) (sym laid) refl;
      closed = λ automatic working free. subst (λ (s : Shape). closed_end s s.frames ≤ size) (sym laid) (turned_closed h rule c.requires.may.reserved was size c.in-Ok.ensures.size c.requires.may.free);
    }
