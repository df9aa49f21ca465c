use Rattle.std.proofs.Common.{◌≡◌, ◌∙◌, ap, sym, subst, inl, inr, ℕ, ◌≤◌, false, List, [], Ok, Some, option_map, length, arith}
use Rattle.std.specs.Prelude.{is_none}
use Rattle.std.proofs.lemmas.Bool.{cases_Bool}
use Rattle.snd_container.specs.Put.{heads_for}
use Rattle.snd_container.specs.Sound.{fixed_of, layout_of}
use Rattle.snd_layout.specs.Blocks.{is_adpcm}
use Rattle.snd_layout.specs.Params.{AreParams, Parameters}
use Rattle.snd_layout.specs.Shape.{KeepsRule, Shape, end}
use Rattle.snd_layout.specs.declared.kind.Kind.TheVariants.{Wave}
use Rattle.snd_edits.proofs.Public.{begins_again, no_sound}
use Rattle.snd_file.proofs.KindHeads.{bare_head, head_opens}
use Rattle.snd_file.proofs.Reserved.{bare_head_is, bare_then, head_then, holds_some, holds_then, params_then}
use Rattle.snd_reservations.proofs.Public.{place_is}
use Rattle.snd_file.specs.Handle.{known_of}
use Rattle.snd_reservations.specs.States.{reserved_shape, reserved_to}
use Rattle.snd_file.proofs.handle.File.lay_anew.Goals as goal

pub lay_ruled-requires-clause-head : goal.lay_ruled-requires-clause-head
lay_ruled-requires-clause-head g c =
    let file = c.args.self.now in
    bare_head_is (g.D.Disk.state file.disk.now) file.layout (place_is file.layout c.requires.1) (file.headed g.met.M.CanMake.makes c.requires.0.empty c.requires.0.working)

pub invariant_of-self : goal.invariant_of-self
invariant_of-self g c =
    let file = c.args.self.now in
    let state = g.D.Disk.state in
    let h = file.layout in
    let h' = c.lay_ruled.new.layout in
    let place = place_is h c.requires.1 in
    let has = file.headed g.met.M.CanMake.makes c.requires.0.empty c.requires.0.working in
    let holds = holds_some (state file.disk.now) h place has in
    let was = bare_head (state file.disk.now) h holds c.keeps_rules.ensures.rule (has holds) in
    let laid = c.in-Ok.ensures.layout in
    let bare = bare_then (state c.lay_ruled.new.disk) h h' laid c.in-Ok.ensures.rule c.in-Ok.ensures.head in
    let params = params_then (state c.lay_ruled.new.disk) h h' laid c.in-Ok.ensures.rule c.in-Ok.ensures.head in
    let ends : end h' h'.frames ≡ (state c.lay_ruled.new.disk).size = ap (end h') bare.frames ∙ bare.ends in
    record {
      stands = λ working. omega (arith, ends);
      placed = omega (arith, file.placed, was.frames);
      write_placed = λ places. omega (arith, file.write_placed places, was.frames);
      linear = λ places. ap (λ (p : Parameters). is_none (fixed_of p.codec)) params ∙ file.linear places;
      blocks = λ by_place. file.blocks by_place ∙ sym (ap (λ (p : Parameters). is_adpcm p.codec) params);
      encodes = file.encodes;
      paced = λ encodes. absurd (let blocks = (file.roomy encodes).blocks in let fixed = place.fixed in cc);
      roomy = λ encodes. absurd (let blocks = (file.roomy encodes).blocks in let fixed = place.fixed in cc);
      unwritten = λ encodes. file.unwritten encodes;
      cached = λ reads. absurd (let writes = g.met.M.CanMake.writes in cc);
      room_ends = bare.room_ends;
      sized = λ writes. bare.known;
      pieces_held = λ reads. absurd (let writes = g.met.M.CanMake.writes in cc);
      headed = λ makes empty working holds. ∣ head_then (state c.lay_ruled.new.disk) h h' laid c.in-Ok.ensures.rule c.in-Ok.ensures.head ∣₁;
      counted = λ automatic. absurd (let by_hand = c.requires.0.by_hand in cc);
      closed = λ automatic. absurd (let by_hand = c.requires.0.by_hand in cc);
    }

pub returns-in-Ok-clause-left : goal.returns-in-Ok-clause-left
returns-in-Ok-clause-left g c = ap (λ (s : Shape). record (known_of c.args.self.now) { shape = s }) c.in-Ok.ensures.layout

pub returns-in-Ok-clause-stands : goal.returns-in-Ok-clause-stands
returns-in-Ok-clause-stands g c = λ e stands.
    let file = c.args.self.now in
    let state = g.D.Disk.state in
    let h = file.layout in
    let h' = c.lay_ruled.new.layout in
    let place = place_is h c.requires.1 in
    let has = file.headed g.met.M.CanMake.makes c.requires.0.empty c.requires.0.working in
    let holds = holds_some (state file.disk.now) h place has in
    let was = bare_head (state file.disk.now) h holds c.keeps_rules.ensures.rule (has holds) in
    let laid = c.in-Ok.ensures.layout in
    let bare = bare_then (state c.lay_ruled.new.disk) h h' laid c.in-Ok.ensures.rule c.in-Ok.ensures.head in
    let after = reserved_to e in
    let bytes : (state c.lay_ruled.new.disk).contents ≡ Some after.bytes =
    c.in-Ok.ensures.laid.contents ∙ ap (option_map (λ (b : List ℕ). (heads_for (Some 28) Wave).head h.params [])) stands.bytes
    ∙ ap (λ (s : Shape). Some ((heads_for (Some 28) Wave).head s.params [])) stands.shape in
    let shape : h' ≡ after.shape = laid ∙ ap reserved_shape stands.shape in
    let size = g.met.D.Disk.size_told c.lay_ruled.new.disk after.bytes bytes in
    let ends : end h' h'.frames ≡ (state c.lay_ruled.new.disk).size = ap (end h') bare.frames ∙ bare.ends in
    let none : length e.frames ≡ 0 = omega (arith, stands.count, was.frames, ap (λ (s : Shape). s.frames) stands.shape) in
    record {
      bytes = bytes;
      shape = shape;
      place = stands.place;
      write_place = stands.write_place;
      automatic = stands.automatic;
      written = stands.written;
      sound = no_sound after.bytes after.shape e.frames (subst KeepsRule shape c.in-Ok.ensures.rule) (subst (λ (s : Shape). AreParams s.params) shape c.in-Ok.ensures.params)
          (subst (λ (s : Shape). s.frames ≡ 0) shape bare.frames) (subst (λ (s : Shape). end s s.frames ≤ length after.bytes) shape (omega (arith, ends, size))) none;
      count = omega (arith, none, subst (λ (s : Shape). s.frames ≡ 0) shape bare.frames);
      none_given = stands.none_given;
      given = λ encodes. absurd (let blocks = (file.roomy encodes).blocks in let fixed = place.fixed in cc);
    }

pub returns-in-Ok-clause-begins : goal.returns-in-Ok-clause-begins
returns-in-Ok-clause-begins g c = λ e is.
    let file = c.args.self.now in
    let state = g.D.Disk.state in
    let h = file.layout in
    let h' = c.lay_ruled.new.layout in
    let place = place_is h c.requires.1 in
    let has = file.headed g.met.M.CanMake.makes c.requires.0.empty c.requires.0.working in
    let holds = holds_some (state file.disk.now) h place has in
    let was = bare_head (state file.disk.now) h holds c.keeps_rules.ensures.rule (has holds) in
    let laid = c.in-Ok.ensures.layout in
    let then = head_then (state c.lay_ruled.new.disk) h h' laid c.in-Ok.ensures.rule c.in-Ok.ensures.head in
    let held = holds_then (state c.lay_ruled.new.disk) h h' laid c.in-Ok.ensures.rule c.in-Ok.ensures.head in
    let bare = bare_then (state c.lay_ruled.new.disk) h h' laid c.in-Ok.ensures.rule c.in-Ok.ensures.head in
    let params = params_then (state c.lay_ruled.new.disk) h h' laid c.in-Ok.ensures.rule c.in-Ok.ensures.head in
    let opened : layout_of e.bytes ≡ Ok h' = head_opens (state c.lay_ruled.new.disk) h' e.bytes held then is.bytes in
    let encodes_not : g.M.Mode.ENCODES ≡ false = elim (cases_Bool g.M.Mode.ENCODES) [
      | inl encodes ↦ absurd (let blocks = (file.roomy encodes).blocks in let fixed = place.fixed in cc)
      | inr by_place ↦ by_place
    ] in
    let places = g.M.Mode.ways g.met.M.CanMake.writes encodes_not in
    let linear : is_none (fixed_of e.shape.params.codec) ≡ false =
    subst (λ (s : Shape). is_none (fixed_of s.params.codec) ≡ false) is.shape (ap (λ (p : Parameters). is_none (fixed_of p.codec)) params ∙ file.linear places) in
    begins_again g.M.Mode.ENCODES e (subst (λ (s : Shape). layout_of e.bytes ≡ Ok s) is.shape opened) (subst (λ (s : Shape). s.unknown_length ≡ false) is.shape bare.known) (λ by_place. linear)
    (record {
      frames = is.sound;
      place = omega (arith, file.placed, was.frames, is.place);
      write_place = omega (arith, file.write_placed places, was.frames, is.write_place);
      automatic = sym is.automatic ∙ c.requires.0.by_hand;
      written = sym is.written ∙ c.requires.0.empty;
      given = is.none_given encodes_not;
    })
