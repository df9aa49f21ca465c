use Rattle.std.proofs.Common.{rules, ◌≡◌, ◌∙◌, ap, sym, subst, inl, inr, ℕ, ◌≤◌, true, false, List, [], Ok, Some, length, arith}
use Rattle.std.specs.Prelude.{is_none, is_some}
use Rattle.std.proofs.lemmas.Bool.{cases_Bool, cases_lt}
use Rattle.snd_container.specs.Put.{HoldsHead}
use Rattle.snd_container.specs.Sound.{fixed_of, layout_of}
use Rattle.snd_layout.specs.Blocks.{is_adpcm}
use Rattle.snd_layout.specs.Params.{AreParams, Parameters}
use Rattle.snd_layout.specs.Shape.{KeepsRule, Shape, end}
use Rattle.snd_chunks.specs.Heads.{new_piece, with_piece}
use Rattle.snd_file.specs.Handle.{known_of}
use Rattle.snd_layout.specs.Kinds.{holds_pieces}
use Rattle.snd_edits.specs.Relaid.{pieces_held, put_to, shape_put}
use Rattle.snd_edits.proofs.Public.{begins_again, blocks_of, given_anew, no_sound, nothing_given, pace_anew, place_anew, some_told}
use Rattle.snd_file.proofs.KindHeads.{bare_head, head_opens, head_same, may_be_put, put_head, told_head}
use Rattle.snd_file.proofs.handle.File.put_wanted.Goals as goal

pub put_ruled-requires-clause-head : goal.put_ruled-requires-clause-head
put_ruled-requires-clause-head g c =
    let state = g.D.Disk.state in
    let file = c.args.self.now in
    let may = c.in_ok-may_put.ensures.may in
    let holds = c.requires.held may.held in
    let head = file.headed g.met.M.CanMake.makes may.untouched.empty may.untouched.working holds in
    told_head (state file.disk.now) file.layout holds head

pub put_ruled-requires-clause-few : goal.put_ruled-requires-clause-few
put_ruled-requires-clause-few g c =
    let state = g.D.Disk.state in
    let file = c.args.self.now in
    let may = c.in_ok-may_put.ensures.may in
    let holds = c.requires.held may.held in
    let head = file.headed g.met.M.CanMake.makes may.untouched.empty may.untouched.working holds in
    let was = bare_head (state file.disk.now) file.layout holds c.keeps_rules.ensures.rule head in
    elim (cases_lt c.args.wanted.place (length file.layout.pieces)) [
      | inl less ↦ omega (arith, less, was.few)
      | inr more ↦ may.few (omega (arith, more, c.requires.place))
    ]

pub put_ruled-requires-clause-may : goal.put_ruled-requires-clause-may
put_ruled-requires-clause-may g c =
    let state = g.D.Disk.state in
    let file = c.args.self.now in
    let may = c.in_ok-may_put.ensures.may in
    let holds = c.requires.held may.held in
    let four : length c.args.id.0 ≡ 4 = search rules in
    may_be_put file.layout.kind c.args.id.0 c.args.body.now holds (c.requires.other may.free) four (omega (arith, c.requires.len, may.small))

pub invariant_of-self-clause-stands : goal.invariant_of-self-clause-stands
invariant_of-self-clause-stands g c = λ working.
    let state = g.D.Disk.state in
    let file = c.args.self.now in
    let may = c.in_ok-may_put.ensures.may in
    let holds = c.requires.held may.held in
    let head = file.headed g.met.M.CanMake.makes may.untouched.empty may.untouched.working holds in
    let put = put_head (state file.disk.now) (state c.put_ruled.new.disk) file.layout c.put_ruled.new.layout c.args.wanted.place (new_piece c.args.id.0 c.args.body.now) holds (told_head (state file.disk.now) file.layout holds head) c.in-Ok.ensures.put in
    let bare = bare_head (state c.put_ruled.new.disk) c.put_ruled.new.layout (ap holds_pieces put.kind ∙ holds) c.in-Ok.ensures.rule ∣ c.in-Ok.ensures.head ∣₁ in
    let ends : end c.put_ruled.new.layout c.put_ruled.new.layout.frames ≡ (state c.put_ruled.new.disk).size = ap (end c.put_ruled.new.layout) bare.frames ∙ bare.ends in
    omega (arith, ends)

pub invariant_of-self-clause-placed : goal.invariant_of-self-clause-placed
invariant_of-self-clause-placed g c =
    let state = g.D.Disk.state in
    let file = c.args.self.now in
    let may = c.in_ok-may_put.ensures.may in
    let holds = c.requires.held may.held in
    let head = file.headed g.met.M.CanMake.makes may.untouched.empty may.untouched.working holds in
    let was = bare_head (state file.disk.now) file.layout holds c.keeps_rules.ensures.rule head in
    omega (arith, file.placed, was.frames)

pub invariant_of-self-clause-write_placed : goal.invariant_of-self-clause-write_placed
invariant_of-self-clause-write_placed g c = λ places.
    let state = g.D.Disk.state in
    let file = c.args.self.now in
    let may = c.in_ok-may_put.ensures.may in
    let holds = c.requires.held may.held in
    let head = file.headed g.met.M.CanMake.makes may.untouched.empty may.untouched.working holds in
    let was = bare_head (state file.disk.now) file.layout holds c.keeps_rules.ensures.rule head in
    omega (arith, file.write_placed places, was.frames)

pub invariant_of-self-clause-linear : goal.invariant_of-self-clause-linear
invariant_of-self-clause-linear g c = λ places.
    let state = g.D.Disk.state in
    let file = c.args.self.now in
    let may = c.in_ok-may_put.ensures.may in
    let holds = c.requires.held may.held in
    let head = file.headed g.met.M.CanMake.makes may.untouched.empty may.untouched.working holds in
    let put = put_head (state file.disk.now) (state c.put_ruled.new.disk) file.layout c.put_ruled.new.layout c.args.wanted.place (new_piece c.args.id.0 c.args.body.now) holds (told_head (state file.disk.now) file.layout holds head) c.in-Ok.ensures.put in
    ap (λ (p : Parameters). is_none (fixed_of p.codec)) put.params ∙ file.linear places

pub invariant_of-self-clause-blocks : goal.invariant_of-self-clause-blocks
invariant_of-self-clause-blocks g c = λ by_place.
    let state = g.D.Disk.state in
    let file = c.args.self.now in
    let may = c.in_ok-may_put.ensures.may in
    let holds = c.requires.held may.held in
    let head = file.headed g.met.M.CanMake.makes may.untouched.empty may.untouched.working holds in
    let put = put_head (state file.disk.now) (state c.put_ruled.new.disk) file.layout c.put_ruled.new.layout c.args.wanted.place (new_piece c.args.id.0 c.args.body.now) holds (told_head (state file.disk.now) file.layout holds head) c.in-Ok.ensures.put in
    file.blocks by_place ∙ sym (ap (λ (p : Parameters). is_adpcm p.codec) put.params)

pub invariant_of-self-clause-room_ends : goal.invariant_of-self-clause-room_ends
invariant_of-self-clause-room_ends g c =
    let state = g.D.Disk.state in
    let file = c.args.self.now in
    let may = c.in_ok-may_put.ensures.may in
    let holds = c.requires.held may.held in
    let head = file.headed g.met.M.CanMake.makes may.untouched.empty may.untouched.working holds in
    let put = put_head (state file.disk.now) (state c.put_ruled.new.disk) file.layout c.put_ruled.new.layout c.args.wanted.place (new_piece c.args.id.0 c.args.body.now) holds (told_head (state file.disk.now) file.layout holds head) c.in-Ok.ensures.put in
    let bare = bare_head (state c.put_ruled.new.disk) c.put_ruled.new.layout (ap holds_pieces put.kind ∙ holds) c.in-Ok.ensures.rule ∣ c.in-Ok.ensures.head ∣₁ in
    bare.room_ends

pub invariant_of-self-clause-sized : goal.invariant_of-self-clause-sized
invariant_of-self-clause-sized g c = λ writes.
    let state = g.D.Disk.state in
    let file = c.args.self.now in
    let may = c.in_ok-may_put.ensures.may in
    let holds = c.requires.held may.held in
    let head = file.headed g.met.M.CanMake.makes may.untouched.empty may.untouched.working holds in
    let put = put_head (state file.disk.now) (state c.put_ruled.new.disk) file.layout c.put_ruled.new.layout c.args.wanted.place (new_piece c.args.id.0 c.args.body.now) holds (told_head (state file.disk.now) file.layout holds head) c.in-Ok.ensures.put in
    let bare = bare_head (state c.put_ruled.new.disk) c.put_ruled.new.layout (ap holds_pieces put.kind ∙ holds) c.in-Ok.ensures.rule ∣ c.in-Ok.ensures.head ∣₁ in
    bare.known

pub invariant_of-self-clause-counted : goal.invariant_of-self-clause-counted
invariant_of-self-clause-counted g c = λ automatic. let by_hand = c.in_ok-may_put.ensures.may.untouched.by_hand in absurd (cc)

pub invariant_of-self-clause-closed : goal.invariant_of-self-clause-closed
invariant_of-self-clause-closed g c = λ automatic. let by_hand = c.in_ok-may_put.ensures.may.untouched.by_hand in absurd (cc)

pub invariant_of-self-clause-headed : goal.invariant_of-self-clause-headed
invariant_of-self-clause-headed g c = λ makes empty working holds. ∣ c.in-Ok.ensures.head ∣₁

pub invariant_of-self-in-Err-Memory-clause-headed : goal.invariant_of-self-in-Err-Memory-clause-headed
invariant_of-self-in-Err-Memory-clause-headed g c = λ makes empty working holds.
    let state = g.D.Disk.state in
    let file = c.args.self.now in
    let keeps = (c.in-Err-Memory.ensures.unchanged c.in-Err-Memory.field-0-is).keeps in
    let same : c.put_ruled.new.layout ≡ file.layout = c.in-Err-Memory.ensures.kept in
    let held : holds_pieces file.layout.kind ≡ true = sym (ap (λ (s : Shape). holds_pieces s.kind) same) ∙ holds in
    subst (λ (s : Shape). ∥ HoldsHead (state c.put_ruled.new.disk) s ∥₁) (sym same)
    (head_same (state file.disk.now) (state c.put_ruled.new.disk) file.layout held keeps.size keeps.contents (file.headed makes empty working held))

pub returns-in-Ok-clause-left : goal.returns-in-Ok-clause-left
returns-in-Ok-clause-left g c =
    let state = g.D.Disk.state in
    let file = c.args.self.now in
    let may = c.in_ok-may_put.ensures.may in
    let holds = c.requires.held may.held in
    let head = file.headed g.met.M.CanMake.makes may.untouched.empty may.untouched.working holds in
    let put = put_head (state file.disk.now) (state c.put_ruled.new.disk) file.layout c.put_ruled.new.layout c.args.wanted.place (new_piece c.args.id.0 c.args.body.now) holds (told_head (state file.disk.now) file.layout holds head) c.in-Ok.ensures.put in
    (may, ap (λ (s : Shape). record (known_of file) { shape = s }) put.shape)

pub returns-in-Ok-clause-stands : goal.returns-in-Ok-clause-stands
returns-in-Ok-clause-stands g c = λ e stands.
    let state = g.D.Disk.state in
    let file = c.args.self.now in
    let may = c.in_ok-may_put.ensures.may in
    let holds = c.requires.held may.held in
    let head = file.headed g.met.M.CanMake.makes may.untouched.empty may.untouched.working holds in
    let was = bare_head (state file.disk.now) file.layout holds c.keeps_rules.ensures.rule head in
    let put = put_head (state file.disk.now) (state c.put_ruled.new.disk) file.layout c.put_ruled.new.layout c.args.wanted.place (new_piece c.args.id.0 c.args.body.now) holds (told_head (state file.disk.now) file.layout holds head) c.in-Ok.ensures.put in
    let bare = bare_head (state c.put_ruled.new.disk) c.put_ruled.new.layout (ap holds_pieces put.kind ∙ holds) c.in-Ok.ensures.rule ∣ c.in-Ok.ensures.head ∣₁ in
    let h = c.put_ruled.new.layout in
    let place = c.args.wanted.place in
    let piece = new_piece c.args.id.0 c.args.body.now in
    let after = put_to place piece e in
    let some = some_told (state c.put_ruled.new.disk).contents (c.in-Ok.ensures.tells.told ∙ ap is_some stands.bytes) in
    let laid : (put_to place piece (record e { shape = file.layout })).bytes ≡ after.bytes = ap (λ (s : Shape). (put_to place piece (record e { shape = s })).bytes) stands.shape in
    let bytes : (state c.put_ruled.new.disk).contents ≡ Some after.bytes = some.1 ∙ ap (λ (l : List ℕ). Some l) (put.bytes e.bytes some.0 stands.bytes some.1 ∙ laid) in
    let shape : h ≡ after.shape = put.shape ∙ ap (shape_put place piece) stands.shape in
    let size = g.met.D.Disk.size_told c.put_ruled.new.disk after.bytes bytes in
    let ends : end h h.frames ≡ (state c.put_ruled.new.disk).size = ap (end h) bare.frames ∙ bare.ends in
    let none : length e.frames ≡ 0 = omega (arith, stands.count, was.frames, ap (λ (s : Shape). s.frames) stands.shape) in
    let again = subst (λ (s : Shape). KeepsRule s) shape c.in-Ok.ensures.rule in
    let good = subst (λ (s : Shape). AreParams s.params) shape c.in-Ok.ensures.params in
    record {
      bytes = bytes;
      shape = shape;
      place = stands.place;
      write_place = stands.write_place;
      automatic = stands.automatic;
      written = stands.written;
      sound = no_sound after.bytes after.shape e.frames again good (subst (λ (s : Shape). s.frames ≡ 0) shape bare.frames) (subst (λ (s : Shape). end s s.frames ≤ length after.bytes) shape (omega (arith, ends, size))) none;
      count = omega (arith, none, subst (λ (s : Shape). s.frames ≡ 0) shape bare.frames);
      none_given = stands.none_given;
      given = λ encodes.
          let was_given = stands.given encodes in
          let first : e.write_place ≡ 0 = sym stands.write_place ∙ file.unwritten encodes may.untouched.empty in
          let params : after.shape.params ≡ e.shape.params = sym (ap (λ (s : Shape). s.params) shape) ∙ put.params ∙ ap (λ (s : Shape). s.params) stands.shape in
          given_anew file.writer e.given e.bytes after.bytes e.shape after.shape e.write_place was_given first params (subst (λ (s : Shape). s.frames ≡ 0) shape bare.frames);
    }

pub returns-in-Ok-clause-holds : goal.returns-in-Ok-clause-holds
returns-in-Ok-clause-holds g c = λ e e' was is.
    let state = g.D.Disk.state in
    let file = c.args.self.now in
    let may = c.in_ok-may_put.ensures.may in
    let holds = c.requires.held may.held in
    let head = file.headed g.met.M.CanMake.makes may.untouched.empty may.untouched.working holds in
    let place = c.args.wanted.place in
    let piece = new_piece c.args.id.0 c.args.body.now in
    let put = put_head (state file.disk.now) (state c.put_ruled.new.disk) file.layout c.put_ruled.new.layout place piece holds (told_head (state file.disk.now) file.layout holds head) c.in-Ok.ensures.put in
    subst (λ (s : Shape). pieces_held (record e' { shape = s }) ≡ with_piece (pieces_held e) place piece) is.shape
    (put.held e.bytes e'.bytes was.bytes is.bytes ∙ ap (λ (s : Shape). with_piece (pieces_held (record e { shape = s })) place piece) was.shape)

pub returns-in-Ok-clause-begins : goal.returns-in-Ok-clause-begins
returns-in-Ok-clause-begins g c = λ e is.
    let state = g.D.Disk.state in
    let file = c.args.self.now in
    let may = c.in_ok-may_put.ensures.may in
    let holds = c.requires.held may.held in
    let head = file.headed g.met.M.CanMake.makes may.untouched.empty may.untouched.working holds in
    let was = bare_head (state file.disk.now) file.layout holds c.keeps_rules.ensures.rule head in
    let h = c.put_ruled.new.layout in
    let put = put_head (state file.disk.now) (state c.put_ruled.new.disk) file.layout h c.args.wanted.place (new_piece c.args.id.0 c.args.body.now) holds (told_head (state file.disk.now) file.layout holds head) c.in-Ok.ensures.put in
    let held = ap holds_pieces put.kind ∙ holds in
    let bare = bare_head (state c.put_ruled.new.disk) h held c.in-Ok.ensures.rule ∣ c.in-Ok.ensures.head ∣₁ in
    let opened : layout_of e.bytes ≡ Ok h = head_opens (state c.put_ruled.new.disk) h e.bytes held c.in-Ok.ensures.head is.bytes in
    let linear : g.M.Mode.ENCODES ≡ false → is_none (fixed_of e.shape.params.codec) ≡ false =
    λ by_place. subst (λ (s : Shape). is_none (fixed_of s.params.codec) ≡ false) is.shape (ap (λ (p : Parameters). is_none (fixed_of p.codec)) put.params ∙ file.linear (g.M.Mode.ways g.met.M.CanMake.writes by_place)) in
    let first : file.write_place ≡ 0 = elim (cases_Bool g.M.Mode.ENCODES) [
      | inl encodes ↦ file.unwritten encodes may.untouched.empty
      | inr by_place ↦ omega (arith, file.write_placed (g.M.Mode.ways g.met.M.CanMake.writes by_place), was.frames)
    ] in
    let write_place : e.write_place ≡ 0 = sym is.write_place ∙ first in
    let none : e.given ≡ [] = elim (cases_Bool g.M.Mode.ENCODES) [
      | inl encodes ↦ nothing_given _ e.given e.bytes e.shape e.write_place (is.given encodes) write_place
      | inr by_place ↦ is.none_given by_place
    ] in
    begins_again g.M.Mode.ENCODES e (subst (λ (s : Shape). layout_of e.bytes ≡ Ok s) is.shape opened) (subst (λ (s : Shape). s.unknown_length ≡ false) is.shape bare.known) linear
    (record {
      frames = is.sound;
      place = omega (arith, file.placed, was.frames, is.place);
      write_place = write_place;
      automatic = sym is.automatic ∙ may.untouched.by_hand;
      written = sym is.written ∙ may.untouched.empty;
      given = none;
    })

pub invariant_of-self-clause-roomy : goal.invariant_of-self-clause-roomy
invariant_of-self-clause-roomy g c = λ encodes.
    let state = g.D.Disk.state in
    let file = c.args.self.now in
    let may = c.in_ok-may_put.ensures.may in
    let holds = c.requires.held may.held in
    let head = file.headed g.met.M.CanMake.makes may.untouched.empty may.untouched.working holds in
    let put = put_head (state file.disk.now) (state c.put_ruled.new.disk) file.layout c.put_ruled.new.layout c.args.wanted.place (new_piece c.args.id.0 c.args.body.now) holds (told_head (state file.disk.now) file.layout holds head) c.in-Ok.ensures.put in
    let bare = bare_head (state c.put_ruled.new.disk) c.put_ruled.new.layout (ap holds_pieces put.kind ∙ holds) c.in-Ok.ensures.rule ∣ c.in-Ok.ensures.head ∣₁ in
    place_anew file.layout c.put_ruled.new.layout file.write_place (blocks_of file.layout c.keeps_rules.ensures.rule (file.roomy encodes).blocks c.keeps_rules.ensures.params).some_frames (file.roomy encodes) put.params (file.unwritten encodes may.untouched.empty) bare.free

pub invariant_of-self-clause-paced : goal.invariant_of-self-clause-paced
invariant_of-self-clause-paced g c = λ encodes working.
    let state = g.D.Disk.state in
    let file = c.args.self.now in
    let may = c.in_ok-may_put.ensures.may in
    let holds = c.requires.held may.held in
    let head = file.headed g.met.M.CanMake.makes may.untouched.empty may.untouched.working holds in
    let was = bare_head (state file.disk.now) file.layout holds c.keeps_rules.ensures.rule head in
    let put = put_head (state file.disk.now) (state c.put_ruled.new.disk) file.layout c.put_ruled.new.layout c.args.wanted.place (new_piece c.args.id.0 c.args.body.now) holds (told_head (state file.disk.now) file.layout holds head) c.in-Ok.ensures.put in
    let bare = bare_head (state c.put_ruled.new.disk) c.put_ruled.new.layout (ap holds_pieces put.kind ∙ holds) c.in-Ok.ensures.rule ∣ c.in-Ok.ensures.head ∣₁ in
    pace_anew file.layout c.put_ruled.new.layout file.write_place file.writer (file.paced encodes may.untouched.working) put.params (bare.frames ∙ sym was.frames)
