-- The state for which the handle of a file of ADPCM stands once it was given more frames.
use Rattle.std.proofs.Common.{◌≡◌, ◌∙◌, ap, sym, subst, refl, ℕ, ℤ, ◌+◌, ◌*◌, ◌/◌, ◌%◌, ◌≤◌, Bool, true, List, All, ◌++◌, Some, length, arith}
use Rattle.std.specs.Global.{Box}
use Rattle.std.proofs.Math.Nat.{div-add-mod}
use Rattle.std.proofs.lemmas.List.{length-append}
use Rattle.std.proofs.lemmas.List.Elements.{All-append}
use Rattle.snd_ima_adpcm.specs.Frames.{Is16Bit}
use Rattle.snd_block_writer.specs.Calls.{TakesMore}
use Rattle.snd_block_writer.specs.Coded.{coded, whole}
use Rattle.snd_block_writer.specs.Writing.{StandsFor, Writing}
use Rattle.snd_block_writer.proofs.Public.{all_are_kept}
use Rattle.snd_disk.specs.State.{State}
use Rattle.snd_disk.specs.declared.disk.Disk.{Ghosts}
use Rattle.snd_layout.specs.Shape.{KeepsRule, Shape, end}
use Rattle.snd_file.specs.declared.handle.File.{File}
use Rattle.snd_edits.specs.declared.mode.Mode.{Ghosts as ModeGhosts}
use Rattle.snd_edits.specs.Editing.{Editing}
use Rattle.snd_edits.specs.Edits.{sealed_where, written_shape}
use Rattle.snd_edits.specs.Encoding.{counting, counting_whole, encoded_shape, encoded_to, known_encoded, over_blocks, whole_frames}
use Rattle.snd_frames.specs.Encoding.{HoldsEncoded}
use Rattle.snd_edits.specs.Known.{Known}
use Rattle.snd_file.specs.Handle.{Stands, disk_of, known_of, writer_of}
use Rattle.snd_edits.specs.WriteCalls.{end_written}
use Rattle.snd_edits.proofs.Public.{blocks_read_where, frames_of, frames_where, frames_whole, given_where, held_where, whole_bytes}
use Rattle.snd_chunks.proofs.Public.{over_stays}

pub record TakesOn {D M : Type 0} {ghosts : Ghosts D} {mode : ModeGhosts M} (state : D → State) (old new : File D M ghosts mode) (xs : List ℤ) (to : ℕ) (w w' : Box Writing) : Type 0 where
  pub encodes : mode.ENCODES ≡ true
  pub writer : writer_of old ≡ Some w
  pub then : writer_of new ≡ Some w'
  pub takes : TakesMore xs w.value w'.value
  pub holds : HoldsEncoded state (known_of old).automatic (known_of old).shape to xs w.value (disk_of old) (disk_of new)
  pub known : known_of new ≡ known_encoded xs (known_of old)
  pub reaches : to ≡ end_written xs (known_of old).shape (known_of old).write_place
  pub even : length xs % (known_of old).shape.params.channels ≡ 0
  pub range : All Is16Bit xs
  pub rule : KeepsRule (counting_whole (known_of old).shape to)
  pub told : (b : List ℕ) → (state (disk_of old)).contents ≡ Some b → (state (disk_of old)).size ≡ length b
  pub told_then : (b : List ℕ) → (state (disk_of new)).contents ≡ Some b → (state (disk_of new)).size ≡ length b
  pub there : end (known_of old).shape (known_of old).shape.frames ≤ (state (disk_of old)).size
  pub there_then : end (known_of old).shape (whole_frames (known_of old).shape.params to) ≤ (state (disk_of new)).size

pub encoded_stands : {D M : Type 0} {ghosts : Ghosts D} {mode : ModeGhosts M} (state : D → State) (old new : File D M ghosts mode) (xs : List ℤ) (to : ℕ) (w w' : Box Writing) → TakesOn state old new xs to w w'
    → (e : Editing) → Stands state old e → Stands state new (encoded_to xs e)
encoded_stands state old new xs to w w' on e stands =
    let h = e.shape in
    let p = e.shape.params in
    let ys = e.given in
    let zs = whole e.shape.params (e.given ++ xs) in
    let given = stands.given on.encodes in
    let form = given.holds.form in
    let reach : end h h.frames ≤ length e.bytes = subst (λ (s : Shape). end s s.frames ≤ length e.bytes) stands.shape (omega (arith, on.told e.bytes stands.bytes, on.there)) in
    let same : over_blocks e.bytes h (whole p ys) ≡ e.bytes =
    over_stays e.bytes h.start (coded p (whole p ys)) (omega (arith, reach, whole_bytes p form ys, ap (λ (n : ℕ). end h n) given.holds.frames)) given.holds.held in
    let before : (state (disk_of old)).contents ≡ Some (over_blocks e.bytes h (whole p ys)) = stands.bytes ∙ ap (λ (l : List ℕ). Some l) (sym same) in
    let auto = (known_of old).automatic in
    let holds = subst (λ (s : Shape). HoldsEncoded state auto s to xs w.value (disk_of old) (disk_of new)) stands.shape on.holds in
    let got = holds ys e.bytes (given.stands w on.writer) before in
    let to_is : to ≡ end_written xs h e.write_place =
    on.reaches ∙ ap (λ (s : Shape). end_written xs s (known_of old).write_place) stands.shape ∙ ap (end_written xs h) stands.write_place in
    let even : length xs % p.channels ≡ 0 = subst (λ (s : Shape). length xs % s.params.channels ≡ 0) stands.shape on.even in
    let count : length (ys ++ xs) ≡ to * p.channels =
    let k = length xs / p.channels in
    let parts : p.channels * k + 0 ≡ length xs = sym (ap (λ (r : ℕ). p.channels * k + r) even) ∙ div-add-mod (length xs) p.channels in
    let turn : p.channels * k ≡ k * p.channels = omega arith in
    let sum : (e.write_place + k) * p.channels ≡ e.write_place * p.channels + k * p.channels = omega arith in
    omega (arith, length-append ys xs, given.holds.whole, parts, turn, sum, ap (λ (n : ℕ). n * p.channels) to_is) in
    let n_is : whole_frames p to ≡ length zs / p.channels = sym (frames_whole p form (ys ++ xs) ∙ ap (whole_frames p) (frames_of p form (ys ++ xs) to count)) in
    let bytes : (state (disk_of new)).contents ≡ Some (sealed_where e.automatic (over_blocks e.bytes h zs) (counting h zs) (length zs / p.channels)) =
    got ∙ ap (λ (n : ℕ). Some (sealed_where auto (over_blocks e.bytes h zs) (record h { frames = n }) n)) n_is
    ∙ ap (λ (t : Bool). Some (sealed_where t (over_blocks e.bytes h zs) (counting h zs) (length zs / p.channels))) stands.automatic in
    let shape : (known_of new).shape ≡ written_shape e.automatic (counting h zs) (length zs / p.channels) =
    ap (λ (k : Known). k.shape) on.known
    ∙ ap (λ (n : ℕ). encoded_shape auto (known_of old).shape n) (sym on.reaches)
    ∙ ap (λ (s : Shape). encoded_shape auto s to) stands.shape
    ∙ ap (λ (n : ℕ). written_shape auto (record h { frames = n }) n) n_is
    ∙ ap (λ (t : Bool). written_shape t (counting h zs) (length zs / p.channels)) stands.automatic in
    let rule : KeepsRule (counting h zs) = subst (λ (n : ℕ). KeepsRule (record h { frames = n })) n_is (subst (λ (s : Shape). KeepsRule (counting_whole s to)) stands.shape on.rule) in
    let x = sealed_where e.automatic (over_blocks e.bytes h zs) (counting h zs) (length zs / p.channels) in
    let long : end h (whole_frames p to) ≤ length x = subst (λ (s : Shape). end s (whole_frames s.params to) ≤ length x) stands.shape (omega (arith, on.told_then x bytes, on.there_then)) in
    record {
      bytes = bytes;
      shape = shape;
      place = ap (λ (k : Known). k.place) on.known ∙ stands.place;
      write_place = ap (λ (k : Known). k.write_place) on.known ∙ sym on.reaches ∙ to_is;
      automatic = ap (λ (k : Known). k.automatic) on.known ∙ stands.automatic;
      written = ap (λ (k : Known). k.written) on.known;
      sound = blocks_read_where h form e.bytes (ys ++ xs) e.automatic (whole_frames p to) x rule n_is refl long;
      count = frames_where e.automatic (counting h zs) (length zs / p.channels) ∙ sym (all_are_kept p zs form);
      none_given = λ no. absurd (let yes = on.encodes in cc);
      given = λ encodes. given_where e.automatic (writer_of new) (ys ++ xs) x (counting h zs) (length zs / p.channels) (end_written xs h e.write_place) refl (record {
        holds = record {
          form = form;
          range = All-append Is16Bit ys xs given.holds.range on.range;
          whole = count ∙ ap (λ (n : ℕ). n * p.channels) to_is;
          frames = refl;
          held = held_where h form e.bytes (ys ++ xs) e.automatic rule;
        };
        stands = λ v is. let one : v ≡ w' = some_same v w' (sym is ∙ on.then) in subst (λ (u : Box Writing). StandsFor u.value p (ys ++ xs)) (sym one) (on.takes p ys (given.stands w on.writer));
      });
    }
  where
    some_same : (v u : Box Writing) → Some v ≡ Some u → v ≡ u
    some_same v u is = cc
