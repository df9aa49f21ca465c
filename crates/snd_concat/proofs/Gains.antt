-- A file that is being made and gains the numbers of others.
use Rattle.std.proofs.Common.{◌≡◌, ℕ, ◌+◌, ℤ, List, ◌++◌, drop, ◌∙◌, ap, sym, subst, append_assoc, Result, Err, arith}
use Rattle.std.proofs.lemmas.Bool.{and_parts, eqb-true}
use Rattle.snd_disk.specs.declared.disk.Disk.{Ghosts}
use Rattle.snd_disk.specs.State.{State}
use Rattle.snd_inputs.proofs.Public.{has_room}
use Rattle.snd_inputs.specs.Opening.{IsUnread}
use Rattle.snd_layout.specs.Shape.{Shape, room}
use Rattle.snd_file.specs.declared.handle.File.{File}
use Rattle.snd_edits.specs.declared.mode.Mode.{Ghosts as ModeGhosts}
use Rattle.snd_edits.specs.Editing.{Editing}
use Rattle.snd_edits.specs.Known.{Known}
use Rattle.snd_file.specs.Handle.{Stands, codec_of}
use Rattle.snd_output.proofs.Public.{at_end_then}
use Rattle.snd_output.specs.Appended.{AppendLeaves, CountsEither, Gains, HasRoom, IsAtEnd, IsLonger, Lengthens, MayAppend, left_in, numbers_left}
use Rattle.snd_output.specs.Made.{IsMaking}
use Rattle.snd_output.specs.Widths.{change_numbers, joined}
use Rattle.snd_output.specs.declared.stop.Stop.{Stop}
use Rattle.snd_output.specs.declared.stop.Stop.TheVariants.{Changed, Fault, Memory}
use Rattle.snd_concat.specs.Appending.{Follows, MadeUnlessFault, StillMade}
use Rattle.snd_concat.specs.Concat.{numbers_for}

-- ---- what is known of it

-- the frames of a file that is unread and may follow may be put there
pub may_append : (from to : Known) → IsUnread from → IsAtEnd to → Follows from.shape to → MayAppend from to
may_append from to unread at_end follows =
    let has = has_room to.shape.kind to.shape.params (room to.shape) (to.write_place + from.shape.frames) follows.in_room in
    let all : from.shape.frames ≡ left_in from = omega (arith, unread.first) in
    record {
      working = unread.working;
      at_end = at_end;
      alike = sym (eqb-true to.shape.params.channels from.shape.params.channels (and_parts _ _ follows.alike).0);
      in_room = subst (λ (n : ℕ). HasRoom n to) all (record { in_room = has.0; few = has.1 });
    }

pub made_longer : (n : ℕ) (to to' : Known) → IsAtEnd to → IsLonger n to to' → StillMade to to'
made_longer n to to' at_end is = (at_end_then n to to' at_end is, is.shape)

pub made_then : (a b c : Known) → StillMade a b → StillMade b c → StillMade a c
made_then a b c first second = (second.0, second.1 ∙ ap (λ (h : Shape). record h { frames = c.shape.frames }) first.1)

-- .. where frames were not put there
pub made_unless : {T : Type 0} (n : ℕ) (from from' to to' : Known) (a b c e : ℕ) (stop : Stop) (result : Result T Stop) → result ≡ Err stop → AppendLeaves {T = T} n from from' to to' (Err stop)
    → CountsEither {T = T} a b c e (Err stop) → MadeUnlessFault to to' result
made_unless n from from' to to' a b c e Fault result is left counts = subst (MadeUnlessFault to to') (sym is) tt
made_unless n from from' to to' a b c e Memory result is left counts = absurd counts
made_unless n from from' to to' a b c e Changed result is left counts = subst (MadeUnlessFault to to') (sym is) left.2

pub made_later : {T : Type 0} (first to to' : Known) (stop : Stop) (result : Result T Stop) → result ≡ Err stop → StillMade first to → MadeUnlessFault {T = T} to to' (Err stop) → MadeUnlessFault first to' result
made_later first to to' Fault result is before made = subst (MadeUnlessFault first to') (sym is) tt
made_later first to to' Memory result is before made = subst (MadeUnlessFault first to') (sym is) (made_then first to to' before made)
made_later first to to' Changed result is before made = subst (MadeUnlessFault first to') (sym is) made

-- ---- what it holds

module _ {E N : Type 0} {t : Ghosts E} {n : ModeGhosts N} (state' : E → State) where
  pub gains_then : (first second : List ℤ) (a b c : File E N t n) → Gains state' first a b → Gains state' second b c → Gains state' (first ++ second) a c
  gains_then first second a b c one two = λ kind p pieces xs e stands making.
      let mid = one kind p pieces xs e stands making in
      let last = two kind p pieces (xs ++ first) mid.0 mid.1 mid.2 in
      (last.0, last.1, subst (λ (l : List ℤ). IsMaking kind p pieces l last.0) (append_assoc xs first second) last.2)

  pub gains_same : (numbers numbers' : List ℤ) (a b : File E N t n) → numbers ≡ numbers' → Gains state' numbers a b → Gains state' numbers' a b
  gains_same numbers numbers' a b is gains = subst (λ (l : List ℤ). Gains state' l a b) is gains

  module _ {D M : Type 0} {d : Ghosts D} {m : ModeGhosts M} (state : D → State) (from : File D M d m) (a b : File E N t n) (r : Editing) (stands : Stands state from r) (first : r.place ≡ 0) where
    same_numbers : change_numbers (codec_of from) (codec_of a) (numbers_left r) ≡ numbers_for (codec_of a) r
    same_numbers =
        ap (λ (h : Shape). change_numbers h.params.codec (codec_of a) (numbers_left r)) stands.shape
        ∙ ap (λ (k : ℕ). change_numbers r.shape.params.codec (codec_of a) (joined (drop k r.frames))) first

    pub gains_file : Lengthens state state' numbers_left from a b → Gains state' (numbers_for (codec_of a) r) a b
    gains_file lengthens = λ kind p pieces xs e to_stands making.
        let is = lengthens kind p pieces xs r e stands to_stands making in
        (is.0, is.1, subst (λ (l : List ℤ). IsMaking kind p pieces (xs ++ l) is.0) same_numbers is.2)
