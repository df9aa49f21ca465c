-- Frames that are put through a rack, block after block.
use Rattle.std.proofs.Common.{◌≡◌, ◌∙◌, ap, sym, subst, ◌+◌, ◌-◌, ◌<◌, ◌≤◌, ◌^◌, ℕ, ℤ, List, [], ◌++◌, length, map, drop, take, arith}
use Rattle.std.proofs.lemmas.List.{append-nil, drop-drop, length-drop, length-map, length-take, take_all}
use Rattle.snd_edits.specs.Editing.{Editing, frames_read, moved_by}
use Rattle.snd_edits.specs.Known.{Known}
use Rattle.snd_layout.specs.Blocks.{block_frames}
use Rattle.snd_layout.specs.Shape.{Shape}
use Rattle.snd_layout.specs.declared.codec.Codec.{Codec}
use Rattle.snd_output.specs.Appended.{HasRoom, IsLonger, left_in, read_on}
use Rattle.snd_output.specs.Widths.{change_numbers}
use Rattle.snd_output.proofs.Public.{at_end_then, room_then}
use Rattle.snd_rack.specs.Passing.{AllSettled, each_passed, joined, later}
use Rattle.snd_rack.specs.Stage.{Stated}
use Rattle.snd_rack.proofs.Public.{all_passable, channels_held, held_later, one_after_other, racked_on}
use Rattle.snd_racking.specs.Appending.{MayAppendRacked, MayRack, next_passed, rack_at}
use Rattle.snd_racking.specs.Racked.{high_of, low_of, racked_in, racked_left, racked_numbers}
use Rattle.snd_racking.proofs.Turns.{changed_on}

-- the numbers of the first j frames that are left of a state
abbrev pub racked_so_far : List Stated → Codec → ℕ → Editing → List ℤ
racked_so_far items codec j e = racked_in items codec (frames_read e j)

pub racked_none : (n : ℕ) (items : List Stated) (codec to : Codec) (xs : List ℤ) (r : Editing) → xs ≡ xs ++ change_numbers codec to (racked_so_far items codec (n - n) r)
racked_none n items codec to xs r =
    let none : 0 ≡ n - n = omega arith in
    sym (append-nil xs)
    ∙ ap (λ l. xs ++ change_numbers codec to (joined l)) (sym (one_after_other items (low_of codec) (high_of codec) 0 []))
    ∙ ap (λ i. xs ++ change_numbers codec to (racked_so_far items codec i r)) none

-- the numbers of two blocks
pub racked_twice : (items : List Stated) (codec to : Codec) (xs : List ℤ) (r : Editing) (j k : ℕ) → j ≤ length r.frames - r.place → j + k < 2 ^ 64
    → (xs ++ change_numbers codec to (racked_so_far items codec j r)) ++ change_numbers codec to (next_passed (rack_at j codec items) k (moved_by j r))
    ≡ xs ++ change_numbers codec to (racked_so_far items codec (j + k) r)
racked_twice items codec to xs r j k within few =
    let frames : List (List ℤ) = drop r.place r.frames in
    changed_on codec to xs (racked_so_far items codec j r) (next_passed (rack_at j codec items) k (moved_by j r))
    ∙ ap (λ l. xs ++ change_numbers codec to (racked_so_far items codec j r ++ joined (each_passed (rack_at j codec items) (take k l)))) (sym (drop-drop j r.place r.frames))
    ∙ ap (λ l. xs ++ change_numbers codec to l) (racked_on (low_of codec) (high_of codec) items frames j k (omega (arith, within, length-drop r.place r.frames)) few)

-- .. and of all
pub racked_all : (items : List Stated) (codec : Codec) (r : Editing) (n : ℕ) → n ≡ length r.frames - r.place → codec ≡ r.shape.params.codec → racked_so_far items codec n r ≡ racked_left items r
racked_all items codec r n is same =
    ap (λ l. racked_in items codec l) (take_all n (drop r.place r.frames) (omega (arith, is, length-drop r.place r.frames)))
    ∙ ap (λ (q : Codec). racked_in items q (drop r.place r.frames)) same

-- .. where none was read yet
pub racked_first : (items : List Stated) (to : Codec) (r : Editing) → r.place ≡ 0 → change_numbers r.shape.params.codec to (racked_left items r) ≡ racked_numbers items r.shape.params.codec to r.frames
racked_first items to r none = ap (λ n. racked_numbers items r.shape.params.codec to (drop n r.frames)) none

-- the stages behind another block
pub rack_later : (items : List Stated) (codec : Codec) (j k i : ℕ) → i ≡ j + k → j + k < 2 ^ 64 → later k (rack_at j codec items) ≡ rack_at i codec items
rack_later items codec j k i sum few = held_later (low_of codec) (high_of codec) j k items few ∙ ap (λ n. rack_at n codec items) (sym sum)

-- where all that were left may be put through a rack, those that are then left may be put through its stages
pub may_go_on : (items : List Stated) (from to to' : Known) (j : ℕ) → MayRack items from to → 1 ≤ block_frames to.shape.params.codec → AllSettled items → j ≤ left_in from → IsLonger j to to'
    → MayAppendRacked (rack_at j from.shape.params.codec items) (read_on j from) to'
may_go_on items from to to' j may together settled within is =
    let c = from.shape.params.channels in
    let codec = from.shape.params.codec in
    let all : left_in from ≡ j + (from.shape.frames - (from.place + j)) = omega (arith, within) in
    record {
      working = may.working;
      at_end = at_end_then j to to' may.at_end is;
      placed = record {
        passable = all_passable (low_of codec) (high_of codec) j c items settled may.good;
        fits = channels_held (low_of codec) (high_of codec) j c items ∙ may.fits ∙ ap (λ (s : Shape). s.params.channels) (sym is.shape);
      };
      together = subst (λ (s : Shape). 1 ≤ block_frames s.params.codec) (sym is.shape) together;
      in_room = room_then j (from.shape.frames - (from.place + j)) to to' (subst (λ (m : ℕ). HasRoom m to) all may.in_room) is;
    }

-- as many boxes as items, where their kinds are those of these
pub enough : {A B C : Type 0} (kind : A → C) (wanted : B → C) (boxes : List A) (items : List B) → map kind (take (length items) boxes) ≡ map wanted items → length items ≤ length boxes
enough kind wanted boxes items kinds =
    omega (arith, sym (length-map (take (length items) boxes) kind) ∙ ap length kinds ∙ length-map items wanted, length-take (length items) boxes)
