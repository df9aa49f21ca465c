-- A file that was begun is given the chunks of a plan, and all frames of another.
use Rattle.std.proofs.Common.{◌≡◌, ◌∙◌, ap, subst, sym, refl, ℕ, ◌+◌, ◌-◌, ◌^◌, ◌≤◌, Bool, true, cond, ℤ, pos, ◌*ℤ◌, List, [], ◌∷◌, ◌++◌, Ok, Err, OnOk, Result, drop, length, arith, false}
use Rattle.std.proofs.lemmas.List.{length-map, map-append, nil_from_length}
use Rattle.std.proofs.lemmas.Bool.{le-leb, ltb-false}
use Rattle.std.proofs.lemmas.Int.{ints}
use Rattle.std.specs.Prelude.{map, nat_le}
use Rattle.snd_carry.proofs.Public.{added_is, as_many, put_behind, put_last}
use Rattle.snd_carry.specs.Carrying.{CarriesOne, HoldsChunk, HoldsOne}
use Rattle.snd_chunks.specs.Written.{NewChunk}
use Rattle.snd_disk.specs.declared.disk.Disk.{Ghosts}
use Rattle.snd_inputs.specs.Opening.{IsUnread}
use Rattle.snd_disk.specs.State.{State}
use Rattle.snd_layout.specs.Params.{Parameters, data_bytes}
use Rattle.snd_layout.specs.Shape.{Shape, room}
use Rattle.snd_layout.specs.declared.codec.Codec.{Codec}
use Rattle.snd_layout.specs.declared.kind.Kind.{Kind}
use Rattle.snd_layout.specs.declared.piece.Piece.{Piece}
use Rattle.snd_file.specs.declared.handle.File.{File}
use Rattle.snd_edits.specs.declared.mode.Mode.{Ghosts as ModeGhosts}
use Rattle.snd_file.specs.Chunks.{HoldsPut}
use Rattle.snd_edits.specs.Editing.{Editing}
use Rattle.snd_edits.specs.Known.{IsFresh, Known}
use Rattle.snd_file.specs.Handle.{Stands, StandsAfter, known_of}
use Rattle.snd_layout.specs.Kinds.{holds_meta}
use Rattle.snd_edits.specs.PieceCalls.{known_put}
use Rattle.snd_edits.specs.Pieces.{body_of}
use Rattle.snd_edits.specs.Relaid.{added_to, head_with, pieces_held, shape_with}
use Rattle.snd_output.proofs.Public.{says_of, SaysOf}
use Rattle.snd_output.specs.Appended.{AppendLeaves, HasRoom, MayAppend, left_in, numbers_left}
use Rattle.snd_output.specs.Made.{made_with}
use Rattle.snd_layout.specs.Blocks.{is_adpcm}
use Rattle.snd_output.specs.Ends.{IsUnchanged}
use Rattle.snd_output.specs.declared.stop.Stop.{Stop}
use Rattle.snd_output.specs.declared.stop.Stop.TheVariants.{Changed, Fault, Memory}
use Rattle.snd_output.specs.Widths.{change_numbers, joined, width_of}
use Rattle.snd_pcm.specs.Width.{changed, floor_div}
use Rattle.snd_chunks.specs.Heads.{chunk_read, new_piece}
use Rattle.snd_metadata.specs.Making.{HasPut, PutsPlanned, known_filled}
use Rattle.snd_metadata.specs.Planned.{IsReady, outline_planned}
use Rattle.snd_metadata.specs.declared.chunks.PlannedChunk.{PlannedChunk}
use Rattle.snd_metadata.specs.declared.chunks.PlannedChunk.TheVariants.{Kept}

pub on_both : {T E : Type 0} (r : Result T E) (P Q R : Type 0) → (P → Q → R) → OnOk r P → OnOk r Q → OnOk r R
on_both (Ok x) P Q R f p q = f p q
on_both (Err e) P Q R f p q = p

pub on_three : {T E : Type 0} (r : Result T E) (P Q R S : Type 0) → (P → Q → R → S) → OnOk r P → OnOk r Q → OnOk r R → OnOk r S
on_three (Ok x) P Q R S f p q s = f p q s
on_three (Err e) P Q R S f p q s = p

-- ---- one chunk

module _ {D E M N : Type 0} {d : Ghosts D} {t : Ghosts E} {m : ModeGhosts M} {n : ModeGhosts N} (state : D → State) (state' : E → State) (from : File D M d m) (old new : File E N t n) where
  -- one that was carried
  pub put_kept : (place : ℕ) (piece : Piece) → CarriesOne state state' piece from old new → HoldsOne state state' piece from old new → HoldsChunk state piece from → PutsPlanned state state' (Kept place piece) from old new
  put_kept place piece carries holds chunk r kind p cs s meta was =
      let c : NewChunk = chunk_read r.bytes piece in
      let next : Stands state' new (made_with kind p (cs ++ c ∷ [])) = subst (Stands state' new) (added_is kind p cs piece.id.0 (body_of r.bytes piece) meta was.held) (carries r (made_with kind p cs) s was.stands) in
      (record { stands = next; held = holds r (made_with kind p cs) (made_with kind p (cs ++ c ∷ [])) s was.stands next ∙ ap (λ (l : List NewChunk). l ++ c ∷ []) was.held }, chunk r s)

  -- one of a body that is given
  pub put_given : (place : ℕ) (id body : List ℕ) → place ≡ length (known_of old).shape.pieces → StandsAfter state' old new (added_to id body) → HoldsPut state' place (new_piece id body) old new
      → (kind : Kind) (p : Parameters) (cs : List NewChunk) → holds_meta kind ≡ true → HasPut state' kind p cs old → HasPut state' kind p (cs ++ new_piece id body ∷ []) new
  put_given place id body last stands holds kind p cs meta was =
      let c : NewChunk = new_piece id body in
      let e : Editing = made_with kind p cs in
      let next : Stands state' new (made_with kind p (cs ++ c ∷ [])) = subst (Stands state' new) (added_is kind p cs id body meta was.held) (stands e was.stands) in
      let all : place ≡ length (pieces_held e) = last ∙ ap (λ (s : Shape). length s.pieces) was.stands.shape ∙ sym (length-map e.shape.pieces (chunk_read e.bytes)) in
      record { stands = next; held = holds e (made_with kind p (cs ++ c ∷ [])) was.stands next ∙ put_last (pieces_held e) c place all ∙ ap (λ (l : List NewChunk). l ++ c ∷ []) was.held }

-- ---- the chunks so far

-- a file as it is made holds none
pub held_none : (kind : Kind) (p : Parameters) → holds_meta kind ≡ true → pieces_held (made_with kind p []) ≡ []
held_none kind p meta = nil_from_length (pieces_held (made_with kind p [])) (length-map (shape_with kind p []).pieces (chunk_read (head_with kind p [])) ∙ as_many kind p meta [])

pub begun_known : (h : Shape) (k : Known) → k.shape ≡ shape_with h.kind h.params [] → k ≡ known_filled h [] k
begun_known h k begun = ap (λ (s : Shape). record k { shape = s }) begun

pub known_more : (h : Shape) (xs : List PlannedChunk) (x : PlannedChunk) (k : Known) → holds_meta h.kind ≡ true
    → known_put (length (known_filled h xs k).shape.pieces) (outline_planned x) (known_filled h xs k) ≡ known_filled h (xs ++ x ∷ []) k
known_more h xs x k meta =
    let cs : List NewChunk = map outline_planned xs in
    ap (λ (s : Shape). record k { shape = s })
    (put_behind h.kind h.params meta cs (outline_planned x) (length (shape_with h.kind h.params cs).pieces) (as_many h.kind h.params meta cs)
    ∙ ap (shape_with h.kind h.params) (sym (map-append outline_planned xs (x ∷ []))))

-- ---- the frames behind them

-- all frames of a file that is unread may be put into one that has the chunks of a plan for which its head has room
module _ (h : Shape) (plan : List PlannedChunk) (from from' to to' : Known) (ready : IsReady h plan) (unread : IsUnread from) (fresh : IsFresh to) (of : from.shape ≡ h) where
  abbrev cs : List NewChunk
  cs = map outline_planned plan

  says : SaysOf h.kind h.params (shape_with h.kind h.params cs)
  says = says_of h.kind h.params cs ready.meta

  in_room : HasRoom (left_in from) (known_filled h plan to)
  in_room =
      let s : Shape = shape_with h.kind h.params cs in
      let count : to.write_place + left_in from ≡ h.frames = omega (arith, fresh.write_place, unread.first, ap (λ (x : Shape). x.frames) of) in
      let fits_in : data_bytes h.params h.frames ≤ room s = ltb-false (room s) (data_bytes h.params h.frames) ready.room_is in
      let bytes : data_bytes s.params (to.write_place + left_in from) ≡ data_bytes h.params h.frames =
      ap (λ (q : Parameters). data_bytes q (to.write_place + left_in from)) says.params ∙ ap (data_bytes h.params) count in
      record {
        in_room = omega (arith, bytes, fits_in);
        few = λ blocks wave. absurd (let no : true ≡ false = sym blocks ∙ ap (λ (q : Parameters). is_adpcm q.codec) says.params ∙ ready.linear in cc);
      }

  may_append_filled : MayAppend from (known_filled h plan to)
  may_append_filled = record {
    working = unread.working;
    at_end = record { working = fresh.broken; by_hand = fresh.automatic; free = says.free; behind = λ plain. fresh.write_place ∙ sym says.frames };
    alike = ap (λ (x : Shape). x.params.channels) of ∙ ap (λ (q : Parameters). q.channels) (sym says.params);
    in_room = in_room;
  }

  pub may_append : from' ≡ from → to' ≡ known_filled h plan to → MayAppend from' to'
  may_append same filled = subst (λ (k : Known). MayAppend k to') (sym same) (subst (MayAppend from) (sym filled) may_append_filled)

  pub params_filled : to' ≡ known_filled h plan to → to'.shape.params ≡ h.params
  params_filled filled = ap (λ (k : Known). k.shape.params) filled ∙ says.params

-- ---- the numbers stay

unchanged : (w : ℕ) (x : ℤ) → changed w w x ≡ x
unchanged w x =
    let all : nat_le w w ≡ true = le-leb w w (omega arith) in
    let none : w - w ≡ 0 = omega arith in
    ap (λ (t : Bool). cond t (x *ℤ pos (2 ^ (w - w))) (floor_div x (2 ^ (w - w)))) all ∙ ap (λ (n : ℕ). x *ℤ pos (2 ^ n)) none ∙ (let one : x *ℤ pos 1 ≡ x = omega (arith, ints) in one)

all_unchanged : (w : ℕ) (xs : List ℤ) → map (changed w w) xs ≡ xs
all_unchanged w [] = refl
all_unchanged w (x ∷ xs) = ap (λ (y : ℤ). y ∷ map (changed w w) xs) (unchanged w x) ∙ ap (λ (l : List ℤ). x ∷ l) (all_unchanged w xs)

pub numbers_same : (r : Editing) (from to codec : Codec) → from ≡ codec → to ≡ codec → r.place ≡ 0 → [] ++ change_numbers from to (numbers_left r) ≡ joined r.frames
numbers_same r from to codec from_is to_is first =
    ap (λ (c : Codec). change_numbers c to (numbers_left r)) from_is ∙ ap (λ (c : Codec). change_numbers codec c (numbers_left r)) to_is
    ∙ all_unchanged (width_of codec) (numbers_left r) ∙ ap (λ (n : ℕ). joined (drop n r.frames)) first

-- a file that is not of ADPCM has no bad block
pub never_blocks : {T : Type 0} (n : ℕ) (from from' to to' : Known) (r : Result T Stop) → is_adpcm from.shape.params.codec ≡ false → AppendLeaves n from from' to to' r → IsUnchanged r
never_blocks n from from' to to' (Ok x) linear left = tt
never_blocks n from from' to to' (Err Fault) linear left = tt
never_blocks n from from' to to' (Err Memory) linear left = tt
never_blocks n from from' to to' (Err Changed) linear left = let no : true ≡ false = sym left.0 ∙ linear in absurd (cc)
