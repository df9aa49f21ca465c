-- Cue points: their numbers fit, and what is written of them is read again.
use Rattle.std.proofs.Common.{ℕ, zero, suc, ◌≡◌, ◌<◌, ◌≤◌, ◌+◌, ◌*◌, ◌^◌, nat_lt, false, cond, List, [], ◌∷◌, ◌++◌, length, drop, get_or, Some, None, refl, sym, ap, ◌∙◌, subst, arith}
use Rattle.std.specs.List.{AllByRecursion, flat_map}
use Rattle.std.proofs.lemmas.Bool.{le-ltb}
use Rattle.std.proofs.lemmas.List.{append_assoc, append-nil, drop_all, drop_more, get_or-drop}
use Rattle.byteorder.specs.Numbers.{little_number-reads_back, little_from-lt}
use Rattle.snd_fields.specs.Field.{number}
use Rattle.snd_fields.specs.declared.field.Order.TheVariants.{Little}
use Rattle.snd_meta.specs.declared.cue.CuePoint.{CuePoint}
use Rattle.snd_meta.specs.Cue.{IsPoint, IsCues, point_of, points_of, count_of, cues_of, point_bytes, cue_body, named}

-- bytes make numbers of four bytes
pub points_fit : (n : ℕ) (bytes : List ℕ) → ((i : ℕ) → get_or bytes i 0 < 256) → AllByRecursion IsPoint (points_of n bytes)
points_fit zero bytes fits = tt
points_fit (suc n) bytes fits = (
  record { name = little_from-lt 0 4 bytes fits; offset = little_from-lt 20 4 bytes fits },
  points_fit n (drop 24 bytes) (λ i. let P : ℕ → Type 0 = λ b. b < 256 in subst P (sym (get_or-drop 24 bytes i 0)) (fits (24 + i))),
)

pub named_fit : (name : ℕ) (places : List ℕ) → name + length places ≤ 2 ^ 32 → ((i : ℕ) → get_or places i 0 < 2 ^ 32) → AllByRecursion IsPoint (named name places)
named_fit name [] room fits = tt
named_fit name (place ∷ places) room fits = (
  record { name = omega arith; offset = fits 0 },
  named_fit (name + 1) places (omega arith) (λ i. fits (suc i)),
)

pub length-points_of : (n : ℕ) (bytes : List ℕ) → length (points_of n bytes) ≡ n
length-points_of zero bytes = refl
length-points_of (suc n) bytes = ap suc (length-points_of n (drop 24 bytes))

pub length-named : (name : ℕ) (places : List ℕ) → length (named name places) ≡ length places
length-named name [] = refl
length-named name (place ∷ places) = ap suc (length-named (name + 1) places)

-- a point that was written
point_again : (p : CuePoint) (rest : List ℕ) → IsPoint p → point_of (point_bytes p ++ rest) ≡ p
point_again p rest good =
    let name : (point_of (point_bytes p ++ rest)).name ≡ p.name = little_number-reads_back 4 p.name [] good.name in
    let offset : (point_of (point_bytes p ++ rest)).offset ≡ p.offset = little_number-reads_back 4 p.offset [] good.offset in
    ap (λ n. record { name = n; offset = (point_of (point_bytes p ++ rest)).offset }) name ∙ ap (λ n. record { name = p.name; offset = n }) offset

points_again : (points : List CuePoint) → AllByRecursion IsPoint points → points_of (length points) (flat_map point_bytes points) ≡ points
points_again [] good = refl
points_again (p ∷ points) good =
    ap (λ q. q ∷ points_of (length points) (flat_map point_bytes points)) (point_again p (flat_map point_bytes points) good.0) ∙ ap (λ ps. p ∷ ps) (points_again points good.1)

length-point_bytes : (points : List CuePoint) → length (flat_map point_bytes points) ≡ 24 * length points
length-point_bytes [] = refl
length-point_bytes (p ∷ points) = omega (arith, length-point_bytes points)

-- what is written is read again
pub cues_again : (points : List CuePoint) → IsCues points → cues_of (cue_body points) ≡ Some points
unfolding cues_of cue_body
cues_again points good =
    let count : count_of (cue_body points) ≡ length points = little_number-reads_back 4 (length points) [] good.count in
    let long : nat_lt (length (cue_body points)) 4 ≡ false = le-ltb (length (cue_body points)) 4 (omega arith) in
    let enough : nat_lt (length (cue_body points)) (4 + 24 * count_of (cue_body points)) ≡ false =
    le-ltb (length (cue_body points)) (4 + 24 * count_of (cue_body points)) (omega (arith, count, length-point_bytes points)) in
    let found = Some (points_of (count_of (cue_body points)) (flat_map point_bytes points)) in
    ap (λ b. cond b None (cond (nat_lt (length (cue_body points)) (4 + 24 * count_of (cue_body points))) None found)) long
    ∙ ap (λ b. cond b None found) enough
    ∙ ap Some (ap (λ n. points_of n (flat_map point_bytes points)) count ∙ points_again points good.each)

-- a list that was read of a body is written with the points of the body
pub cues_kept : (body : List ℕ) (points : List CuePoint) → IsCues points → cues_of body ≡ Some points → cues_of (cue_body points) ≡ cues_of body
cues_kept body points good read = cues_again points good ∙ sym read

-- one point more was read
pub points_step : (done next whole : List CuePoint) (n m name offset : ℕ) (rest later : List ℕ) → n ≡ suc m → later ≡ drop 24 rest
    → name ≡ number Little rest 0 4 → offset ≡ number Little rest 20 4 → next ≡ done ++ record { name = name; offset = offset } ∷ []
    → done ++ points_of n rest ≡ whole → next ++ points_of m later ≡ whole
points_step done next whole n m name offset rest later more is_later is_name is_offset is_next so_far =
    let point : record { name = name; offset = offset } ≡ point_of rest =
    ap (λ k. record { name = k; offset = offset }) is_name ∙ ap (λ k. record { name = number Little rest 0 4; offset = k }) is_offset in
    ap (λ ps. ps ++ points_of m later) (is_next ∙ ap (λ p. done ++ p ∷ []) point) ∙ append_assoc done (point_of rest ∷ []) (points_of m later)
    ∙ ap (λ bytes. done ++ point_of rest ∷ points_of m bytes) is_later ∙ ap (λ k. done ++ points_of k rest) (sym more) ∙ so_far

-- all were read
pub points_end : (done whole : List CuePoint) (n : ℕ) (rest : List ℕ) → n ≡ 0 → done ++ points_of n rest ≡ whole → done ≡ whole
points_end done whole n rest none e = sym (append-nil done) ∙ ap (λ k. done ++ points_of k rest) (sym none) ∙ e

-- one point more was written
pub written_step : (points : List CuePoint) (i : ℕ) (d : CuePoint) (body next whole : List ℕ) → i < length points → next ≡ body ++ point_bytes (get_or points i d)
    → body ++ flat_map point_bytes (drop i points) ≡ whole → next ++ flat_map point_bytes (drop (i + 1) points) ≡ whole
written_step points i d body next whole within e so_far =
    ap (λ b. b ++ flat_map point_bytes (drop (i + 1) points)) e ∙ append_assoc body (point_bytes (get_or points i d)) (flat_map point_bytes (drop (i + 1) points))
    ∙ ap (λ ps. body ++ flat_map point_bytes ps) (sym (drop_more points i d within)) ∙ so_far

-- the list that is made from places
pub named_info : (places : List ℕ) (points : List CuePoint) (i : ℕ) → length places ≤ i → length places < 2 ^ 32 → ((k : ℕ) → get_or places k 0 < 2 ^ 32)
    → points ++ named (i + 1) (drop i places) ≡ named 1 places → IsCues points
named_info places points i past room fits e =
    let whole : points ≡ named 1 places = sym (append-nil points) ∙ ap (λ ps. points ++ named (i + 1) ps) (sym (drop_all i places past)) ∙ e in
    subst IsCues (sym whole) (record { count = omega (arith, length-named 1 places); each = named_fit 1 places (omega arith) fits })

-- the list that is read
pub read_info : (n : ℕ) (bytes : List ℕ) (points : List CuePoint) → n < 2 ^ 32 → ((k : ℕ) → get_or bytes k 0 < 256) → points ≡ points_of n bytes → IsCues points
read_info n bytes points room fits e =
    subst IsCues (sym e) (record { count = omega (arith, length-points_of n bytes); each = points_fit n bytes fits })
