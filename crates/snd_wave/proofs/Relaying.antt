-- Pieces that are laid anew, and the chunks that they are.
use Rattle.std.proofs.Common.{◌≡◌, ℕ, zero, suc, ◌+◌, ◌*◌, ◌<◌, ◌≤◌, ◌^◌, List, [], ◌∷◌, ◌++◌, All, None, Some, false, length, take, drop, refl, sym, ap, ◌∙◌, arith, length-append, append_assoc}
use Rattle.std.proofs.lemmas.List.{length-map}
use Rattle.std.proofs.lemmas.List.Elements.{All-cons, All-head, All-nil, All-tail}
use Rattle.std.specs.Prelude.{slice_get, slice_index_or}
use Rattle.snd_chunks.proofs.Public.{length-all_placed, length-chunk_bytes, length-chunks_bytes}
use Rattle.snd_chunks.specs.Chunks.{padded_end}
use Rattle.snd_chunks.specs.Written.{NewChunk, all_placed, chunk_bytes, chunks_bytes}
use Rattle.snd_fields.specs.declared.field.Order.{Order}
use Rattle.snd_layout.specs.Shape.{IsPlaced}
use Rattle.snd_layout.specs.declared.piece.Piece.{Piece}
use Rattle.snd_wave.specs.Relaid.{IsSmall, relaid, relaid_end, standing}

pub relaid_least : (q : ℕ) (ps : List Piece) → q ≤ relaid_end q ps
relaid_least q [] = omega arith
relaid_least q (x ∷ xs) = omega (arith, relaid_least (padded_end (q + 8) x.len) xs)

-- the place behind one of them is no later than that behind all
pub step_fits : (q i : ℕ) (ps : List Piece) (d : Piece) → i < length ps → padded_end (q + 8) (slice_index_or ps i d).len ≤ relaid_end q (drop i ps)
step_fits q i [] d lt = absurd (omega (arith, lt))
step_fits q zero (x ∷ xs) d lt = relaid_least (padded_end (q + 8) x.len) xs
step_fits q (suc i) (x ∷ xs) d lt = step_fits q i xs d (omega (arith, lt))

-- the bytes of joined chunks are joined
pub chunks-joined : (order : Order) (xs ys : List NewChunk) → chunks_bytes order (xs ++ ys) ≡ chunks_bytes order xs ++ chunks_bytes order ys
unfolding chunks_bytes
chunks-joined order [] ys = refl
chunks-joined order (x ∷ xs) ys =
    ap (λ (l : List ℕ). chunk_bytes order x ++ l) (chunks-joined order xs ys) ∙ sym (append_assoc (chunk_bytes order x) (chunks_bytes order xs) (chunks_bytes order ys))

pub length-joined : (order : Order) (xs ys : List NewChunk) → length (chunks_bytes order (xs ++ ys)) ≡ length (chunks_bytes order xs) + length (chunks_bytes order ys)
length-joined order xs ys = ap length (chunks-joined order xs ys) ∙ length-append (chunks_bytes order xs) (chunks_bytes order ys)

-- they are laid anew as the same chunks
pub relaid_standing : (q r : ℕ) (cs : List NewChunk) → relaid q (standing r cs) ≡ standing q cs
unfolding standing all_placed
relaid_standing q r [] = refl
relaid_standing q r (c ∷ cs) =
    ap (λ (l : List Piece). (record { id = record { 0 = c.id }; at = q + 8; len = length c.body; after = false }) ∷ l) (relaid_standing (padded_end (q + 8) (length c.body)) (padded_end (r + 8) (length c.body)) cs)

pub end_standing : (order : Order) (q r : ℕ) (cs : List NewChunk) → All IsSmall cs → relaid_end q (standing r cs) ≡ q + length (chunks_bytes order cs)
unfolding standing all_placed chunks_bytes
end_standing order q r [] are = omega arith
end_standing order q r (c ∷ cs) are =
    let is : IsSmall c = All-head IsSmall c cs are in
    end_standing order (padded_end (q + 8) (length c.body)) (padded_end (r + 8) (length c.body)) cs (All-tail IsSmall c cs are) ∙ omega (arith, length-chunk_bytes order c q is.four, length-chunks_bytes order c cs)

-- the first of them, and those behind some
pub take_standing : (k q : ℕ) (cs : List NewChunk) → take k (standing q cs) ≡ standing q (take k cs)
unfolding standing all_placed
take_standing zero q cs = refl
take_standing (suc k) q [] = refl
take_standing (suc k) q (c ∷ cs) = ap (λ (l : List Piece). (record { id = record { 0 = c.id }; at = q + 8; len = length c.body; after = false }) ∷ l) (take_standing k (padded_end (q + 8) (length c.body)) cs)

pub drop_standing : (k q : ℕ) (cs : List NewChunk) → (r : ℕ) × (drop k (standing q cs) ≡ standing r (drop k cs))
unfolding standing all_placed
drop_standing zero q cs = (q, refl)
drop_standing (suc k) q [] = (q, refl)
drop_standing (suc k) q (c ∷ cs) = drop_standing k (padded_end (q + 8) (length c.body)) cs

-- joined chunks stand one behind the other
pub standing-append : (order : Order) (q : ℕ) (xs ys : List NewChunk) → All IsSmall xs → standing q (xs ++ ys) ≡ standing q xs ++ standing (q + length (chunks_bytes order xs)) ys
unfolding standing all_placed chunks_bytes
standing-append order q [] ys are = let same : q ≡ q + 0 = omega arith in ap (λ k. standing k ys) same
standing-append order q (c ∷ cs) ys are =
    let is : IsSmall c = All-head IsSmall c cs are in
    let next : padded_end (q + 8) (length c.body) + length (chunks_bytes order cs) ≡ q + length (chunks_bytes order (c ∷ cs)) = omega (arith, length-chunk_bytes order c q is.four, length-chunks_bytes order c cs) in
    ap (λ (l : List Piece). (record { id = record { 0 = c.id }; at = q + 8; len = length c.body; after = false }) ∷ l)
    (standing-append order (padded_end (q + 8) (length c.body)) cs ys (All-tail IsSmall c cs are) ∙ ap (λ k. standing (padded_end (q + 8) (length c.body)) cs ++ standing k ys) next)

-- the place behind the piece at a place, or behind them all
pub behind_standing : (order : Order) (q k : ℕ) (cs : List NewChunk) (x : Piece) → All IsSmall cs → slice_get (standing q cs) k ≡ Some x → padded_end x.at x.len ≡ q + length (chunks_bytes order (take (suc k) cs))
unfolding standing all_placed chunks_bytes
behind_standing order q k [] x are is = absurd (cc)
behind_standing order q zero (c ∷ cs) x are is =
    let one : IsSmall c = All-head IsSmall c cs are in
    let same : (record { id = record { 0 = c.id }; at = q + 8; len = length c.body; after = false }) ≡ x = cc in
    ap (λ (y : Piece). padded_end y.at y.len) (sym same) ∙ omega (arith, length-chunk_bytes order c q one.four, length-chunks_bytes order c [])
behind_standing order q (suc k) (c ∷ cs) x are is =
    let one : IsSmall c = All-head IsSmall c cs are in
    let all : length (chunks_bytes order (take (suc (suc k)) (c ∷ cs))) ≡ length (chunk_bytes order c) + length (chunks_bytes order (take (suc k) cs)) = length-chunks_bytes order c (take (suc k) cs) in
    behind_standing order (padded_end (q + 8) (length c.body)) k cs x (All-tail IsSmall c cs are) is
    ∙ omega (arith, length-chunk_bytes order c q one.four, all)

pub none_behind : (q k : ℕ) (cs : List NewChunk) → slice_get (standing q cs) k ≡ None → length cs ≤ k
unfolding standing all_placed
none_behind q k [] is = omega arith
none_behind q zero (c ∷ cs) is = absurd (cc)
none_behind q (suc k) (c ∷ cs) is = omega (arith, none_behind (padded_end (q + 8) (length c.body)) k cs is)

-- a piece has at most 65544 bytes with its head and pad
pub bytes_few : (order : Order) (cs : List NewChunk) → All IsSmall cs → length (chunks_bytes order cs) ≤ 65544 * length cs
unfolding chunks_bytes
bytes_few order [] are = omega arith
bytes_few order (c ∷ cs) are =
    let is : IsSmall c = All-head IsSmall c cs are in
    omega (arith, length-chunk_bytes order c 0 is.four, length-chunks_bytes order c cs, bytes_few order cs (All-tail IsSmall c cs are), is.few)

-- pieces that end below 2^63 are placed
pub placed_standing : (order : Order) (q : ℕ) (cs : List NewChunk) → All IsSmall cs → q + length (chunks_bytes order cs) < 2 ^ 63 → All IsPlaced (standing q cs)
unfolding standing all_placed
placed_standing order q [] are few = All-nil IsPlaced
placed_standing order q (c ∷ cs) are few =
    let is : IsSmall c = All-head IsSmall c cs are in
    let all : length (chunks_bytes order (c ∷ cs)) ≡ length (chunk_bytes order c) + length (chunks_bytes order cs) = length-chunks_bytes order c cs in
    let next : q + length (chunk_bytes order c) ≡ padded_end (q + 8) (length c.body) = length-chunk_bytes order c q is.four in
    All-cons IsPlaced _ _ (omega (arith, all, next, few)) (placed_standing order (padded_end (q + 8) (length c.body)) cs (All-tail IsSmall c cs are) (omega (arith, all, next, few)))

-- there are as many pieces as chunks
pub as_many : (q : ℕ) (cs : List NewChunk) → length (standing q cs) ≡ length cs
unfolding standing
as_many q cs = length-map (all_placed q cs) _ ∙ length-all_placed q cs
