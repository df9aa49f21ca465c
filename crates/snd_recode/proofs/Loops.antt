-- Loops that put the bytes of samples, each made of one byte or of one sample.
use Rattle.std.proofs.Common.{◌≡◌, ◌∙◌, ap, subst, sym, suc, ℕ, ◌+◌, ◌-◌, ◌*◌, ◌/◌, ◌%◌, ◌<◌, ◌≤◌, ℤ, pos, List, [], ◌∷◌, ◌++◌, length, get_or, set, take, drop, map, append_assoc, arith}
use Rattle.std.proofs.lemmas.Grind.{flat_map-append}
use Rattle.std.proofs.lemmas.List.{append-nil, drop-drop, drop_all, drop_more, get_or-map, length-drop, length-map, map-append, take-append-drop, take-set-le, take_all, take_more_set}
use Rattle.std.proofs.lemmas.Slice.{take-put_mid}
use borrow.Rule.Slice.PartMut.{put_mid}
use Rattle.snd_fields.specs.Field.{number}
use Rattle.snd_fields.specs.declared.field.Order.TheVariants.{Little}
use Rattle.snd_pcm.specs.Pcm.{sample, sample_bytes, samples, samples_bytes, value}
use Rattle.snd_pcm.specs.Width.{changed}
use Rattle.snd_pcm.specs.declared.linear.Linear.TheVariants.{S16, S24, S32}
use Rattle.snd_recode.specs.Wider.{ArePut}
use Rattle.snd_pcm.proofs.Series.{get_or-samples, length-samples, write_all, write_step2, write_step3, write_step4}

-- ---- of bytes that stand for a number each

pub law_step : (f : ℕ → ℤ) (bytes into : List ℕ) (i a b : ℕ) → length into ≡ 2 * length bytes → i < length bytes
    → a ∷ b ∷ [] ≡ sample_bytes (S16 Little) (f (get_or bytes i 0))
    → take (2 * i) into ++ samples_bytes (S16 Little) (drop i (map f bytes)) ≡ samples_bytes (S16 Little) (map f bytes)
    → take (2 * (i + 1)) (set (set into (2 * i) a) (2 * i + 1) b) ++ samples_bytes (S16 Little) (drop (i + 1) (map f bytes)) ≡ samples_bytes (S16 Little) (map f bytes)
law_step f bytes into i a b room lt is so_far =
    write_step2 (S16 Little) (map f bytes) into i a b (omega (arith, room, length-map bytes f)) (omega (arith, lt, length-map bytes f))
    (is ∙ ap (sample_bytes (S16 Little)) (sym (get_or-map f bytes i 0 (pos 0) lt))) so_far

pub law_all : (f : ℕ → ℤ) (bytes into : List ℕ) (i : ℕ) → length into ≡ 2 * length bytes → length bytes ≤ i
    → take (2 * i) into ++ samples_bytes (S16 Little) (drop i (map f bytes)) ≡ into
law_all f bytes into i room all = write_all (S16 Little) (map f bytes) into i (2 * i) (omega (arith, room, all)) (omega (arith, all, length-map bytes f))

-- ---- of pieces of such bytes

-- the bytes of a piece's samples, before those of all that follow it
parted : (f : ℕ → ℤ) (bytes : List ℕ) (from to : ℕ) → from ≤ to
    → samples_bytes (S16 Little) (map f (take (to - from) (drop from bytes))) ++ samples_bytes (S16 Little) (map f (drop to bytes)) ≡ samples_bytes (S16 Little) (map f (drop from bytes))
unfolding samples_bytes
parted f bytes from to le =
    let piece = take (to - from) (drop from bytes) in
    let sum : from + (to - from) ≡ to = omega (arith, le) in
    let behind : drop to bytes ≡ drop (to - from) (drop from bytes) = sym (drop-drop (to - from) from bytes ∙ ap (λ (n : ℕ). drop n bytes) sum) in
    sym (flat_map-append (sample_bytes (S16 Little)) (map f piece) (map f (drop to bytes)))
    ∙ ap (samples_bytes (S16 Little)) (sym (map-append f piece (drop to bytes))
    ∙ ap (map f) (ap (λ (l : List ℕ). piece ++ l) behind ∙ take-append-drop (to - from) (drop from bytes)))

pub piece_step : (f : ℕ → ℤ) (bytes into new : List ℕ) (from to k : ℕ) → length into ≡ 2 * length bytes → from ≤ to → to ≤ length bytes → 2 * to ≡ 2 * from + length new
    → new ≡ samples_bytes (S16 Little) (map f (take (to - from) (drop from bytes)))
    → take (2 * from) into ++ samples_bytes (S16 Little) (map f (drop from bytes)) ≡ samples_bytes (S16 Little) (map f bytes)
    → take (2 * to) (put_mid (2 * from) k into new) ++ samples_bytes (S16 Little) (map f (drop to bytes)) ≡ samples_bytes (S16 Little) (map f bytes)
piece_step f bytes into new from to k room le within size is so_far =
    let rest = samples_bytes (S16 Little) (map f (drop to bytes)) in
    ap (λ (l : List ℕ). l ++ rest) (take-put_mid (2 * from) k into new (2 * to) size (omega (arith, room, le, within)))
    ∙ append_assoc (take (2 * from) into) new rest
    ∙ ap (λ (l : List ℕ). take (2 * from) into ++ l) (ap (λ (l : List ℕ). l ++ rest) is ∙ parted f bytes from to le)
    ∙ so_far

-- .. and the last piece
pub piece_all : (f : ℕ → ℤ) (bytes into new : List ℕ) (from done : ℕ) → done ≡ from → new ≡ samples_bytes (S16 Little) (map f (take (length bytes - from) (drop from bytes)))
    → take (2 * done) into ++ samples_bytes (S16 Little) (map f (drop done bytes)) ≡ samples_bytes (S16 Little) (map f bytes)
    → put_mid (2 * from) (length into - 2 * from) into new ≡ samples_bytes (S16 Little) (map f bytes)
piece_all f bytes into new from done same is so_far =
    let behind = drop_all (length into - 2 * from) (drop (2 * from) into) (omega (arith, length-drop (2 * from) into)) in
    let whole = take_all (length bytes - from) (drop from bytes) (omega (arith, length-drop from bytes)) in
    ap (λ (l : List ℕ). take (2 * from) into ++ l)
    (ap (λ (l : List ℕ). new ++ l) behind ∙ append-nil new ∙ is ∙ ap (λ (l : List ℕ). samples_bytes (S16 Little) (map f l)) whole)
    ∙ subst (λ (n : ℕ). take (2 * n) into ++ samples_bytes (S16 Little) (map f (drop n bytes)) ≡ samples_bytes (S16 Little) (map f bytes)) same so_far

-- ---- a loop that makes one thing of each sample

pub number_step : {X : Type 0} (f : ℤ → X) (bytes : List ℕ) (into : List X) (i : ℕ) (x : X) → length bytes ≡ 2 * length into → i < length into
    → x ≡ f (value (S16 Little) (number Little bytes (2 * i) 2))
    → take i into ++ drop i (map f (samples (S16 Little) bytes)) ≡ map f (samples (S16 Little) bytes)
    → take (i + 1) (set into i x) ++ drop (i + 1) (map f (samples (S16 Little) bytes)) ≡ map f (samples (S16 Little) bytes)
number_step {X = X} f bytes into i x room lt is so_far =
    let xs = samples (S16 Little) bytes in
    let ys = map f xs in
    let half : i < length bytes / 2 = omega (arith, room, lt) in
    let within : i < length xs = omega (arith, half, length-samples (S16 Little) bytes) in
    let same : x ≡ get_or ys i x = is ∙ ap f (sym (get_or-samples (S16 Little) bytes i (pos 0) half)) ∙ sym (get_or-map f xs i (pos 0) x within) in
    ap (λ (l : List X). l ++ drop (i + 1) ys) (take_more_set into i x lt)
    ∙ append_assoc (take i into) (x ∷ []) (drop (i + 1) ys)
    ∙ ap (λ (y : X). take i into ++ y ∷ drop (i + 1) ys) same
    ∙ ap (λ (l : List X). take i into ++ l) (sym (drop_more ys i x (omega (arith, within, length-map xs f))))
    ∙ so_far

pub number_all : {X : Type 0} (f : ℤ → X) (bytes : List ℕ) (into : List X) (i : ℕ) → length bytes ≡ 2 * length into → length into ≤ i
    → take i into ++ drop i (map f (samples (S16 Little) bytes)) ≡ into
number_all {X = X} f bytes into i room all =
    let xs = samples (S16 Little) bytes in
    let half : length bytes / 2 ≤ i = omega (arith, room, all) in
    ap (λ (l : List X). take i into ++ l) (drop_all i (map f xs) (omega (arith, half, length-map xs f, length-samples (S16 Little) bytes)))
    ∙ append-nil (take i into) ∙ take_all i into all

-- ---- of samples that become wider

pub three_step : (f : ℤ → ℤ) (bytes into : List ℕ) (i a b c : ℕ) → length bytes % 2 ≡ 0 → 2 * length into ≡ 3 * length bytes → i < length bytes / 2
    → a ∷ b ∷ c ∷ [] ≡ sample_bytes (S24 Little) (f (value (S16 Little) (number Little bytes (2 * i) 2)))
    → take (3 * i) into ++ samples_bytes (S24 Little) (drop i (map f (samples (S16 Little) bytes))) ≡ samples_bytes (S24 Little) (map f (samples (S16 Little) bytes))
    → take (3 * (i + 1)) (set (set (set into (3 * i) a) (3 * i + 1) b) (3 * i + 2) c) ++ samples_bytes (S24 Little) (drop (i + 1) (map f (samples (S16 Little) bytes)))
    ≡ samples_bytes (S24 Little) (map f (samples (S16 Little) bytes))
three_step f bytes into i a b c whole room lt is so_far =
    let xs = samples (S16 Little) bytes in
    let count : length (map f xs) ≡ length bytes / 2 = length-map xs f ∙ length-samples (S16 Little) bytes in
    let within : i < length xs = omega (arith, lt, length-samples (S16 Little) bytes) in
    write_step3 (S24 Little) (map f xs) into i a b c (omega (arith, whole, room, count)) (omega (arith, lt, count))
    (is ∙ ap (λ (x : ℤ). sample_bytes (S24 Little) (f x)) (sym (get_or-samples (S16 Little) bytes i (pos 0) lt)) ∙ ap (sample_bytes (S24 Little)) (sym (get_or-map f xs i (pos 0) (pos 0) within))) so_far

pub three_all : (f : ℤ → ℤ) (bytes into : List ℕ) (i : ℕ) → length bytes % 2 ≡ 0 → 2 * length into ≡ 3 * length bytes → length bytes / 2 ≤ i
    → take (3 * i) into ++ samples_bytes (S24 Little) (drop i (map f (samples (S16 Little) bytes))) ≡ into
three_all f bytes into i whole room all =
    let xs = samples (S16 Little) bytes in
    let count : length (map f xs) ≡ length bytes / 2 = length-map xs f ∙ length-samples (S16 Little) bytes in
    write_all (S24 Little) (map f xs) into i (3 * i) (omega (arith, whole, room, all)) (omega (arith, all, count))

pub wide_step : (f : ℤ → ℤ) (bytes into : List ℕ) (i a b c d : ℕ) → length bytes % 2 ≡ 0 → length into ≡ 2 * length bytes → i < length bytes / 2
    → a ∷ b ∷ c ∷ d ∷ [] ≡ sample_bytes (S32 Little) (f (value (S16 Little) (number Little bytes (2 * i) 2)))
    → take (4 * i) into ++ samples_bytes (S32 Little) (drop i (map f (samples (S16 Little) bytes))) ≡ samples_bytes (S32 Little) (map f (samples (S16 Little) bytes))
    → take (4 * (i + 1)) (set (set (set (set into (4 * i) a) (4 * i + 1) b) (4 * i + 2) c) (4 * i + 3) d) ++ samples_bytes (S32 Little) (drop (i + 1) (map f (samples (S16 Little) bytes)))
    ≡ samples_bytes (S32 Little) (map f (samples (S16 Little) bytes))
wide_step f bytes into i a b c d whole room lt is so_far =
    let xs = samples (S16 Little) bytes in
    let count : length (map f xs) ≡ length bytes / 2 = length-map xs f ∙ length-samples (S16 Little) bytes in
    let within : i < length xs = omega (arith, lt, length-samples (S16 Little) bytes) in
    write_step4 (S32 Little) (map f xs) into i a b c d (omega (arith, whole, room, count)) (omega (arith, lt, count))
    (is ∙ ap (λ (x : ℤ). sample_bytes (S32 Little) (f x)) (sym (get_or-samples (S16 Little) bytes i (pos 0) lt)) ∙ ap (sample_bytes (S32 Little)) (sym (get_or-map f xs i (pos 0) (pos 0) within))) so_far

pub wide_all : (f : ℤ → ℤ) (bytes into : List ℕ) (i : ℕ) → length bytes % 2 ≡ 0 → length into ≡ 2 * length bytes → length bytes / 2 ≤ i
    → take (4 * i) into ++ samples_bytes (S32 Little) (drop i (map f (samples (S16 Little) bytes))) ≡ into
wide_all f bytes into i whole room all =
    let xs = samples (S16 Little) bytes in
    let count : length (map f xs) ≡ length bytes / 2 = length-map xs f ∙ length-samples (S16 Little) bytes in
    write_all (S32 Little) (map f xs) into i (4 * i) (omega (arith, whole, room, all)) (omega (arith, all, count))

-- three bytes that are those of a sample, put at its place
pub three_put : (bytes into new three : List ℕ) (i next : ℕ) → next ≡ i + 1 → length bytes % 2 ≡ 0 → 2 * length into ≡ 3 * length bytes → i < length bytes / 2
    → three ≡ sample_bytes (S24 Little) (changed 16 24 (sample (S16 Little) (get_or bytes (2 * i) 0 ∷ get_or bytes (2 * i + 1) 0 ∷ [])))
    → new ≡ set (set (set into (3 * i) (get_or three 0 0)) (3 * i + 1) (get_or three 1 0)) (3 * i + 2) (get_or three 2 0)
    → ArePut (S24 Little) i bytes into → ArePut (S24 Little) next bytes new
three_put bytes into new three i next by_one whole room lt is put so_far =
    let second : 2 * i + 1 ≡ suc (2 * i) = omega arith in
    let bytes_are : get_or three 0 0 ∷ get_or three 1 0 ∷ get_or three 2 0 ∷ [] ≡ sample_bytes (S24 Little) (changed 16 24 (value (S16 Little) (number Little bytes (2 * i) 2))) =
    ap (λ (l : List ℕ). get_or l 0 0 ∷ get_or l 1 0 ∷ get_or l 2 0 ∷ []) is
    ∙ ap (λ (j : ℕ). sample_bytes (S24 Little) (changed 16 24 (sample (S16 Little) (get_or bytes (2 * i) 0 ∷ get_or bytes j 0 ∷ [])))) second in
    rw (by_one, put) (three_step (changed 16 24) bytes into i _ _ _ whole room lt bytes_are so_far)

-- four bytes that are
pub four_put : (bytes into new four : List ℕ) (i next : ℕ) → next ≡ i + 1 → length bytes % 2 ≡ 0 → length into ≡ 2 * length bytes → i < length bytes / 2
    → four ≡ sample_bytes (S32 Little) (changed 16 32 (sample (S16 Little) (get_or bytes (2 * i) 0 ∷ get_or bytes (2 * i + 1) 0 ∷ [])))
    → new ≡ set (set (set (set into (4 * i) (get_or four 0 0)) (4 * i + 1) (get_or four 1 0)) (4 * i + 2) (get_or four 2 0)) (4 * i + 3) (get_or four 3 0)
    → ArePut (S32 Little) i bytes into → ArePut (S32 Little) next bytes new
four_put bytes into new four i next by_one whole room lt is put so_far =
    let second : 2 * i + 1 ≡ suc (2 * i) = omega arith in
    let bytes_are : get_or four 0 0 ∷ get_or four 1 0 ∷ get_or four 2 0 ∷ get_or four 3 0 ∷ [] ≡ sample_bytes (S32 Little) (changed 16 32 (value (S16 Little) (number Little bytes (2 * i) 2))) =
    ap (λ (l : List ℕ). get_or l 0 0 ∷ get_or l 1 0 ∷ get_or l 2 0 ∷ get_or l 3 0 ∷ []) is
    ∙ ap (λ (j : ℕ). sample_bytes (S32 Little) (changed 16 32 (sample (S16 Little) (get_or bytes (2 * i) 0 ∷ get_or bytes j 0 ∷ [])))) second in
    rw (by_one, put) (wide_step (changed 16 32) bytes into i _ _ _ _ whole room lt bytes_are so_far)

-- a byte behind those that are put
pub put_beyond : (bytes into : List ℕ) (i at byte : ℕ) → 3 * i ≤ at → ArePut (S24 Little) i bytes into → ArePut (S24 Little) i bytes (set into at byte)
put_beyond bytes into i at byte behind so_far =
    ap (λ (l : List ℕ). l ++ samples_bytes (S24 Little) (drop i (map (changed 16 24) (samples (S16 Little) bytes)))) (take-set-le (3 * i) into at byte behind) ∙ so_far
