-- The lines of frames, put one after the other.
use Rattle.std.proofs.Common.{◌≡◌, ◌⊎◌, ◌+◌, ◌*◌, ℕ, ℤ, zero, suc, List, [], ◌∷◌, ◌++◌, length, take, drop, Option, refl, sym, ◌∙◌, ap, subst, arith, ⊎_elim}
use Rattle.std.specs.Prelude.{option_map}
use Rattle.std.specs.List.{flat_map}
use Rattle.std.proofs.lemmas.List.{drop-take, length-drop, take-take}
use Rattle.snd_pcm.specs.Groups.{first_groups}
use Rattle.snd_rules.specs.Replies.{frame_line, frames_text, ok_line}
use Rattle.snd_rules.proofs.Printing.{Printing, started, gathered, put_page}

abbrev pub lines : ℕ → ℕ → List ℤ → List ℕ
lines channels n samples = flat_map frame_line (first_groups channels n samples)

pub length-first_groups : {X : Type 0} (k n : ℕ) (xs : List X) → length (first_groups k n xs) ≡ n
length-first_groups k zero xs = refl
length-first_groups k (suc n) xs = ap (λ m. suc m) (length-first_groups k n (drop k xs))

-- the count is gathered first
pub begun : (told : Option (List ℕ)) (page : List ℕ) (channels n k : ℕ) (samples : List ℤ) → k ≡ n → page ≡ ok_line n → Printing told told page (lines channels k samples) (frames_text (first_groups channels n samples))
begun told page channels n k samples same e =
    rw (same, e) (
    subst (λ (m : ℕ). Printing told told (ok_line n) (lines channels n samples) (ok_line m ++ lines channels n samples)) (sym (length-first_groups channels n samples))
    (started told (ok_line n) (lines channels n samples)))

-- room is made for a line
pub roomed : (before after after' : Option (List ℕ)) (page page' rest all : List ℕ) → Printing before after page rest all
    → ((page' ≡ page) × (after' ≡ after)) ⊎ ((page' ≡ []) × (after' ≡ option_map (λ t. t ++ page) after)) → Printing before after' page' rest all
roomed before after after' page page' rest all p room =
    ⊎_elim (λ same. rw (same.0, same.1) p) (λ new. put_page before after after' page page' rest all p new.1 new.0) room

-- a line is gathered
pub line_gathered : (before after : Option (List ℕ)) (page page' all : List ℕ) (channels k k' : ℕ) (rest rest' : List ℤ) → Printing before after page (lines channels k rest) all
    → k ≡ suc k' → page' ≡ page ++ frame_line (take channels rest) → rest' ≡ drop channels rest → Printing before after page' (lines channels k' rest') all
line_gathered before after page page' all channels k k' rest rest' p more e after_frame =
    rw after_frame (gathered before after page page' (frame_line (take channels rest)) (lines channels k' (drop channels rest)) all
    (subst (λ (m : ℕ). Printing before after page (lines channels m rest) all) more p) e)

-- no line is left
pub none_left : (before after : Option (List ℕ)) (page all : List ℕ) (channels k : ℕ) (rest : List ℤ) → Printing before after page (lines channels k rest) all → k ≡ 0 → Printing before after page [] all
none_left before after page all channels k rest p none = subst (λ (m : ℕ). Printing before after page (lines channels m rest) all) none p

-- one frame fewer stands behind a frame
pub fewer_frames : (channels n k : ℕ) (rest rest' : List ℤ) → length rest ≡ n * channels → n ≡ suc k → rest' ≡ drop channels rest → length rest' ≡ k * channels
fewer_frames channels n k rest rest' e more after_frame = rw (after_frame, length-drop, e, more) (omega arith)

-- the groups of a list are those of the front that they fill
pub front_groups : {X : Type 0} (k n : ℕ) (xs : List X) → first_groups k n (take (n * k) xs) ≡ first_groups k n xs
front_groups k zero xs = refl
front_groups k (suc n) xs =
    let more : suc n * k ≡ k + n * k = omega arith in
    ap (λ m. first_groups k (suc n) (take m xs)) more
    ∙ ap (λ l. l ∷ first_groups k n (drop k (take (k + n * k) xs))) (take-take k (k + n * k) xs (omega arith))
    ∙ ap (λ l. take k xs ∷ first_groups k n l) (drop-take k (n * k) xs)
    ∙ ap (λ l. take k xs ∷ l) (front_groups k n (drop k xs))
