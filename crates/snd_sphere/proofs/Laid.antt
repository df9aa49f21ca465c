-- A head that is laid.
use Rattle.std.proofs.Common.{◌≡◌, ℕ, ◌-◌, List, [], ◌++◌, ap, ◌∙◌, take, length, replicate, arith}
use Rattle.std.proofs.lemmas.List.{take-replicate}

-- bytes that were put behind one another
pub joined : (i0 i1 i2 i3 i4 i5 a b put_c put_d put_e c d e : List ℕ) → i0 ≡ [] → i1 ≡ i0 ++ a → i2 ≡ i1 ++ put_c → i3 ≡ i2 ++ b → i4 ≡ i3 ++ put_d → i5 ≡ i4 ++ put_e
    → put_c ≡ c → put_d ≡ d → put_e ≡ e → i5 ≡ a ++ c ++ b ++ d ++ e
joined i0 i1 i2 i3 i4 i5 a b put_c put_d put_e c d e none one two three four five is_c is_d is_e =
    let first : i1 ≡ a = one ∙ ap (λ (l : List ℕ). l ++ a) none in
    let second : i2 ≡ a ++ c = two ∙ ap (λ (l : List ℕ). l ++ put_c) first ∙ ap (λ (l : List ℕ). a ++ l) is_c in
    let third : i3 ≡ a ++ c ++ b = three ∙ ap (λ (l : List ℕ). l ++ b) second in
    let fourth : i4 ≡ a ++ c ++ b ++ d = four ∙ ap (λ (l : List ℕ). l ++ put_d) third ∙ ap (λ (l : List ℕ). a ++ c ++ b ++ l) is_d in
    five ∙ ap (λ (l : List ℕ). l ++ put_e) fourth ∙ ap (λ (l : List ℕ). a ++ c ++ b ++ d ++ l) is_e

pub filled : (bytes head all : List ℕ) → bytes ≡ head → all ≡ bytes ++ replicate (1024 - length bytes) 32 → all ≡ head ++ replicate (1024 - length head) 32
filled bytes head all is put = put ∙ ap (λ (l : List ℕ). l ++ replicate (1024 - length l) 32) is

pub trimmed : (n m : ℕ) → n ≡ m → take {A = ℕ} (1024 - n) (replicate {A = ℕ} 1024 32) ≡ replicate {A = ℕ} (1024 - m) 32
trimmed n m is = ap (λ (k : ℕ). take {A = ℕ} (1024 - k) (replicate {A = ℕ} 1024 32)) is ∙ take-replicate {X = ℕ} (1024 - m) 1024 32 (omega arith)
