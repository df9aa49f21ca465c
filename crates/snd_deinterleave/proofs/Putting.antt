-- Files that are put under several names.
use Rattle.std.proofs.Common.{◌≡◌, ◌∙◌, ap, sym, refl, inl, inr, ℕ, suc, ◌+◌, Bool, true, false, cond, List, [], ◌∷◌, ◌++◌, Option, None, Some, length, arith}
use Rattle.std.proofs.lemmas.Bool.{cases_Bool}
use Rattle.std.specs.Str.{bytes_eq}
use Rattle.snd_disk.proofs.Public.{same_name}
use Rattle.snd_disk.specs.Shelf.{Files, SameFiles, put}
use Rattle.snd_tools.proofs.Public.{put_at, put_beside}
use Rattle.snd_deinterleave.specs.Among.{is_among}
use Rattle.snd_deinterleave.specs.Outputs.{puts}
use Rattle.snd_deinterleave.proofs.Repeating.{or_none}

-- under another name there is what was there
pub puts_apart : (xs : List (List ℕ)) (file : ℕ → List ℕ) (at : ℕ) (f : Files) (n : List ℕ) → is_among xs n ≡ false → puts xs file at f n ≡ f n
puts_apart [] file at f n none = refl
puts_apart (x ∷ xs) file at f n none =
    let both = or_none (bytes_eq n x) (is_among xs n) none in
    ap (λ (t : Bool). cond t (Some (file at)) (puts xs file (suc at) f n)) both.0 ∙ puts_apart xs file (suc at) f n both.1

-- .. and what is put rests on that alone
pub puts_same : (xs : List (List ℕ)) (file : ℕ → List ℕ) (at : ℕ) (f f' : Files) (n : List ℕ) → f' n ≡ f n → puts xs file at f' n ≡ puts xs file at f n
puts_same [] file at f f' n same = same
puts_same (x ∷ xs) file at f f' n same = ap (λ (o : Option (List ℕ)). cond (bytes_eq n x) (Some (file at)) o) (puts_same xs file (suc at) f f' n same)

-- one name more: its file, and any other
puts_last : (xs : List (List ℕ)) (name : List ℕ) (file : ℕ → List ℕ) (at : ℕ) (f : Files) (n : List ℕ) → is_among xs n ≡ false → bytes_eq n name ≡ true
    → puts (xs ++ name ∷ []) file at f n ≡ Some (file (at + length xs))
puts_last [] name file at f n none is =
    ap (λ (t : Bool). cond t (Some (file at)) (f n)) is ∙ ap (λ (k : ℕ). Some (file k)) (let e : at ≡ at + 0 = omega arith in e)
puts_last (x ∷ xs) name file at f n none is =
    let both = or_none (bytes_eq n x) (is_among xs n) none in
    ap (λ (t : Bool). cond t (Some (file at)) (puts (xs ++ name ∷ []) file (suc at) f n)) both.0
    ∙ puts_last xs name file (suc at) f n both.1 is
    ∙ ap (λ (k : ℕ). Some (file k)) (let e : suc at + length xs ≡ at + suc (length xs) = omega arith in e)

puts_beside : (xs : List (List ℕ)) (name : List ℕ) (file : ℕ → List ℕ) (at : ℕ) (f : Files) (n : List ℕ) → bytes_eq n name ≡ false
    → puts (xs ++ name ∷ []) file at f n ≡ puts xs file at f n
puts_beside [] name file at f n other = ap (λ (t : Bool). cond t (Some (file at)) (f n)) other
puts_beside (x ∷ xs) name file at f n other = ap (λ (o : Option (List ℕ)). cond (bytes_eq n x) (Some (file at)) o) (puts_beside xs name file (suc at) f n other)

-- The file of a name is taken out, those of other names are put, and then its own comes back: all are put.
pub puts_back : (xs : List (List ℕ)) (name : List ℕ) (file : ℕ → List ℕ) (f f' f'' f''' : Files) → is_among xs name ≡ false
    → SameFiles (put f name None) f' → ((n : List ℕ) → f'' n ≡ puts xs file 0 f' n) → SameFiles (put f'' name (Some (file (length xs)))) f'''
    → (n : List ℕ) → f''' n ≡ puts (xs ++ name ∷ []) file 0 f n
puts_back xs name file f f' f'' f''' none out made back n = elim (cases_Bool (bytes_eq n name)) [
  | inl is ↦
      back n ∙ put_at f'' name n (Some (file (length xs))) is
      ∙ sym (puts_last xs name file 0 f n (ap (is_among xs) (same_name n name is) ∙ none) is ∙ ap (λ (k : ℕ). Some (file k)) (let e : 0 + length xs ≡ length xs = omega arith in e))
  | inr other ↦
      back n ∙ put_beside f'' name n (Some (file (length xs))) other ∙ made n
      ∙ puts_same xs file 0 f f' n (out n ∙ put_beside f name n None other)
      ∙ sym (puts_beside xs name file 0 f n other)
]
