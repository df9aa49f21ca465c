-- Files under names.
use Rattle.std.proofs.Common.{◌≡◌, inl, inr, ℕ, List, [], Bool, false, true, Option, None, Some, cond, refl, sym, ◌∙◌, ap}
use Rattle.std.specs.Prelude.{is_none}
use Rattle.std.specs.Str.{bytes_eq}
use Rattle.std.proofs.lemmas.Bool.{cases_Bool}
use Rattle.snd_disk.proofs.Public.{same_bytes, same_name}
use Rattle.snd_disk.specs.Shelf.{Files, SameFiles, put}
use Rattle.snd_tools.specs.Done.{Done, files_after}

-- a file that is there has its bytes
pub some_of : (o : Option (List ℕ)) → is_none o ≡ false → (b : List ℕ) × (o ≡ Some b)
some_of None is = absurd (cc)
some_of (Some b) is = (b, refl)

-- names that differ do so either way
pub apart_back : (a b : List ℕ) → bytes_eq a b ≡ false → bytes_eq b a ≡ false
apart_back a b apart = elim (cases_Bool (bytes_eq b a)) [
  | inl is ↦ absurd (let e : true ≡ false = sym (ap (bytes_eq a) (same_name b a is) ∙ same_bytes a) ∙ apart in cc)
  | inr other ↦ other
]

-- what stands under the name of a file that is put, and under another
pub put_at : (f : Files) (name n : List ℕ) (o : Option (List ℕ)) → bytes_eq n name ≡ true → put f name o n ≡ o
put_at f name n o is = ap (λ (t : Bool). cond t o (f n)) is

pub put_beside : (f : Files) (name n : List ℕ) (o : Option (List ℕ)) → bytes_eq n name ≡ false → put f name o n ≡ f n
put_beside f name n o other = ap (λ (t : Bool). cond t o (f n)) other

-- a file that was taken from there and put back
pub back_with : (f f' f'' : Files) (name b : List ℕ) → SameFiles (put f name None) f' → SameFiles (put f' name (Some b)) f'' → (n : List ℕ) → f'' n ≡ put f name (Some b) n
back_with f f' f'' name b out back n = elim (cases_Bool (bytes_eq n name)) [
  | inl is ↦ back n ∙ put_at f' name n (Some b) is ∙ sym (put_at f name n (Some b) is)
  | inr other ↦ back n ∙ put_beside f' name n (Some b) other ∙ out n ∙ put_beside f name n None other ∙ sym (put_beside f name n (Some b) other)
]

-- what is done makes no file but that of a name

abbrev pub MakesOnly : List ℕ → Done → Type 0
MakesOnly output (Done.makes name bytes frames) = name ≡ output
MakesOnly output (Done.refuses name why) = Unit {0}

-- .. so any other file is as before
pub after_beside : (output : List ℕ) (todo : Done) (f : Files) (n : List ℕ) → MakesOnly output todo → bytes_eq n output ≡ false → files_after todo f n ≡ f n
after_beside output (Done.makes name bytes frames) f n is other = put_beside f name n (Some bytes) (ap (bytes_eq n) is ∙ other)
after_beside output (Done.refuses name why) f n is other = refl

-- what it leaves under a name rests on what stands there
pub after_same : (todo : Done) (f f' : Files) (n : List ℕ) → f' n ≡ f n → files_after todo f' n ≡ files_after todo f n
after_same (Done.makes name bytes frames) f f' n same = ap (λ (o : Option (List ℕ)). cond (bytes_eq n name) (Some bytes) o) same
after_same (Done.refuses name why) f f' n same = same
