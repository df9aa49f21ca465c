-- Products and quotients of samples.
use Rattle.std.proofs.Common.{◌≡◌, ℕ, ◌<◌, ◌≤◌, ℤ, pos, negsuc, ◌*ℤ◌, ◌≤ℤ◌, to_z, of_z, w32, w64, refl, sym, subst, ap, ◌∙◌, arith, List, ◌++◌, ◌+◌, length, map, take, drop, get_or, add-zero}
use Rattle.std.proofs.lemmas.List.{get_or-append-add, get_or-drop, length-map, length-take-le}
use Rattle.std.specs.Int.{int_div_euclid}
use Rattle.std.specs.Int.RustNames.{FitsSigned, unsigned_abs}
use Rattle.std.proofs.lemmas.Int.{fits_signed_mul, ints, to_z-of_z}
use Rattle.snd_pcm.specs.Width.{floor_div}
use Rattle.snd_rack.specs.Stage.{clamped}
use Rattle.snd_rack.proofs.Composed.{part_in}

pub euclid_is : (z : ℤ) (n : ℕ) → int_div_euclid z (pos n) ≡ floor_div z n
euclid_is (pos a) n = refl
euclid_is (negsuc a) n = refl

-- the product of a sample and a number of at most 32 bits, as the code has it
module _ (x : ℤ) (a : ℕ) (xs ys : ℤ) (small : unsigned_abs x ≤ 2147483648) (few : a ≤ 4294967295) (x_is : xs ≡ x) (a_is : ys ≡ pos a) where
  fits : FitsSigned w64 (x *ℤ pos a)
  fits = fits_signed_mul w64 x (pos a) 2147483648 4294967295 small few (omega arith)

  same : xs *ℤ ys ≡ x *ℤ pos a
  same = ap (λ u. u *ℤ ys) x_is ∙ ap (λ v. x *ℤ v) a_is

  pub product_fits : FitsSigned w64 (xs *ℤ ys)
  product_fits = subst (FitsSigned w64) (sym same) fits

  pub quotient_is : (bs : ℤ) (b : ℕ) (result : ℤ) → bs ≡ pos b → result ≡ int_div_euclid (to_z w64 (of_z w64 (xs *ℤ ys))) bs → result ≡ floor_div (x *ℤ pos a) b
  quotient_is bs b result b_is is =
      is ∙ ap (λ z. int_div_euclid z bs) (ap (λ z. to_z w64 (of_z w64 z)) same ∙ to_z-of_z w64 (x *ℤ pos a) fits)
      ∙ ap (int_div_euclid (x *ℤ pos a)) b_is ∙ euclid_is (x *ℤ pos a) b

-- .. and that of a sample of 16 bits and such a number, which has 32
module _ (x : ℤ) (a : ℕ) (xs ys : ℤ) (small : unsigned_abs x ≤ 32768) (few : a ≤ 65535) (x_is : xs ≡ x) (a_is : ys ≡ pos a) where
  short_fits : FitsSigned w32 (x *ℤ pos a)
  short_fits = fits_signed_mul w32 x (pos a) 32768 65535 small few (omega arith)

  short_same : xs *ℤ ys ≡ x *ℤ pos a
  short_same = ap (λ u. u *ℤ ys) x_is ∙ ap (λ v. x *ℤ v) a_is

  pub short_product_fits : FitsSigned w32 (xs *ℤ ys)
  short_product_fits = subst (FitsSigned w32) (sym short_same) short_fits

  pub short_product : to_z w32 (of_z w32 (xs *ℤ ys)) ≡ x *ℤ pos a
  short_product = ap (λ z. to_z w32 (of_z w32 z)) short_same ∙ to_z-of_z w32 (x *ℤ pos a) short_fits

  pub short_quotient : (bs : ℤ) (b : ℕ) (result : ℤ) → bs ≡ pos b → result ≡ int_div_euclid (to_z w32 (of_z w32 (xs *ℤ ys))) bs → result ≡ floor_div (x *ℤ pos a) b
  short_quotient bs b result b_is is =
      is ∙ ap (λ z. int_div_euclid z bs) short_product ∙ ap (int_div_euclid (x *ℤ pos a)) b_is ∙ euclid_is (x *ℤ pos a) b

-- a sample that a loop comes to is still as it was
pub still_old : (f : ℤ → ℤ) (xs old : List ℤ) (i : ℕ) (d : ℤ) → i < length old → xs ≡ map f (take i old) ++ drop i old → get_or xs i d ≡ get_or old i d
still_old f xs old i d lt is =
    let size : length (map f (take i old)) + 0 ≡ i = omega (arith, length-map (take i old) f, length-take-le i old (omega (arith, lt))) in
    ap (λ l. get_or l i d) is ∙ ap (λ n. get_or (map f (take i old) ++ drop i old) n d) (sym size) ∙ get_or-append-add (map f (take i old)) (drop i old) 0 d
    ∙ get_or-drop i old 0 d ∙ ap (λ n. get_or old n d) (add-zero i)

-- a part of a sample is one
pub part_fits : (x : ℤ) (i n : ℕ) → i < n → (negsuc 2147483647 ≤ℤ x) × (x ≤ℤ pos 2147483647)
    → (negsuc 2147483647 ≤ℤ floor_div (x *ℤ pos i) n) × (floor_div (x *ℤ pos i) n ≤ℤ pos 2147483647)
part_fits x i n lt h = part_in (negsuc 2147483647) (pos 2147483647) i n (omega (arith, ints)) (omega (arith, ints)) lt x h

-- where the divisor is a power
pub by_power : (a b b' : ℕ) (low high : ℤ) (xs ys : List ℤ) → b' ≡ b → ys ≡ map (λ x. clamped low high (floor_div (x *ℤ pos a) b')) xs → ys ≡ map (λ x. clamped low high (floor_div (x *ℤ pos a) b)) xs
by_power a b b' low high xs ys same is = is ∙ ap (λ n. map (λ x. clamped low high (floor_div (x *ℤ pos a) n)) xs) same
