-- A head that is written reads back.
use Rattle.std.proofs.Common.{◌≡◌, ℕ, zero, suc, ◌+◌, ◌-◌, ◌^◌, ◌<◌, ◌≤◌, true, false, List, [], ◌∷◌, ◌++◌, None, Some, Result, Ok, refl, sym, ap, ◌∙◌, drop, length, map, take, arith}
use Rattle.std.proofs.Math.Seq.{take-append-add}
use Rattle.std.proofs.lemmas.Bool.{eq-eqb, le-leb, lt-ltb, ne_eqb}
use Rattle.std.proofs.lemmas.Fmt.{decimal-digits_of, length-decimal-le}
use Rattle.std.proofs.lemmas.Int.Digits.{all_below_base_digits_of, number_digits_of, number_lt}
use Rattle.std.proofs.lemmas.List.{append-nil, append_assoc, length-append, length-map}
use Rattle.std.specs.Int.Digits.{AllBelowBase, digits_of, number_from_digits}
use Rattle.std.specs.List.{list_all}
use Rattle.std.specs.Prelude.{◌==◌, codes, decimal, nat_le, nat_lt}
use Rattle.snd_fields.specs.Decimal.{digits_number, is_digit}
use Rattle.snd_fields.specs.declared.field.Order.TheVariants.{Little, Big}
use Rattle.snd_layout.specs.Params.{AreParams, Parameters, block_refusal, params_of, params_refusal}
use Rattle.snd_layout.specs.declared.codec.Codec.{Codec}
use Rattle.snd_layout.specs.declared.codec.Codec.TheVariants.{U8, S8, S16, S24, S32, MuLaw, ALaw, Ima, Ms}
use Rattle.snd_layout.specs.declared.refusal.OpenRefusal.{OpenRefusal}
use Rattle.snd_pvf.specs.declared.head.Head.{Head}
use Rattle.snd_pvf.specs.Pvf.{are_bits, bits_text, codec_of, cut_at, cut_from, has_mark, is_pvf_codec, number, params_in, pvf_head, pvf_text, second_line, stated_in}

-- ---- bytes that are cut at a mark

-- none of some bytes is a mark
abbrev Clean : ℕ → List ℕ → Type 0
Clean mark [] = Unit {0}
Clean mark (c ∷ t) = ((c == mark) ≡ false) × Clean mark t

clean_append : (mark : ℕ) (s t : List ℕ) → Clean mark s → Clean mark t → Clean mark (s ++ t)
clean_append mark [] t one two = two
clean_append mark (c ∷ s) t one two = (one.0, clean_append mark s t one.1 two)

cut_found : (mark : ℕ) (begun t rest : List ℕ) → Clean mark t → cut_from mark begun (t ++ mark ∷ rest) ≡ Some (begun ++ t, rest)
cut_found mark begun [] rest clean = let same : (mark == mark) ≡ true = eq-eqb mark mark refl in rw (same, append-nil begun) refl
cut_found mark begun (c ∷ t) rest clean =
    rw clean.0 (cut_found mark (begun ++ c ∷ []) t rest clean.1 ∙ ap (λ (w : List ℕ). Some (w, rest)) (append_assoc begun (c ∷ []) t))

-- ---- numbers

-- a mark below the digits is none of them
digits_clean : (mark : ℕ) (ds : List ℕ) → mark < 48 → AllBelowBase 10 ds → Clean mark (map (λ d. 48 + d) ds)
digits_clean mark [] below all = tt
digits_clean mark (d ∷ ds) below all = (ne_eqb (48 + d) mark (λ is. omega (arith, is, below)), digits_clean mark ds below all.1)

decimal_clean : (mark n : ℕ) → mark < 48 → 1 ≤ n → n < 2 ^ 32 → Clean mark (decimal n)
decimal_clean mark n below some few = rw (decimal-digits_of n (omega (arith, some)) (omega (arith, few))) (digits_clean mark (digits_of 10 n) below (all_below_base_digits_of 10 n (omega arith)))

digits_are : (ds : List ℕ) → AllBelowBase 10 ds → list_all is_digit (map (λ d. 48 + d) ds) ≡ true
digits_are [] all = refl
digits_are (d ∷ ds) all =
    let least : nat_le 48 (48 + d) ≡ true = le-leb 48 (48 + d) (omega arith) in
    let most : nat_le (48 + d) 57 ≡ true = le-leb (48 + d) 57 (omega (arith, all.0)) in
    rw (least, most) (digits_are ds all.1)

map_back : (ds : List ℕ) → map (λ c. c - 48) (map (λ d. 48 + d) ds) ≡ ds
map_back [] = refl
map_back (d ∷ ds) = let e : 48 + d - 48 ≡ d = omega arith in ap (λ (k : ℕ). k ∷ map (λ c. c - 48) (map (λ d. 48 + d) ds)) e ∙ ap (λ (l : List ℕ). d ∷ l) (map_back ds)

some_digit : (n k : ℕ) → 1 ≤ n → n < 10 ^ k → 1 ≤ k
some_digit n zero some lt = absurd (omega (arith, some, lt))
some_digit n (suc k) some lt = omega arith

-- a number of 32 bits reads back
decimal_reads : (n : ℕ) → 1 ≤ n → n < 2 ^ 32 → number (decimal n) ≡ Some n
decimal_reads n some few =
    let is : decimal n ≡ map (λ d. 48 + d) (digits_of 10 n) = decimal-digits_of n (omega (arith, some)) (omega (arith, few)) in
    let below = all_below_base_digits_of 10 n (omega arith) in
    let value = number_digits_of 10 n (omega arith) in
    let all : list_all is_digit (decimal n) ≡ true = ap (list_all is_digit) is ∙ digits_are (digits_of 10 n) below in
    let reads : digits_number (decimal n) ≡ n = ap digits_number is ∙ ap (number_from_digits 10) (map_back (digits_of 10 n)) ∙ value in
    let size : length (decimal n) ≤ 10 = length-decimal-le 10 n (omega arith) (omega (arith, few)) (omega (arith, few)) in
    let same : length (decimal n) ≡ length (digits_of 10 n) = ap length is ∙ length-map (digits_of 10 n) (λ d. 48 + d) in
    let count : 1 ≤ length (digits_of 10 n) = some_digit n (length (digits_of 10 n)) some (rw value at (number_lt 10 (digits_of 10 n) below)) in
    let least : nat_le 1 (length (decimal n)) ≡ true = le-leb 1 (length (decimal n)) (omega (arith, same, count)) in
    let most : nat_le (length (decimal n)) 19 ≡ true = le-leb (length (decimal n)) 19 (omega (arith, size)) in
    let digits : nat_le (length (decimal n)) 10 ≡ true = le-leb (length (decimal n)) 10 size in
    let small : nat_lt n (2 ^ 63) ≡ true = lt-ltb n (2 ^ 63) (omega (arith, few)) in
    rw (digits, least, most, all, reads, small) refl

-- ---- the second line

abbrev line_of : List ℕ → List ℕ → List ℕ → List ℕ
line_of c r b = c ++ (32 ∷ (r ++ (32 ∷ b)))

line_clean : (c r b : List ℕ) → Clean 10 c → Clean 10 r → Clean 10 b → Clean 10 (line_of c r b)
line_clean c r b one two three = clean_append 10 c (32 ∷ (r ++ (32 ∷ b))) one (refl, clean_append 10 r (32 ∷ b) two (refl, three))

length_line : (c r b : List ℕ) → length (line_of c r b) ≡ length c + length r + length b + 2
length_line c r b = omega (arith, length-append c (32 ∷ (r ++ (32 ∷ b))), length-append r (32 ∷ b))

line_reads : (c r b : List ℕ) (channels rate bits : ℕ) → Clean 32 c → Clean 32 r → number c ≡ Some channels → number r ≡ Some rate → number b ≡ Some bits
    → stated_in (line_of c r b) ≡ Some (record { channels = channels; rate = rate; bits = bits })
line_reads c r b channels rate bits one two is_channels is_rate is_bits =
    let first : cut_at 32 (line_of c r b) ≡ Some (c, r ++ (32 ∷ b)) = cut_found 32 [] c (r ++ (32 ∷ b)) one in
    let second : cut_at 32 (r ++ (32 ∷ b)) ≡ Some (r, b) = cut_found 32 [] r b two in
    rw (first, second, is_channels, is_rate, is_bits) refl

-- the text, from the second line on
abbrev text_behind : List ℕ → List ℕ → List ℕ → List ℕ
text_behind c r end = c ++ 32 ∷ [] ++ r ++ end

behind_is : (c r b end data_bytes : List ℕ) → end ≡ 32 ∷ (b ++ 10 ∷ []) → text_behind c r end ++ data_bytes ≡ line_of c r b ++ (10 ∷ data_bytes)
behind_is c r b end data_bytes e = rw e (simp append_assoc)

cut_line : (l data_bytes : List ℕ) (n : ℕ) → Clean 10 l → cut_at 10 (take (length l + (n + 1)) (l ++ (10 ∷ data_bytes))) ≡ Some (l, take n data_bytes)
cut_line l data_bytes n clean =
    let more : n + 1 ≡ suc n = omega arith in
    ap (cut_from 10 []) (take-append-add l (10 ∷ data_bytes) (n + 1) ∙ ap (λ (k : ℕ). l ++ take k (10 ∷ data_bytes)) more) ∙ cut_found 10 [] l (take n data_bytes) clean

line_found : (l data_bytes : List ℕ) → Clean 10 l → length l ≤ 58 → cut_at 10 (take 59 (l ++ (10 ∷ data_bytes))) ≡ Some (l, take (58 - length l) data_bytes)
line_found l data_bytes clean few =
    let room : 59 ≡ length l + (58 - length l + 1) = omega (arith, few) in
    ap (λ (k : ℕ). cut_at 10 (take k (l ++ (10 ∷ data_bytes)))) room ∙ cut_line l data_bytes (58 - length l) clean

-- ---- the head

pub record EndsLine (codec : Codec) (bits : ℕ) (b : List ℕ) : Type 0 where
  pub text : bits_text codec ≡ 32 ∷ (b ++ 10 ∷ [])
  pub reads : number b ≡ Some bits
  pub clean : Clean 10 b
  pub few : length b ≤ 2
  pub codec_is : codec_of bits ≡ codec
  pub are : are_bits bits ≡ true

good_params : (p : Parameters) → AreParams p → params_of p.channels p.rate p.codec ≡ Ok p
good_params p good =
    let one : nat_le 1 p.channels ≡ true = le-leb 1 p.channels good.some_channel in
    let most : nat_le p.channels 256 ≡ true = le-leb p.channels 256 good.most_channels in
    let some : nat_le 1 p.rate ≡ true = le-leb 1 p.rate good.some_rate in
    let few : nat_lt p.rate (2 ^ 32) ≡ true = lt-ltb p.rate (2 ^ 32) good.most_rate in
    let none : params_refusal p.channels p.rate p.codec ≡ None = rw (one, most, some, few) good.blocks in
    rw none refl

abbrev head_from : Parameters → ℕ → Result Head OpenRefusal
head_from p n = Ok (record { params = p; start = n })

reads_with : (p : Parameters) (data_bytes : List ℕ) (bits : ℕ) (b : List ℕ) → AreParams p → EndsLine p.codec bits b → pvf_head (pvf_text p ++ data_bytes) ≡ Ok (record { params = p; start = length (pvf_text p) })
unfolding has_mark second_line
reads_with p data_bytes bits b good ends =
    let c = decimal p.channels in
    let r = decimal p.rate in
    let l = line_of c r b in
    let clean : Clean 10 l = line_clean c r b (decimal_clean 10 p.channels (omega arith) good.some_channel (omega (arith, good.most_channels))) (decimal_clean 10 p.rate (omega arith) good.some_rate good.most_rate) ends.clean in
    let c_size : length c ≤ 3 = length-decimal-le 3 p.channels (omega arith) (omega (arith, good.most_channels)) (omega (arith, good.most_channels)) in
    let r_size : length r ≤ 10 = length-decimal-le 10 p.rate (omega arith) (omega (arith, good.most_rate)) (omega (arith, good.most_rate)) in
    let few : length l ≤ 58 = omega (arith, length_line c r b, c_size, r_size, ends.few) in
    let text : text_behind c r (bits_text p.codec) ++ data_bytes ≡ l ++ (10 ∷ data_bytes) = behind_is c r b (bits_text p.codec) data_bytes ends.text in
    let found : cut_at 10 (take 59 (text_behind c r (bits_text p.codec) ++ data_bytes)) ≡ Some (l, take (58 - length l) data_bytes) = ap (λ (y : List ℕ). cut_at 10 (take 59 y)) text ∙ line_found l data_bytes clean few in
    let stated = line_reads c r b p.channels p.rate bits (decimal_clean 32 p.channels (omega arith) good.some_channel (omega (arith, good.most_channels))) (decimal_clean 32 p.rate (omega arith) good.some_rate good.most_rate) (decimal_reads p.channels good.some_channel (omega (arith, good.most_channels))) (decimal_reads p.rate good.some_rate good.most_rate) ends.reads in
    let end_size : length (text_behind c r (bits_text p.codec)) ≡ length l + 1 =
    ap length (sym (append-nil (text_behind c r (bits_text p.codec))) ∙ behind_is c r b (bits_text p.codec) [] ends.text) ∙ length-append l (10 ∷ []) in
    let start : 5 + length l + 1 ≡ length (pvf_text p) = omega (arith, end_size) in
    let params = good_params p good in
    rw (found, stated, ends.codec_is, params, ends.are) (ap (λ (n : ℕ). head_from p n) start)

ends_of : (codec : Codec) → is_pvf_codec codec ≡ true → (bits : ℕ) × (b : List ℕ) × EndsLine codec bits b
ends_of S8 is = (8, codes "8", record { text = refl; reads = refl; clean = (refl, tt); few = omega arith; codec_is = refl; are = refl })
ends_of (S16 Big) is = (16, codes "16", record { text = refl; reads = refl; clean = (refl, (refl, tt)); few = omega arith; codec_is = refl; are = refl })
ends_of (S32 Big) is = (32, codes "32", record { text = refl; reads = refl; clean = (refl, (refl, tt)); few = omega arith; codec_is = refl; are = refl })
ends_of U8 is = absurd (cc)
ends_of (S16 Little) is = absurd (cc)
ends_of (S24 order) is = absurd (cc)
ends_of (S32 Little) is = absurd (cc)
ends_of MuLaw is = absurd (cc)
ends_of ALaw is = absurd (cc)
ends_of (Ima align per_block) is = absurd (cc)
ends_of (Ms align per_block) is = absurd (cc)

pub heads_read_back : (p : Parameters) (data_bytes : List ℕ) → AreParams p → is_pvf_codec p.codec ≡ true → pvf_head (pvf_text p ++ data_bytes) ≡ Ok (record { params = p; start = length (pvf_text p) })
heads_read_back p data_bytes good is = let e = ends_of p.codec is in reads_with p data_bytes e.0 e.1 good e.2
