-- Blocks that a rule writes of numbers of 16 bits are bytes, where those of one block are.
use Rattle.std.proofs.Common.{ℕ, ℤ, zero, suc, pos, negsuc, ◌+◌, ◌-◌, ◌*◌, ◌/◌, ◌%◌, ◌<◌, ◌≤ℤ◌, List, [], ◌∷◌, ◌++◌, All, length, take, drop, replicate, arith}
use Rattle.std.proofs.lemmas.Int.{ints}
use Rattle.std.proofs.lemmas.List.Elements.{All-append, All-cons, All-drop, All-head, All-nil, All-replicate, All-tail, All-take}
use Rattle.snd_fields.specs.Laws.{IsByte}
use Rattle.snd_ima_adpcm.specs.Blocks.{Rule, filled, bytes_of_blocks, bytes_of_list}
use Rattle.snd_ima_adpcm.specs.Frames.{Is16Bit, bytes_16, bytes_high_half_first, bytes_low_half_first}

-- ---- blocks

-- where a state is good, a rule makes bytes of numbers of 16 bits, and the next state is good
pub record MakesBytes {State : Type 0} (rule : Rule State) (IsGood : State → Type 0) : Type 0 where
  pub bytes : (state : State) (xs : List ℤ) → IsGood state → All Is16Bit xs → All IsByte (rule.bytes state xs)
  pub next : (state : State) (xs : List ℤ) → IsGood state → IsGood (rule.next state xs)

blocks_bytes : {State : Type 0} (rule : Rule State) (IsGood : State → Type 0) → MakesBytes rule IsGood → (n count : ℕ) (state : State) (xs : List ℤ) → IsGood state → All Is16Bit xs →
    All IsByte (bytes_of_blocks rule n count state xs)
blocks_bytes rule IsGood makes n zero state xs good all = All-nil IsByte
blocks_bytes rule IsGood makes n (suc count) state xs good all =
    All-append IsByte (rule.bytes state (take n xs)) (bytes_of_blocks rule n count (rule.next state (take n xs)) (drop n xs))
    (makes.bytes state (take n xs) good (All-take Is16Bit n xs all))
    (blocks_bytes rule IsGood makes n count (rule.next state (take n xs)) (drop n xs) (makes.next state (take n xs) good) (All-drop Is16Bit n xs all))

pub zero_has_16 : Is16Bit (pos 0)
zero_has_16 = record { least = omega (arith, ints); most = omega (arith, ints) }

pub list_bytes : {State : Type 0} (rule : Rule State) (IsGood : State → Type 0) → MakesBytes rule IsGood → (n : ℕ) (state : State) (xs : List ℤ) → IsGood state → All Is16Bit xs →
    All IsByte (bytes_of_list rule n state xs)
list_bytes rule IsGood makes n state xs good all =
    let zeros = (n - length xs % n) % n in
    blocks_bytes rule IsGood makes n (length (filled n xs) / n) state (filled n xs) good (All-append Is16Bit xs (replicate zeros (pos 0)) all (All-replicate Is16Bit zeros (pos 0) zero_has_16))

-- ---- numbers and codes as bytes

pub word_bytes : (n : ℕ) → n < 65536 → All IsByte (n % 256 ∷ n / 256 ∷ [])
word_bytes n lt = All-cons IsByte (n % 256) (n / 256 ∷ []) (omega arith) (All-cons IsByte (n / 256) [] (omega arith) (All-nil IsByte))

pub number_bytes : (x : ℤ) → Is16Bit x → All IsByte (bytes_16 x)
number_bytes (pos n) is = word_bytes n (omega (arith, ints))
number_bytes (negsuc n) is = word_bytes (65535 - n) (omega arith)

abbrev pub IsCode : ℕ → Type 0
IsCode code = code < 16

pub low_first_bytes : (codes : List ℕ) → All IsCode codes → All IsByte (bytes_low_half_first codes)
low_first_bytes [] all = All-nil IsByte
low_first_bytes (code ∷ []) all = All-nil IsByte
low_first_bytes (one ∷ two ∷ codes) all =
    let behind = All-tail IsCode one (two ∷ codes) all in
    let first : one < 16 = All-head IsCode one (two ∷ codes) all in
    let second : two < 16 = All-head IsCode two codes behind in
    All-cons IsByte (one + 16 * two) (bytes_low_half_first codes) (omega arith) (low_first_bytes codes (All-tail IsCode two codes behind))

pub high_first_bytes : (codes : List ℕ) → All IsCode codes → All IsByte (bytes_high_half_first codes)
high_first_bytes [] all = All-nil IsByte
high_first_bytes (code ∷ []) all = All-nil IsByte
high_first_bytes (one ∷ two ∷ codes) all =
    let behind = All-tail IsCode one (two ∷ codes) all in
    let first : one < 16 = All-head IsCode one (two ∷ codes) all in
    let second : two < 16 = All-head IsCode two codes behind in
    All-cons IsByte (16 * one + two) (bytes_high_half_first codes) (omega arith) (high_first_bytes codes (All-tail IsCode two codes behind))
