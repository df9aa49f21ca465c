-- Two inputs that are read, the first one and then the other.
use Rattle.std.proofs.Common.{◌≡◌, ℕ, ◌<◌, List, length, get_or, set, Result, Ok, arith}
use Rattle.std.proofs.lemmas.List.{get_or_default, length-set}
use Rattle.snd_disk.specs.declared.disk.Disk.{Ghosts}
use Rattle.snd_inputs.specs.declared.input.Input.{Input}
use Rattle.snd_layout.specs.Shape.{Shape}
use Rattle.snd_output.specs.Ends.{CountsStop}
use Rattle.snd_output.specs.declared.stop.Stop.{Stop}
use Rattle.snd_interleave.specs.Asking.{AsksEach, AsksFirst, AsksInput}
use Rattle.snd_interleave.specs.Channels.{CountsInputs, ReadAll, Reads, faults_of}
use Rattle.snd_interleave.proofs.Asking.{first_each, first_more, first_none}
use Rattle.snd_interleave.proofs.Counts.{counts_one, inputs_then}
use Rattle.snd_interleave.proofs.Inputs.{all_unread, one_read, read_then}

module _ {D : Type 0} (ghosts : Ghosts D) (xs : List (Input D ghosts)) (two : length xs ≡ 2) (d y : Input D ghosts) where
  -- the first one, and both when it was read
  abbrev pub head : Input D ghosts
  head = get_or xs 0 d

  abbrev pub mid : List (Input D ghosts)
  mid = set xs 0 y

  pub head_within : 0 < length xs
  head_within = omega (arith, two)

  pub head_is : head ≡ get_or xs 0 head
  head_is = get_or_default xs 0 d head head_within

  pub head_read : Reads ghosts head y → ReadAll ghosts xs mid
  head_read reads = one_read ghosts xs 0 head y head_within head_is reads

  head_asked : (most : Shape → ℕ) → AsksInput ghosts.state most head y → AsksFirst ghosts.state 1 most xs mid
  head_asked most asks = first_more ghosts.state most xs xs 0 head y head_within head_is (all_unread ghosts xs) asks (first_none ghosts.state most xs)

  pub asked_head : (most : Shape → ℕ) → AsksInput ghosts.state most head y → AsksEach ghosts.state most xs mid
  asked_head most asks = first_each ghosts.state 1 most xs mid (head_asked most asks)

  module _ (d' z : Input D ghosts) where
    abbrev pub last : Input D ghosts
    last = get_or mid 1 d'

    pub last_within : 1 < length mid
    last_within = omega (arith, two, length-set xs 0 y)

    pub last_is : last ≡ get_or mid 1 last
    last_is = get_or_default mid 1 d' last last_within

    pub both_read : Reads ghosts head y → Reads ghosts last z → ReadAll ghosts xs (set mid 1 z)
    both_read reads reads' = read_then ghosts xs mid (set mid 1 z) (head_read reads) (one_read ghosts mid 1 last z last_within last_is reads')

    pub asked_both : (most : Shape → ℕ) → Reads ghosts head y → AsksInput ghosts.state most head y → AsksInput ghosts.state most last z → AsksEach ghosts.state most xs (set mid 1 z)
    asked_both most reads asks asks' =
        first_each ghosts.state 2 most xs (set mid 1 z) (first_more ghosts.state most xs mid 1 last z last_within last_is (head_read reads) asks' (head_asked most asks))

    pub counts_both : {T : Type 0} (r : Result T Stop) → faults_of ghosts.state y ≡ faults_of ghosts.state head
        → CountsStop (faults_of ghosts.state last) (faults_of ghosts.state z) r → CountsInputs ghosts.state xs (set mid 1 z) r
    counts_both r calm counts =
        inputs_then ghosts.state xs mid (set mid 1 z) (length-set xs 0 y) r
        (counts_one ghosts.state xs 0 head y head_within head_is {T = Unit {0}} (Ok (tt {0})) calm)
        (counts_one ghosts.state mid 1 last z last_within last_is r counts)
