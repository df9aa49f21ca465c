-- The first of some outputs, one more at a time: the last of them is taken out, the others are made, and it is.
use Rattle.std.proofs.Common.{◌≡◌, ◌∙◌, ap, sym, subst, ℕ, ◌+◌, Bool, true, false, cond, List, [], ◌∷◌, ◌++◌, Some, length, take, slice_get, arith}
use Rattle.std.proofs.lemmas.List.{length-take, take_all}
use Rattle.std.proofs.lemmas.Option.{slice_get_within}
use Rattle.std.specs.Str.{bytes_eq}
use Rattle.snd_disk.specs.declared.disk.Disk.{Ghosts as DiskMeaning}
use Rattle.snd_disk.specs.declared.shelf.Shelf.{Ghosts as ShelfMeaning}
use Rattle.snd_disk.specs.Device.{GoesOnFrom}
use Rattle.snd_disk.specs.Shelf.{Files, Gives, ShelfState, Takes}
use Rattle.snd_disk.specs.Shelves.{HandsOut, KeepsOthers, TakesBack, TellsFiles}
use Rattle.snd_inputs.proofs.Public.{one_more}
use Rattle.snd_tools.specs.Shelves.{HasFiles}
use Rattle.snd_deinterleave.specs.Among.{ChangesAmong, is_among}
use Rattle.snd_deinterleave.specs.Making.{AreApartNames, AreIn}
use Rattle.snd_deinterleave.specs.Outputs.{puts}
use Rattle.snd_deinterleave.proofs.Leaving.{given_among, given_puts}
use Rattle.snd_deinterleave.proofs.Repeating.{among_front, among_last, name_apart, not_among}

pub all_of : (outputs : List (List ℕ)) (count : ℕ) → count ≡ length outputs → take count outputs ≡ outputs
all_of outputs count all = take_all count outputs (omega (arith, all))

module _ (outputs : List (List ℕ)) (last count : ℕ) (name : List ℕ) (more : count ≡ last + 1) (there : slice_get outputs last ≡ Some name) where
  first_names : take count outputs ≡ take last outputs ++ name ∷ []
  first_names = ap (λ (n : ℕ). take n outputs) more ∙ one_more outputs last name there

  front_long : length (take last outputs) ≡ last
  front_long = omega (arith, length-take last outputs, slice_get_within outputs last name there)

  -- the last one is among them
  pub last_among : is_among (take count outputs) name ≡ true
  last_among = ap (λ (l : List (List ℕ)). is_among l name) first_names ∙ among_last (take last outputs) name

  module _ (apart : AreApartNames outputs) where
    -- .. and once it is taken out, the others are in
    pub others_in : (old mid : ShelfState) → ((n : List ℕ) → mid.out n ≡ cond (bytes_eq n name) true (old.out n)) → AreIn (take count outputs) old → AreIn (take last outputs) mid
    others_in old mid takes all_in n among =
        takes n ∙ ap (λ (t : Bool). cond t true (old.out n)) (not_among (take last outputs) name n (name_apart outputs last name apart there) among)
        ∙ all_in n (ap (λ (l : List (List ℕ)). is_among l n) first_names ∙ among_front (take last outputs) name n among)

    module _ {S D : Type 0} (s : ShelfMeaning S D) (d : DiskMeaning D) (old mid mid' new : S) (taken given : D) (takes : Takes (s.state old) (s.state mid) name true (d.state taken))
        (changes : ChangesAmong s (take last outputs) mid mid') (gives : Gives (s.state mid') (s.state new) name (d.state given)) where
      pub first_puts : (file : ℕ → List ℕ) (files : Files) (told : TellsFiles s.state old files) → (d.state given).contents ≡ Some (file last)
          → HasFiles s.state mid' (puts (take last outputs) file 0 (takes.files files told).0) → HasFiles s.state new (puts (take count outputs) file 0 files)
      first_puts file files told bytes has =
          subst (λ (l : List (List ℕ)). HasFiles s.state new (puts l file 0 files)) (sym first_names)
          (given_puts s d (take last outputs) old mid mid' new taken given name true takes changes gives file files told (name_apart outputs last name apart there)
          (bytes ∙ ap (λ (k : ℕ). Some (file k)) (sym front_long)) has)

      pub first_among : HandsOut s.state s.may_leave s.left_between d.state d.may_leave d.left_between name old taken → TakesBack s.state s.may_leave s.left_between d.state d.may_leave d.left_between name new given
          → KeepsOthers s.state s.may_leave s.left_between name old mid → KeepsOthers s.state s.may_leave s.left_between name mid' new → GoesOnFrom d.state d.left_between taken given
          → (s.state old).out name ≡ false → ((b : List ℕ) → (d.state taken).contents ≡ Some b → (b' : List ℕ) × ((d.state given).contents ≡ Some b')) → ChangesAmong s (take count outputs) old new
      first_among handed back others others' goes was tells =
          subst (λ (l : List (List ℕ)). ChangesAmong s l old new) (sym first_names)
          (given_among s d (take last outputs) old mid mid' new taken given name true takes changes gives handed back others others' goes was tells)
