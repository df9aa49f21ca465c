-- What options set, one after the other.
use Rattle.std.proofs.Common.{◌≡◌, ℕ, List, [], ◌∷◌, ◌++◌, Option, Some, None, option_map, refl, sym}
use Rattle.std.specs.Option.{option_and_then, option_to_list}
use Rattle.snd_fields.specs.declared.field.Order.{Order}
use Rattle.snd_rack.specs.Stage.{Stated as StageSetting}
use Rattle.snd_words.specs.declared.convert.CodecChoice.{CodecChoice}
use Rattle.snd_words.specs.declared.convert.Setting.{Setting}
use Rattle.snd_words.specs.declared.convert.Setting.TheVariants as sets
use Rattle.snd_words.specs.declared.convert.Settings.{Settings}
use Rattle.snd_words.specs.Convert.{together, settled_on}
use Rattle.snd_words.specs.Options.{all_of, at_most_one}

-- what is there, with nothing behind it
alone : {T : Type 0} (o : Option T) → at_most_one (option_to_list o ++ []) ≡ Some o
alone None = refl
alone (Some x) = refl

-- where something stands twice
no_order : (r : Option (Option ℕ)) (c : Option (Option CodecChoice)) (k : Option (Option (List StageSetting))) → together r None c k ≡ None
no_order None c k = refl
no_order (Some r) c k = refl

no_codec : (r : Option (Option ℕ)) (o : Option (Option Order)) (k : Option (Option (List StageSetting))) → together r o None k ≡ None
no_codec None o k = refl
no_codec (Some r) None k = refl
no_codec (Some r) (Some o) k = refl

no_rack : (r : Option (Option ℕ)) (o : Option (Option Order)) (c : Option (Option CodecChoice)) → together r o c None ≡ None
no_rack None o c = refl
no_rack (Some r) None c = refl
no_rack (Some r) (Some o) None = refl
no_rack (Some r) (Some o) (Some c) = refl

-- the rates, orders, codecs and racks of options behind those that are there
abbrev joined : Option ℕ → Option Order → Option CodecChoice → Option (List StageSetting) → List Setting → Option Settings
joined r o c k xs = settled_on (record { rate = r; order = o; codec = c; rack = k }) xs

one_more : (r : Option ℕ) (o : Option Order) (c : Option CodecChoice) (k : Option (List StageSetting)) (x : Setting) (xs : List Setting)
    → joined r o c k (x ∷ xs) ≡ option_and_then (λ t. settled_on t xs) (joined r o c k (x ∷ []))
one_more None o c k (sets.Rate v) xs = rw (alone o, alone c, alone k) refl
one_more (Some r) o c k (sets.Rate v) xs = refl
one_more r None c k (sets.Order v) xs = rw (alone r, alone c, alone k) refl
one_more r (Some o) c k (sets.Order v) xs = rw (alone r) (no_order _ _ _)
one_more r o None k (sets.Codec v) xs = rw (alone r, alone o, alone k) refl
one_more r o (Some c) k (sets.Codec v) xs = rw (alone r, alone o) (no_codec _ _ _)
one_more r o c None (sets.Rack v) xs = rw (alone r, alone o, alone c) refl
one_more r o c (Some k) (sets.Rack v) xs = rw (alone r, alone o, alone c) (no_rack _ _ _)

nothing_then : (o : Option Settings) → option_and_then (λ t. option_and_then (settled_on t) None) o ≡ None
nothing_then None = refl
nothing_then (Some t) = refl

-- one option, and those behind it
pub next_setting : (s : Settings) (form : List ℕ → Option Setting) (word : List ℕ) (words : List (List ℕ)) (x : Setting) → form word ≡ Some x
    → option_and_then (settled_on s) (all_of form (word ∷ words)) ≡ option_and_then (λ t. option_and_then (settled_on t) (all_of form words)) (settled_on s (x ∷ []))
next_setting s form word words x is = rw is (behind (all_of form words))
  where
    behind : (o : Option (List Setting)) → option_and_then (settled_on s) (option_map (λ xs. x ∷ xs) o) ≡ option_and_then (λ t. option_and_then (settled_on t) o) (settled_on s (x ∷ []))
    behind None = sym (nothing_then (settled_on s (x ∷ [])))
    behind (Some xs) = one_more s.rate s.order s.codec s.rack x xs

pub unknown_setting : (s : Settings) (form : List ℕ → Option Setting) (word : List ℕ) (words : List (List ℕ)) → form word ≡ None
    → option_and_then (settled_on s) (all_of form (word ∷ words)) ≡ None
unknown_setting s form word words is = rw is refl
