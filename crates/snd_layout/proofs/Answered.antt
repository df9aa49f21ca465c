-- What is answered of a file where a part of the work has answered.
use Rattle.std.proofs.Common.{◌≡◌, ℕ, List, Ok, Err, refl, ap, ◌∙◌}
use Rattle.std.specs.Prelude.{Result}
use Rattle.snd_disk.specs.Device.{Tells}
use Rattle.snd_disk.specs.State.{State}
use Rattle.snd_layout.specs.Opened.{OpensAs}
use Rattle.snd_layout.specs.declared.error.OpenError.{OpenError}
use Rattle.snd_layout.specs.declared.error.OpenError.TheVariants.{Refused}
use Rattle.snd_layout.specs.declared.refusal.OpenRefusal.{OpenRefusal}

-- a refusal that was found
pub refusal_found : {D T : Type 0} (state : D → State) (disk : D) (given : List ℕ → Result T OpenRefusal) (refusal : OpenRefusal) (r : Result T OpenError) → r ≡ Err (Refused refusal)
    → ((b : List ℕ) → Tells state disk b → given b ≡ Err refusal) → OpensAs state disk given r
refusal_found state disk given refusal (Ok x) is found = absurd (cc)
refusal_found state disk given refusal (Err e) is found = λ other b by told. let same : refusal ≡ other = cc in found b told ∙ ap (λ (o : OpenRefusal). Err o) same

-- the error of a part, which is the whole's
pub passed_on : {D T U : Type 0} (state : D → State) (disk : D) (given : List ℕ → Result T OpenRefusal) (given' : List ℕ → Result U OpenRefusal) (r : Result U OpenError) (error : OpenError) → r ≡ Err error
    → ((b : List ℕ) (refusal : OpenRefusal) → given b ≡ Err refusal → given' b ≡ Err refusal) → OpensAs state disk given (Err error) → OpensAs state disk given' r
passed_on state disk given given' (Ok x) error is means found = absurd (cc)
passed_on state disk given given' (Err e) error is means found = λ refusal b by told. let by_part : error ≡ Refused refusal = cc in means b refusal (found refusal b by_part told)

-- the answer of a part, which is the whole's
pub opens_on : {D T : Type 0} (state : D → State) (old mid : D) (given given' : List ℕ → Result T OpenRefusal) (r : Result T OpenError) → (state mid).contents ≡ (state old).contents
    → ((b : List ℕ) → Tells state old b → given' b ≡ given b) → OpensAs state mid given r → OpensAs state old given' r
opens_on state old mid given given' (Ok x) same means found = λ b told. means b told ∙ found b (same ∙ told)
opens_on state old mid given given' (Err e) same means found = λ refusal b by told. means b told ∙ found refusal b by (same ∙ told)

-- what is answered of what a disk held then, it held before
pub opens_from : {D T : Type 0} (state : D → State) (old mid : D) (given : List ℕ → Result T OpenRefusal) (r : Result T OpenError) → (state mid).contents ≡ (state old).contents → OpensAs state mid given r → OpensAs state old given r
opens_from state old mid given r same found = opens_on state old mid given given r same (λ b told. refl) found

-- the error of a part of a disk's contents, which is the whole's
pub passed_from : {D T U : Type 0} (state : D → State) (old mid : D) (given : List ℕ → Result T OpenRefusal) (given' : List ℕ → Result U OpenRefusal) (r : Result U OpenError) (error : OpenError) → r ≡ Err error
    → (state mid).contents ≡ (state old).contents → ((b : List ℕ) (refusal : OpenRefusal) → Tells state old b → given b ≡ Err refusal → given' b ≡ Err refusal)
    → OpensAs state mid given (Err error) → OpensAs state old given' r
passed_from state old mid given given' (Ok x) error is same means found = absurd (cc)
passed_from state old mid given given' (Err e) error is same means found = λ refusal b by told. let by_part : error ≡ Refused refusal = cc in means b refusal told (found refusal b by_part (same ∙ told))
