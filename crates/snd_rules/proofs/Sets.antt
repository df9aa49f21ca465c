-- Work that sets nothing.
use Rattle.std.proofs.Common.{◌≡◌, false, refl}
use Rattle.snd_rules.specs.Work.{work_sets}
use Rattle.snd_rules.specs.declared.work.Setting.{Setting}
use Rattle.snd_rules.specs.declared.work.Work.{Work}
use Rattle.snd_rules.specs.declared.work.Work.TheVariants.{Open, Update, Make, Close, Tell, SeekRead, SeekWrite, SeekBoth, Read, Write, Truncate, Trim, BringUp, Auto, Promote, Set, Ask, Tap, Untap}

pub sets_nothing : (work : Work) → ((setting : Setting) → work ≡ Set setting → ⊥) → work_sets work ≡ false
sets_nothing (Set setting) other = absurd (other setting refl)
sets_nothing (Open name) other = refl
sets_nothing (Update name) other = refl
sets_nothing (Make kind codec channels rate name) other = refl
sets_nothing Close other = refl
sets_nothing Tell other = refl
sets_nothing (SeekRead n) other = refl
sets_nothing (SeekWrite n) other = refl
sets_nothing (SeekBoth n) other = refl
sets_nothing (Read n) other = refl
sets_nothing (Write xs) other = refl
sets_nothing (Truncate n) other = refl
sets_nothing Trim other = refl
sets_nothing BringUp other = refl
sets_nothing (Auto on) other = refl
sets_nothing Promote other = refl
sets_nothing (Ask asking) other = refl
sets_nothing (Tap kind) other = refl
sets_nothing (Untap kind) other = refl
