-- Why a disk is not opened to be updated.
use Rattle.std.proofs.Common.{◌≡◌, ap, refl, ℕ, List, Err}
use Rattle.snd_disk.specs.Device.{Tells}
use Rattle.snd_disk.specs.State.{State}
use Rattle.snd_layout.specs.Opened.{IsCause}
use Rattle.snd_layout.specs.declared.error.OpenError.{OpenError}
use Rattle.snd_layout.specs.declared.error.OpenError.TheVariants.{Refused, AdpcmUpdate, UnknownLength, DiskFault, Memory}
use Rattle.snd_layout.specs.declared.refusal.OpenRefusal.{OpenRefusal}
use Rattle.snd_container.specs.Sound.{layout_of}
use Rattle.snd_edits.specs.Updating.{updating_as, updating_of}
use Rattle.snd_opening.specs.Updating.{RefusesUpdate}

updating_refused : (b : List ℕ) (r : OpenRefusal) → layout_of b ≡ Err r → updating_of b ≡ Err (Refused r)
unfolding updating_of
updating_refused b r is = ap (updating_as b) is

pub refused_update : {D : Type 0} (state : D → State) (disk : D) (old new : ℕ) (error : OpenError) → IsCause old new error
    → ((r : OpenRefusal) (b : List ℕ) → error ≡ Refused r → Tells state disk b → layout_of b ≡ Err r) → RefusesUpdate state disk error
refused_update state disk old new (Refused r) cause opened = λ b told. updating_refused b r (opened r b refl told)
refused_update state disk old new (DiskFault step) cause opened = tt
refused_update state disk old new Memory cause opened = tt
refused_update state disk old new AdpcmUpdate cause opened = absurd cause
refused_update state disk old new UnknownLength cause opened = absurd cause
