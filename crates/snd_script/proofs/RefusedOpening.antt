-- Why a file is not opened to be read.
use Rattle.std.proofs.Common.{◌≡◌, ℕ, List, Err, refl, ap}
use Rattle.snd_disk.specs.Device.{Tells}
use Rattle.snd_disk.specs.State.{State}
use Rattle.snd_layout.specs.Opened.{IsCause}
use Rattle.snd_layout.specs.declared.error.OpenError.{OpenError}
use Rattle.snd_layout.specs.declared.error.OpenError.TheVariants.{Refused, AdpcmUpdate, UnknownLength, DiskFault, Memory}
use Rattle.snd_layout.specs.declared.refusal.OpenRefusal.{OpenRefusal}
use Rattle.snd_edits.specs.Editing.{opening_of}
use Rattle.snd_rules.specs.Edit.{Opening, as_opened}
use Rattle.snd_script.specs.Opened.{RefusesOpen}

pub refused_reading : {D : Type 0} (state : D → State) (disk : D) (old new : ℕ) (error : OpenError) → IsCause old new error
    → ((refusal : OpenRefusal) (b : List ℕ) → error ≡ Refused refusal → Tells state disk b → opening_of b ≡ Err refusal) → RefusesOpen state Opening.for_reading disk error
refused_reading state disk old new (Refused refusal) cause opened = λ b told. ap as_opened (opened refusal b refl told)
refused_reading state disk old new (DiskFault step) cause opened = tt
refused_reading state disk old new Memory cause opened = tt
refused_reading state disk old new AdpcmUpdate cause opened = absurd cause
refused_reading state disk old new UnknownLength cause opened = absurd cause
