-- Inputs that are open side by side, as the code has them. It is said for the proofs alone.
use Rattle.std.specs.Prelude.{◌≡◌, ◌⊎◌, ℕ, ℤ, true, ◌<◌, ◌≤◌, List, [], ◌∷◌, ◌++◌, Option, None, Some, Result, Ok, Err, IfOk, OnOk, Vec, get_or, length, map, max}
use Rattle.std.specs.declared.alloc.Global.{Global}
use Rattle.snd_chunks.specs.Written.{NewChunk}
use Rattle.snd_disk.specs.declared.disk.Disk.{Ghosts}
use Rattle.snd_disk.specs.Device.{OnlyReadsOn, Tells}
use Rattle.snd_disk.specs.Shelf.{Files, ShelfState, put}
use Rattle.snd_disk.specs.Shelves.{TellsFiles}
use Rattle.snd_disk.specs.State.{Rises, State}
use Rattle.snd_inputs.specs.Copying.{faults_of_file}
use Rattle.snd_inputs.specs.Opening.{Holds}
use Rattle.snd_inputs.specs.declared.input.Input.{Input}
use Rattle.snd_layout.specs.Params.{Parameters}
use Rattle.snd_layout.specs.Shape.{Shape}
use Rattle.snd_layout.specs.declared.codec.Codec.{Codec}
use Rattle.snd_layout.specs.declared.kind.Kind.{Kind}
use Rattle.snd_file.specs.declared.handle.File.{File}
use Rattle.snd_edits.specs.declared.mode.Mode.{Ghosts as ModeGhosts}
use Rattle.snd_edits.specs.Editing.{Editing}
use Rattle.snd_file.specs.Handle.{Stands, codec_of}
use Rattle.snd_inputs.specs.Inputs.{first_bad, is_bad}
use Rattle.snd_output.specs.Ends.{IfChanged}
use Rattle.snd_output.specs.Made.{IsMaking, made_file}
use Rattle.snd_output.specs.declared.stop.Stop.{Stop}
use Rattle.snd_output.specs.declared.stop.Stop.TheVariants.{Changed, Fault, Memory}
use Rattle.snd_tools.specs.Done.{Done}
use Rattle.snd_tools.specs.Shelves.{HasFiles, IsDone}
use Rattle.snd_tools.specs.declared.answer.Answer.{Answer}
use Rattle.snd_interleave.specs.Beside.{frames_from, side_by_side}
use Rattle.snd_interleave.specs.Interleave.{channels_in, made_if_good}
use Rattle.snd_words.specs.declared.interleave.Interleaving.{Interleaving}

-- ---- one input

-- an input was only read
pub record Reads {D : Type 0} (ghosts : Ghosts D) (old new : Input D ghosts) : Type 0 where
  pub layout : new.layout ≡ old.layout
  pub disk : OnlyReadsOn ghosts.state ghosts.may_leave ghosts.left_between old.disk new.disk

abbrev pub faults_of : {D : Type 0} {ghosts : Ghosts D} → (D → State) → Input D ghosts → ℕ
faults_of state input = (state input.disk).faults

-- ---- several

pub record HoldAll {D : Type 0} {ghosts : Ghosts D} (state : D → State) (inputs : List (Input D ghosts)) (es : List Editing) : Type 0 where
  pub count : length es ≡ length inputs
  pub each : (k : ℕ) (d : Input D ghosts) (d' : Editing) → k < length inputs → Holds state (get_or inputs k d) (get_or es k d')

pub record ReadAll {D : Type 0} (ghosts : Ghosts D) (old new : List (Input D ghosts)) : Type 0 where
  pub count : length new ≡ length old
  pub each : (k : ℕ) (d d' : Input D ghosts) → k < length old → Reads ghosts (get_or old k d) (get_or new k d')

-- what they say of themselves
abbrev pub layouts_of : {D : Type 0} {ghosts : Ghosts D} → List (Input D ghosts) → List Shape
layouts_of inputs = map (λ input. input.layout) inputs

-- the kind and the parameters of the first
abbrev pub first_of : List Shape → Option (Kind × Parameters)
first_of [] = None
first_of (h ∷ hs) = Some (h.kind, h.params)

-- they have one channel each
abbrev pub AreMono : {D : Type 0} {ghosts : Ghosts D} → List (Input D ghosts) → Type 0
AreMono {D = D} {ghosts = ghosts} inputs = (k : ℕ) (d : Input D ghosts) → k < length inputs → (get_or inputs k d).layout.params.channels ≡ 1

-- the greatest number of frames that one of them has
abbrev pub most_frames : List Shape → ℕ
most_frames [] = 0
most_frames (h ∷ hs) = max h.frames (most_frames hs)

-- ---- counts of faults

-- those of no disk have risen
abbrev pub AreCalm : {D : Type 0} {ghosts : Ghosts D} → (D → State) → List (Input D ghosts) → List (Input D ghosts) → Type 0
AreCalm {D = D} {ghosts = ghosts} state old new = (k : ℕ) (d d' : Input D ghosts) → k < length old → faults_of state (get_or new k d') ≡ faults_of state (get_or old k d)

-- none has fallen
abbrev pub AreLater : {D : Type 0} {ghosts : Ghosts D} → (D → State) → List (Input D ghosts) → List (Input D ghosts) → Type 0
AreLater {D = D} {ghosts = ghosts} state old new = (k : ℕ) (d d' : Input D ghosts) → k < length old → faults_of state (get_or old k d) ≤ faults_of state (get_or new k d')

-- that of one has risen
abbrev pub OneRises : {D : Type 0} {ghosts : Ghosts D} → (D → State) → List (Input D ghosts) → List (Input D ghosts) → Type 0
OneRises {D = D} {ghosts = ghosts} state old new = (k : ℕ) × (k < length old) × ((d d' : Input D ghosts) → Rises (faults_of state (get_or old k d)) (faults_of state (get_or new k d')))

-- One rises where the answer is a fault, and there alone.
abbrev pub CountsInputs : {D T : Type 0} {ghosts : Ghosts D} → (D → State) → List (Input D ghosts) → List (Input D ghosts) → Result T Stop → Type 0
CountsInputs state old new (Ok done) = AreCalm state old new
CountsInputs state old new (Err Fault) = AreLater state old new × OneRises state old new
CountsInputs state old new (Err Memory) = AreCalm state old new
CountsInputs state old new (Err Changed) = AreCalm state old new

-- One of theirs rises so, or another one.
abbrev pub CountsWith : {D T : Type 0} {ghosts : Ghosts D} → (D → State) → List (Input D ghosts) → List (Input D ghosts) → ℕ → ℕ → Result T Stop → Type 0
CountsWith state old new other other' (Ok done) = AreCalm state old new × (other' ≡ other)
CountsWith state old new other other' (Err Fault) = AreLater state old new × (other ≤ other') × (OneRises state old new ⊎ Rises other other')
CountsWith state old new other other' (Err Memory) = AreCalm state old new × (other' ≡ other)
CountsWith state old new other other' (Err Changed) = AreCalm state old new × (other' ≡ other)

-- .. of a shelf, of a disk that is made, or of an open file
abbrev pub CountsBeside : {D S T : Type 0} {ghosts : Ghosts D} → (D → State) → (S → ShelfState) → List (Input D ghosts) → List (Input D ghosts) → S → S → Result T Stop → Type 0
CountsBeside state shelf_state old new shelf shelf' result = CountsWith state old new (shelf_state shelf).faults (shelf_state shelf').faults result

abbrev pub CountsAll : {D S T : Type 0} {ghosts : Ghosts D}
    → (D → State) → (S → ShelfState) → Vec (Input D ghosts) Global → Vec (Input D ghosts) Global → S → S → Result T Stop → Type 0
CountsAll state shelf_state old new shelf shelf' result = CountsBeside state shelf_state old.items new.items shelf shelf' result

abbrev pub CountsMaking : {D E T : Type 0} {ghosts : Ghosts D} → (D → State) → (E → State) → List (Input D ghosts) → List (Input D ghosts) → E → E → Result T Stop → Type 0
CountsMaking state state' old new disk disk' result = CountsWith state old new (state' disk).faults (state' disk').faults result

abbrev pub CountsAddingTo : {D E N T : Type 0} {ghosts : Ghosts D} {t : Ghosts E} {n : ModeGhosts N}
    → (D → State) → (E → State) → List (Input D ghosts) → List (Input D ghosts) → File E N t n → File E N t n → Result T Stop → Type 0
CountsAddingTo state state' old new to to' result = CountsWith state old new (faults_of_file state' to) (faults_of_file state' to') result

-- ---- when one is said to have changed

-- an input is so only where it has a bad block
abbrev pub InputChanged : {D T : Type 0} {ghosts : Ghosts D} → (D → State) → Input D ghosts → Result T Stop → Type 0
InputChanged state input result = IfChanged ((e : Editing) → Holds state input e → is_bad e ≡ true) result

-- of several only where one has
abbrev pub StayGood : {D T : Type 0} {ghosts : Ghosts D} → (D → State) → List (Input D ghosts) → Result T Stop → Type 0
StayGood state inputs result = IfChanged ((es : List Editing) → HoldAll state inputs es → first_bad es ≡ None → ⊥) result

-- .. and where it is seen before that none has, never, as long as the disks tell what they hold; or the shelf does, too
abbrev pub StayHeld : {D T : Type 0} {ghosts : Ghosts D} → (D → State) → List (Input D ghosts) → Result T Stop → Type 0
StayHeld state inputs result = IfChanged ((es : List Editing) → HoldAll state inputs es → ⊥) result

abbrev pub StayTold : {D S T : Type 0} {ghosts : Ghosts D} → (D → State) → (S → ShelfState) → List (Input D ghosts) → S → Result T Stop → Type 0
StayTold state shelf_state inputs shelf result =
    IfChanged ((files : Files) (es : List Editing) → TellsFiles shelf_state shelf files → HoldAll state inputs es → ⊥) result

-- ---- what is made of them

-- numbers are so many frames of the inputs, from one on
abbrev pub AreFrames : {D : Type 0} {ghosts : Ghosts D} → (D → State) → List (Input D ghosts) → Codec → ℕ → ℕ → List ℤ → Type 0
AreFrames state inputs codec place count xs = (es : List Editing) → HoldAll state inputs es → xs ≡ frames_from (channels_in codec es) place count

-- Where the disks tell what they hold, a file that was being made then has so many frames of the inputs more, from one on.
abbrev pub Lengthens : {D E N : Type 0} {d : Ghosts D} {t : Ghosts E} {n : ModeGhosts N} → (D → State) → (E → State) → ℕ → ℕ → List (Input D d) → File E N t n → File E N t n → Type 0
Lengthens state state' place count inputs to to' =
    (kind : Kind) (p : Parameters) (pieces : List NewChunk) (xs : List ℤ) (es : List Editing) (e : Editing)
    → HoldAll state inputs es → Stands state' to e → IsMaking kind p pieces xs e
    → (e' : Editing) × Stands state' to' e' × IsMaking kind p pieces (xs ++ frames_from (channels_in (codec_of to) es) place count) e'

-- the bytes of the whole
abbrev pub bytes_made : Kind → Parameters → List Editing → List ℕ
bytes_made kind p es = made_file kind p [] (side_by_side (channels_in p.codec es))

abbrev pub Makes : {D E : Type 0} {d : Ghosts D} → (D → State) → (E → State) → Kind → Parameters → List (Input D d) → E → E → Type 0
Makes state state' kind p inputs old new = (b : List ℕ) (es : List Editing) → Tells state' old b → HoldAll state inputs es → Tells state' new (bytes_made kind p es)

abbrev pub MakesUnder : {D S T R : Type 0} {d : Ghosts D}
    → (D → State) → (S → ShelfState) → List ℕ → Kind → Parameters → List (Input D d) → S → S → Result T R → Type 0
MakesUnder state shelf_state name kind p inputs old new result =
    OnOk result ((files : Files) (es : List Editing) → TellsFiles shelf_state old files → HoldAll state inputs es
    → HasFiles shelf_state new (put files name (Some (bytes_made kind p es))))

-- what is answered is what is to be done with the inputs that are open, and that is done
abbrev pub DoesWith : {D S E : Type 0} {d : Ghosts D} → (D → State) → (S → ShelfState) → (Files → List Editing → Done) → List (Input D d) → S → S → Result Answer E → Type 0
DoesWith state shelf_state todo inputs old new result =
    IfOk result (λ answer. (files : Files) (es : List Editing) → TellsFiles shelf_state old files → HoldAll state inputs es → IsDone shelf_state new answer (todo files es) files)

-- .. what is to be done with inputs that fit, as files of a kind with these parameters
abbrev pub DoesGood : {D S E : Type 0} {d : Ghosts D} → (D → State) → (S → ShelfState) → Interleaving → Kind → Parameters → List (Input D d) → S → S → Result Answer E → Type 0
DoesGood state shelf_state interleaving kind p inputs old new result =
    DoesWith state shelf_state (λ files es. made_if_good interleaving.inputs interleaving.output.now kind p (channels_in p.codec es) (first_bad es)) inputs old new result
