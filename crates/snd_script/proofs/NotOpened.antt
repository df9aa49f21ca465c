-- What is known of a run where a file was not opened.
use Rattle.std.proofs.Common.{◌≡◌, ℕ, List, Bool, true, false, ◌&&◌, Option, Some, Result, Ok, Err, refl, sym, ◌∙◌, ap, subst}
use Rattle.std.specs.Str.{bytes_eq}
use Rattle.snd_disk.proofs.Public.{same_bytes}
use Rattle.snd_disk.specs.Device.{Tells}
use Rattle.snd_disk.specs.State.{State}
use Rattle.snd_disk.specs.declared.disk.Disk.{Ghosts}
use Rattle.snd_layout.specs.Blocks.{is_adpcm}
use Rattle.snd_layout.specs.declared.error.OpenError.{OpenError}
use Rattle.snd_layout.specs.declared.error.OpenError.TheVariants as cause
use Rattle.snd_layout.specs.declared.kind.Kind.{Kind}
use Rattle.snd_layout.specs.declared.params.Params.{Params}
use Rattle.snd_meters.specs.Gauge.{Gauge}
use Rattle.snd_edits.specs.Editing.{Editing}
use Rattle.snd_edits.specs.Making.{making_of}
use Rattle.snd_rules.specs.Desk.{Desk, Mode, OpenFile, Store, closed_desk, makes, makes_name}
use Rattle.snd_rules.specs.Edit.{Edited, Opening, as_opened, mode_for, mode_made, open_edit_of, open_refusal, opened_as, opened_edit, refused}
use Rattle.snd_script.specs.Lines.{Reading}
use Rattle.snd_script.specs.Opened.{IsMakeable, OnlyOpens, RefusesOpen, is_making, opening_by}
use Rattle.snd_rules.specs.Replies.{refuses}
use Rattle.snd_script.specs.Served.{none_lost}
use Rattle.snd_script.specs.Serving.{DiskStands, IsAnswered, IsNotOpened, IsServedOn, Moment, is_longer, moment, steps_from, steps_left}
use Rattle.snd_script.specs.declared.open.OpenAs.{OpenAs}
use Rattle.snd_script.specs.declared.open.OpenAs.TheVariants.{Read, Update, Make}
use Rattle.snd_lines.specs.declared.refusal.Refusal.{Refusal}
use Rattle.snd_script.specs.declared.stop.Stop.{Stop}
use Rattle.snd_script.specs.declared.stop.Stop.TheVariants.{File, Memory}
use Rattle.snd_script.proofs.Chains.{line_stops}
use Rattle.snd_rules.proofs.Public.{made_makes}
use Rattle.snd_script.proofs.OpenChains.{answered_one, longer_as}
use Rattle.snd_script.proofs.Openings.{answer_stops}

-- what is answered where the disk holds these bytes
abbrev opened_by : Store → List ℕ → OpenAs → List ℕ → Edited
opened_by store name how b = open_edit_of store name (opening_by how) (opened_as (opening_by how) b)

-- the disk tells the file of the name
abbrev Holds : {D : Type 0} → (D → State) → Store → List ℕ → D → Type 0
Holds state store name disk = (x : List ℕ) × Tells state disk x × (store.files name ≡ Some x)

-- a file that was to be made is lost
made_lost : (store : Store) (name : List ℕ) (kind : Kind) (params : Params) (e : Editing) → making_of kind params ≡ Ok e → makes_name (open_edit_of store name (Opening.for_making kind params) (as_opened (making_of kind params))).desk.open_file name ≡ false → ⊥
made_lost store name kind params e made kept =
    let is : makes_name (open_edit_of store name (Opening.for_making kind params) (as_opened (Ok e))).desk.open_file name ≡ false =
    ap (λ m. makes_name (open_edit_of store name (Opening.for_making kind params) (as_opened m)).desk.open_file name) (sym made) ∙ kept in
    let made_so : (makes (mode_made (is_adpcm params.codec)) && bytes_eq name name) ≡ bytes_eq name name = ap (λ (b : Bool). b && bytes_eq name name) (made_makes (is_adpcm params.codec)) in
    let no : true ≡ false = sym (same_bytes name) ∙ sym made_so ∙ is in
    cc

not_both : (r : Result Editing OpenError) (e : Editing) (why : OpenError) → r ≡ Ok e → r ≡ Err why → ⊥
not_both r e why ok err = cc

module _ {D : Type 0} (d : Ghosts D) (store : Store) (name b : List ℕ) (old new : D) (told : Tells d.state old b) (taps : List Gauge) (are : store.taps ≡ taps) where
  -- .. and others were only read
  kept_unless_made : (how : OpenAs) → IsMakeable how → OnlyOpens d how old new → (is_making how ≡ false → store.files name ≡ Some b) → makes_name (opened_by store name how b).desk.open_file name ≡ false → Holds d.state store name new
  kept_unless_made Read able opens there kept = (b, opens.keeps.contents ∙ told, there refl)
  kept_unless_made Update able opens there kept = (b, opens.keeps.contents ∙ told, there refl)
  kept_unless_made (Make kind params) able opens there kept = absurd (made_lost store name kind params able.0 able.1 kept)

  -- what can be made is not refused
  kept_refused : (how : OpenAs) → IsMakeable how → OnlyOpens d how old new → (is_making how ≡ false → store.files name ≡ Some b) → (why : OpenError) → opened_as (opening_by how) b ≡ Err why → Holds d.state store name new
  kept_refused Read able opens there why is = (b, opens.keeps.contents ∙ told, there refl)
  kept_refused Update able opens there why is = (b, opens.keeps.contents ∙ told, there refl)
  kept_refused (Make kind params) able opens there why is =
      absurd (not_both _ able.0 why (ap as_opened able.1) is)

  stays_on_disk : (lost : List ℕ → Bool) → (lost name ≡ false → Holds d.state store name new) → DiskStands d.state store name taps new lost (closed_desk store)
  stays_on_disk lost holds = record { others = λ n other. refl; holds = holds; are = are }

module _ (store : Store) (left : Option (List ℕ)) (reading reading' : Reading) (r r' : Bool) (t t' : Option (List ℕ)) (s : List ℕ) (same : reading' ≡ reading) (here : left ≡ Some s) (stands : (List ℕ → Bool) → Desk → Type 0) where
  refused_on : (result : Result (Unit {0}) Stop) (refusal : Refusal) → IsAnswered result (refuses refusal) r r' t t' → stands none_lost (closed_desk store)
      → IsServedOn result (is_longer (moment reading left r t) s) (steps_from (refused refusal (closed_desk store)) (moment reading left r t) s) (closed_desk store) (moment reading left r t) (moment reading' left r' t') stands
  refused_on (Ok x) refusal said stand = (
    store,
    s,
    here,
    answered_one left reading reading' r r' t t' s same (refused refusal (closed_desk store)) (closed_desk store) said.0 said.1,
    stand,
    longer_as left reading reading' r r' t t' s same,
  )
  refused_on (Err stop) refusal said stand =
      line_stops stop (is_longer (moment reading left r t) s) (refused refusal (closed_desk store)) (steps_left (closed_desk store) (moment reading left r t) s) (closed_desk store) (moment reading left r t) (moment reading' left r' t') stands
      (answer_stops stop (refused refusal (closed_desk store)) (refuses refusal) (closed_desk store) r r' t t' stands refl said stand)

  refused_as : (result : Result (Unit {0}) Stop) (edited : Edited) (refusal : Refusal) → edited ≡ refused refusal (closed_desk store) → IsAnswered result (refuses refusal) r r' t t' → stands none_lost (closed_desk store)
      → IsServedOn result (is_longer (moment reading left r t) s) (steps_from edited (moment reading left r t) s) (closed_desk store) (moment reading left r t) (moment reading' left r' t') stands
  refused_as result edited refusal is said stand =
      subst (λ (d : Edited). IsServedOn result (is_longer (moment reading left r t) s) (steps_from d (moment reading left r t) s) (closed_desk store) (moment reading left r t) (moment reading' left r' t') stands)
      (sym is) (refused_on result refusal said stand)

-- it is refused, or its disk failed, or there was no memory
pub not_opened_on : {D : Type 0} (d : Ghosts D) (how : OpenAs) (error : OpenError) (result : Result (Unit {0}) Stop) (store : Store) (name b : List ℕ) (old new : D) (left : Option (List ℕ)) (reading reading' : Reading) (r r' : Bool) (t t' : Option (List ℕ)) (faults faults' : ℕ) (s : List ℕ) (taps : List Gauge)
    → IsMakeable how → OnlyOpens d how old new → Tells d.state old b → (is_making how ≡ false → store.files name ≡ Some b) → RefusesOpen d.state (opening_by how) old error → IsNotOpened error result r r' t t' faults faults' → reading' ≡ reading → left ≡ Some s → store.taps ≡ taps
    → IsServedOn result (is_longer (moment reading left r t) s) (steps_from (opened_by store name how b) (moment reading left r t) s) (closed_desk store) (moment reading left r t) (moment reading' left r' t') (DiskStands d.state store name taps new)
not_opened_on d how (cause.Refused x) result store name b old new left reading reading' r r' t t' faults faults' s taps able opens told there why said same here are =
    refused_as store left reading reading' r r' t t' s same here (DiskStands d.state store name taps new) result (opened_by store name how b) (open_refusal (cause.Refused x)) (ap (open_edit_of store name (opening_by how)) (why b told)) said.0
    (stays_on_disk d store name b old new told taps are none_lost (λ kept. kept_refused d store name b old new told taps are how able opens there (cause.Refused x) (why b told)))
not_opened_on d how cause.AdpcmUpdate result store name b old new left reading reading' r r' t t' faults faults' s taps able opens told there why said same here are =
    refused_as store left reading reading' r r' t t' s same here (DiskStands d.state store name taps new) result (opened_by store name how b) (open_refusal cause.AdpcmUpdate) (ap (open_edit_of store name (opening_by how)) (why b told)) said.0
    (stays_on_disk d store name b old new told taps are none_lost (λ kept. kept_refused d store name b old new told taps are how able opens there cause.AdpcmUpdate (why b told)))
not_opened_on d how cause.UnknownLength result store name b old new left reading reading' r r' t t' faults faults' s taps able opens told there why said same here are =
    refused_as store left reading reading' r r' t t' s same here (DiskStands d.state store name taps new) result (opened_by store name how b) (open_refusal cause.UnknownLength) (ap (open_edit_of store name (opening_by how)) (why b told)) said.0
    (stays_on_disk d store name b old new told taps are none_lost (λ kept. kept_refused d store name b old new told taps are how able opens there cause.UnknownLength (why b told)))
not_opened_on d how (cause.DiskFault step) result store name b old new left reading reading' r r' t t' faults faults' s taps able opens told there why said same here are =
    subst (λ (x : Result (Unit {0}) Stop). IsServedOn x (is_longer (moment reading left r t) s) (steps_from (opened_by store name how b) (moment reading left r t) s) (closed_desk store) (moment reading left r t) (moment reading' left r' t') (DiskStands d.state store name taps new))
    (sym said.0)
    (line_stops File (is_longer (moment reading left r t) s) (opened_by store name how b) (steps_left (opened_by store name how b).desk (moment reading left r t) s) (closed_desk store) (moment reading left r t) (moment reading' left r' t') (DiskStands d.state store name taps new)
    (said.1, stays_on_disk d store name b old new told taps are _ (kept_unless_made d store name b old new told taps are how able opens there)))
not_opened_on d how cause.Memory result store name b old new left reading reading' r r' t t' faults faults' s taps able opens told there why said same here are =
    subst (λ (x : Result (Unit {0}) Stop). IsServedOn x (is_longer (moment reading left r t) s) (steps_from (opened_by store name how b) (moment reading left r t) s) (closed_desk store) (moment reading left r t) (moment reading' left r' t') (DiskStands d.state store name taps new))
    (sym said.0)
    (line_stops Memory (is_longer (moment reading left r t) s) (opened_by store name how b) (steps_left (opened_by store name how b).desk (moment reading left r t) s) (closed_desk store) (moment reading left r t) (moment reading' left r' t') (DiskStands d.state store name taps new)
    (said.1, stays_on_disk d store name b old new told taps are _ (kept_unless_made d store name b old new told taps are how able opens there)))

-- it is opened, with the taps of the run
pub opened_served : {T : Type 0} (r : Result T Stop) (longer : Bool) (how : OpenAs) (store : Store) (name b s : List ℕ) (mode : Mode) (e : Editing) (taps : List Gauge) (m m' : Moment) (stands : (List ℕ → Bool) → Desk → Type 0)
    → opened_as (opening_by how) b ≡ Ok e → mode ≡ mode_for (opening_by how) → store.taps ≡ taps
    → IsServedOn r longer (steps_from (opened_edit store (record { name = name; mode = mode; editing = e; taps = taps })) m s) (closed_desk store) m m' stands
    → IsServedOn r longer (steps_from (opened_by store name how b) m s) (closed_desk store) m m' stands
opened_served r longer how store name b s mode e taps m m' stands opens is are served =
    let file : Mode → List Gauge → OpenFile = λ x t. record { name = name; mode = x; editing = e; taps = t } in
    let same : opened_edit store (file mode taps) ≡ opened_by store name how b =
    ap (λ (x : Mode). opened_edit store (file x taps)) is ∙ ap (λ (t : List Gauge). opened_edit store (file (mode_for (opening_by how)) t)) (sym are) ∙ sym (ap (open_edit_of store name (opening_by how)) opens) in
    subst (λ (x : Edited). IsServedOn r longer (steps_from x m s) (closed_desk store) m m' stands) same served
