-- A file of which the blocks are checked.
use Rattle.std.proofs.Common.{◌≡◌, ◌≢◌, ◌∙◌, ap, sym, subst, refl, ◌≤◌, false, None, Some, Result, Err}
use Rattle.std.specs.Prelude.{is_none}
use Rattle.snd_blocks.specs.Frames.{has_bad}
use Rattle.snd_blocks.specs.Sound.{frames_in}
use Rattle.snd_container.specs.Sound.{fixed_of}
use Rattle.snd_disk.specs.declared.disk.Step.{Step}
use Rattle.snd_layout.specs.Shape.{Shape}
use Rattle.snd_edits.proofs.Public.{good_frames, not_adpcm}
use Rattle.snd_edits.specs.Calls.{CheckLeaves}
use Rattle.snd_edits.specs.Editing.{Editing}
use Rattle.snd_edits.specs.Known.{Known}
use Rattle.snd_edits.specs.declared.error.ReadError.{ReadError}
use Rattle.snd_edits.specs.declared.error.ReadError.TheVariants.{BadBlock, Broken, DiskFault, PartFrame}
use Rattle.snd_inputs.specs.Inputs.{is_bad}

-- frames that stand in no blocks are good
pub good_unless : (e : Editing) (h : Shape) → h ≡ e.shape → e.frames ≡ frames_in e.bytes e.shape → is_none (fixed_of h.params.codec) ≡ false → 1 ≤ h.params.channels → false ≡ is_bad e
good_unless e h same sound linear some =
    let good : has_bad (frames_in e.bytes h) ≡ false = good_frames e.bytes h (not_adpcm h.params.codec linear) some in
    sym (ap has_bad (sound ∙ ap (frames_in e.bytes) (sym same)) ∙ good)

-- a file that is not broken is checked, but for a fault and for a bad block
pub check_fails : {T : Type 0} (old new : Known) (result : Result T ReadError) (error : ReadError) → old.broken ≡ None → CheckLeaves old new result → result ≡ Err error → error ≢ BadBlock
    → ((step : Step) → error ≢ DiskFault step) → ⊥
check_fails {T = T} old new result error working left is good other = by_error error (subst (CheckLeaves old new) is left) good other
  where
    by_error : (why : ReadError) → CheckLeaves {T = T} old new (Err why) → why ≢ BadBlock → ((step : Step) → why ≢ DiskFault step) → ⊥
    by_error (Broken step) leaves sound none = let e : None ≡ Some step = sym working ∙ leaves.0 in cc
    by_error PartFrame leaves sound none = leaves
    by_error BadBlock leaves sound none = sound refl
    by_error (DiskFault step) leaves sound none = none step refl
