-- From a script that was served to the outcome.
use Rattle.std.proofs.Common.{◌≡◌, inl, inr, ℕ, List, Bool, true, false, Option, refl, sym, ◌∙◌, ap, codes}
use Rattle.std.specs.Prelude.{if◌then◌else◌}
use Rattle.snd_disk.specs.Shelf.{ShelfState}
use Rattle.snd_disk.specs.Streams.{AppendsFront}
use Rattle.snd_rules.specs.Desk.{Store, closed_desk}
use Rattle.snd_rules.specs.Edit.{Edited}
use Rattle.snd_rules.specs.Script.{last_desk, texts}
use Rattle.snd_script.specs.Served.{HasFiles, IsDone, IsFault, IsServed, SameCounts, StopsAtMemory}
use Rattle.snd_script.specs.declared.serving.ScriptEnd.TheVariants.{Done, TooLong, Fault}
use Rattle.snd_app.specs.Outcome.{script_outcome}
use Rattle.snd_app.specs.Run.{AnyRises, Faults, IsPut, IsRun, IsScriptStop, PrintsFront, Told, counts_of}
use Rattle.snd_app.proofs.Fronts.{fault_front, memory_front, whole_front}
use Rattle.snd_app.proofs.Outcomes.{no_front, none_put}

module _ {S : Type 0} (state : S → ShelfState) (store : Store) (all : List Edited) (old new : Faults) (out err : Told) (more : Option (List ℕ)) (shelf : S) where
  abbrev Left : Type 0
  Left = HasFiles state shelf (last_desk (closed_desk store) all).store.files

  -- a count that rose while the script was served
  pub any_rose : IsFault state store all (counts_of old) (counts_of new) out.before out.after more shelf → AnyRises old new
  any_rose (inl stops) = inr (inl stops.1)
  any_rose (inr (inl stops)) = inr (inr (inl stops.2))
  any_rose (inr (inr stops)) = inl stops.0

  -- its front is one of the outcome's, however long the script
  prints_front : (longer : Bool) → err.after ≡ err.before → AppendsFront out.before out.after (texts all) → PrintsFront (script_outcome longer all) out err
  prints_front true same front = record { on_out = front; on_err = no_front err _ same }
  prints_front false same front = record { on_out = front; on_err = no_front err _ same }

  -- it was served whole
  pub done_is : (refused : Bool) (status : ℕ) (longer : Bool) → status ≡ (if refused then 1 else 0) → err.after ≡ err.before → new.err ≡ old.err
      → IsServed state store longer all (Done refused) (counts_of old) (counts_of new) out.before out.after more shelf → IsRun status (script_outcome longer all) old new out err Left
  done_is refused status true is same calm (whole, said, counts, done) = absurd (cc)
  done_is refused status false is same calm (whole, said, counts, done) = inl (
    is ∙ ap (λ (b : Bool). if b then 1 else 0) said,
    record { shelf = counts.shelf; script = counts.script; out = counts.out; err = calm },
    record { on_out = done.appended; on_err = none_put err same },
    done.files,
  )

  -- it is too long, and the message on this is put to `err`
  said_or_not : (status : ℕ) → SameCounts (counts_of old) (counts_of new) → IsDone state store all out.before out.after shelf → IsPut status 2 (codes "snd: script too long\n") old.err new.err err
      → IsRun status (script_outcome true all) old new out err Left
  said_or_not status same done (inl said) = inl (said.0, record { shelf = same.shelf; script = same.script; out = same.out; err = said.1 }, record { on_out = done.appended; on_err = said.2 }, done.files)
  said_or_not status same done (inr failed) =
      inr (inl (failed.0, inr (inr (inr failed.1)), record { on_out = whole_front out.before out.after (texts all) done.appended; on_err = failed.2 }))

  pub too_long_is : (status : ℕ) (longer : Bool) → IsPut status 2 (codes "snd: script too long\n") old.err new.err err
      → IsServed state store longer all TooLong (counts_of old) (counts_of new) out.before out.after more shelf → IsRun status (script_outcome longer all) old new out err Left
  too_long_is status true puts (long, counts, done) = said_or_not status counts done puts
  too_long_is status false puts (long, counts, done) = absurd (cc)

  pub too_long_stops : (status : ℕ) (longer : Bool) → IsPut status 2 (codes "snd: script too long\n") old.err new.err err
      → IsServed state store longer all TooLong (counts_of old) (counts_of new) out.before out.after more shelf → IsScriptStop state store all status old new out more shelf
  too_long_stops status longer (inl said) (long, counts, done) = (λ three. absurd (let e : 2 ≡ 3 = sym said.0 ∙ three in cc), λ four. absurd (let e : 2 ≡ 4 = sym said.0 ∙ four in cc))
  too_long_stops status longer (inr failed) (long, counts, done) = (λ three. inr (failed.1, done), λ four. absurd (let e : 3 ≡ 4 = sym failed.0 ∙ four in cc))

  -- serving it met a fault
  pub fault_is : (longer : Bool) → err.after ≡ err.before
      → IsServed state store longer all Fault (counts_of old) (counts_of new) out.before out.after more shelf → IsRun 3 (script_outcome longer all) old new out err Left
  fault_is longer same stops = inr (inl (refl, any_rose stops, prints_front longer same (fault_front state store all out.before out.after shelf (counts_of old) (counts_of new) more stops)))

  pub fault_stops : IsFault state store all (counts_of old) (counts_of new) out.before out.after more shelf → IsScriptStop state store all 3 old new out more shelf
  fault_stops stops = (λ three. inl stops, λ four. absurd (cc))

  -- there was no memory for it
  pub memory_is : (longer : Bool) → err.after ≡ err.before → StopsAtMemory state store all out.before out.after shelf → IsRun 4 (script_outcome longer all) old new out err Left
  memory_is longer same stops = inr (inr (refl, prints_front longer same (memory_front state store all out.before out.after shelf stops)))
