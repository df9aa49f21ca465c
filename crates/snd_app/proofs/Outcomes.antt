-- From what was put to the outcome.
use Rattle.std.proofs.Common.{◌≡◌, inl, inr, ℕ, List, [], true, false, Some, refl, sym, ◌∙◌, ap, subst, append-nil, arith}
use Rattle.snd_disk.specs.Shelf.{Files, ShelfState}
use Rattle.snd_disk.specs.Streams.{AppendsFront}
use Rattle.snd_disk.specs.declared.shelf.Shelf.{Ghosts as ShelfMeaning}
use Rattle.snd_disk.specs.declared.streams.Sink.{Ghosts as SinkMeaning}
use Rattle.snd_disk.specs.declared.streams.Source.{Ghosts as SourceMeaning}
use Rattle.snd_script.specs.Served.{HasFiles}
use Rattle.snd_script.specs.Trail.{TrailsScript}
use Rattle.snd_app.specs.declared.look.Found.{Found}
use Rattle.snd_app.specs.declared.look.Found.TheVariants.{Missing, Refused, Sound}
use Rattle.snd_words.specs.Asked.{Asked}
use Rattle.snd_app.specs.Outcome.{files_of, info, is_refused, outcome_of, pinned_by, text_of}
use Rattle.snd_app.specs.Printed.{Outcome}
use Rattle.snd_app.specs.Run.{Appends, DoneAtStream, Faults, IsOutcome, IsPut, IsRun, PrintsFront, StopsAs, Told}
use Rattle.snd_rack.specs.declared.setting.StageKind.{StageKind}
use Rattle.snd_taps.specs.declared.tap.TapKind.{TapKind}

-- nothing is put to a sink
pub none_put : (sink : Told) → sink.after ≡ sink.before → Appends sink []
none_put sink same t told = same ∙ told ∙ ap (λ (l : List ℕ). Some l) (sym (append-nil t))

pub no_front : (sink : Told) (text : List ℕ) → sink.after ≡ sink.before → AppendsFront sink.before sink.after text
no_front sink text same t told = (0, omega arith, same ∙ told ∙ ap (λ (l : List ℕ). Some l) (sym (append-nil t)))

pub no_front_put : (o : Outcome) (out err : Told) → out.after ≡ out.before → err.after ≡ err.before → PrintsFront o out err
no_front_put o out err same_out same_err = record { on_out = no_front out o.out same_out; on_err = no_front err o.err same_err }

-- a text that is put to `out`, or to `err`, is the outcome that has this text alone
put_out : (result : ℕ) (text : List ℕ) (old new : Faults) (out err : Told) → new.shelf ≡ old.shelf → new.script ≡ old.script → new.err ≡ old.err → err.after ≡ err.before
    → IsPut result 0 text old.out new.out out → IsOutcome result (record { out = text; err = []; status = 0 }) old new out err
put_out result text old new out err shelf script other same (inl done) =
    inl (done.0, record { shelf = shelf; script = script; out = done.1; err = other }, record { on_out = done.2; on_err = none_put err same })
put_out result text old new out err shelf script other same (inr failed) =
    inr (inl (failed.0, inr (inr (inl failed.1)), record { on_out = failed.2; on_err = no_front err [] same }))

put_err : (result status : ℕ) (text : List ℕ) (old new : Faults) (out err : Told) → new.shelf ≡ old.shelf → new.script ≡ old.script → new.out ≡ old.out → out.after ≡ out.before
    → IsPut result status text old.err new.err err → IsOutcome result (record { out = []; err = text; status = status }) old new out err
put_err result status text old new out err shelf script other same (inl done) =
    inl (done.0, record { shelf = shelf; script = script; out = other; err = done.1 }, record { on_out = none_put out same; on_err = done.2 })
put_err result status text old new out err shelf script other same (inr failed) =
    inr (inl (failed.0, inr (inr (inr failed.1)), record { on_out = no_front out [] same; on_err = failed.2 }))

-- unless the put failed, no count rose
pub put_calm : (result status : ℕ) (text : List ℕ) (old new : ℕ) (sink : Told) → IsPut result status text old new sink → (result ≡ 3 → ⊥) → new ≡ old
put_calm result status text old new sink (inl done) calm = done.1
put_calm result status text old new sink (inr failed) calm = absurd (calm failed.0)

pub refused_is : (name : List ℕ) (found : Found) → is_refused found ≡ true → record { out = []; err = text_of name found; status = 1 } ≡ info name found
refused_is name Missing is = refl
refused_is name (Refused why) is = refl
refused_is name (Sound layout texts) is = absurd (cc)

pub described_is : (name : List ℕ) (found : Found) → is_refused found ≡ false → record { out = text_of name found; err = []; status = 0 } ≡ info name found
described_is name Missing is = absurd (cc)
described_is name (Refused why) is = absurd (cc)
described_is name (Sound layout texts) is = refl

module _ (result : ℕ) (old new : Faults) (out err : Told) (o : Outcome) where
  pub is_put_out : (text : List ℕ) → record { out = text; err = []; status = 0 } ≡ o → new.shelf ≡ old.shelf → new.script ≡ old.script → new.err ≡ old.err → err.after ≡ err.before → IsPut result 0 text old.out new.out out → IsOutcome result o old new out err
  is_put_out text is shelf script other same puts = subst (λ (o : Outcome). IsOutcome result o old new out err) is (put_out result text old new out err shelf script other same puts)

  pub is_put_err : (status : ℕ) (text : List ℕ) → record { out = []; err = text; status = status } ≡ o → new.shelf ≡ old.shelf → new.script ≡ old.script → new.out ≡ old.out → out.after ≡ out.before → IsPut result status text old.err new.err err → IsOutcome result o old new out err
  is_put_err status text is shelf script other same puts = subst (λ (o : Outcome). IsOutcome result o old new out err) is (put_err result status text old new out err shelf script other same puts)

  -- .. and the shelf has the files
  pub with_files : (leaves : Type 0) → leaves → IsOutcome result o old new out err → IsRun result o old new out err leaves
  with_files leaves there (inl done) = inl (done.0, done.1, done.2, there)
  with_files leaves there (inr other) = inr other

-- what the words ask for, told otherwise
module _ {S : Type 0} (state : S → ShelfState) (shelf : S) (result : ℕ) (old new : Faults) (out err : Told) (files : Files) (text : List ℕ) where
  pub run_as : (taps : List TapKind) (stages : List StageKind) (a a' : Asked) → a ≡ a' → IsRun result (outcome_of a taps stages files text) old new out err (HasFiles state shelf (files_of a taps stages files text))
      → IsRun result (outcome_of a' taps stages files text) old new out err (HasFiles state shelf (files_of a' taps stages files text))
  run_as taps stages a a' is runs =
      subst (λ (a : Asked). IsRun result (outcome_of a taps stages files text) old new out err (HasFiles state shelf (files_of a taps stages files text))) is runs

pub done_by : {S : Type 0} (state : S → ShelfState) (shelf shelf' : S) (result : ℕ) (taps : List TapKind) (stages : List StageKind) (a a' : Asked) → a ≡ a'
    → DoneAtStream state (λ files. files_of a taps stages files []) shelf shelf' result → DoneAtStream state (λ files. files_of a' taps stages files []) shelf shelf' result
done_by state shelf shelf' result taps stages a a' is done = subst (λ (x : Asked). DoneAtStream state (λ files. files_of x taps stages files []) shelf shelf' result) is done

module _ {S D R O : Type 0} (s : ShelfMeaning S D) (r : SourceMeaning R) (o : SinkMeaning O) (shelf shelf' : S) (script script' : R) (out out' : O) where
  pub trails_by : (kinds : List TapKind) (a a' : Asked) → a ≡ a' → TrailsScript s r o kinds (pinned_by a) shelf script out shelf' out' → TrailsScript s r o kinds (pinned_by a') shelf script out shelf' out'
  trails_by kinds a a' is trails = subst (λ (x : Asked). TrailsScript s r o kinds (pinned_by x) shelf script out shelf' out') is trails

  pub stops_by : {E : Type 0} (e : SinkMeaning E) (err err' : E) (status : ℕ) (kinds : List TapKind) (a a' : Asked) → a ≡ a'
      → StopsAs s r o e kinds (pinned_by a) shelf script out err shelf' script' out' err' status → StopsAs s r o e kinds (pinned_by a') shelf script out err shelf' script' out' err' status
  stops_by e err err' status kinds a a' is stops = subst (λ (x : Asked). StopsAs s r o e kinds (pinned_by x) shelf script out err shelf' script' out' err' status) is stops
