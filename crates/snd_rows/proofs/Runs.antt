-- From the headline to what was printed, and to its trail.
use Rattle.std.proofs.Common.{◌≡◌, ◌≤◌, ◌<◌, inl, inr, ℕ, List, [], ◌++◌, Bool, true, false, cond, length, Option, Some, None, Ok, refl, sym, subst, ◌∙◌, ap, arith}
use Rattle.std.proofs.Math.Path.{fun_ext}
use Rattle.snd_disk.specs.Shelf.{Files, SameFiles, put}
use Rattle.snd_disk.proofs.Public.{same_bytes}
use Rattle.snd_edits.specs.Editing.{Editing}
use Rattle.snd_edits.specs.Safe.{IsFit, IsSafe}
use Rattle.snd_edits.specs.Updating.{updating_of}
use Rattle.snd_app.specs.Outcome.{files_after, outcome}
use Rattle.snd_app.specs.Printed.{Outcome}
use Rattle.snd_app.specs.Run.{Faults, IsRun, Told}
use Rattle.snd_rack.specs.declared.setting.StageKind.{StageKind}
use Rattle.snd_rules.specs.Desk.{stored}
use Rattle.snd_rules.specs.Pinned.{auto_steps}
use Rattle.snd_script.specs.Trail.{Trail, reached}
use Rattle.snd_taps.specs.declared.tap.TapKind.{TapKind}
use Rattle.snd_rows.specs.declared.memory.Printed.{Printed}
use Rattle.snd_memory.specs.MemoryShelf.{shelf_between, shelf_state}
use Rattle.snd_tools.specs.Shelves.{HasFiles}
use Rattle.snd_rows.specs.Memory.{HasTrail, IsPrinted}

-- what is printed, and the files then, depend on the files by their names alone
pub printed_same : (f g : Files) → SameFiles f g → (words : List (List ℕ)) (taps : List TapKind) (stages : List StageKind) (text : List ℕ) (p : Printed)
    → IsPrinted (outcome words taps stages g text) (files_after words taps stages g text) p → IsPrinted (outcome words taps stages f text) (files_after words taps stages f text) p
printed_same f g same words taps stages text p is = subst (λ (h : Files). IsPrinted (outcome words taps stages h text) (files_after words taps stages h text) p) (fun_ext same) is

-- no name is out where one was put back
pub none_out : (named out : Bool) → out ≡ false → cond named false out ≡ false
none_out true out is = refl
none_out false out is = is

-- a file stands under its own name
pub own_name : (name : List ℕ) (b : Option (List ℕ)) → put (λ n. None) name b name ≡ b
own_name name b = ap (λ (t : Bool). cond t b None) (same_bytes name)

started_empty : (o o' text : List ℕ) → Some o ≡ Some ([] ++ text) → o' ≡ o → o' ≡ text
started_empty o o' text told copied = let is : o ≡ text = cc in copied ∙ is

pub printed : (o : Outcome) (files : Files) (old new : Faults) (out err : Told) (p : Printed) (a b : List ℕ) → out.before ≡ Some [] → err.before ≡ Some [] → out.after ≡ Some a → err.after ≡ Some b
    → p.out.items ≡ a → p.err.items ≡ b → old.shelf ≡ 0 → (shelf_state p.shelf).faults ≡ new.shelf → p.status < 3
    → IsRun p.status o old new out err (HasFiles shelf_state p.shelf files) → IsPrinted o files p
printed o files old new out err p a b empty empty' told told' is is' none counts ended (inl done) = record {
  status = done.0;
  out = started_empty a p.out.items o.out (sym told ∙ done.2.on_out [] empty) is;
  err = started_empty b p.err.items o.err (sym told' ∙ done.2.on_err [] empty') is';
  files = done.3;
  faults = counts ∙ done.1.shelf ∙ none;
}
printed o files old new out err p a b empty empty' told told' is is' none counts ended (inr (inl failed)) = absurd (omega (arith, ended, failed.0))
printed o files old new out err p a b empty empty' told told' is is' none counts ended (inr (inr memory)) = absurd (omega (arith, ended, memory.0))

-- the trail, with what the answers show of it: all that was printed
module _ (f g : Files) (same : SameFiles f g) (kinds : List TapKind) (name text : List ℕ) (between : ℕ → ℕ → List ℕ → Type 0) (t0 t1 : ℕ) (e : Editing) where
  pub trail : (out : Option (List ℕ)) (a o : List ℕ) → out ≡ Some a → o ≡ a → t0 ≡ 0
      → ((sent : List ℕ) × (out ≡ Some ([] ++ sent)) × Trail IsSafe between t0 t1 (reached (length sent) e (auto_steps (stored g kinds) name text)))
      → Trail IsSafe between 0 t1 (reached (length o) e (auto_steps (stored f kinds) name text))
  trail out a o told copied begun (sent, is, trails) =
      let shown : sent ≡ o = sym (started_empty a o sent (sym told ∙ is) copied) in
      subst (λ (h : Files). Trail IsSafe between 0 t1 (reached (length o) e (auto_steps (stored h kinds) name text))) (fun_ext same)
      (subst (λ (s : List ℕ). Trail IsSafe between 0 t1 (reached (length s) e (auto_steps (stored g kinds) name text))) shown
      (subst (λ (t : ℕ). Trail IsSafe between t t1 (reached (length sent) e (auto_steps (stored g kinds) name text))) begun trails))
