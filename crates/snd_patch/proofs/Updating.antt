-- What a step of an update keeps, and what two keep.
use Rattle.std.proofs.Common.{◌≡◌, ℕ, ◌+◌, ◌≤◌, List, length, take, Option, None, Some, option_map, refl, ◌∙◌, ap, arith}
use Rattle.std.specs.Prelude.{is_some}
use Rattle.snd_disk.specs.Bytes.{Mix, over}
use Rattle.snd_disk.specs.Device.{GoesOnFrom, WritesAtMost}
use Rattle.snd_disk.specs.State.{State, IsBetween, IsMeant, Keeps}
use Rattle.snd_disk.proofs.Public.{goes_on_then}
use Rattle.snd_layout.specs.Shape.{Shape, end}
use Rattle.snd_patch.specs.Sealed.{SameBesideFields}
use Rattle.snd_patch.specs.Steps.{IsOutside, Updates}
use Rattle.snd_patch.proofs.Bytes.{cut_before, mix_beside, over_beside, take_before}

pub told_mapped : (f : List ℕ → List ℕ) (o : Option (List ℕ)) → is_some (option_map f o) ≡ is_some o
told_mapped f None = refl
told_mapped f (Some b) = refl

pub told_between : (old new : Option (List ℕ)) → ((b : List ℕ) → old ≡ Some b → (x : List ℕ) × (new ≡ Some x)) → ((x : List ℕ) → new ≡ Some x → (b : List ℕ) × (old ≡ Some b)) → is_some new ≡ is_some old
told_between None None there back = refl
told_between None (Some x) there back = absurd (let no = (back x refl).1 in cc)
told_between (Some b) None there back = absurd (let no = (there b refl).1 in cc)
told_between (Some b) (Some x) there back = refl

module _ {D : Type 0} (state : D → State) (left_between : D → ℕ → ℕ → List ℕ → Type 0) (h : Shape) (n : ℕ) where
  pub updates_then : (a b c : D) (m k most : ℕ) → m + k ≤ most → Updates state left_between h n m a b → Updates state left_between h n k b c → Updates state left_between h n most a c
  updates_then a b c m k most few first second = record {
    beside = λ l told. let one = first.beside l told in let two = second.beside one.0 one.1 in (two.0, two.1, λ i lt other. two.2 i lt other ∙ one.2 i lt other);
    tells = record { told = second.tells.told ∙ first.tells.told; name = second.tells.name ∙ first.tells.name };
    time = goes_on_then (state a).clock (state b).clock (state c).clock (left_between a) (left_between b) (left_between c) first.time second.time;
    written = record { later = omega (arith, first.written.later, second.written.later); most = omega (arith, few, first.written.most, second.written.most) };
    asked = second.asked ∙ first.asked;
  }

  pub updates_more : (a b : D) (m most : ℕ) → m ≤ most → Updates state left_between h n m a b → Updates state left_between h n most a b
  updates_more a b m most few only = record {
    beside = only.beside;
    tells = only.tells;
    time = only.time;
    written = record { later = only.written.later; most = omega (arith, few, only.written.most) };
    asked = only.asked;
  }

  module _ (a b : D) (most : ℕ) (time : GoesOnFrom state left_between a b) (written : WritesAtMost state most a b) (asked : (state b).asked ≡ (state a).asked) where
    pub kept_updates : Keeps (state a) (state b) → Updates state left_between h n most a b
    kept_updates keeps = record {
      beside = λ l told. (l, keeps.contents ∙ told, λ i lt other. refl);
      tells = record { told = ap is_some keeps.contents; name = keeps.name };
      time = time;
      written = written;
      asked = asked;
    }

    meant_updates : (to : ℕ) (meant : List ℕ → List ℕ) → IsMeant to meant (state a) (state b) → ((l : List ℕ) → SameBesideFields h n l (meant l)) → Updates state left_between h n most a b
    meant_updates to meant done same = record {
      beside = λ l told. (meant l, done.contents ∙ ap (option_map meant) told, same l);
      tells = record { told = ap is_some done.contents ∙ told_mapped meant (state a).contents; name = done.name };
      time = time;
      written = written;
      asked = asked;
    }

    broken_updates : (to : ℕ) (meant : List ℕ → List ℕ) → IsBetween to meant (state a) (state b) → ((l x : List ℕ) → Mix l (meant l) x → SameBesideFields h n l x) → Updates state left_between h n most a b
    broken_updates to meant broken same = record {
      beside = λ l told. let mixed = broken.contents l told in (mixed.0, mixed.1, same l mixed.0 mixed.2);
      tells = record { told = told_between (state a).contents (state b).contents (λ l told. ((broken.contents l told).0, (broken.contents l told).1)) broken.told; name = broken.name };
      time = time;
      written = written;
      asked = asked;
    }

    pub put_updates : (to at : ℕ) (s : List ℕ) → IsOutside h n at (length s) → IsMeant to (λ l. over l at s) (state a) (state b) → Updates state left_between h n most a b
    put_updates to at s outside done = meant_updates to (λ l. over l at s) done (λ l i lt other. over_beside l at s i (outside i lt other))

    pub broken_put_updates : (to at : ℕ) (s : List ℕ) → IsOutside h n at (length s) → IsBetween to (λ l. over l at s) (state a) (state b) → Updates state left_between h n most a b
    broken_put_updates to at s outside broken = broken_updates to (λ l. over l at s) broken (λ l x mix i lt other. mix_beside l at s x mix i (outside i lt other))

    pub cut_updates : (len : ℕ) → end h n ≤ len → IsMeant len (take len) (state a) (state b) → Updates state left_between h n most a b
    cut_updates len behind done = meant_updates len (take len) done (λ l i lt other. take_before l len i (omega (arith, lt, behind)))

    pub broken_cut_updates : (len : ℕ) → end h n ≤ len → IsBetween len (take len) (state a) (state b) → Updates state left_between h n most a b
    broken_cut_updates len behind broken = broken_updates len (take len) broken (λ l x mix i lt other. cut_before l len x mix i (omega (arith, lt, behind)))

  -- a sync keeps all
  pub settled : (a b : D) → Keeps (state a) (state b) → GoesOnFrom state left_between a b → (state b).written ≡ (state a).written → (state b).asked ≡ (state a).asked → Updates state left_between h n 0 a b
  settled a b keeps time written asked = kept_updates a b 0 time (record { later = omega (arith, written); most = omega (arith, written) }) asked keeps
