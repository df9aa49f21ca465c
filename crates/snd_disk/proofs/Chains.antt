-- What is known after one call and then another.
use Rattle.std.specs.Prelude.{ℕ, ◌+◌, ◌<◌, ◌≤◌, List}
use Rattle.std.proofs.Common.{◌∙◌, inl, inr, arith}
use Rattle.snd_disk.specs.State.{State, Rises, GoesOn, Keeps, KeepsImages, OnlyReads, AtMost, Passes}

pub rises_then : (a b c : ℕ) → Rises a b → b ≤ c → c < 18446744073709551616 → Rises a c
rises_then a b c (inl rose) later fits = inl (omega arith)
rises_then a b c (inr last) later fits = inr (omega arith)

pub rises_after : (a b c : ℕ) → a ≤ b → Rises b c → Rises a c
rises_after a b c later (inl rose) = inl (omega arith)
rises_after a b c later (inr last) = inr last

pub at_most_then : (a b c m n : ℕ) → AtMost a m b → AtMost b n c → AtMost a (m + n) c
at_most_then a b c m n first second = record { later = omega (arith, first.later, second.later); most = omega (arith, first.most, second.most) }

pub keeps_then : (a b c : State) → Keeps a b → Keeps b c → Keeps a c
keeps_then a b c first second = record {
  size = second.size ∙ first.size;
  contents = second.contents ∙ first.contents;
  name = second.name ∙ first.name;
}

module _ (clock clock' clock'' : ℕ) (images images' images'' : List ℕ → Type 0) (past past' past'' : ℕ → ℕ → List ℕ → Type 0) where
  pub keeps_images_then : KeepsImages clock clock' images images' past past' → KeepsImages clock' clock'' images' images'' past' past'' → KeepsImages clock clock'' images images'' past past''
  keeps_images_then first second = record {
    same_time = second.same_time ∙ first.same_time;
    now = record {
      no_more = λ x left. first.now.no_more x (second.now.no_more x left);
      no_fewer = λ x left. second.now.no_fewer x (first.now.no_fewer x left);
    };
    no_more = λ s t x left. first.no_more s t x (second.no_more s t x left);
    no_fewer = λ s t x left. second.no_fewer s t x (first.no_fewer s t x left);
  }

module _ (a b c : State) (images images' images'' : List ℕ → Type 0) (past past' past'' : ℕ → ℕ → List ℕ → Type 0) where
  pub only_reads_then : OnlyReads a b images images' past past' → OnlyReads b c images' images'' past' past'' → OnlyReads a c images images'' past past''
  only_reads_then first second = record {
    keeps = keeps_then a b c first.keeps second.keeps;
    images = keeps_images_then a.clock b.clock c.clock images images' images'' past past' past'' first.images second.images;
    written = second.written ∙ first.written;
  }

-- time that goes on twice goes on
pub goes_on_then : (a b c : ℕ) (past past' past'' : ℕ → ℕ → List ℕ → Type 0) → GoesOn a b past past' → GoesOn b c past' past'' → GoesOn a c past past''
goes_on_then a b c past past' past'' first second = record {
  later = omega (arith, first.later, second.later);
  same = λ s t x le left. first.same s t x le (second.same s t x (omega (arith, le, first.later)) left);
  kept = λ s t x left. second.kept s t x (first.kept s t x left);
}

-- it goes on where it stands still
pub goes_on_kept : (clock clock' : ℕ) (before after : List ℕ → Type 0) (past since : ℕ → ℕ → List ℕ → Type 0) → KeepsImages clock clock' before after past since → GoesOn clock clock' past since
goes_on_kept clock clock' before after past since keeps = record {
  later = omega (arith, keeps.same_time);
  same = λ s t x le left. keeps.no_more s t x left;
  kept = keeps.no_fewer;
}

-- and it goes on where a moment is added
pub goes_on_passes : (old new : ℕ) (past since : ℕ → ℕ → List ℕ → Type 0) (after : List ℕ → Type 0) → Passes old new past since after → GoesOn old new past since
goes_on_passes old new past since after passes = record { later = passes.later; same = passes.same; kept = passes.kept }
