-- Commands that need an open file are refused where there is none.
use Rattle.std.proofs.Common.{◌≡◌, ◌⊎◌, inl, inr, ℕ, ℤ, List, Bool, ap, ◌∙◌}
use Rattle.std.specs.Borrow.{Bor}
use Rattle.snd_rules.specs.Desk.{Store}
use Rattle.snd_rules.specs.Edit.{Edited}
use Rattle.snd_rules.specs.Work.{work_closed}
use Rattle.snd_lines.specs.declared.refusal.Refusal.TheVariants as refusal
use Rattle.snd_rules.specs.declared.work.Asking.{Asking}
use Rattle.snd_rules.specs.declared.work.Setting.{Setting}
use Rattle.snd_rules.specs.declared.work.Work.{Work}
use Rattle.snd_rules.specs.declared.work.Work.TheVariants.{Close, Tell, SeekRead, SeekWrite, SeekBoth, Read, Write, Truncate, Trim, BringUp, Auto, Promote, Set, Ask, Tap, Untap}
use Rattle.snd_rules.specs.Replies.{refuses}
use Rattle.snd_taps.specs.declared.tap.TapKind.{TapKind}
use Rattle.snd_script.proofs.ShelfSteps.{replied}

abbrev pub NeedsOpen : Work → Type 0
NeedsOpen w =
    (w ≡ Close) ⊎ ((w ≡ Tell) ⊎ (((n : ℕ) × (w ≡ SeekRead n)) ⊎ (((n : ℕ) × (w ≡ SeekWrite n)) ⊎ (((n : ℕ) × (w ≡ SeekBoth n)) ⊎ (((n : ℕ) × (w ≡ Read n)) ⊎ (((xs : Bor (List ℤ)) × (w ≡ Write xs))
    ⊎ (((n : ℕ) × (w ≡ Truncate n)) ⊎ ((w ≡ Trim) ⊎ ((w ≡ BringUp) ⊎ (((on : Bool) × (w ≡ Auto on)) ⊎ (((setting : Setting) × (w ≡ Set setting)) ⊎ (((asking : Asking) × (w ≡ Ask asking))
    ⊎ (((kind : TapKind) × (w ≡ Tap kind)) ⊎ (((kind : TapKind) × (w ≡ Untap kind)) ⊎ (w ≡ Promote)))))))))))))))

not_open : (w : Work) → NeedsOpen w → (store : Store) → work_closed w store ≡ replied (refuses refusal.NotOpen) store
not_open w (inl is) store = ap (λ (x : Work). work_closed x store) is
not_open w (inr (inl is)) store = ap (λ (x : Work). work_closed x store) is
not_open w (inr (inr (inl is))) store = ap (λ (x : Work). work_closed x store) is.1
not_open w (inr (inr (inr (inl is)))) store = ap (λ (x : Work). work_closed x store) is.1
not_open w (inr (inr (inr (inr (inl is))))) store = ap (λ (x : Work). work_closed x store) is.1
not_open w (inr (inr (inr (inr (inr (inl is)))))) store = ap (λ (x : Work). work_closed x store) is.1
not_open w (inr (inr (inr (inr (inr (inr (inl is))))))) store = ap (λ (x : Work). work_closed x store) is.1
not_open w (inr (inr (inr (inr (inr (inr (inr (inl is)))))))) store = ap (λ (x : Work). work_closed x store) is.1
not_open w (inr (inr (inr (inr (inr (inr (inr (inr (inl is))))))))) store = ap (λ (x : Work). work_closed x store) is
not_open w (inr (inr (inr (inr (inr (inr (inr (inr (inr (inl is)))))))))) store = ap (λ (x : Work). work_closed x store) is
not_open w (inr (inr (inr (inr (inr (inr (inr (inr (inr (inr (inl is))))))))))) store = ap (λ (x : Work). work_closed x store) is.1
not_open w (inr (inr (inr (inr (inr (inr (inr (inr (inr (inr (inr (inl is)))))))))))) store = ap (λ (x : Work). work_closed x store) is.1
not_open w (inr (inr (inr (inr (inr (inr (inr (inr (inr (inr (inr (inr (inl is))))))))))))) store = ap (λ (x : Work). work_closed x store) is.1
not_open w (inr (inr (inr (inr (inr (inr (inr (inr (inr (inr (inr (inr (inr (inl is)))))))))))))) store = ap (λ (x : Work). work_closed x store) is.1
not_open w (inr (inr (inr (inr (inr (inr (inr (inr (inr (inr (inr (inr (inr (inr (inl is))))))))))))))) store = ap (λ (x : Work). work_closed x store) is.1
not_open w (inr (inr (inr (inr (inr (inr (inr (inr (inr (inr (inr (inr (inr (inr (inr is))))))))))))))) store = ap (λ (x : Work). work_closed x store) is

pub needs_open : (w : Work) (store : Store) (edited : Edited) → NeedsOpen w → edited ≡ work_closed w store → edited ≡ replied (refuses refusal.NotOpen) store
needs_open w store edited needs is = is ∙ not_open w needs store
