-- Files in the midst of writes: each byte is an old one or one that is meant.
use Rattle.std.proofs.Common.{◌≡◌, ◌∙◌, sym, subst, refl, inl, inr, ⊎_elim, ℕ, ◌+◌, ◌/◌, ◌≤◌, ℤ, List, [], ◌∷◌, ◌++◌, All, length, get_or, arith}
use Rattle.std.proofs.lemmas.Bool.{cases_lt, cond_both}
use Rattle.std.proofs.lemmas.List.{length-append, places}
use Rattle.std.proofs.lemmas.List.Elements.{All-head, All-tail}
use Rattle.std.specs.Prelude.{nat_lt}
use Rattle.snd_container.specs.Values.{closing}
use Rattle.snd_disk.proofs.Public.{length-over, byte_from}
use Rattle.snd_disk.specs.Bytes.{over}
use Rattle.snd_disk.specs.Runs.{ComesFrom, IsMade, IsSource}
use Rattle.snd_layout.specs.Shape.{end}
use Rattle.snd_patch.proofs.Public.{over_beside}
use Rattle.snd_patch.specs.Sealed.{over_closing}
use Rattle.snd_block_writer.specs.Puts.{IsPartly}
use Rattle.snd_edits.specs.Editing.{Editing}
use Rattle.snd_edits.specs.Edits.{coded, over_data}
use Rattle.snd_edits.specs.Laws.{IsEdited}
use Rattle.snd_edits.specs.SafeLaws.{data_then, frames_then}
use Rattle.snd_edits.specs.WriteCalls.{MayWrite}
use Rattle.snd_edits.proofs.EditedFiles.{is_linear}
use Rattle.snd_edits.proofs.EditedSteps.{last_end, shut_longer}
use Rattle.snd_edits.proofs.Sealing.{ends_before}

module _ (b c : List ℕ) where
  -- before the writes, and behind them
  pub partly_before : length b ≤ length c → IsPartly b c b
  partly_before longer = record { least = omega arith; most = longer; each = λ i. inl refl }

  pub partly_behind : length b ≤ length c → IsPartly b c c
  partly_behind longer = record { least = longer; most = omega arith; each = λ i. inr refl }

  -- a part of what is meant, and a part of that
  pub partly_on : (y x : List ℕ) → IsPartly b c y → IsPartly b y x → IsPartly b c x
  partly_on y x all part = record {
    least = part.least;
    most = omega (arith, part.most, all.most);
    each = λ i. ⊎_elim (λ old. inl old) (λ put. ⊎_elim (λ old. inl (put ∙ old)) (λ new. inr (put ∙ new)) (all.each i)) (part.each i);
  }

  -- what comes from files that are partly written
  pub partly_from : (source : List ℕ → Type 0) → ((y : List ℕ) → source y → IsPartly b c y) → (x : List ℕ) → ComesFrom source x → IsPartly b c x
  partly_from source each x from =
      let whole = each from.size.0 from.size.1 in
      record {
        least = omega (arith, from.size.2, whole.least);
        most = omega (arith, from.size.2, whole.most);
        each = λ i.
            let byte = byte_from source x from i in
            ⊎_elim (λ old. inl (byte.2 ∙ old)) (λ new. inr (byte.2 ∙ new)) ((each byte.0 byte.1).each i);
      }

  partly_source : (before : List ℕ → Type 0) (held : List (List ℕ)) → ((y : List ℕ) → before y → IsPartly b c y) → All (IsPartly b c) held → (y : List ℕ) → IsSource before held y → IsPartly b c y
  partly_source before [] start all y is = start y is
  partly_source before (z ∷ held) start all y is =
      ⊎_elim (λ same. subst (IsPartly b c) (sym same) (All-head (IsPartly b c) z held all)) (λ rest. partly_source before held start (All-tail (IsPartly b c) z held all) y rest) is

  -- what a run of calls leaves, where it began and was held so
  pub partly_made : (before : List ℕ → Type 0) (held : List (List ℕ)) → ((y : List ℕ) → before y → IsPartly b c y) → All (IsPartly b c) held → (x : List ℕ) → IsMade before held x → IsPartly b c x
  partly_made before [] start all x made = start x made
  partly_made before (z ∷ held) start all x made = partly_from (IsSource before (z ∷ held)) (λ y is. partly_source before (z ∷ held) start all y is) x made

-- the first of the bytes that are put
pub partly_front : (b : List ℕ) (at : ℕ) (s t : List ℕ) → at ≤ length b → IsPartly b (over b at (s ++ t)) (over b at s)
partly_front b at s t there = record {
  least = omega (arith, length-over b at s);
  most = omega (arith, length-over b at s, length-over b at (s ++ t), length-append s t);
  each = λ i. elim (cases_lt i at) [
    | inl early ↦ inl (over_beside b at s i (inl early))
    | inr from ↦ elim (cases_lt i (at + length s)) [
      | inl to ↦ inr (grind (arith, places))
      | inr late ↦ inl (over_beside b at s i (inr late))
    ]
  ];
}

-- numbers put over the data, where what closes these is not there yet
pub partly_data : (file : List ℕ) (e : Editing) (xs : List ℤ) → IsEdited file e → MayWrite xs e.shape e.write_place → IsPartly e.bytes (data_then xs e) (over_data e.bytes e.shape e.write_place xs)
partly_data file e xs ed may =
    let h = e.shape in
    let n = frames_then xs e in
    let s = coded h.params xs in
    let y = over_data e.bytes h e.write_place xs in
    let ends : end h e.write_place + length s ≤ end h n = omega (arith, last_end file e ed xs may, ends_before h (e.write_place + length xs / h.params.channels) n (is_linear file e ed) (omega arith)) in
    record {
      least = omega (arith, length-over e.bytes (end h e.write_place) s);
      most = shut_longer file e ed xs may;
      each = λ i. elim (cases_lt i (end h n)) [
        | inl early ↦ inr (sym (cond_both (nat_lt h.frames n) (over_closing y h n) y (λ x. get_or x i 0 ≡ get_or y i 0) (λ is. over_beside y (end h n) (closing h n) i (inl early)) (λ other. refl)))
        | inr late ↦ inl (over_beside e.bytes (end h e.write_place) s i (inr (omega (arith, ends, late))))
      ];
    }
