-- Samples written a block at a time.
use Rattle.std.proofs.Common.{◌≡◌, ◌∙◌, ap, sym, subst, refl, inl, inr, ⊎_elim, ℕ, ◌+◌, ◌-◌, ◌*◌, ◌≤◌, ℤ, List, [], ◌++◌, length, take, drop, Option, None, Some, option_map, arith}
use Rattle.std.specs.Prelude.{is_some}
use Rattle.std.proofs.Math.Seq.{take-add}
use Rattle.std.proofs.lemmas.List.{length-take-le, places, same_lists}
use Rattle.snd_disk.specs.Bytes.{over}
use Rattle.snd_disk.specs.Device.{GoesOnFrom, WritesAtMost}
use Rattle.snd_disk.specs.Runs.{IsBeside}
use Rattle.snd_disk.specs.State.{IsBetween, IsMeant, IsWritten, State}
use Rattle.snd_disk.proofs.Public.{goes_on_then}
use Rattle.snd_patch.proofs.Public.{mix_beside, over_beside, told_between, told_mapped}
use Rattle.snd_container.specs.Fixed.{byte_count, samples_bytes}
use Rattle.snd_container.specs.declared.fixed.Fixed.{Fixed}
use Rattle.snd_container.specs.declared.fixed.Fixed.TheVariants.{Linear, MuLaw, ALaw}
use Rattle.snd_pcm.specs.Pcm.{samples_bytes as linear_bytes}
use Rattle.snd_container.proofs.Public.{bytes_of_joined, count_of_bytes}
use Rattle.snd_frames.specs.Writing.{PutsAt}

-- ---- bytes put one behind the other

pub over_over : (b : List ℕ) (at : ℕ) (s t : List ℕ) → over (over b at s) (at + length s) t ≡ over b at (s ++ t)
over_over b at s t = same_lists _ _ (grind (arith, places)) (λ k d lt. grind (arith, places))

pub over_none : (b : List ℕ) (at : ℕ) → at ≤ length b → over b at [] ≡ b
over_none b at there = same_lists _ _ (grind (arith, places)) (λ k d lt. grind (arith, places))

pub mapped_twice : (f g h : List ℕ → List ℕ) (o : Option (List ℕ)) → ((b : List ℕ) → g (f b) ≡ h b) → option_map g (option_map f o) ≡ option_map h o
mapped_twice f g h None same = refl
mapped_twice f g h (Some b) same = ap (λ (l : List ℕ). Some l) (same b)

pub written_then : (a b c : State) (at next : ℕ) (s t : List ℕ) → next ≡ at + length s → IsWritten at s a b → IsWritten next t b c → IsWritten at (s ++ t) a c
written_then a b c at next s t is first second = record {
  size = grind (arith, places, is, first.size, second.size);
  contents = second.contents ∙ ap (option_map (λ l. over l next t)) first.contents
      ∙ ap (λ (m : ℕ). option_map (λ l. over l m t) (option_map (λ l. over l at s) a.contents)) is
      ∙ mapped_twice (λ l. over l at s) (λ l. over l (at + length s) t) (λ l. over l at (s ++ t)) a.contents (λ l. over_over l at s t);
  name = second.name ∙ first.name;
}

-- ---- what stays

module _ {D : Type 0} (state : D → State) (left_between : D → ℕ → ℕ → List ℕ → Type 0) where
  pub puts_then : (a b c : D) (at s next t n : ℕ) → next ≡ at + s → n ≡ s + t → PutsAt state left_between at s a b → PutsAt state left_between next t b c → PutsAt state left_between at n a c
  puts_then a b c at s next t n is all first second = record {
    beside = λ l told.
        let one = first.beside l told in
        let two = second.beside one.0 one.1 in (
          two.0,
          two.1,
          λ i beside.
              two.2 i (⊎_elim (λ lt. inl (omega (arith, lt, is))) (λ le. inr (omega (arith, le, is, all))) beside)
              ∙ one.2 i (⊎_elim (λ lt. inl lt) (λ le. inr (omega (arith, le, all))) beside),
        );
    tells = record { told = second.tells.told ∙ first.tells.told; name = second.tells.name ∙ first.tells.name };
    time = goes_on_then (state a).clock (state b).clock (state c).clock (left_between a) (left_between b) (left_between c) first.time second.time;
    written = record { later = omega (arith, first.written.later, second.written.later); most = omega (arith, all, first.written.most, second.written.most) };
    asked = second.asked ∙ first.asked;
  }

  module _ (a b : D) (at : ℕ) (s : List ℕ) (n : ℕ) (size : length s ≡ n) (time : GoesOnFrom state left_between a b) (written : WritesAtMost state (length s) a b) (asked : (state b).asked ≡ (state a).asked) where
    pub put_puts : (to : ℕ) → IsMeant to (λ l. over l at s) (state a) (state b) → PutsAt state left_between at n a b
    put_puts to done = record {
      beside = λ l told. (over l at s, done.contents ∙ ap (option_map (λ x. over x at s)) told, λ i beside. over_beside l at s i (subst (λ (m : ℕ). IsBeside i at m) (sym size) beside));
      tells = record { told = ap is_some done.contents ∙ told_mapped (λ l. over l at s) (state a).contents; name = done.name };
      time = time;
      written = record { later = written.later; most = omega (arith, size, written.most) };
      asked = asked;
    }

    pub broken_puts : (to : ℕ) → IsBetween to (λ l. over l at s) (state a) (state b) → PutsAt state left_between at n a b
    broken_puts to broken = record {
      beside = λ l told. let mixed = broken.contents l told in (mixed.0, mixed.1, λ i beside. mix_beside l at s mixed.0 mixed.2 i (subst (λ (m : ℕ). IsBeside i at m) (sym size) beside));
      tells = record { told = told_between (state a).contents (state b).contents (λ l told. ((broken.contents l told).0, (broken.contents l told).1)) broken.told; name = broken.name };
      time = time;
      written = record { later = written.later; most = omega (arith, size, written.most) };
      asked = asked;
    }

  pub none_put : (a : D) (at n : ℕ) → PutsAt state left_between at n a a
  none_put a at n = record {
    beside = λ l told. (l, told, λ i beside. refl);
    tells = record { told = refl; name = refl };
    time = record { later = omega arith; same = λ s t x le left. left; kept = λ s t x left. left };
    written = record { later = omega arith; most = omega arith };
    asked = refl;
  }

-- ---- the samples of the blocks so far, and of the next one

pub same_mapped : (f : List ℕ → List ℕ) (o : Option (List ℕ)) → ((b : List ℕ) → o ≡ Some b → f b ≡ b) → o ≡ option_map f o
same_mapped f None same = refl
same_mapped f (Some b) same = ap (λ (l : List ℕ). Some l) (sym (same b refl))

none_written : (s : State) (at : ℕ) → at ≤ s.size → ((b : List ℕ) → s.contents ≡ Some b → s.size ≡ length b) → IsWritten at [] s s
none_written s at there told = record {
  size = omega (arith, there);
  contents = same_mapped (λ l. over l at []) s.contents (λ b is. over_none b at (omega (arith, there, told b is)));
  name = refl;
}

pub bytes_of_none : (form : Fixed) → samples_bytes form [] ≡ []
unfolding linear_bytes
bytes_of_none (Linear form) = refl
bytes_of_none MuLaw = refl
bytes_of_none ALaw = refl

pub no_samples_written : (form : Fixed) (s : State) (at : ℕ) → at ≤ s.size → ((b : List ℕ) → s.contents ≡ Some b → s.size ≡ length b) → IsWritten at (samples_bytes form []) s s
no_samples_written form s at there told = subst (λ (l : List ℕ). IsWritten at l s s) (sym (bytes_of_none form)) (none_written s at there told)

pub bytes_split : (w done n : ℕ) → done ≤ n → w * n ≡ w * done + w * (n - done)
bytes_split w done n more =
    let left = n - done in
    let whole : n ≡ done + left = omega (arith, more) in
    ap (λ (m : ℕ). w * m) whole ∙ (let e : w * (done + left) ≡ w * done + w * left = omega arith in e)

pub samples_written : (form : Fixed) (a b c : State) (at : ℕ) (xs : List ℤ) (done n : ℕ) → done ≤ n → n ≤ length xs → IsWritten at (samples_bytes form (take done xs)) a b
    → IsWritten (at + byte_count form * done) (samples_bytes form (take (n - done) (drop done xs))) b c → IsWritten at (samples_bytes form (take n xs)) a c
samples_written form a b c at xs done n more within first second =
    let front = samples_bytes form (take done xs) in
    let next = samples_bytes form (take (n - done) (drop done xs)) in
    let size : length front ≡ byte_count form * done = (count_of_bytes form (take done xs)).0 ∙ ap (λ (m : ℕ). byte_count form * m) (length-take-le done xs (omega (arith, more, within))) in
    let sum : done + (n - done) ≡ n = omega (arith, more) in
    let whole : front ++ next ≡ samples_bytes form (take n xs) =
    sym (bytes_of_joined form (take done xs) (take (n - done) (drop done xs)))
    ∙ ap (samples_bytes form) (sym (take-add done (n - done) xs) ∙ ap (λ (m : ℕ). take m xs) sum) in
    subst (λ (l : List ℕ). IsWritten at l a c) whole (written_then a b c at (at + byte_count form * done) front next (ap (λ (m : ℕ). at + m) (sym size)) first second)
