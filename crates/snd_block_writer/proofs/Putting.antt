-- Bytes put on a disk by one call, and by one after another.
use Rattle.std.proofs.Common.{◌≡◌, ◌∙◌, ap, sym, subst, refl, inl, inr, ⊎_elim, ℕ, ◌+◌, ◌≤◌, List, [], ◌++◌, length, Option, None, Some, option_map, arith}
use Rattle.std.specs.Prelude.{is_some}
use Rattle.std.proofs.lemmas.List.{length-append, places, same_lists}
use Rattle.snd_disk.specs.Bytes.{over}
use Rattle.snd_disk.specs.Device.{GoesOnFrom, WritesAtMost}
use Rattle.snd_disk.specs.State.{IsBetween, IsMeant, IsWritten, State}
use Rattle.snd_disk.specs.declared.disk.Disk.{Ghosts}
use Rattle.snd_disk.proofs.Public.{goes_on_then}
use Rattle.snd_patch.proofs.Public.{mix_beside, over_beside, told_between, told_mapped}
use Rattle.snd_block_writer.specs.Puts.{LeavesPartly, Puts}
use Rattle.snd_block_writer.proofs.Partly.{none_partly, partly_more, partly_then}

-- ---- the contents

pub over_over : (b : List ℕ) (at : ℕ) (s t : List ℕ) → over (over b at s) (at + length s) t ≡ over b at (s ++ t)
over_over b at s t = same_lists _ _ (grind (arith, places)) (λ k d lt. grind (arith, places))

pub over_none : (b : List ℕ) (at : ℕ) → at ≤ length b → over b at [] ≡ b
over_none b at there = same_lists _ _ (grind (arith, places)) (λ k d lt. grind (arith, places))

mapped_twice : (f g h : List ℕ → List ℕ) (o : Option (List ℕ)) → ((b : List ℕ) → g (f b) ≡ h b) → option_map g (option_map f o) ≡ option_map h o
mapped_twice f g h None same = refl
mapped_twice f g h (Some b) same = ap (λ (l : List ℕ). Some l) (same b)

same_mapped : (f : List ℕ → List ℕ) (o : Option (List ℕ)) → ((b : List ℕ) → o ≡ Some b → f b ≡ b) → o ≡ option_map f o
same_mapped f None same = refl
same_mapped f (Some b) same = ap (λ (l : List ℕ). Some l) (sym (same b refl))

pub written_then : (a b c : State) (at next : ℕ) (s t : List ℕ) → next ≡ at + length s → IsWritten at s a b → IsWritten next t b c → IsWritten at (s ++ t) a c
written_then a b c at next s t is first second = record {
  size = grind (arith, places, is, first.size, second.size);
  contents = second.contents ∙ ap (option_map (λ l. over l next t)) first.contents
      ∙ ap (λ (m : ℕ). option_map (λ l. over l m t) (option_map (λ l. over l at s) a.contents)) is
      ∙ mapped_twice (λ l. over l at s) (λ l. over l (at + length s) t) (λ l. over l at (s ++ t)) a.contents (λ l. over_over l at s t);
  name = second.name ∙ first.name;
}

pub none_written : (s : State) (at : ℕ) → at ≤ s.size → ((b : List ℕ) → s.contents ≡ Some b → s.size ≡ length b) → IsWritten at [] s s
none_written s at there told = record {
  size = omega (arith, there);
  contents = same_mapped (λ l. over l at []) s.contents (λ b is. over_none b at (omega (arith, there, told b is)));
  name = refl;
}

-- ---- what stays

module _ {D : Type 0} (d : Ghosts D) where
  pub puts_then : (a b c : D) (at next : ℕ) (s t : List ℕ) → next ≡ at + length s → Puts d at s a b → Puts d next t b c → Puts d at (s ++ t) a c
  puts_then a b c at next s t is first second =
      let sum = length-append s t in
      record {
        beside = λ l told.
            let one = first.beside l told in
            let two = second.beside one.0 one.1 in (
              two.0,
              two.1,
              λ i beside.
                  two.2 i (⊎_elim (λ lt. inl (omega (arith, lt, is))) (λ le. inr (omega (arith, le, is, sum))) beside)
                  ∙ one.2 i (⊎_elim (λ lt. inl lt) (λ le. inr (omega (arith, le, sum))) beside),
            );
        longer = omega (arith, first.longer, second.longer);
        tells = record { told = second.tells.told ∙ first.tells.told; name = second.tells.name ∙ first.tells.name };
        leaves = partly_then d at next s t a b c is (λ l told. let one = first.beside l told in (one.0, one.1)) first.leaves second.leaves;
        time = goes_on_then (d.state a).clock (d.state b).clock (d.state c).clock (d.left_between a) (d.left_between b) (d.left_between c) first.time second.time;
        written = record { later = omega (arith, first.written.later, second.written.later); most = omega (arith, sum, first.written.most, second.written.most) };
        asked = second.asked ∙ first.asked;
      }

  -- fewer bytes than might have been
  pub puts_more : (a b : D) (at : ℕ) (s t : List ℕ) → Puts d at s a b → Puts d at (s ++ t) a b
  puts_more a b at s t first =
      let sum = length-append s t in
      record {
        beside = λ l told.
            let one = first.beside l told in
            (one.0, one.1, λ i beside. one.2 i (⊎_elim (λ lt. inl lt) (λ le. inr (omega (arith, le, sum))) beside));
        longer = first.longer;
        tells = first.tells;
        leaves = partly_more d at s t a b first.leaves;
        time = first.time;
        written = record { later = first.written.later; most = omega (arith, sum, first.written.most) };
        asked = first.asked;
      }

  pub none_put : ((disk : D) (s t : ℕ) (x : List ℕ) → (d.state disk).clock ≤ s → d.left_between disk s t x → d.may_leave disk x) → (a : D) (at : ℕ) (s : List ℕ) → Puts d at s a a
  none_put only_now a at s = record {
    beside = λ l told. (l, told, λ i beside. refl);
    longer = omega arith;
    tells = record { told = refl; name = refl };
    leaves = none_partly d only_now at s a;
    time = record { later = omega arith; same = λ s t x le left. left; kept = λ s t x left. left };
    written = record { later = omega arith; most = omega arith };
    asked = refl;
  }

  module _ (a b : D) (at : ℕ) (s : List ℕ) (leaves : LeavesPartly d at s a b) (time : GoesOnFrom d.state d.left_between a b) (written : WritesAtMost d.state (length s) a b) (asked : (d.state b).asked ≡ (d.state a).asked) where
    pub done_puts : (to : ℕ) → (d.state a).size ≤ to → IsMeant to (λ l. over l at s) (d.state a) (d.state b) → Puts d at s a b
    done_puts to least done = record {
      beside = λ l told. (over l at s, done.contents ∙ ap (option_map (λ x. over x at s)) told, λ i beside. over_beside l at s i beside);
      longer = omega (arith, least, done.size);
      tells = record { told = ap is_some done.contents ∙ told_mapped (λ l. over l at s) (d.state a).contents; name = done.name };
      leaves = leaves;
      time = time;
      written = written;
      asked = asked;
    }

    pub broken_puts : (to : ℕ) → (d.state a).size ≤ to → IsBetween to (λ l. over l at s) (d.state a) (d.state b) → Puts d at s a b
    broken_puts to least broken = record {
      beside = λ l told. let mixed = broken.contents l told in (mixed.0, mixed.1, λ i beside. mix_beside l at s mixed.0 mixed.2 i beside);
      longer = ⊎_elim (λ same. omega (arith, same)) (λ end. omega (arith, least, end)) broken.size;
      tells = record { told = told_between (d.state a).contents (d.state b).contents (λ l told. ((broken.contents l told).0, (broken.contents l told).1)) broken.told; name = broken.name };
      leaves = leaves;
      time = time;
      written = written;
      asked = asked;
    }

-- ---- the same, by other names of the place and of the bytes

pub written_as : (a b : State) (at place : ℕ) (s t : List ℕ) → at ≡ place → s ≡ t → IsWritten at s a b → IsWritten place t a b
written_as a b at place s t one two done =
    subst (λ (l : List ℕ). IsWritten place l a b) two (subst (λ (m : ℕ). IsWritten m s a b) one done)

pub puts_as : {D : Type 0} (d : Ghosts D) (a b : D) (at place : ℕ) (s t : List ℕ) → at ≡ place → s ≡ t → Puts d at s a b → Puts d place t a b
puts_as d a b at place s t one two puts =
    subst (λ (l : List ℕ). Puts d place l a b) two (subst (λ (m : ℕ). Puts d m s a b) one puts)
