-- The bytes that a run uses, after one step and then another.
use Rattle.std.proofs.Common.{◌≡◌, ℕ, ◌+◌, ◌≤◌, List, [], ◌++◌, Option, Some, Result, Ok, Err, refl, sym, ◌∙◌, ap, subst, arith}
use Rattle.snd_command.specs.Line.{command_of}
use Rattle.snd_command.specs.Said.{Said}
use Rattle.snd_command.specs.declared.refusal.ScriptRefusal.{ScriptRefusal}
use Rattle.snd_disk.specs.State.{AtMost}
use Rattle.snd_script.specs.Kept.{lines_to_serve}
use Rattle.snd_script.specs.Lines.{Reading}
use Rattle.snd_rules.specs.Script.{by_command, by_lines, lines_within, most_bytes}
use Rattle.snd_script.specs.Serving.{Brings}
use Rattle.snd_script.specs.Used.{IsWithin, LineUses, Uses, use_left}
use Rattle.snd_script.specs.declared.stop.Next.TheVariants as next
use Rattle.snd_script.specs.declared.stop.Stop.{Stop}

-- what is used so far, with what the lines that are left may use, is within what there was
abbrev pub UsesSoFar : (Said → ℕ) → Reading → List ℕ → Reading → Option (List ℕ) → ℕ → ℕ → Type 0
UsesSoFar most before s after left old new =
    (old ≤ new) × ((s' : List ℕ) × (left ≡ Some s') × (new + use_left most after s' ≤ old + use_left most before s))

-- a line came
pub line_to_use : (most : Said → ℕ) (before after : Reading) (kept s s' : List ℕ) → Brings before.room (before.rest ++ s) kept after.room (after.rest ++ s')
    → use_left most before s ≡ by_command most (command_of kept) + use_left most after s'
line_to_use most before after kept s s' comes =
    ap (by_lines most) comes.lines ∙ ap (λ c. by_command most c + use_left most after s') (sym comes.same)

-- nothing is used
pub uses_so_far_none : (most : Said → ℕ) (at : Reading) (s : List ℕ) (left : Option (List ℕ)) (old : ℕ) → left ≡ Some s → UsesSoFar most at s at left old old
uses_so_far_none most at s left old is = (omega arith, (s, is, omega arith))

-- .. or no more than is in hand, and no line was taken
pub uses_in_hand : {T : Type 0} (r : Result T Stop) (most : Said → ℕ) (hand over : ℕ) (before : Reading) (s : List ℕ) (after : Reading) (left : Option (List ℕ)) (old new : ℕ)
    → left ≡ Some s → after ≡ before → old ≤ new → new ≤ old + hand → Uses r most hand 0 over before s after left old new
uses_in_hand (Ok x) most hand over before s after left old new is same later within = record {
  later = later;
  within = (s, is, let e : use_left most after s ≡ use_left most before s = ap (λ (r : Reading). use_left most r s) same in omega (arith, within, e));
}
uses_in_hand (Err stop) most hand over before s after left old new is same later within = record { later = later; within = omega (arith, within) }

-- the same within as much
pub within_as : {T : Type 0} (r : Result T Stop) (most : Said → ℕ) (owed over all all' : ℕ) (after : Reading) (left : Option (List ℕ)) (new : ℕ)
    → all ≤ all' → IsWithin r most owed over all after left new → IsWithin r most owed over all' after left new
within_as (Ok x) most owed over all all' after left new le (s, is, within) = (s, is, omega (arith, le, within))
within_as (Err stop) most owed over all all' after left new le within = omega (arith, le, within)

-- no line came, behind what is used so far
pub so_far_stops : {T : Type 0} (most : Said → ℕ) (owed over : ℕ) (before : Reading) (s : List ℕ) (at : Reading) (left : Option (List ℕ)) (old mid : ℕ) (stop : Stop) (after : Reading) (left' : Option (List ℕ))
    → UsesSoFar most before s at left old mid → Uses {T = T} (Err stop) most 0 owed over before s after left' old mid
so_far_stops most owed over before s at left old mid stop after left' so_far = record { later = so_far.0; within = omega (arith, so_far.1.2) }

-- one line behind what is used so far, while a file is open
module _ (most : Said → ℕ) (before at : Reading) (s kept : List ℕ) (left : Option (List ℕ)) (old mid new : ℕ) (so_far : UsesSoFar most before s at left old mid) where
  line_within : (came after : Reading) (s' : List ℕ) (owed : ℕ) → Brings at.room (at.rest ++ so_far.1.0) kept came.room (came.rest ++ s') → after ≡ came → new + owed ≤ mid + by_command most (command_of kept)
      → new + owed + use_left most after s' ≤ old + use_left most before s
  line_within came after s' owed comes same within =
      let e = line_to_use most at came kept so_far.1.0 s' comes in
      let e' : use_left most after s' ≡ use_left most came s' = ap (λ (r : Reading). use_left most r s') same in
      omega (arith, so_far.1.2, e, e', within)

  pub line_stays_open : (came after : Reading) (s' : List ℕ) (owed : ℕ) (left' : Option (List ℕ)) → Brings at.room (at.rest ++ so_far.1.0) kept came.room (came.rest ++ s') → after ≡ came → left' ≡ Some s'
      → LineUses (Ok next.Open) owed (by_command most (command_of kept)) mid new → UsesSoFar most before s after left' old new
  line_stays_open came after s' owed left' comes same is uses =
      let total = line_within came after s' 0 comes same (omega (arith, uses.within)) in
      (omega (arith, so_far.0, uses.later), (s', is, omega (arith, total)))

  pub line_is_to_close : {T : Type 0} (x : T) (came after : Reading) (s' : List ℕ) (owed over : ℕ) (left' : Option (List ℕ)) → Brings at.room (at.rest ++ so_far.1.0) kept came.room (came.rest ++ s') → after ≡ came → left' ≡ Some s'
      → LineUses (Ok next.Close) owed (by_command most (command_of kept)) mid new → Uses {T = T} (Ok x) most 0 owed over before s after left' old new
  line_is_to_close x came after s' owed over left' comes same is uses =
      let total = line_within came after s' owed comes same uses.within in
      record { later = omega (arith, so_far.0, uses.later); within = (s', is, omega (arith, total)) }

  pub line_stops_run : {T : Type 0} (stop : Stop) (came after : Reading) (s' : List ℕ) (owed over : ℕ) (left' : Option (List ℕ)) → Brings at.room (at.rest ++ so_far.1.0) kept came.room (came.rest ++ s')
      → LineUses (Err stop) owed (by_command most (command_of kept)) mid new → Uses {T = T} (Err stop) most 0 owed over before s after left' old new
  line_stops_run stop came after s' owed over left' comes uses =
      let total = line_within came came s' 0 comes refl (omega (arith, uses.within)) in
      record { later = omega (arith, so_far.0, uses.later); within = omega (arith, total) }

-- the open file is closed where a run stops, whatever then comes of it
pub closed_where_stopped : {T U : Type 0} (stop stop' : Stop) (most : Said → ℕ) (close : ℕ) (before : Reading) (s : List ℕ) (after : Reading) (left : Option (List ℕ)) (old mid new : ℕ)
    → Uses {T = T} (Err stop) most 0 close 0 before s after left old mid → mid ≤ new → new ≤ mid + close → Uses {T = U} (Err stop') most 0 0 close before s after left old new
closed_where_stopped stop stop' most close before s after left old mid new uses later within = record {
  later = omega (arith, uses.later, later);
  within = omega (arith, uses.within, within);
}

-- .. or at a line that closes it, whatever then comes of it
pub closed_where_owed : {T U : Type 0} (r : Result U Stop) (most : Said → ℕ) (close : ℕ) (before : Reading) (s : List ℕ) (after : Reading) (left : Option (List ℕ)) (old mid new : ℕ) {x : T}
    → Uses {T = T} (Ok x) most 0 close 0 before s after left old mid → mid ≤ new → new ≤ mid + close → Uses {T = U} r most 0 0 close before s after left old new
closed_where_owed (Ok y) most close before s after left old mid new uses later within = record {
  later = omega (arith, uses.later, later);
  within = (uses.within.0, uses.within.1, omega (arith, uses.within.2, within));
}
closed_where_owed (Err stop) most close before s after left old mid new uses later within = record {
  later = omega (arith, uses.later, later);
  within = omega (arith, uses.within.2, within);
}

-- so much is used before
pub uses_behind : {T : Type 0} (r : Result T Stop) (most : Said → ℕ) (hand over : ℕ) (before : Reading) (s : List ℕ) (after : Reading) (left : Option (List ℕ)) (old mid new : ℕ)
    → old ≤ mid → mid ≤ old + hand → Uses r most 0 0 over before s after left mid new → Uses r most hand 0 over before s after left old new
uses_behind r most hand over before s after left old mid new later first uses = record {
  later = omega (arith, later, uses.later);
  within = within_as r most 0 over _ _ after left new (omega (arith, first)) uses.within;
}

-- more is in hand
pub uses_of_more : {T : Type 0} (r : Result T Stop) (most : Said → ℕ) (hand hand' over : ℕ) (before : Reading) (s : List ℕ) (after : Reading) (left : Option (List ℕ)) (old new : ℕ)
    → hand ≤ hand' → Uses r most hand 0 over before s after left old new → Uses r most hand' 0 over before s after left old new
uses_of_more r most hand hand' over before s after left old new le uses = record {
  later = uses.later;
  within = within_as r most 0 over _ _ after left new (omega (arith, le)) uses.within;
}

-- a line says this command
pub uses_said : {T : Type 0} (r : Result T Stop) (most : Said → ℕ) (said : Said) (command : Result (Option Said) ScriptRefusal) (over : ℕ) (before : Reading) (s : List ℕ) (after : Reading) (left : Option (List ℕ)) (old new : ℕ)
    → Ok (Some said) ≡ command → Uses r most (most said) 0 over before s after left old new → Uses r most (by_command most command) 0 over before s after left old new
uses_said r most said command over before s after left old new is uses = subst (λ (c : Result (Option Said) ScriptRefusal). Uses r most (by_command most c) 0 over before s after left old new) is uses

-- a line came, and was served
pub uses_for_line : {T : Type 0} (r : Result T Stop) (most : Said → ℕ) (over : ℕ) (before came : Reading) (kept s s' : List ℕ) (after : Reading) (left : Option (List ℕ)) (old new : ℕ)
    → Brings before.room (before.rest ++ s) kept came.room (came.rest ++ s') → Uses r most (by_command most (command_of kept)) 0 over came s' after left old new → Uses r most 0 0 over before s after left old new
uses_for_line r most over before came kept s s' after left old new comes uses = record {
  later = uses.later;
  within = within_as r most 0 over _ _ after left new (let e = line_to_use most before came kept s s' comes in omega (arith, e)) uses.within;
}

-- lines behind what is used so far
pub uses_on : {T : Type 0} (x : T) (most : Said → ℕ) (over : ℕ) (before : Reading) (s : List ℕ) (at : Reading) (left : Option (List ℕ)) (after : Reading) (left' : Option (List ℕ)) (old mid new : ℕ) (so_far : UsesSoFar most before s at left old mid)
    → Uses {T = T} (Ok x) most 0 0 over at so_far.1.0 after left' mid new → UsesSoFar most before s after left' old new
uses_on x most over before s at left after left' old mid new so_far uses =
    (omega (arith, so_far.0, uses.later), (uses.within.0, uses.within.1, omega (arith, so_far.1.2, uses.within.2)))

pub used_in_all : {T : Type 0} (stop : Stop) (most : Said → ℕ) (over : ℕ) (before : Reading) (s : List ℕ) (at : Reading) (left : Option (List ℕ)) (after : Reading) (left' : Option (List ℕ)) (old mid new : ℕ) (so_far : UsesSoFar most before s at left old mid)
    → Uses {T = T} (Err stop) most 0 0 over at so_far.1.0 after left' mid new → AtMost old (use_left most before s + over) new
used_in_all stop most over before s at left after left' old mid new so_far uses =
    record { later = omega (arith, so_far.0, uses.later); most = omega (arith, so_far.1.2, uses.within) }

-- a whole script
pub used_by_script : (bound : List (List ℕ) → ℕ) (reading : Reading) (s : List ℕ) (old new : ℕ) → reading ≡ record { rest = []; room = most_bytes } → AtMost old (bound (lines_to_serve reading s)) new
    → AtMost old (bound (lines_within most_bytes s)) new
used_by_script bound reading s old new is uses = subst (λ (r : Reading). AtMost old (bound (lines_to_serve r s)) new) is uses

pub without_close : (old n new : ℕ) → AtMost old (n + 0) new → AtMost old n new
without_close old n new uses = record { later = uses.later; most = omega (arith, uses.most) }
