use Rattle.std.proofs.Common.{◌≡◌, ◌+◌, ◌-◌, ◌<◌, ◌≤◌, ◌∷◌, ◌++◌, List, ℕ, Some, length}
use Rattle.snd_script.specs.Lines.{IsUnderWay, to_take}
use Rattle.snd_script.proofs.reader.ScriptLines.next_line.Given as goal

abbrev pub invariant-loop-self : goal.invariant-loop-self
invariant-loop-self g l = record {
  told : (s : List ℕ) → g.R.Source.left l.fn.script ≡ Some s → (b c : List ℕ) × (g.R.Source.left l.script ≡ Some b) × IsUnderWay l.fn.self l.self l.line s b c;
  prompt : (before after : List ℕ) → l.fn.self.rest ≡ before ++ 10 ∷ after → length before < l.fn.self.room → (l.self ≡ l.fn.self) × (l.script ≡ l.fn.script);
  fewer : length l.line + l.self.room ≤ l.fn.self.room;
  given : g.R.Source.given l.script + to_take l.self ≤ g.R.Source.given l.fn.script + to_take l.fn.self;
  calm : g.R.Source.faults l.script ≡ g.R.Source.faults l.fn.script;
}

abbrev pub decreases-loop-self : goal.decreases-loop-self
decreases-loop-self g l = l.self.room + (1 - length l.self.rest)
