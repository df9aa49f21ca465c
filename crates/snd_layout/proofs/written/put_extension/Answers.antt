use Rattle.std.proofs.Common.{◌≡◌, ℕ, List, ◌++◌, append_assoc}
use Rattle.snd_layout.proofs.written.put_extension.Goals as goal

-- four lists, one put behind the other
four : (old x y z w first second third new : List ℕ) → first ≡ old ++ x → second ≡ first ++ y → third ≡ second ++ z → new ≡ third ++ w → new ≡ old ++ (x ++ y ++ z ++ w)
four old x y z w first second third new one two three is = rw (is, three, two, one) (simp append_assoc)

pub returns-in-Ms : goal.returns-in-Ms
returns-in-Ms c =
    rw c.in-Ms.is (four _ _ _ _ _ _ _ _ _ c.put_u16-in-Ms.ensures.items c.put_u16-in-Ms-2.ensures.items c.put_u16-in-Ms-3.ensures.items c.put_numbers.ensures)
