-- Multiples of 8.
use Rattle.std.proofs.Common.{◌≡◌, ℕ, ◌+◌, ◌*◌, ◌≤◌, arith}
use Rattle.snd_w64.specs.Layout.{raised}

pub raised-least : (n : ℕ) → n ≤ raised n
raised-least n = omega arith

pub raised-most : (n : ℕ) → raised n ≤ n + 7
raised-most n = omega arith

pub raised-grows : (n m : ℕ) → n ≤ m → raised n ≤ raised m
raised-grows n m le = omega arith

pub raised-whole : (n : ℕ) → raised (8 * n) ≡ 8 * n
raised-whole n = omega arith
