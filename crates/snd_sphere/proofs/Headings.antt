-- What a header says without its count hangs on a few parts of it.
use Rattle.std.proofs.Common.{◌≡◌, List, ℕ, refl, codes, drop, take}
use Rattle.snd_sphere.specs.Layout.{has_end, has_float, heading_of}
use Rattle.snd_sphere.specs.Lines.{named}

pub heading_same : (x h : List ℕ) → has_end x ≡ has_end h → has_float x ≡ has_float h → take 8 (drop 8 x) ≡ take 8 (drop 8 h)
    → named (codes "channel_count ") x ≡ named (codes "channel_count ") h → named (codes "sample_rate ") x ≡ named (codes "sample_rate ") h
    → named (codes "sample_n_bytes ") x ≡ named (codes "sample_n_bytes ") h → named (codes "sample_byte_format ") x ≡ named (codes "sample_byte_format ") h
    → named (codes "sample_coding ") x ≡ named (codes "sample_coding ") h → heading_of x ≡ heading_of h
unfolding heading_of
heading_same x h end float mark channels rate width order coding = rw (end, float, mark, channels, rate, width, order, coding) refl
