-- How far samples of 16 bits are put as those of 24 or 32. It is said for the proofs alone.
use Rattle.std.specs.Prelude.{◌≡◌, ℕ, ◌*◌, List, ◌++◌, drop, map, take}
use Rattle.snd_fields.specs.declared.field.Order.TheVariants.{Little}
use Rattle.snd_pcm.specs.Pcm.{bit_count, byte_count, samples, samples_bytes}
use Rattle.snd_pcm.specs.Width.{changed}
use Rattle.snd_pcm.specs.declared.linear.Linear.{Linear}
use Rattle.snd_pcm.specs.declared.linear.Linear.TheVariants.{S16}

-- the first so many are, in a wider form, and with the rest they are all
abbrev pub ArePut : Linear → ℕ → List ℕ → List ℕ → Type 0
ArePut wide count bytes into =
    let wider = map (changed 16 (bit_count wide)) (samples (S16 Little) bytes) in
    take (byte_count wide * count) into ++ samples_bytes wide (drop count wider) ≡ samples_bytes wide wider
