-- Where data begin behind chunks of so many bytes: there is no filler.
use Rattle.std.proofs.Common.{◌≡◌, ℕ, ◌+◌, [], length, refl, ap, arith}
use Rattle.snd_chunks.specs.Written.{chunks_bytes}
use Rattle.snd_fields.specs.declared.field.Order.TheVariants.{Little}
use Rattle.snd_layout.specs.declared.codec.Codec.{Codec}
use Rattle.snd_rf64.proofs.Made.{first_fits, size_is}
use Rattle.snd_rf64.proofs.NewFiles.{plain_size}
use Rattle.snd_rf64.specs.Start.{BeginsWith}
use Rattle.snd_rf64.specs.Written.{plain_start}

no_bytes : length (chunks_bytes Little []) ≡ 0
unfolding chunks_bytes
no_bytes = refl

pub begins_rf64 : (codec : Codec) (bytes start n : ℕ) → n ≡ start + bytes → start ≡ plain_start codec → BeginsWith codec bytes n
begins_rf64 codec bytes start n is at p pieces fits same takes =
    omega (arith, is, at, takes, ap plain_start same, plain_size p fits, size_is p pieces, first_fits p pieces, size_is p [], first_fits p [], no_bytes)
