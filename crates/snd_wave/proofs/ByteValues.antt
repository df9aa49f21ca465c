-- The values of fields are bytes.
use Rattle.std.proofs.Common.{refl, ℕ, ◌%◌, List, ◌++◌, All, Option, None, Some, arith}
use Rattle.std.proofs.lemmas.Bool.{cond_both}
use Rattle.std.proofs.lemmas.List.Elements.{All-append, All-nil, All-replicate}
use Rattle.std.specs.Prelude.{◌==◌, codes}
use Rattle.snd_chunks.proofs.Public.{number_bytes}
use Rattle.snd_fields.proofs.Tested.{from_test}
use Rattle.snd_fields.specs.Field.{bytes_of}
use Rattle.snd_fields.specs.Laws.{IsByte}
use Rattle.snd_fields.specs.declared.field.Order.TheVariants.{Little}
use Rattle.snd_layout.specs.Container.{AreBytes}
use Rattle.snd_layout.specs.Params.{data_bytes}
use Rattle.snd_layout.specs.Shape.{Shape}
use Rattle.snd_layout.specs.declared.field.Field.{Field}
use Rattle.snd_wave.specs.Container.{wave}
use Rattle.snd_wave.specs.Values.{closing, count_bytes, inner_value, outer_value, riff_size, side_value}

inner_bytes : (h : Shape) (n : ℕ) → All IsByte (inner_value h n)
unfolding inner_value
inner_bytes h n =
    let size = bytes_of Little 4 (data_bytes h.params n) in
    cond_both (h.inner.size == 12) (bytes_of Little 4 n ++ codes "data" ++ size) size (λ l. All IsByte l)
    (λ is. All-append IsByte (bytes_of Little 4 n ++ codes "data") size (All-append IsByte (bytes_of Little 4 n) (codes "data") (number_bytes Little 4 n) (from_test (codes "data") refl)) (number_bytes Little 4 (data_bytes h.params n)))
    (λ other. number_bytes Little 4 (data_bytes h.params n))

outer_bytes : (h : Shape) (n : ℕ) → All IsByte (outer_value h n)
unfolding outer_value
outer_bytes h n = number_bytes Little 4 (riff_size h.start (data_bytes h.params n))

some_bytes : (side : Option Field) (n : ℕ) → All IsByte (count_bytes side n)
some_bytes None n = All-nil IsByte
some_bytes (Some field) n = number_bytes Little 4 n

side_bytes : (h : Shape) (n : ℕ) → All IsByte (side_value h n)
unfolding side_value
side_bytes h n = some_bytes h.side n

closing_bytes : (h : Shape) (n : ℕ) → All IsByte (closing h n)
unfolding closing
closing_bytes h n = All-replicate IsByte (data_bytes h.params n % 2) 0 (omega arith)

pub values_are_bytes : (h : Shape) (n : ℕ) → AreBytes wave h n
values_are_bytes h n = record { inner = inner_bytes h n; outer = outer_bytes h n; side = side_bytes h n; closing = closing_bytes h n }
