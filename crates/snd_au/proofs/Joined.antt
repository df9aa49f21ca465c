-- Bytes that are put behind one another.
use Rattle.std.proofs.Common.{◌≡◌, refl, ℕ, List, [], ◌++◌}
use Rattle.snd_fields.specs.Field.{bytes_of}
use Rattle.snd_fields.specs.declared.field.Order.{Order}
use Rattle.snd_layout.specs.Params.{Parameters, data_bytes}
use Rattle.snd_layout.specs.Shape.{Shape}
use Rattle.snd_layout.specs.declared.kind.Kind.{Kind}
use Rattle.snd_au.specs.Values.{inner_value, order_of}
use Rattle.snd_au.specs.Written.{au_head, encoding_of, mark}

pub value_put : (h : Shape) (n : ℕ) (kind : Kind) (order : Order) (bytes : ℕ) (old new : List ℕ) → h.kind ≡ kind → order ≡ order_of kind → bytes ≡ data_bytes h.params n → old ≡ [] → new ≡ old ++ bytes_of order 4 bytes
    → new ≡ inner_value h n
unfolding inner_value
value_put h n kind order bytes old new is by counted none put = rw (put, none, by, counted, is) refl

pub head_put : (order : Order) (p : Parameters) (encoding rate channels : ℕ) (none m o s e r c : List ℕ) → none ≡ [] → m ≡ none ++ mark order → o ≡ m ++ bytes_of order 4 24 → s ≡ o ++ bytes_of order 4 0 → e ≡ s ++ bytes_of order 4 encoding
    → r ≡ e ++ bytes_of order 4 rate → c ≡ r ++ bytes_of order 4 channels → encoding ≡ encoding_of p.codec → rate ≡ p.rate → channels ≡ p.channels → c ≡ au_head order p
unfolding au_head
head_put order p encoding rate channels none m o s e r c zero one two three four five six codec at in_all =
    rw (six, five, four, three, two, one, zero, codec, at, in_all) refl
