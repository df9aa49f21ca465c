-- Bytes put into a field of a head.
use Rattle.std.specs.Prelude.{ℕ, List, Option, None, Some}
use Rattle.snd_disk.specs.Bytes.{over}
use Rattle.snd_layout.specs.declared.field.Field.{Field}

-- b with bytes in a field, where it is there
abbrev pub over_field : Option Field → List ℕ → List ℕ → List ℕ
over_field None b bytes = b
over_field (Some field) b bytes = over b field.at bytes
