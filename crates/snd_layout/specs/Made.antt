-- What a file says of itself that is made.
use Rattle.std.specs.Prelude.{ℕ, false, [], Option, None}
use Rattle.snd_layout.specs.declared.field.Field.{Field}
use Rattle.snd_layout.specs.declared.kind.Kind.{Kind}
use Rattle.snd_layout.specs.Params.{Parameters}
use Rattle.snd_layout.specs.Shape.{Shape}

-- a file without frames and without pieces, whose data begin at a place, with the field that decides the count, the size of
-- the whole, and a count that is not read
abbrev pub made : Kind → Parameters → ℕ → Field → Option Field → Option Field → Shape
made kind params start inner outer side = record {
  kind = kind;
  params = params;
  start = start;
  frames = 0;
  declared = 0;
  inner = inner;
  outer = outer;
  side = side;
  trailing = false;
  unknown_length = false;
  reserve = None;
  pieces = [];
}
