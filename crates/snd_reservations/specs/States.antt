-- A reservation in the head of an open WAVE file, and the RF64 file that such a file becomes (EBU Tech 3306): the states to which
-- these calls lead. That a head gets a reservation of 28 bytes, as many as a chunk `ds64` without a table has, is this library's own
-- rule, and so is that it gets it before all further chunks.
use Rattle.std.specs.Prelude.{◌≡◌, ◌==◌, Bool, true, false, not, ◌&&◌, [], Some, is_none, is_some, length}
use Rattle.snd_container.specs.Put.{heads_for}
use Rattle.snd_layout.specs.Blocks.{is_adpcm}
use Rattle.snd_layout.specs.Shape.{Shape}
use Rattle.snd_layout.specs.declared.kind.Kind.{Kind}
use Rattle.snd_layout.specs.declared.kind.Kind.TheVariants.{Wave}
use Rattle.snd_patch.specs.Sealed.{sealed}
use Rattle.snd_ds64.specs.Promoted.{promoted, promoted_shape}
use Rattle.snd_edits.specs.Editing.{Editing}
use Rattle.snd_edits.specs.Known.{Known}

-- ---- a reservation that is laid

abbrev pub is_wave : Kind → Bool
is_wave Wave = true
is_wave kind = false

-- a head has a place for it: that of a WAVE file whose samples have a fixed size, without further chunks and such a chunk
abbrev pub has_place : Shape → Bool
has_place h = is_wave h.kind && not (is_adpcm h.params.codec) && (length h.pieces == 0) && is_none h.reserve

-- the head anew, with 28 bytes that are reserved, and what it says of itself
abbrev pub reserved_shape : Shape → Shape
reserved_shape h = (heads_for (Some 28) Wave).shape h.params []

abbrev pub reserved_to : Editing → Editing
reserved_to e = record e { bytes = (heads_for (Some 28) Wave).head e.shape.params []; shape = reserved_shape e.shape }

abbrev pub known_reserved : Known → Known
known_reserved k = record k { shape = reserved_shape k.shape }

-- ---- a file that is promoted

-- it has a reservation, and does not go on behind its data
pub record MayTurn (h : Shape) : Type 0 where
  pub reserved : is_some h.reserve ≡ true
  pub free : h.trailing ≡ false

-- The file sealed, and then promoted. The frames and the places stay, and so does whether updates are automatic.
abbrev pub promoted_to : Editing → Editing
promoted_to e = record e {
  bytes = promoted (sealed e.bytes e.shape e.shape.frames) e.shape e.shape.frames;
  shape = promoted_shape e.shape e.shape.frames;
}

abbrev pub known_promoted : Known → Known
known_promoted k = record k { shape = promoted_shape k.shape k.shape.frames }
