-- What holds of the layout that a list of bytes says.
use Rattle.std.proofs.Common.{◌≡◌, inl, ℕ, Bool, List, All}
use Rattle.snd_container.proofs.Public.{lies}
use Rattle.snd_container.specs.Laws.{FileSays}
use Rattle.snd_fields.specs.Laws.{IsByte}
use Rattle.snd_layout.specs.Container.{LiesIn}
use Rattle.snd_layout.specs.Shape.{KeepsRule, Shape}
use Rattle.snd_layout.specs.declared.kind.Kind.TheVariants.{Voc}

-- the rule of layouts says nothing of what stands behind the data
pub going_on_rule : (h : Shape) (t : Bool) → KeepsRule h → KeepsRule (record h { trailing = t })
going_on_rule h t rule = record {
  fits = rule.fits;
  inner_size = rule.inner_size;
  outer_size = rule.outer_size;
  side_size = rule.side_size;
  inner_end = rule.inner_end;
  outer_end = rule.outer_end;
  side_end = rule.side_end;
  sound_start = rule.sound_start;
  pieces_placed = rule.pieces_placed;
  data_end = rule.data_end;
  in_room = rule.in_room;
  declared_fits = rule.declared_fits;
  reserved = rule.reserved;
}

pub lies_in : (b : List ℕ) (h : Shape) → All IsByte b → FileSays b h → LiesIn b h
lies_in b h bytes says =
    let is = lies b (record h { trailing = says.goes_on }) bytes says.told in
    record {
      params = is.params;
      rule = going_on_rule (record h { trailing = says.goes_on }) h.trailing is.rule;
      within = is.within;
      held = is.held;
      room_ends = is.room_ends;
      declared = is.declared;
    }

-- a Creative Voice file says its layout whether or not it goes on behind its data
pub says_either : (b : List ℕ) (h : Shape) (t : Bool) → FileSays b h → h.kind ≡ Voc → FileSays b (record h { trailing = t })
says_either b h t says voc = record { goes_on = says.goes_on; told = says.told; same = inl voc }
