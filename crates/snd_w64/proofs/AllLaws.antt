-- Wave64 keeps the laws of containers.
use Rattle.std.proofs.Common.{refl}
use Rattle.snd_layout.specs.Container.{KeepsLaws}
use Rattle.snd_layout.specs.declared.kind.Kind.TheVariants.{W64}
use Rattle.snd_w64.specs.Container.{w64}
use Rattle.snd_w64.specs.Values.{closing, inner_value, outer_value, side_value}
use Rattle.snd_w64.proofs.FieldLaws.{closes_near, ends_in_order, fields_apart, fills_fields, fits_fields, keeps_marks, values_are_bytes}
use Rattle.snd_w64.proofs.Images.{new_count_reads_back, old_count_reads_back, outer_is_within, outer_reaches, outer_stops, pieces_stay, same_outside_data_reads_back, voice_declares, voice_reads_back}
use Rattle.snd_w64.proofs.Lies.{lies_in}
use Rattle.snd_w64.proofs.Made.{is_new}

pub keeps_laws : KeepsLaws W64 w64
unfolding inner_value outer_value side_value closing
keeps_laws = record {
  marks = keeps_marks;
  lies = lies_in;
  old = old_count_reads_back;
  new = new_count_reads_back;
  outside = same_outside_data_reads_back;
  voice = voice_reads_back;
  declares = voice_declares;
  reaches = outer_reaches;
  stops = outer_stops;
  within = outer_is_within;
  order = ends_in_order;
  closes = closes_near;
  apart = fields_apart;
  fill = fills_fields;
  fit = fits_fields;
  free = λ h frames declared trailing n. record { inner = refl; outer = refl; side = refl; closing = refl };
  bytes = values_are_bytes;
  pieces = pieces_stay;
  made = is_new;
}
