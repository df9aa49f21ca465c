-- An 8SVX file keeps the laws of all containers.
use Rattle.snd_layout.specs.Container.{KeepsLaws}
use Rattle.snd_layout.specs.declared.kind.Kind.TheVariants.{Svx}
use Rattle.snd_svx.proofs.FieldValues.{apart, bytes, closes, fill, fit, free, marks}
use Rattle.snd_svx.proofs.Images.{declares, new_count, no_voice, old_count, order, reaches, same_outside, stops, within}
use Rattle.snd_svx.proofs.Lies.{lies_in, pieces_stay}
use Rattle.snd_svx.proofs.NewFiles.{is_new}
use Rattle.snd_svx.specs.Container.{svx}

pub keeps_laws : KeepsLaws Svx svx
keeps_laws = record {
  marks = marks;
  lies = lies_in;
  old = old_count;
  new = new_count;
  outside = same_outside;
  voice = no_voice;
  declares = declares;
  reaches = reaches;
  stops = stops;
  within = within;
  order = order;
  closes = closes;
  apart = apart;
  fill = fill;
  fit = fit;
  free = free;
  bytes = bytes;
  pieces = pieces_stay;
  made = is_new;
}
