-- How a draft of a broadcast extension holds its fields.
use Rattle.snd_meta.specs.declared.bext.Bext.TheInside.{Inside}
use Rattle.snd_meta.specs.Broadcast.{Broadcast}

abbrev pub broadcast_in : Inside → Broadcast
broadcast_in s = record {
  description = s.description.bytes.items;
  originator = s.originator.bytes.items;
  reference = s.reference.bytes.items;
  date = s.date.bytes.items;
  time = s.time.bytes.items;
  time_reference = s.time_reference;
  version = s.version;
  umid = s.umid;
  further = s.further;
  history = s.history.bytes.items;
}
