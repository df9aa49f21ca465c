-- What the settings of `metadata-set` make of a broadcast extension and of an INFO list. They are put one after the other, in the
-- order of the words.
use Rattle.std.specs.Prelude.{Bool, true, false, List, [], ◌∷◌, length, nat_lt}
use Rattle.std.specs.List.{list_any}
use Rattle.snd_meta.specs.Broadcast.{Broadcast, field_size, with_bext_text}
use Rattle.snd_meta.specs.Info.{Entry, with_text}
use Rattle.snd_words.specs.Stated.{Stated}

-- the chunk that a setting changes: the INFO list, or the broadcast extension
abbrev pub sets_text : Stated → Bool
sets_text (Stated.info_text key text) = true
sets_text setting = false

abbrev pub sets_field : Stated → Bool
sets_field (Stated.info_text key text) = false
sets_field setting = true

-- a text of the INFO list has more than 1024 bytes, or one of the broadcast extension more than its field, or a history than 1024
abbrev pub is_too_long : Stated → Bool
is_too_long (Stated.info_text key text) = nat_lt 1024 (length text)
is_too_long (Stated.bext_field key text) = nat_lt (field_size key) (length text)
is_too_long (Stated.bext_time time) = false

-- what all of them change
abbrev pub set_texts : List Stated → Bool
set_texts settings = list_any sets_text settings

abbrev pub set_fields : List Stated → Bool
set_fields settings = list_any sets_field settings

abbrev pub are_too_long : List Stated → Bool
are_too_long settings = list_any is_too_long settings

-- ---- what is made

-- an INFO list with what one setting puts into it, and with all of them
abbrev pub with_entry : Stated → List Entry → List Entry
with_entry (Stated.info_text key text) es = with_text key text es
with_entry setting es = es

abbrev pub with_entries : List Stated → List Entry → List Entry
with_entries [] es = es
with_entries (setting ∷ settings) es = with_entries settings (with_entry setting es)

-- a broadcast extension in the same way
abbrev pub with_field : Stated → Broadcast → Broadcast
with_field (Stated.info_text key text) b = b
with_field (Stated.bext_field key text) b = with_bext_text key text b
with_field (Stated.bext_time time) b = record b { time_reference = time }

abbrev pub with_fields : List Stated → Broadcast → Broadcast
with_fields [] b = b
with_fields (setting ∷ settings) b = with_fields settings (with_field setting b)
