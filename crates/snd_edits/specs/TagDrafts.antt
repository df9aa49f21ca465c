-- The body that is put where a text, a field or cue points are set: the draft is what the file holds.
use Rattle.std.specs.Prelude.{ℕ, List, [], Option, None, Some, codes, nat_lt, if◌then◌else◌}
use Rattle.std.specs.Option.{unwrap_or}
use Rattle.snd_layout.specs.declared.piece.Piece.{Piece}
use Rattle.snd_meta.specs.Broadcast.{Broadcast, bext_body, bext_of, blank, with_bext_text}
use Rattle.snd_meta.specs.Info.{Entry, info_body, info_of, with_text}
use Rattle.snd_meta.specs.declared.bext.BextKey.{BextKey}
use Rattle.snd_meta.specs.declared.info.InfoKey.{InfoKey}
use Rattle.snd_edits.specs.Editing.{Editing}
use Rattle.snd_edits.specs.Pieces.{body_of, first_piece}

-- the body of the first chunk with an identifier, where there is one of at most 65536 bytes
abbrev pub body_in : List ℕ → Option Piece → Option (List ℕ)
body_in b None = None
body_in b (Some piece) = if nat_lt 65536 piece.len then None else Some (body_of b piece)

abbrev pub body_held : List ℕ → Editing → Option (List ℕ)
body_held id e = body_in e.bytes (first_piece id e.shape)

-- what it says; a blank where there is none, or none that reads
abbrev pub draft_of : {T : Type 0} → (List ℕ → Option T) → T → Option (List ℕ) → T
draft_of read blank None = blank
draft_of read blank (Some body) = unwrap_or (read body) blank

abbrev pub info_draft : Option (List ℕ) → List Entry
info_draft held = draft_of info_of [] held

abbrev pub bext_draft : Option (List ℕ) → Broadcast
bext_draft held = draft_of bext_of blank held

-- the body that is put, by the one that was held: the draft with a text, or with the time reference
abbrev pub info_anew : InfoKey → List ℕ → Option (List ℕ) → List ℕ
info_anew key text held = info_body (with_text key text (info_draft held))

abbrev pub bext_anew : BextKey → List ℕ → Option (List ℕ) → List ℕ
bext_anew key text held = bext_body (with_bext_text key text (bext_draft held))

abbrev pub timed_anew : ℕ → Option (List ℕ) → List ℕ
timed_anew time held = bext_body (record (bext_draft held) { time_reference = time })

-- .. that the file holds
abbrev pub info_with : InfoKey → List ℕ → Editing → List ℕ
info_with key text e = info_anew key text (body_held (codes "LIST") e)

abbrev pub bext_with : BextKey → List ℕ → Editing → List ℕ
bext_with key text e = bext_anew key text (body_held (codes "bext") e)

abbrev pub bext_timed : ℕ → Editing → List ℕ
bext_timed time e = timed_anew time (body_held (codes "bext") e)
