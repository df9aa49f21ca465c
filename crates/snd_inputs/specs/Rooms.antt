-- Whether the head of a file that is to be made has room for frames.
use Rattle.std.specs.Prelude.{ℕ, ◌^◌, Bool, ◌&&◌, ◌||◌, [], nat_le, nat_lt}
use Rattle.snd_layout.specs.Blocks.{is_adpcm}
use Rattle.snd_layout.specs.Kinds.{is_wave}
use Rattle.snd_layout.specs.Params.{Parameters, data_bytes}
use Rattle.snd_layout.specs.Shape.{room as room_of}
use Rattle.snd_layout.specs.declared.codec.Codec.{Codec}
use Rattle.snd_layout.specs.declared.kind.Kind.{Kind}
use Rattle.snd_edits.specs.Relaid.{shape_with}

-- a WAVE file counts the frames of ADPCM with 32 bits
abbrev pub is_past_count : Kind → Codec → ℕ → Bool
is_past_count kind codec frames = is_adpcm codec && is_wave kind && nat_le (2 ^ 32) frames

-- so many frames have more data bytes than there is room for, or are more than that counts
abbrev pub exceeds : Kind → Parameters → ℕ → ℕ → Bool
exceeds kind p room frames = nat_lt room (data_bytes p frames) || is_past_count kind p.codec frames

-- .. than the head of a new file has room for that has no further chunks
abbrev pub is_full : Kind → Parameters → ℕ → Bool
is_full kind p frames = exceeds kind p (room_of (shape_with kind p [])) frames
