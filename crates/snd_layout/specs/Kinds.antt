-- What a kind of file is, beside its layout: whether it is given chunks and which identifiers these may have, which order of bytes
-- and which codec of 8 bits it has of its own, and which words and suffixes name it. The identifiers of a RIFF file are those of
-- Microsoft and IBM, "Multimedia Programming Interface and Data Specifications 1.0" (1991), and of EBU Tech 3306 (2009); those of
-- an 8SVX file are of Electronic Arts, "8SVX IFF 8-Bit Sampled Voice" (1985). Which are reserved is this library's own rule.
use Rattle.std.specs.Prelude.{ℕ, Bool, true, false, ◌||◌, List, [], ◌∷◌, Option, None, Some, codes, find, unwrap_or, if◌then◌else◌}
use Rattle.std.specs.Str.{bytes_eq}
use Rattle.snd_fields.specs.declared.field.Order.{Order}
use Rattle.snd_fields.specs.declared.field.Order.TheVariants.{Little, Big}
use Rattle.snd_layout.specs.Names.{kind_name}
use Rattle.snd_layout.specs.declared.codec.Codec.{Codec}
use Rattle.snd_layout.specs.declared.codec.Codec.TheVariants.{U8, S8}
use Rattle.snd_layout.specs.declared.kind.Kind.{Kind}
use Rattle.snd_layout.specs.declared.kind.Kind.TheVariants.{Wave, Rf64, W64, Au, Dns, Voc, Svx, Sphere}

-- ---- kinds and identifiers

-- the kinds whose files are given chunks
abbrev pub holds_pieces : Kind → Bool
holds_pieces Wave = true
holds_pieces Rf64 = true
holds_pieces Svx = true
holds_pieces kind = false

-- .. and those of them that have an INFO list, cue points and a broadcast extension
abbrev pub holds_meta : Kind → Bool
holds_meta Svx = false
holds_meta kind = holds_pieces kind

-- the chunks that a file has of its own
abbrev pub is_wave_own : List ℕ → Bool
is_wave_own id = bytes_eq id (codes "fmt ") || bytes_eq id (codes "fact") || bytes_eq id (codes "data") || bytes_eq id (codes "ds64")
    || bytes_eq id (codes "JUNK") || bytes_eq id (codes "junk") || bytes_eq id (codes "FLLR") || bytes_eq id (codes "PAD ")

abbrev pub is_svx_own : List ℕ → Bool
is_svx_own id = bytes_eq id (codes "VHDR") || bytes_eq id (codes "CHAN") || bytes_eq id (codes "BODY")
    || bytes_eq id (codes "JUNK") || bytes_eq id (codes "junk") || bytes_eq id (codes "FLLR") || bytes_eq id (codes "PAD ")

abbrev pub is_own_id : Kind → List ℕ → Bool
is_own_id Wave id = is_wave_own id
is_own_id Rf64 id = is_wave_own id
is_own_id Svx id = is_svx_own id
is_own_id kind id = false

-- the chunks that have a call of their own
abbrev pub is_meta_id : List ℕ → Bool
is_meta_id id = bytes_eq id (codes "LIST") || bytes_eq id (codes "bext") || bytes_eq id (codes "cue ")

-- the identifiers that are not given to a chunk: those, and that of the whole
abbrev pub is_reserved_in_wave : List ℕ → Bool
is_reserved_in_wave id = is_wave_own id || bytes_eq id (codes "LIST") || bytes_eq id (codes "bext") || bytes_eq id (codes "cue ") || bytes_eq id (codes "RIFF")

abbrev pub is_reserved : Kind → List ℕ → Bool
is_reserved Wave id = is_reserved_in_wave id
is_reserved Rf64 id = is_reserved_in_wave id
is_reserved Svx id = is_svx_own id || bytes_eq id (codes "FORM")
is_reserved kind id = false

-- the kind whose files of ADPCM count their frames in 32 bits
abbrev pub is_wave : Kind → Bool
is_wave Wave = true
is_wave kind = false

-- the order of the bytes in the sizes of chunks
abbrev pub order_of : Kind → Order
order_of Svx = Big
order_of kind = Little

-- ---- samples

-- an AU with the lowest byte first is a kind of its own
abbrev pub kind_in : Option Order → Kind → Kind
kind_in (Some Little) Au = Dns
kind_in order kind = kind

-- the order of the bytes of a sample in a kind, where none is asked for
abbrev pub own_order : Kind → Order
own_order Au = Big
own_order Svx = Big
own_order kind = Little

abbrev pub is_same_order : Order → Order → Bool
is_same_order Little Little = true
is_same_order Big Big = true
is_same_order one other = false

-- SPHERE holds either order, and each other kind its own alone, whatever the codec
abbrev pub holds_order : Kind → Option Order → Bool
holds_order Sphere order = true
holds_order kind order = is_same_order (unwrap_or order (own_order kind)) (own_order kind)

-- the codec of 8 bits that a kind holds: with a sign in AU and 8SVX
abbrev pub eight_bits : Kind → Codec
eight_bits Au = S8
eight_bits Dns = S8
eight_bits Svx = S8
eight_bits kind = U8

-- ---- words

abbrev pub kinds : List Kind
kinds = Wave ∷ Rf64 ∷ W64 ∷ Au ∷ Dns ∷ Voc ∷ Svx ∷ Sphere ∷ []

-- the kind that is printed so
abbrev pub kind_named : List ℕ → Option Kind
kind_named word = find (λ kind. bytes_eq word (kind_name kind)) kinds

-- the kind of which a suffix is one, in a table of suffixes
abbrev pub kind_in_table : List ℕ → List (List ℕ × Kind) → Option Kind
kind_in_table suffix [] = None
kind_in_table suffix (row ∷ rows) = if bytes_eq suffix row.0 then Some row.1 else kind_in_table suffix rows

unfoldable pub kind_of_suffix : List ℕ → Option Kind
kind_of_suffix suffix = kind_in_table suffix (
    (codes "wav", Wave) ∷ (codes "rf64", Rf64) ∷ (codes "w64", W64) ∷ (codes "au", Au) ∷ (codes "snd", Au) ∷ (codes "voc", Voc)
    ∷ (codes "svx", Svx) ∷ (codes "8svx", Svx) ∷ (codes "nist", Sphere) ∷ (codes "sph", Sphere) ∷ [])
