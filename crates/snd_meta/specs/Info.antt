-- The INFO list: texts under four-byte ids, in a `LIST` chunk. Microsoft and IBM, "Multimedia Programming
-- Interface and Data Specifications 1.0" (1991), "INFO List Chunk".
use Rattle.std.specs.Prelude.{◌≡◌, ℕ, zero, suc, ◌+◌, ◌≤◌, ◌%◌, ◌==◌, nat_lt, Bool, if◌then◌else◌, List, [], ◌∷◌, ◌++◌, length, take, drop, replicate, codes, Option, Some, None, option_map, find}
use Rattle.std.specs.List.{AllByRecursion, filter_map, flat_map}
use Rattle.std.specs.Option.{option_or}
use Rattle.std.specs.Str.{bytes_eq}
use Rattle.snd_fields.specs.Field.{number, bytes_of}
use Rattle.snd_fields.specs.declared.field.Order.TheVariants.{Little}
use Rattle.snd_meta.specs.declared.info.InfoKey.{InfoKey}
use Rattle.snd_meta.specs.declared.info.InfoKey.TheVariants.{Title, Copyright, Software, Artist, Comment, Date, Album, Genre, Track}
use Rattle.snd_meta.specs.Text.{text_of, IsTextWithin}

-- a text and its key
pub record Entry : Type 0 where
  pub key : InfoKey
  pub text : List ℕ

-- the keys, in the order in which texts are written and printed
abbrev pub table : List InfoKey
table = Title ∷ Copyright ∷ Software ∷ Artist ∷ Comment ∷ Date ∷ Album ∷ Genre ∷ Track ∷ []

-- the place of a key in the table
abbrev pub place_of : InfoKey → ℕ
place_of Title = 0
place_of Copyright = 1
place_of Software = 2
place_of Artist = 3
place_of Comment = 4
place_of Date = 5
place_of Album = 6
place_of Genre = 7
place_of Track = 8

abbrev pub same_key : InfoKey → InfoKey → Bool
same_key a b = place_of a == place_of b

-- the id under which a text stands in a file
abbrev pub id_of : InfoKey → List ℕ
id_of Title = codes "INAM"
id_of Copyright = codes "ICOP"
id_of Software = codes "ISFT"
id_of Artist = codes "IART"
id_of Comment = codes "ICMT"
id_of Date = codes "ICRD"
id_of Album = codes "IPRD"
id_of Genre = codes "IGNR"
id_of Track = codes "ITRK"

-- the key whose text stands under an id, if it is a known one
unfoldable pub key_of : List ℕ → Option InfoKey
key_of id = find (λ key. bytes_eq id (id_of key)) table

-- the texts that a function gives, in the order of the table
unfoldable pub listed : (InfoKey → Option (List ℕ)) → List Entry
listed text = filter_map (λ key. option_map (λ t. record { key = key; text = t }) (text key)) table

-- the text of a key in a list
abbrev pub text_under : InfoKey → List Entry → Option (List ℕ)
text_under key [] = None
text_under key (e ∷ es) = if same_key e.key key then Some e.text else text_under key es

-- what the list of a draft is: in the order of the table, with at most one text of a key, and each text of a
-- size that can be written
pub record IsInfo (es : List Entry) : Type 0 where
  pub in_order : listed (λ key. text_under key es) ≡ es
  pub texts : AllByRecursion (λ e. IsTextWithin 65536 e.text) es

-- a list with a text put under a key, in place of the one that was there
abbrev pub with_text : InfoKey → List ℕ → List Entry → List Entry
with_text key text es = listed (λ k. if same_key key k then Some text else text_under k es)

-- ---- reading

-- one text as it stands in a body
pub record Item : Type 0 where
  pub id : List ℕ
  pub text : List ℕ

-- the size of the text at the front: the u32 behind its id
unfoldable pub size_of : List ℕ → ℕ
size_of bytes = number Little bytes 4 4

-- the item at the front: its text ends at its first 0 or at its size
abbrev pub item_of : List ℕ → Item
item_of bytes = record { id = take 4 bytes; text = text_of (take (size_of bytes) (drop 8 bytes)) }

-- what follows the item at the front: a pad byte follows an odd size
abbrev pub after_item : List ℕ → List ℕ
after_item bytes = drop (8 + size_of bytes + size_of bytes % 2) bytes

-- The items, one behind the other, at most n of them. Fewer than eight bytes at the end are passed over; there
-- is nothing to read where a text runs past the end.
unfoldable pub items_up_to : ℕ → List ℕ → Option (List Item)
items_up_to zero bytes = Some []
items_up_to (suc n) bytes =
    if nat_lt (length bytes) 8 then Some []
    else if nat_lt (length bytes) (8 + size_of bytes) then None
    else option_map (λ items. item_of bytes ∷ items) (items_up_to n (after_item bytes))

-- all of them: there are no more items than bytes
unfoldable pub items_of : List ℕ → Option (List Item)
items_of bytes = items_up_to (length bytes) bytes

-- a whole item stands at the front, with this id and this text, and the rest follows it
pub record IsItemAt (bytes id text later : List ℕ) : Type 0 where
  pub whole : 8 + size_of bytes ≤ length bytes
  pub item : record { id = id; text = text } ≡ item_of bytes
  pub rest : later ≡ after_item bytes

-- the first text under an id
abbrev pub first_text : List ℕ → List Item → Option (List ℕ)
first_text id [] = None
first_text id (item ∷ items) = if bytes_eq item.id id then Some item.text else first_text id items

-- a list, and the items for keys that it has no text of; of a repeated id the first counts, and unknown ids
-- are passed over
abbrev pub completed : List Entry → List Item → List Entry
completed es items = listed (λ key. option_or (text_under key es) (first_text (id_of key) items))

-- a list, and the text of one item, where the list has none of its key
abbrev pub with_item : List ℕ → List ℕ → List Entry → List Entry
with_item id text es = completed es (record { id = id; text = text } ∷ [])

-- what a body holds: nothing where it does not begin with `INFO`, or a text runs past its end
unfoldable pub info_of : List ℕ → Option (List Entry)
info_of body =
    if bytes_eq (codes "INFO") (take 4 body) then option_map (completed []) (items_of (drop 4 body)) else None

-- ---- writing

-- an id, the size of the text with a 0 behind it, the text, that 0, and a pad byte after an odd size
abbrev pub item_bytes : Entry → List ℕ
item_bytes e =
    id_of e.key ++ bytes_of Little 4 (length e.text + 1) ++ e.text ++ replicate (1 + (length e.text + 1) % 2) 0

-- a text under its key as it stands in a body
abbrev pub text_bytes : InfoKey → List ℕ → List ℕ
text_bytes key text = item_bytes (record { key = key; text = text })

-- the body that holds these texts
unfoldable pub info_body : List Entry → List ℕ
info_body es = codes "INFO" ++ flat_map item_bytes es
