-- What is written of an INFO list is read again.
use Rattle.std.proofs.Common.{ℕ, ◌≡◌, ◌<◌, ◌≤◌, ◌+◌, ◌%◌, ◌^◌, one-add, cond, List, [], ◌∷◌, ◌++◌, length, take, drop, replicate, map, Some, None, Result, Ok, Err, IfOk, option_map, refl, sym, ap, ◌∙◌, arith, length-append}
use Rattle.std.specs.List.{AllByRecursion, flat_map}
use Rattle.std.specs.Option.{option_or}
use Rattle.std.proofs.lemmas.List.{append_assoc, drop_at, take_at, length-replicate}
use Rattle.snd_fields.specs.Field.{bytes_of, number}
use Rattle.snd_fields.specs.declared.field.Order.TheVariants.{Little}
use Rattle.byteorder.specs.Numbers.{length-bytes_low_first}
use Rattle.snd_meta.specs.declared.info.InfoKey.{InfoKey}
use Rattle.snd_meta.specs.declared.info.InfoKey.TheVariants.{Title, Copyright, Software, Artist, Comment, Date, Album, Genre, Track}
use Rattle.snd_meta.specs.declared.error.MetaError.{MetaError}
use Rattle.snd_meta.specs.Text.{text_of, IsTextWithin}
use Rattle.snd_meta.specs.Info.{Entry, Item, IsInfo, id_of, same_key, size_of, item_of, after_item, items_of, item_bytes, text_under, first_text, completed, info_of, info_body}
use Rattle.snd_meta.proofs.Texts.{text_of-stops}
use Rattle.snd_meta.proofs.Numbers.{little_at}
use Rattle.snd_meta.proofs.Items.{items_of-short, items_of-more}
use Rattle.snd_meta.proofs.Keys.{listed-same}
use Rattle.snd_meta.proofs.Completing.{ids_apart}

length-id_of : (key : InfoKey) → length (id_of key) ≡ 4
length-id_of Title = refl
length-id_of Copyright = refl
length-id_of Software = refl
length-id_of Artist = refl
length-id_of Comment = refl
length-id_of Date = refl
length-id_of Album = refl
length-id_of Genre = refl
length-id_of Track = refl

-- an entry as it is read
unfoldable as_item : Entry → Item
as_item e = record { id = id_of e.key; text = e.text }

-- ---- one item

module _ (id size text more rest bytes : List ℕ) (n : ℕ) (whole : bytes ≡ id ++ size ++ text ++ (0 ∷ more) ++ rest)
    (four : length id ≡ 4) (is_size : size ≡ bytes_of Little 4 n) (is_n : n ≡ length text + 1) (small : n < 256 ^ 4) (pad : length more ≡ n % 2) where
  size_read : size_of bytes ≡ n
  unfolding size_of
  size_read =
      ap (λ b. number Little b 4 4) (whole ∙ append_assoc (id ++ size ++ text) (0 ∷ more) rest ∙ append_assoc (id ++ size) text ((0 ∷ more) ++ rest)
      ∙ append_assoc id size (text ++ ((0 ∷ more) ++ rest)) ∙ ap (λ s. id ++ (s ++ (text ++ ((0 ∷ more) ++ rest)))) is_size)
      ∙ little_at id (text ++ ((0 ∷ more) ++ rest)) 4 4 n four small

  head_length : length (id ++ size) ≡ 8
  head_length = omega (arith, length-append id size, ap length is_size, length-bytes_low_first 0 4 n)

  id_read : take 4 bytes ≡ id
  id_read =
      ap (take 4) (whole ∙ append_assoc (id ++ size ++ text) (0 ∷ more) rest ∙ append_assoc (id ++ size) text ((0 ∷ more) ++ rest)
      ∙ append_assoc id size (text ++ ((0 ∷ more) ++ rest)))
      ∙ take_at id (size ++ (text ++ ((0 ∷ more) ++ rest))) 4 four

  text_read : take n (drop 8 bytes) ≡ text ++ 0 ∷ []
  text_read =
      ap (λ b. take n (drop 8 b)) (whole ∙ append_assoc (id ++ size ++ text) (0 ∷ more) rest ∙ append_assoc (id ++ size) text ((0 ∷ more) ++ rest))
      ∙ ap (take n) (drop_at (id ++ size) (text ++ ((0 ∷ more) ++ rest)) 8 head_length ∙ sym (append_assoc text (0 ∷ []) (more ++ rest)))
      ∙ take_at (text ++ 0 ∷ []) (more ++ rest) n (omega (arith, length-append text (0 ∷ [])))

  rest_read : drop (8 + n + n % 2) bytes ≡ rest
  rest_read =
      ap (drop (8 + n + n % 2)) whole
      ∙ drop_at (id ++ size ++ text ++ (0 ∷ more)) rest (8 + n + n % 2)
      (omega (arith, length-append (id ++ size ++ text) (0 ∷ more), length-append (id ++ size) text, head_length))

  long : 8 + n ≤ length bytes
  long = omega (arith, ap length whole, length-append (id ++ size ++ text ++ (0 ∷ more)) rest, length-append (id ++ size ++ text) (0 ∷ more), length-append (id ++ size) text, head_length)

  read_item : text_of text ≡ text → items_of bytes ≡ option_map (λ items. record { id = id; text = text } ∷ items) (items_of rest)
  read_item no_zero =
      let found : item_of bytes ≡ record { id = id; text = text } =
      ap (λ i. record { id = i; text = text_of (take (size_of bytes) (drop 8 bytes)) }) id_read
      ∙ ap (λ k. record { id = id; text = text_of (take k (drop 8 bytes)) }) size_read
      ∙ ap (λ t. record { id = id; text = t }) (ap text_of text_read ∙ text_of-stops text [] ∙ no_zero) in
      let behind : after_item bytes ≡ rest = ap (λ k. drop (8 + k + k % 2) bytes) size_read ∙ rest_read in
      items_of-more bytes (omega (arith, long)) (omega (arith, long, size_read))
      ∙ ap (λ item. option_map (λ items. item ∷ items) (items_of (after_item bytes))) found
      ∙ ap (λ b. option_map (λ items. record { id = id; text = text } ∷ items) (items_of b)) behind

zeros : (n : ℕ) → replicate {A = ℕ} (1 + n) 0 ≡ 0 ∷ replicate n 0
zeros n = rw one-add refl

-- an entry's bytes are one item
read_entry : (e : Entry) (rest : List ℕ) → IsTextWithin 65536 e.text → items_of (item_bytes e ++ rest) ≡ option_map (λ items. as_item e ∷ items) (items_of rest)
unfolding as_item
read_entry e rest good =
    read_item (id_of e.key) (bytes_of Little 4 (length e.text + 1)) e.text (replicate ((length e.text + 1) % 2) 0) rest (item_bytes e ++ rest) (length e.text + 1)
    (ap (λ z. id_of e.key ++ bytes_of Little 4 (length e.text + 1) ++ e.text ++ z ++ rest) (zeros ((length e.text + 1) % 2)))
    (length-id_of e.key) refl refl (omega (arith, good.short)) (length-replicate ((length e.text + 1) % 2) 0) good.no_zero

-- the items of a list
read_entries : (es : List Entry) → AllByRecursion (λ e. IsTextWithin 65536 e.text) es → items_of (flat_map item_bytes es) ≡ Some (map as_item es)
read_entries [] good = items_of-short [] (omega arith)
read_entries (e ∷ es) good = read_entry e (flat_map item_bytes es) good.0 ∙ ap (option_map (λ items. as_item e ∷ items)) (read_entries es good.1)

-- ---- the whole list

first_text-entries : (key : InfoKey) (es : List Entry) → first_text (id_of key) (map as_item es) ≡ text_under key es
unfolding as_item
first_text-entries key [] = refl
first_text-entries key (e ∷ es) =
    ap (λ here. cond here (Some e.text) (first_text (id_of key) (map as_item es))) (ids_apart e.key key)
    ∙ ap (cond (same_key e.key key) (Some e.text)) (first_text-entries key es)

-- what is written is read again
pub info_again : (es : List Entry) → IsInfo es → info_of (info_body es) ≡ Some es
unfolding info_of info_body
info_again es good =
    ap (option_map (completed [])) (read_entries es good.texts)
    ∙ ap Some (listed-same (λ key. option_or None (first_text (id_of key) (map as_item es))) (λ key. text_under key es) (λ key. first_text-entries key es) ∙ good.in_order)

-- a list that was read of a body is written with the texts of the body
pub info_kept : (r : Result (List Entry) MetaError) (body : List ℕ) → IfOk r (λ list. info_of body ≡ Some list) → IfOk r (λ list. IsInfo list)
    → IfOk r (λ list. info_of (info_body list) ≡ info_of body)
info_kept (Ok list) body read good = info_again list good ∙ sym read
info_kept (Err e) body read good = tt
