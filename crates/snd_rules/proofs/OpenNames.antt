-- The name that a line opens or makes is a good one.
use Rattle.std.proofs.Common.{◌≡◌, inl, inr, ℕ, List, [], ◌∷◌, Bool, true, false, ◌&&◌, Option, None, Some, option_map, Result, Ok, Err, length, get_or, nat_le, nat_lt, codes, refl, subst, cond, arith}
use Rattle.std.specs.Option.{option_and_then}
use Rattle.std.specs.List.{list_all}
use Rattle.std.specs.Str.{IsUtf8, IsAscii, bytes_eq}
use Rattle.std.proofs.lemmas.Str.{IsUtf8-from_ascii}
use Rattle.std.proofs.lemmas.List.{get_or_past}
use Rattle.std.proofs.lemmas.List.Sums.{AllPass-from_list_all}
use Rattle.std.proofs.lemmas.Bool.{cases_lt, leb-true}
use Rattle.snd_command.specs.declared.tables.CodecWord.{CodecWord}
use Rattle.snd_layout.specs.declared.kind.Kind.{Kind}
use Rattle.snd_command.specs.declared.refusal.ScriptRefusal.{ScriptRefusal}
use Rattle.snd_fields.specs.Decimal.{decimal}
use Rattle.snd_command.specs.Words.{behind_word, trimmed, words}
use Rattle.snd_command.specs.declared.refusal.ScriptRefusal.TheVariants.{LineTooLong}
use Rattle.snd_command.specs.Forms.{hex, ident, is_name, is_printed, is_text}
use Rattle.snd_command.specs.Frames.{auto_said, read_said, seek_said, seek_to, tap_said, truncate_said, untap_said}
use Rattle.snd_command.specs.Line.{command_of, command_or_bad, line_of_words, said}
use Rattle.snd_command.specs.Numbers.{set_cue_said, write_said}
use Rattle.snd_command.specs.Open.{bare_said, create_said, created, get_said, open_said}
use Rattle.snd_command.specs.Said.{Said}
use Rattle.snd_rules.specs.Work.{name_of}
use Rattle.snd_command.specs.Tables.{bext_of, info_of}
use Rattle.snd_command.specs.Set.{is_bext_text, set_said, set_chunk_said, set_string_said, set_bext_said, text_behind}

abbrev IsGoodName : Option (List ℕ) → Type 0
IsGoodName None = Unit {0}
IsGoodName (Some name) = is_name name ≡ true

abbrev IsFine : Option Said → Type 0
IsFine None = Unit {0}
IsFine (Some said) = IsGoodName (name_of said)

pub record Fine (said : Option Said) : Type 0 where
  pub fine : IsFine said

fine_where : (b : Bool) (x y : Option Said) → (b ≡ true → Fine x) → Fine y → Fine (cond b x y)
fine_where true x y first other = first refl
fine_where false x y first other = other

fine_if : (b : Bool) (x y : Option Said) → Fine x → Fine y → Fine (cond b x y)
fine_if b x y first other = fine_where b x y (λ is. first) other

fine_map : {X : Type 0} (f : X → Said) → ((x : X) → Fine (Some (f x))) → (o : Option X) → Fine (option_map f o)
fine_map f each None = record { fine = tt }
fine_map f each (Some x) = each x

fine_then : {X : Type 0} (f : X → Option Said) → ((x : X) → Fine (f x)) → (o : Option X) → Fine (option_and_then f o)
fine_then f each None = record { fine = tt }
fine_then f each (Some x) = each x

fine_open : (args : List (List ℕ)) → Fine (open_said args)
fine_open (mode ∷ name ∷ []) = fine_where (is_name name) _ None (λ is. fine_if _ (Some (Said.open_read name)) _ (record { fine = is }) (fine_if _ (Some (Said.open_update name)) None (record { fine = is }) (record { fine = tt }))) (record { fine = tt })
fine_open args = record { fine = tt }

fine_created : (kind : Option Kind) (codec : Option CodecWord) (channels rate : Option ℕ) (name : List ℕ) → Fine (created kind codec channels rate name)
fine_created (Some kind) (Some codec) (Some channels) (Some rate) name = fine_where (is_name name) (Some (Said.create kind codec channels rate name)) None (λ is. record { fine = is }) (record { fine = tt })
fine_created kind codec channels rate name = record { fine = tt }

fine_create : (args : List (List ℕ)) → Fine (create_said args)
fine_create (kind ∷ codec ∷ channels ∷ rate ∷ name ∷ []) = fine_created _ _ _ _ name
fine_create args = record { fine = tt }

fine_seek : (args : List (List ℕ)) → Fine (seek_said args)
fine_seek (which ∷ to ∷ []) = fine_then (seek_to which) (λ n. fine_if (bytes_eq which (codes "r")) (Some (Said.seek_read n)) _ (record { fine = tt }) (fine_if (bytes_eq which (codes "w")) (Some (Said.seek_write n)) _ (record { fine = tt }) (fine_if (bytes_eq which (codes "rw")) (Some (Said.seek_both n)) None (record { fine = tt }) (record { fine = tt })))) (decimal to)
fine_seek args = record { fine = tt }

fine_read : (args : List (List ℕ)) → Fine (read_said args)
fine_read (count ∷ []) = fine_map Said.read (λ n. record { fine = tt }) _
fine_read args = record { fine = tt }

fine_write : (args : List (List ℕ)) → Fine (write_said args)
fine_write args = fine_if _ _ None (fine_map Said.write (λ xs. (record { fine = tt })) _) (record { fine = tt })

fine_truncate : (args : List (List ℕ)) → Fine (truncate_said args)
fine_truncate (to ∷ []) = fine_map Said.truncate (λ n. record { fine = tt }) _
fine_truncate args = record { fine = tt }

fine_auto : (args : List (List ℕ)) → Fine (auto_said args)
fine_auto (word ∷ []) = fine_map Said.auto (λ b. (record { fine = tt })) _
fine_auto args = record { fine = tt }

fine_tap : (args : List (List ℕ)) → Fine (tap_said args)
fine_tap (kind ∷ []) = fine_map Said.tap (λ k. (record { fine = tt })) _
fine_tap args = record { fine = tt }

fine_untap : (args : List (List ℕ)) → Fine (untap_said args)
fine_untap (kind ∷ []) = fine_map Said.untap (λ k. (record { fine = tt })) _
fine_untap args = record { fine = tt }

fine_set_chunk : (args : List (List ℕ)) → Fine (set_chunk_said args)
fine_set_chunk (id ∷ digits ∷ []) = fine_then _ (λ i. fine_map (Said.set_chunk i) (λ x. record { fine = tt }) (hex digits)) (ident id)
fine_set_chunk args = record { fine = tt }

fine_set_string : (args : List (List ℕ)) (text : List ℕ) → Fine (set_string_said args text)
fine_set_string [] text = record { fine = tt }
fine_set_string (key ∷ args) text = fine_then _ (λ k. fine_if (is_text text) (Some (Said.set_string k text)) None (record { fine = tt }) (record { fine = tt })) (info_of key)

fine_set_bext : (args : List (List ℕ)) (text : List ℕ) → Fine (set_bext_said args text)
fine_set_bext [] text = record { fine = tt }
fine_set_bext (key ∷ args) text = fine_then _ (λ k. fine_if (is_bext_text k text) (Some (Said.set_bext k text)) None (record { fine = tt }) (record { fine = tt })) (bext_of key)

fine_set_cue : (args : List (List ℕ)) → Fine (set_cue_said args)
fine_set_cue args = fine_if _ _ None (fine_map Said.set_cue (λ xs. (record { fine = tt })) _) (record { fine = tt })

fine_set : (args : List (List ℕ)) (text : List ℕ) → Fine (set_said args text)
fine_set [] text = record { fine = tt }
fine_set (what ∷ args) text = fine_if _ _ _ (fine_set_chunk args) (fine_if _ _ _ (fine_set_string args text) (fine_if _ _ _ (fine_set_bext args text) (fine_if _ _ None (fine_set_cue args) (record { fine = tt }))))

fine_get : (args : List (List ℕ)) → Fine (get_said args)
fine_get (what ∷ []) = fine_if _ (Some Said.get_chunks) _ (record { fine = tt }) (fine_if _ (Some Said.get_strings) _ (record { fine = tt }) (fine_if _ (Some Said.get_bext) _ (record { fine = tt }) (fine_if _ (Some Said.get_cues) None (record { fine = tt }) (record { fine = tt }))))
fine_get (what ∷ id ∷ []) = fine_if _ _ None (fine_map Said.get_chunk (λ x. record { fine = tt }) _) (record { fine = tt })
fine_get args = record { fine = tt }

fine_bare : (verb : List ℕ) (args : List (List ℕ)) → Fine (bare_said verb args)
fine_bare verb [] = fine_if _ (Some Said.info) _ (record { fine = tt }) (fine_if _ (Some Said.close) _ (record { fine = tt }) (fine_if _ (Some Said.trim) _ (record { fine = tt }) (fine_if _ (Some Said.update) _ (record { fine = tt })
    (fine_if _ (Some Said.reserve) _ (record { fine = tt }) (fine_if _ (Some Said.promote) None (record { fine = tt }) (record { fine = tt }))))))
fine_bare verb (arg ∷ args) = record { fine = tt }

fine_said : (verb : List ℕ) (args : List (List ℕ)) (text : List ℕ) → Fine (said verb args text)
fine_said verb args text =
    fine_if _ _ _ (fine_open args) (fine_if _ _ _ (fine_create args) (fine_if _ _ _ (fine_seek args) (fine_if _ _ _ (fine_read args) (fine_if _ _ _ (fine_write args)
    (fine_if _ _ _ (fine_truncate args) (fine_if _ _ _ (fine_auto args) (fine_if _ _ _ (fine_set args text) (fine_if _ _ _ (fine_get args) (fine_if _ _ _ (fine_tap args) (fine_if _ _ _ (fine_untap args) (fine_bare verb args)))))))))))

-- a line's answer
abbrev IsFineAnswer : Result (Option Said) ScriptRefusal → Type 0
IsFineAnswer (Ok said) = IsFine said
IsFineAnswer (Err refusal) = Unit {0}

pub record FineAnswer (r : Result (Option Said) ScriptRefusal) : Type 0 where
  pub fine : IsFineAnswer r

fine_answer : (o : Option Said) → Fine o → FineAnswer (command_or_bad o)
fine_answer None is = record { fine = tt }
fine_answer (Some said) is = record { fine = is.fine }

fine_either : (b : Bool) (x y : Result (Option Said) ScriptRefusal) → FineAnswer x → FineAnswer y → FineAnswer (cond b x y)
fine_either true x y first other = first
fine_either false x y first other = other

fine_words : (words : List (List ℕ)) (text : List ℕ) → FineAnswer (line_of_words words text)
fine_words [] text = record { fine = tt }
fine_words (verb ∷ args) text = fine_either _ (Ok None) _ (record { fine = tt }) (fine_answer (said verb args text) (fine_said verb args text))

fine_line : (line : List ℕ) → FineAnswer (command_of line)
fine_line line = fine_either (nat_lt 4096 (length line)) (Err LineTooLong) _ (record { fine = tt }) (fine_words (words (trimmed line)) (text_behind (behind_word (trimmed line))))

good_name : (o : Option (List ℕ)) (name : List ℕ) → IsGoodName o → o ≡ Some name → is_name name ≡ true
good_name o name good is = subst (λ (x : Option (List ℕ)). IsGoodName x) is good

pub name_is_good : (line name : List ℕ) (said : Said) → command_of line ≡ Ok (Some said) → name_of said ≡ Some name → is_name name ≡ true
name_is_good line name said is named = good_name (name_of said) name (subst (λ (r : Result (Option Said) ScriptRefusal). IsFineAnswer r) is (fine_line line).fine) named

-- a name is text
and_right : (a b : Bool) → (a && b) ≡ true → b ≡ true
and_right true b is = is
and_right false b is = cc

pub name_is_text : (name : List ℕ) → is_name name ≡ true → IsUtf8 name
name_is_text name is = IsUtf8-from_ascii name ascii
  where
    all : list_all is_printed name ≡ true
    all = and_right (nat_le 1 (length name) && nat_le (length name) 255) (list_all is_printed name) is

    ascii : IsAscii name
    ascii i = elim (cases_lt i (length name)) [
      | inl lt ↦
          let printed : is_printed (get_or name i 0) ≡ true = AllPass-from_list_all is_printed name all i 0 lt in
          omega (arith, leb-true (get_or name i 0) 126 (and_right (nat_le 33 (get_or name i 0)) (nat_le (get_or name i 0) 126) printed))
      | inr past ↦ omega (arith, get_or_past name i 0 past)
    ]
