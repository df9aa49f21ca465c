-- The command `convert`, by the words behind it.
use Rattle.std.specs.Prelude.{ℕ, List, [], ◌∷◌, ◌++◌, Option, None, Some, option_map, take, drop, codes, unwrap_or}
use Rattle.std.specs.List.{filter_map}
use Rattle.std.specs.Option.{option_and_then, option_or, option_to_list}
use Rattle.snd_fields.specs.Decimal.{decimal}
use Rattle.snd_fields.specs.declared.field.Order.{Order}
use Rattle.snd_fields.specs.declared.field.Order.TheVariants.{Little, Big}
use Rattle.snd_rack.specs.Spec.{rack_of}
use Rattle.snd_rack.specs.Stage.{Stated as StageSetting}
use Rattle.snd_words.specs.declared.convert.CodecChoice.{CodecChoice}
use Rattle.snd_words.specs.declared.convert.CodecChoice.TheVariants.{S8, U8, Pcm16, Pcm24, Pcm32, MuLaw, ALaw, Ima, Ms}
use Rattle.snd_words.specs.declared.convert.Setting.{Setting}
use Rattle.snd_words.specs.declared.convert.Setting.TheVariants as sets
use Rattle.snd_words.specs.declared.convert.Settings.{Settings}
use Rattle.snd_words.specs.Asked.{Asked, Work}
use Rattle.snd_words.specs.Names.{two_names}
use Rattle.snd_words.specs.Options.{all_of, at_most_one, named, option_count, text_behind}

-- `-override-sample-rate=N`
unfoldable pub rate_of : List ℕ → Option ℕ
rate_of word = option_and_then decimal (text_behind (codes "-override-sample-rate=") word)

unfoldable pub order_of : List ℕ → Option Order
order_of word = named word ((codes "-endian=little", Little) ∷ (codes "-endian=big", Big) ∷ [])

unfoldable pub codec_of : List ℕ → Option CodecChoice
codec_of word = named word (
    (codes "-pcms8", S8) ∷ (codes "-pcmu8", U8) ∷ (codes "-pcm16", Pcm16) ∷ (codes "-pcm24", Pcm24) ∷ (codes "-pcm32", Pcm32)
    ∷ (codes "-ulaw", MuLaw) ∷ (codes "-alaw", ALaw) ∷ (codes "-ima-adpcm", Ima) ∷ (codes "-ms-adpcm", Ms) ∷ [])

-- `-rack=SPEC`
unfoldable pub rack_in_word : List ℕ → Option (List StageSetting)
rack_in_word word = option_and_then rack_of (text_behind (codes "-rack=") word)

-- what an option sets: a rate, an order of bytes, a codec or a rack
unfoldable pub setting_of : List ℕ → Option Setting
setting_of word =
    option_or (option_map sets.Rate (rate_of word)) (option_or (option_map sets.Order (order_of word))
    (option_or (option_map sets.Codec (codec_of word)) (option_map sets.Rack (rack_in_word word))))

abbrev pub rate_in : Setting → Option ℕ
rate_in (sets.Rate rate) = Some rate
rate_in other = None

abbrev pub order_in : Setting → Option Order
order_in (sets.Order order) = Some order
order_in other = None

abbrev pub codec_in : Setting → Option CodecChoice
codec_in (sets.Codec codec) = Some codec
codec_in other = None

abbrev pub rack_in : Setting → Option (List StageSetting)
rack_in (sets.Rack rack) = Some rack
rack_in other = None

-- a rate, an order, a codec and a rack, each of which may be set once
abbrev pub together : Option (Option ℕ) → Option (Option Order) → Option (Option CodecChoice) → Option (Option (List StageSetting)) → Option Settings
together (Some r) (Some o) (Some c) (Some k) = Some (record { rate = r; order = o; codec = c; rack = k })
together rates orders codecs racks = None

abbrev pub settled : List Setting → Option Settings
settled options = together (at_most_one (filter_map rate_in options)) (at_most_one (filter_map order_in options))
    (at_most_one (filter_map codec_in options)) (at_most_one (filter_map rack_in options))

-- what options set, where each of them is known and none sets what another does
abbrev pub settings_of : List (List ℕ) → Option Settings
settings_of words = option_and_then settled (all_of setting_of words)

-- the same, behind settings that are there
abbrev pub settled_on : Settings → List Setting → Option Settings
settled_on s options = together (at_most_one (option_to_list s.rate ++ filter_map rate_in options))
    (at_most_one (option_to_list s.order ++ filter_map order_in options)) (at_most_one (option_to_list s.codec ++ filter_map codec_in options))
    (at_most_one (option_to_list s.rack ++ filter_map rack_in options))

-- what is to be done; no items stand where no option sets a rack
abbrev pub convert_with : Option Settings → Option (List ℕ × List ℕ) → Asked
convert_with (Some s) (Some (input, output)) =
    Asked.tool (Work.convert (record { rate = s.rate; order = s.order; codec = s.codec; rack = unwrap_or s.rack []; input = input; output = output }))
convert_with settings names = Asked.nothing

-- `convert OPTION.. IN OUT`
unfoldable pub convert_asked : List (List ℕ) → Asked
convert_asked words = convert_with (settings_of (take (option_count words) words)) (two_names (drop (option_count words) words))
