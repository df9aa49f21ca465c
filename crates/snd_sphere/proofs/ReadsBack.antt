-- The head of a file that is made reads back.
use Rattle.std.proofs.Common.{◌≡◌, ℕ, ◌+◌, ◌-◌, ◌*◌, ◌/◌, ◌^◌, ◌<◌, ◌≤◌, true, false, List, [], ◌∷◌, ◌++◌, Option, None, Some, Ok, refl, ap, ◌∙◌, inl, inr, drop, length, map, replicate, take, arith}
use Rattle.std.proofs.lemmas.Bool.{cases_Bool, le-leb, lt-ltb, ne_eqb}
use Rattle.std.proofs.lemmas.Fmt.{decimal-digits_of}
use Rattle.std.proofs.lemmas.Int.Digits.{all_below_base_digits_of}
use Rattle.std.proofs.lemmas.List.{append_assoc, length-append, take_all}
use Rattle.std.specs.Int.Digits.{AllBelowBase, digits_of}
use Rattle.std.specs.List.{list_any}
use Rattle.std.specs.Prelude.{◌==◌, codes, decimal, nat_le, nat_lt}
use Rattle.snd_fields.specs.declared.field.Order.{Order}
use Rattle.snd_fields.specs.declared.field.Order.TheVariants.{Little, Big}
use Rattle.snd_layout.specs.Blocks.{block_align}
use Rattle.snd_layout.specs.Fit.{fit_refusal, is_sphere_codec}
use Rattle.snd_layout.specs.Params.{AreParams, Parameters, params_refusal}
use Rattle.snd_layout.specs.Shape.{Shape}
use Rattle.snd_layout.specs.declared.codec.Codec.{Codec}
use Rattle.snd_layout.specs.declared.codec.Codec.TheVariants.{U8, S8, S16, S24, S32, MuLaw as mu_law, ALaw as a_law, Ima, Ms}
use Rattle.snd_layout.specs.declared.kind.Kind.TheVariants.{Sphere}
use Rattle.snd_sphere.specs.declared.heading.Coding.{Coding}
use Rattle.snd_sphere.specs.declared.heading.Coding.TheVariants.{Pcm, MuLaw, ALaw, Other}
use Rattle.snd_sphere.specs.declared.heading.Heading.{Heading}
use Rattle.snd_sphere.specs.declared.stated.Stated.{Stated}
use Rattle.snd_sphere.specs.Layout.{channels_of, codec_of, coding_of, coding_text, count_of, declared_of, has_end, has_float, has_mark, heading_of, held, is_float, is_other, lacks_order, mapped, order_of, order_text, params_of, rate_of, sample_bytes, sphere_layout, sphere_shape, width_of}
use Rattle.snd_sphere.specs.Lines.{TextLine, all_lines, are_named, before_end, is_end, lines_from, number_of, number_text, only, text_of}
use Rattle.snd_sphere.specs.Written.{coding_lines, head_lines, made_shape, sphere_head}
use Rattle.snd_sphere.proofs.Counts.{states_other}
use Rattle.snd_sphere.proofs.Kept.{reads}
use Rattle.snd_sphere.proofs.Made.{decimal_said, head_size}
use Rattle.snd_layout.proofs.Codecs.{blocks_of}
use Rattle.snd_sphere.proofs.Sounds.{align_some}
use Rattle.snd_sphere.proofs.Splits.{NoFeed, ended, no_feed_append, no_feed_cons}

-- ---- digits have no line feed among them

digits_clean : (ds : List ℕ) → AllBelowBase 10 ds → NoFeed (map (λ d. 48 + d) ds)
digits_clean [] all = refl
digits_clean (d ∷ ds) all = no_feed_cons (48 + d) (map (λ d. 48 + d) ds) (ne_eqb (48 + d) 10 (λ is. omega (arith, is))) (digits_clean ds all.1)

decimal_clean : (n : ℕ) → 1 ≤ n → n < 2 ^ 32 → NoFeed (decimal n)
decimal_clean n some few = rw (decimal-digits_of n (omega (arith, some)) (omega (arith, few))) (digits_clean (digits_of 10 n) (all_below_base_digits_of 10 n (omega arith)))

-- ---- the lines behind the rate

-- what some lines say of the form of samples, and that they say nothing else
pub record Ends (lines : List TextLine) (at bytes : ℕ) (order : Option Order) (coding : Coding) : Type 0 where
  pub end : list_any is_end lines ≡ true
  pub no_float : list_any is_float (before_end lines) ≡ false
  pub no_channels : are_named (codes "channel_count ") (before_end lines) ≡ []
  pub no_count : are_named (codes "sample_count ") (before_end lines) ≡ []
  pub no_rate : are_named (codes "sample_rate ") (before_end lines) ≡ []
  pub width : number_of (codes "sample_n_bytes -i ") (2 ^ 32 - 1) (only (are_named (codes "sample_n_bytes ") (before_end lines))) ≡ Ok (Some (record { value = bytes; at = at + 18; size = 1 }))
  pub ordered : mapped order_of (text_of (codes "sample_byte_format -s") (only (are_named (codes "sample_byte_format ") (before_end lines)))) ≡ Ok order
  pub coded : mapped coding_of (text_of (codes "sample_coding -s") (only (are_named (codes "sample_coding ") (before_end lines)))) ≡ Ok coding

abbrev line : ℕ → List ℕ → TextLine
line at text = record { at = at; text = text }

abbrev next : ℕ → List ℕ → ℕ
next at text = at + length text + 1

one_line : (t rest : List ℕ) (at : ℕ) → NoFeed t → lines_from at [] (t ++ (10 ∷ rest)) ≡ line at t ∷ lines_from (next at t) [] rest
one_line t rest at clean = ended t [] rest at clean

-- five lines, and what follows
abbrev five : ℕ → List ℕ → List ℕ → List ℕ → List ℕ → List ℕ → List ℕ → List TextLine
five at a b c d e rest =
    line at a ∷ (line (next at a) b ∷ (line (next (next at a) b) c ∷ (line (next (next (next at a) b) c) d ∷ (line (next (next (next (next at a) b) c) d) e
    ∷ lines_from (next (next (next (next (next at a) b) c) d) e) [] rest))))

five_lines : (a b c d e rest : List ℕ) (at : ℕ) → NoFeed a → NoFeed b → NoFeed c → NoFeed d → NoFeed e
    → lines_from at [] (a ++ (10 ∷ (b ++ (10 ∷ (c ++ (10 ∷ (d ++ (10 ∷ (e ++ (10 ∷ rest)))))))))) ≡ five at a b c d e rest
five_lines a b c d e rest at one two three four last =
    one_line a (b ++ (10 ∷ (c ++ (10 ∷ (d ++ (10 ∷ (e ++ (10 ∷ rest)))))))) at one
    ∙ ap (λ (ls : List TextLine). line at a ∷ ls) (one_line b (c ++ (10 ∷ (d ++ (10 ∷ (e ++ (10 ∷ rest)))))) (next at a) two
    ∙ ap (λ (ls : List TextLine). line (next at a) b ∷ ls) (one_line c (d ++ (10 ∷ (e ++ (10 ∷ rest)))) (next (next at a) b) three
    ∙ ap (λ (ls : List TextLine). line (next (next at a) b) c ∷ ls) (one_line d (e ++ (10 ∷ rest)) (next (next (next at a) b) c) four
    ∙ ap (λ (ls : List TextLine). line (next (next (next at a) b) c) d ∷ ls) (one_line e rest (next (next (next (next at a) b) c) d) last))))

-- the lines of a codec
pub record Tells (codec : Codec) : Type 0 where
  pub rest : List ℕ
  pub order : Option Order
  pub coding : Coding
  pub lines : coding_lines codec ≡ 10 ∷ rest
  pub is_codec : codec_of coding order ≡ codec
  pub known : is_other coding ≡ false
  pub has_order : lacks_order coding order ≡ false
  pub behind : ℕ → List ℕ → List TextLine
  pub are : (at : ℕ) (spaces : List ℕ) → lines_from at [] (rest ++ spaces) ≡ behind at spaces
  pub ends : (at : ℕ) (spaces : List ℕ) → Ends (behind at spaces) at (sample_bytes coding) order coding

abbrev rest_of : Codec → List ℕ
rest_of codec = drop 1 (coding_lines codec)

abbrev little_lines : ℕ → List ℕ → List TextLine
little_lines at spaces = five at (codes "sample_n_bytes -i 2") (codes "sample_byte_format -s2 01") (codes "sample_sig_bits -i 16") (codes "sample_coding -s3 pcm") (codes "end_head") spaces

little_text : (spaces : List ℕ) → rest_of (S16 Little) ++ spaces ≡ (codes "sample_n_bytes -i 2" ++ (10 ∷ (codes "sample_byte_format -s2 01" ++ (10 ∷ (codes "sample_sig_bits -i 16" ++ (10 ∷ (codes "sample_coding -s3 pcm" ++ (10 ∷ (codes "end_head" ++ (10 ∷ spaces))))))))))
little_text spaces = refl

little_are : (at : ℕ) (spaces : List ℕ) → lines_from at [] (rest_of (S16 Little) ++ spaces) ≡ little_lines at spaces
little_are at spaces = ap (lines_from at []) (little_text spaces) ∙ five_lines (codes "sample_n_bytes -i 2") (codes "sample_byte_format -s2 01") (codes "sample_sig_bits -i 16") (codes "sample_coding -s3 pcm") (codes "end_head") spaces at refl refl refl refl refl

little_ends : (at : ℕ) (spaces : List ℕ) → Ends (little_lines at spaces) at 2 (Some Little) Pcm
little_ends at spaces = record { end = refl; no_float = refl; no_channels = refl; no_count = refl; no_rate = refl; width = refl; ordered = refl; coded = refl }

abbrev big_lines : ℕ → List ℕ → List TextLine
big_lines at spaces = five at (codes "sample_n_bytes -i 2") (codes "sample_byte_format -s2 10") (codes "sample_sig_bits -i 16") (codes "sample_coding -s3 pcm") (codes "end_head") spaces

big_text : (spaces : List ℕ) → rest_of (S16 Big) ++ spaces ≡ (codes "sample_n_bytes -i 2" ++ (10 ∷ (codes "sample_byte_format -s2 10" ++ (10 ∷ (codes "sample_sig_bits -i 16" ++ (10 ∷ (codes "sample_coding -s3 pcm" ++ (10 ∷ (codes "end_head" ++ (10 ∷ spaces))))))))))
big_text spaces = refl

big_are : (at : ℕ) (spaces : List ℕ) → lines_from at [] (rest_of (S16 Big) ++ spaces) ≡ big_lines at spaces
big_are at spaces = ap (lines_from at []) (big_text spaces) ∙ five_lines (codes "sample_n_bytes -i 2") (codes "sample_byte_format -s2 10") (codes "sample_sig_bits -i 16") (codes "sample_coding -s3 pcm") (codes "end_head") spaces at refl refl refl refl refl

big_ends : (at : ℕ) (spaces : List ℕ) → Ends (big_lines at spaces) at 2 (Some Big) Pcm
big_ends at spaces = record { end = refl; no_float = refl; no_channels = refl; no_count = refl; no_rate = refl; width = refl; ordered = refl; coded = refl }

abbrev mu_law_lines : ℕ → List ℕ → List TextLine
mu_law_lines at spaces = five at (codes "sample_n_bytes -i 1") (codes "sample_byte_format -s1 1") (codes "sample_sig_bits -i 8") (codes "sample_coding -s4 ulaw") (codes "end_head") spaces

mu_law_text : (spaces : List ℕ) → rest_of mu_law ++ spaces ≡ (codes "sample_n_bytes -i 1" ++ (10 ∷ (codes "sample_byte_format -s1 1" ++ (10 ∷ (codes "sample_sig_bits -i 8" ++ (10 ∷ (codes "sample_coding -s4 ulaw" ++ (10 ∷ (codes "end_head" ++ (10 ∷ spaces))))))))))
mu_law_text spaces = refl

mu_law_are : (at : ℕ) (spaces : List ℕ) → lines_from at [] (rest_of mu_law ++ spaces) ≡ mu_law_lines at spaces
mu_law_are at spaces = ap (lines_from at []) (mu_law_text spaces) ∙ five_lines (codes "sample_n_bytes -i 1") (codes "sample_byte_format -s1 1") (codes "sample_sig_bits -i 8") (codes "sample_coding -s4 ulaw") (codes "end_head") spaces at refl refl refl refl refl

mu_law_ends : (at : ℕ) (spaces : List ℕ) → Ends (mu_law_lines at spaces) at 1 None MuLaw
mu_law_ends at spaces = record { end = refl; no_float = refl; no_channels = refl; no_count = refl; no_rate = refl; width = refl; ordered = refl; coded = refl }

abbrev a_law_lines : ℕ → List ℕ → List TextLine
a_law_lines at spaces = five at (codes "sample_n_bytes -i 1") (codes "sample_byte_format -s1 1") (codes "sample_sig_bits -i 8") (codes "sample_coding -s4 alaw") (codes "end_head") spaces

a_law_text : (spaces : List ℕ) → rest_of a_law ++ spaces ≡ (codes "sample_n_bytes -i 1" ++ (10 ∷ (codes "sample_byte_format -s1 1" ++ (10 ∷ (codes "sample_sig_bits -i 8" ++ (10 ∷ (codes "sample_coding -s4 alaw" ++ (10 ∷ (codes "end_head" ++ (10 ∷ spaces))))))))))
a_law_text spaces = refl

a_law_are : (at : ℕ) (spaces : List ℕ) → lines_from at [] (rest_of a_law ++ spaces) ≡ a_law_lines at spaces
a_law_are at spaces = ap (lines_from at []) (a_law_text spaces) ∙ five_lines (codes "sample_n_bytes -i 1") (codes "sample_byte_format -s1 1") (codes "sample_sig_bits -i 8") (codes "sample_coding -s4 alaw") (codes "end_head") spaces at refl refl refl refl refl

a_law_ends : (at : ℕ) (spaces : List ℕ) → Ends (a_law_lines at spaces) at 1 None ALaw
a_law_ends at spaces = record { end = refl; no_float = refl; no_channels = refl; no_count = refl; no_rate = refl; width = refl; ordered = refl; coded = refl }

tells : (codec : Codec) → is_sphere_codec codec ≡ true → Tells codec
tells (S16 Little) is = record { rest = rest_of (S16 Little); order = Some Little; coding = Pcm; lines = refl; is_codec = refl; known = refl; has_order = refl; behind = little_lines; are = little_are; ends = little_ends }
tells (S16 Big) is = record { rest = rest_of (S16 Big); order = Some Big; coding = Pcm; lines = refl; is_codec = refl; known = refl; has_order = refl; behind = big_lines; are = big_are; ends = big_ends }
tells mu_law is = record { rest = rest_of mu_law; order = None; coding = MuLaw; lines = refl; is_codec = refl; known = refl; has_order = refl; behind = mu_law_lines; are = mu_law_are; ends = mu_law_ends }
tells a_law is = record { rest = rest_of a_law; order = None; coding = ALaw; lines = refl; is_codec = refl; known = refl; has_order = refl; behind = a_law_lines; are = a_law_are; ends = a_law_ends }
tells U8 is = absurd (cc)
tells S8 is = absurd (cc)
tells (S24 order) is = absurd (cc)
tells (S32 order) is = absurd (cc)
tells (Ima align per_block) is = absurd (cc)
tells (Ms align per_block) is = absurd (cc)

-- ---- the lines of a header

abbrev channel_line : List ℕ → TextLine
channel_line digits = record { at = 16; text = codes "channel_count -i " ++ digits }

-- the place of the count's line, behind so many digits
abbrev count_place : List ℕ → ℕ
count_place digits = 16 + length (codes "channel_count -i " ++ digits) + 1

abbrev count_line : ℕ → TextLine
count_line at = record { at = at; text = codes "sample_count -i 0000000000" }

abbrev rate_line : ℕ → List ℕ → TextLine
rate_line at digits = record { at = at; text = codes "sample_rate -i " ++ digits }

-- three lines, and what follows
abbrev three_texts : List ℕ → List ℕ → List ℕ → List ℕ
three_texts c r rest = (codes "channel_count -i " ++ c) ++ (10 ∷ (codes "sample_count -i 0000000000" ++ (10 ∷ ((codes "sample_rate -i " ++ r) ++ (10 ∷ rest)))))

front_lines : (c r rest : List ℕ) → NoFeed c → NoFeed r
    → lines_from 16 [] (three_texts c r rest) ≡ channel_line c ∷ (count_line (count_place c) ∷ (rate_line (count_place c + 26 + 1) r ∷ lines_from (count_place c + 26 + 1 + length (codes "sample_rate -i " ++ r) + 1) [] rest))
front_lines c r rest one two =
    one_line (codes "channel_count -i " ++ c) (codes "sample_count -i 0000000000" ++ (10 ∷ ((codes "sample_rate -i " ++ r) ++ (10 ∷ rest)))) 16 (no_feed_append (codes "channel_count -i ") c refl one)
    ∙ ap (λ (ls : List TextLine). channel_line c ∷ ls) (one_line (codes "sample_count -i 0000000000") ((codes "sample_rate -i " ++ r) ++ (10 ∷ rest)) (count_place c) refl
    ∙ ap (λ (ls : List TextLine). count_line (count_place c) ∷ ls) (one_line (codes "sample_rate -i " ++ r) rest (count_place c + 26 + 1) (no_feed_append (codes "sample_rate -i ") r refl two)))

joined : (c m r l s : List ℕ) → (((c ++ m) ++ r) ++ l) ++ s ≡ c ++ (m ++ (r ++ (l ++ s)))
joined c m r l s = append_assoc ((c ++ m) ++ r) l s ∙ append_assoc (c ++ m) r (l ++ s) ∙ append_assoc c m (r ++ (l ++ s))

abbrev spaces : Parameters → List ℕ
spaces p = replicate (1024 - length (head_lines p)) 32

text_is : (p : Parameters) (rest : List ℕ) → coding_lines p.codec ≡ 10 ∷ rest → drop 16 (sphere_head p) ≡ three_texts (decimal p.channels) (decimal p.rate) (rest ++ spaces p)
unfolding sphere_head
text_is p rest lines =
    ap (λ (l : List ℕ). codes "channel_count -i " ++ l) (joined (decimal p.channels) (codes "\nsample_count -i 0000000000\nsample_rate -i ") (decimal p.rate) (coding_lines p.codec) (spaces p)
    ∙ ap (λ (l : List ℕ). decimal p.channels ++ (codes "\nsample_count -i 0000000000\nsample_rate -i " ++ (decimal p.rate ++ (l ++ spaces p)))) lines)

mark_is : (p : Parameters) → has_mark (sphere_head p) ≡ true
unfolding sphere_head
mark_is p = refl

-- ---- what a header with such lines says

module _ (h c r : List ℕ) (channels rate at place end bytes : ℕ) (order : Option Order) (coding : Coding) (rest : List TextLine) (ends : Ends rest end bytes order coding)
    (lines : all_lines h ≡ channel_line c ∷ count_line at ∷ rate_line place r ∷ rest) (counted : number_text (2 ^ 32 - 1) c ≡ Some channels) (rated : number_text (2 ^ 32 - 1) r ≡ Some rate) where
  abbrev heading : Heading
  heading = record {
    channels = Some (record { value = channels; at = 16 + 17; size = length c });
    rate = Some (record { value = rate; at = place + 15; size = length r });
    width = Some (record { value = bytes; at = end + 18; size = 1 });
    order = order;
    coding = coding;
  }

  says_end : has_end h ≡ true
  says_end = ap (list_any is_end) lines ∙ ends.end

  says_no_float : has_float h ≡ false
  says_no_float = ap (λ (ls : List TextLine). list_any is_float (before_end ls)) lines ∙ ends.no_float

  says_channels : channels_of h ≡ Ok heading.channels
  says_channels =
      ap (λ (ls : List TextLine). number_of (codes "channel_count -i ") (2 ^ 32 - 1) (only (are_named (codes "channel_count ") (before_end ls)))) lines
      ∙ ap (λ (ls : List TextLine). number_of (codes "channel_count -i ") (2 ^ 32 - 1) (only (channel_line c ∷ ls))) ends.no_channels
      ∙ states_other (codes "channel_count -i ") (2 ^ 32 - 1) 16 c channels counted

  says_rate : rate_of h ≡ Ok heading.rate
  says_rate =
      ap (λ (ls : List TextLine). number_of (codes "sample_rate -i ") (2 ^ 32 - 1) (only (are_named (codes "sample_rate ") (before_end ls)))) lines
      ∙ ap (λ (ls : List TextLine). number_of (codes "sample_rate -i ") (2 ^ 32 - 1) (only (rate_line place r ∷ ls))) ends.no_rate
      ∙ states_other (codes "sample_rate -i ") (2 ^ 32 - 1) place r rate rated

  says_width : width_of h ≡ Ok heading.width
  says_width = ap (λ (ls : List TextLine). number_of (codes "sample_n_bytes -i ") (2 ^ 32 - 1) (only (are_named (codes "sample_n_bytes ") (before_end ls)))) lines ∙ ends.width

  says_order : order_text h ≡ Ok order
  says_order = ap (λ (ls : List TextLine). mapped order_of (text_of (codes "sample_byte_format -s") (only (are_named (codes "sample_byte_format ") (before_end ls))))) lines ∙ ends.ordered

  says_coding : coding_text h ≡ Ok coding
  says_coding = ap (λ (ls : List TextLine). mapped coding_of (text_of (codes "sample_coding -s") (only (are_named (codes "sample_coding ") (before_end ls))))) lines ∙ ends.coded

  pub says_count : count_of h ≡ Ok (Some (record { value = 0; at = at + 16; size = 10 }))
  says_count =
      ap (λ (ls : List TextLine). number_of (codes "sample_count -i ") (2 ^ 63 - 1) (only (are_named (codes "sample_count ") (before_end ls)))) lines
      ∙ ap (λ (ls : List TextLine). number_of (codes "sample_count -i ") (2 ^ 63 - 1) (only (count_line at ∷ ls))) ends.no_count
      ∙ states_other (codes "sample_count -i ") (2 ^ 63 - 1) at (codes "0000000000") 0 refl

  pub says_heading : has_mark h ≡ true → lacks_order coding order ≡ false → heading_of h ≡ Ok heading
  unfolding heading_of
  says_heading mark ordered = rw (says_end, says_no_float, mark, says_channels, says_rate, says_width, says_order, says_coding, ordered) refl

-- ---- the sound

good_params : (p : Parameters) → AreParams p → params_refusal p.channels p.rate p.codec ≡ None
good_params p good =
    let one : nat_le 1 p.channels ≡ true = le-leb 1 p.channels good.some_channel in
    let most : nat_le p.channels 256 ≡ true = le-leb p.channels 256 good.most_channels in
    let some : nat_le 1 p.rate ≡ true = le-leb 1 p.rate good.some_rate in
    let few : nat_lt p.rate (2 ^ 32) ≡ true = lt-ltb p.rate (2 ^ 32) good.most_rate in
    rw (one, most, some, few) good.blocks

same_width : (coding : Coding) → (sample_bytes coding == sample_bytes coding) ≡ true
same_width Pcm = refl
same_width MuLaw = refl
same_width ALaw = refl
same_width Other = refl

sound_is : (p : Parameters) (g : Heading) (x y z : Stated) → AreParams p → g.channels ≡ Some x → g.rate ≡ Some y → g.width ≡ Some z → x.value ≡ p.channels → y.value ≡ p.rate → z.value ≡ sample_bytes g.coding
    → is_other g.coding ≡ false → codec_of g.coding g.order ≡ p.codec → params_of g ≡ Ok p
unfolding params_of
sound_is p g x y z good channels rate width is_channels is_rate is_width known codec =
    let same = same_width g.coding in
    let none = good_params p good in
    rw (channels, rate, width, known, is_channels, is_rate, is_width, codec, same, none) refl

-- ---- the whole

fitting_codec : (p : Parameters) → fit_refusal Sphere p ≡ None → is_sphere_codec p.codec ≡ true
fitting_codec p fits = elim (cases_Bool (is_sphere_codec p.codec)) [
  | inl is ↦ is
  | inr other ↦ absurd (let e = rw other at fits in cc)
]

no_frames : (size declared a : ℕ) → declared ≡ 0 → 1 ≤ a → held size declared / a ≡ 0
no_frames size declared a zero some =
    let none : held size declared ≡ 0 * a = omega (arith, zero) in
    ap (λ (k : ℕ). k / a) none ∙ blocks_of 0 a some

shape_is : (p : Parameters) (size : ℕ) (digits : List ℕ) → 1 ≤ block_align p.channels p.codec → digits ≡ decimal p.channels → sphere_shape size p (record { value = 0; at = count_place digits + 16; size = 10 }) ≡ made_shape p
unfolding made_shape
shape_is p size digits some is =
    let s : Stated = record { value = 0; at = count_place digits + 16; size = 10 } in
    let declared : declared_of p s ≡ 0 = omega arith in
    let frames : held size (declared_of p s) / block_align p.channels p.codec ≡ 0 = no_frames size (declared_of p s) (block_align p.channels p.codec) declared some in
    let at : count_place digits + 16 ≡ 50 + length (decimal p.channels) = omega (arith, length-append (codes "channel_count -i ") digits, ap length is) in
    ap (λ (n : ℕ). record (sphere_shape size p s) { frames = n }) frames
    ∙ ap (λ (n : ℕ). record (record (sphere_shape size p s) { frames = 0 }) { declared = n }) declared
    ∙ ap (λ (n : ℕ). record (made_shape p) { inner = record { at = n; size = 10 } }) at

pub head_reads_back : (p : Parameters) → AreParams p → fit_refusal Sphere p ≡ None → sphere_layout (sphere_head p) ≡ Ok (made_shape p)
unfolding all_lines
head_reads_back p good fits =
    let is = fitting_codec p fits in
    let t = tells p.codec is in
    let c = decimal p.channels in
    let r = decimal p.rate in
    let at = count_place c in
    let end = at + 26 + 1 + length (codes "sample_rate -i " ++ r) + 1 in
    let rest = t.behind end (spaces p) in
    let ends = t.ends end (spaces p) in
    let lines : all_lines (sphere_head p) ≡ channel_line c ∷ (count_line at ∷ (rate_line (at + 26 + 1) r ∷ rest)) =
    ap (lines_from 16 []) (text_is p t.rest t.lines) ∙ front_lines c r (t.rest ++ spaces p) (decimal_clean p.channels good.some_channel (omega (arith, good.most_channels))) (decimal_clean p.rate good.some_rate good.most_rate)
    ∙ ap (λ (ls : List TextLine). channel_line c ∷ (count_line at ∷ (rate_line (at + 26 + 1) r ∷ ls))) (t.are end (spaces p)) in
    let counted = decimal_said p.channels good.some_channel (omega (arith, good.most_channels)) in
    let rated = decimal_said p.rate good.some_rate good.most_rate in
    let g = heading (sphere_head p) c r p.channels p.rate at (at + 26 + 1) end (sample_bytes t.coding) t.order t.coding rest ends lines counted rated in
    let size : length (sphere_head p) ≡ 1024 = head_size p good in
    let whole : take 1024 (sphere_head p) ≡ sphere_head p = take_all 1024 (sphere_head p) (omega (arith, size)) in
    let headed : heading_of (sphere_head p) ≡ Ok g = says_heading (sphere_head p) c r p.channels p.rate at (at + 26 + 1) end (sample_bytes t.coding) t.order t.coding rest ends lines counted rated (mark_is p) t.has_order in
    let count : count_of (sphere_head p) ≡ Ok (Some (record { value = 0; at = at + 16; size = 10 })) = says_count (sphere_head p) c r p.channels p.rate at (at + 26 + 1) end (sample_bytes t.coding) t.order t.coding rest ends lines counted rated in
    let sound : params_of g ≡ Ok p = sound_is p g _ _ _ good refl refl refl refl refl refl t.known t.is_codec in
    reads (sphere_head p) g (record { value = 0; at = at + 16; size = 10 }) p (omega (arith, size)) (ap heading_of whole ∙ headed) (ap count_of whole ∙ count) sound
    ∙ ap (λ (s : Shape). Ok s) (shape_is p (length (sphere_head p)) c (align_some p good is) refl)
