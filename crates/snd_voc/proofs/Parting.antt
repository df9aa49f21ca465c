-- What is told by bytes that were read: the place of the first block, a format, and what stands behind the data.
use Rattle.std.proofs.Common.{◌≡◌, ℕ, ◌+◌, ◌-◌, ◌<◌, ◌≤◌, Bool, true, false, not, List, length, get_or, Option, None, Some, Ok, Err, refl, sym, ap, ◌∙◌, arith}
use Rattle.std.proofs.lemmas.Bool.{eq-eqb, le-ltb, ne_eqb}
use Rattle.std.specs.Prelude.{◌==◌, ◌^◌, min, nat_lt, Result}
use Rattle.snd_fields.specs.Field.{number}
use Rattle.snd_fields.specs.declared.field.Order.TheVariants.{Little}
use Rattle.snd_layout.specs.Params.{Parameters}
use Rattle.snd_layout.specs.Shape.{Shape}
use Rattle.snd_layout.specs.declared.refusal.OpenRefusal.{OpenRefusal}
use Rattle.snd_layout.specs.declared.refusal.OpenRefusal.TheVariants.{BadField, NoFormat}
use Rattle.snd_voc.proofs.Filling.{number_at}
use Rattle.snd_voc.specs.Layout.{codec_of, declared, extended_rate, extra, first_place, from_place, goes_on, has_format, head_size, is_head, newer_of, older_format, older_of, shape_of, size_at, sound_format, voc_layout, voc_shape, walk, with_sound, data_start}
use Rattle.snd_voc.specs.Parts.{AgreesFrom}
use Rattle.snd_voc.specs.declared.blocks.Block.{Block}
use Rattle.snd_voc.specs.declared.blocks.Sound.{Sound}

pub more_is : (b h : List ℕ) (place size : ℕ) → AgreesFrom b place 1 h → size ≡ length b → size ≤ place + 1 → not (get_or h 0 0 == 0) ≡ goes_on b place
more_is b h place size same whole none =
    let test : nat_lt (place + 1) (length b) ≡ false = le-ltb (place + 1) (length b) (omega (arith, none, whole)) in
    let byte : get_or h 0 0 ≡ get_or b place 0 = same 0 (omega arith) ∙ ap (λ k. get_or b k 0) (omega arith) in
    rw (test, byte) refl

head_same : (b h : List ℕ) → AgreesFrom b 0 26 h → (is_head h ≡ is_head b) × (head_size h ≡ head_size b)
head_same b h same =
    let size : number Little h 20 2 ≡ number Little b 20 2 = number_at b h 0 26 20 2 same (omega arith) in
    let version : number Little h 22 2 ≡ number Little b 22 2 = number_at b h 0 26 22 2 same (omega arith) in
    let check : number Little h 24 2 ≡ number Little b 24 2 = number_at b h 0 26 24 2 same (omega arith) in
    (rw (size, version, check) refl, size)

pub place_bad : (b h : List ℕ) (size : ℕ) → AgreesFrom b 0 26 h → size ≡ length b → 26 ≤ size → is_head h ≡ false → first_place b ≡ Err BadField
place_bad b h size same whole long bad =
    let test : nat_lt (length b) 26 ≡ false = le-ltb (length b) 26 (omega (arith, long, whole)) in
    let bad_too : is_head b ≡ false = sym (head_same b h same).0 ∙ bad in
    rw (test, bad_too) refl

pub place_is : (b h : List ℕ) (size place : ℕ) → AgreesFrom b 0 26 h → size ≡ length b → 26 ≤ size → is_head h ≡ true → place ≡ number Little h 20 2 → first_place b ≡ Ok place
place_is b h size place same whole long good is =
    let test : nat_lt (length b) 26 ≡ false = le-ltb (length b) 26 (omega (arith, long, whole)) in
    let good_too : is_head b ≡ true = sym (head_same b h same).0 ∙ good in
    rw (test, good_too) (ap (λ (n : ℕ). Ok n) (sym (is ∙ (head_same b h same).1)))

pub older_is : (b body : List ℕ) (extension : Option Block) (block : Block) (constant codec wide rate : ℕ) (r : Result Parameters OpenRefusal) → extension ≡ Some block → AgreesFrom b block.at 4 body
    → wide ≡ number Little body 0 2 → rate ≡ extended_rate (get_or body 3 0) wide → r ≡ older_of (get_or body 2 0) (get_or body 3 0) rate → older_format b extension constant codec ≡ r
older_is b body extension block constant codec wide rate r there same wide_is rate_is is =
    let second : get_or body 2 0 ≡ get_or b (block.at + 2) 0 = same 2 (omega arith) in
    let third : get_or body 3 0 ≡ get_or b (block.at + 3) 0 = same 3 (omega arith) in
    let number_is : number Little body 0 2 ≡ number Little b block.at 2 = number_at b body block.at 4 0 2 same (omega arith) ∙ ap (λ k. number Little b k 2) (omega arith) in
    rw (there, is, rate_is, wide_is, second, third, number_is) refl

module _ (b h : List ℕ) (size : ℕ) (sound : Sound) (same : AgreesFrom b sound.at 16 h) (whole : size ≡ length b) where
  size_same : number Little h 1 3 ≡ size_at b sound.at
  size_same = number_at b h sound.at 16 1 3 same (omega arith)

  pub format_gone : (len : ℕ) → len ≡ number Little h 1 3 → has_format len size sound ≡ false → sound_format b sound ≡ Err NoFormat
  format_gone len is none =
      let test : has_format (size_at b sound.at) (length b) sound ≡ false = ap (λ k. has_format k (length b) sound) (sym (is ∙ size_same)) ∙ ap (λ k. has_format len k sound) (sym whole) ∙ none in
      rw test refl

  pub format_there : (len : ℕ) → len ≡ number Little h 1 3 → has_format len size sound ≡ true → has_format (size_at b sound.at) (length b) sound ≡ true
  format_there len is there = ap (λ k. has_format k (length b) sound) (sym (is ∙ size_same)) ∙ ap (λ k. has_format len k sound) (sym whole) ∙ there

  pub older_there : (len : ℕ) → len ≡ number Little h 1 3 → has_format len size sound ≡ true → sound.kind ≡ 1 → sound_format b sound ≡ older_format b sound.extension (get_or h 4 0) (get_or h 5 0)
  older_there len is there one =
      let test : has_format (size_at b sound.at) (length b) sound ≡ true = format_there len is there in
      let constant : get_or h 4 0 ≡ get_or b (sound.at + 4) 0 = same 4 (omega arith) in
      let codec : get_or h 5 0 ≡ get_or b (sound.at + 5) 0 = same 5 (omega arith) in
      let kind : (sound.kind == 1) ≡ true = eq-eqb sound.kind 1 one in
      rw (test, kind, constant, codec) refl

  pub newer_there : (len code rate : ℕ) (r : Result Parameters OpenRefusal) → len ≡ number Little h 1 3 → has_format len size sound ≡ true → (sound.kind ≡ 1 → ⊥) → code ≡ number Little h 10 2 → rate ≡ number Little h 4 4
      → r ≡ newer_of (codec_of code) (get_or h 9 0) rate (get_or h 8 0) → sound_format b sound ≡ r
  newer_there len code rate r is there other code_is rate_is made =
      let test : has_format (size_at b sound.at) (length b) sound ≡ true = format_there len is there in
      let channels : get_or h 9 0 ≡ get_or b (sound.at + 9) 0 = same 9 (omega arith) in
      let bits : get_or h 8 0 ≡ get_or b (sound.at + 8) 0 = same 8 (omega arith) in
      let code_same : code ≡ number Little b (sound.at + 10) 2 = code_is ∙ number_at b h sound.at 16 10 2 same (omega arith) in
      let rate_same : rate ≡ number Little b (sound.at + 4) 4 = rate_is ∙ number_at b h sound.at 16 4 4 same (omega arith) in
      let kind : (sound.kind == 1) ≡ false = ne_eqb sound.kind 1 other in
      rw (test, kind, made, channels, bits, code_same, rate_same) refl

  -- the layout, where its parts are those of the file
  pub laid_out : (params : Parameters) (len bytes : ℕ) (more : Bool) (layout : Shape) → sound_format b sound ≡ Ok params → len ≡ number Little h 1 3 → bytes ≡ len - extra sound → len < 2 ^ 32
      → more ≡ goes_on b (data_start sound + bytes) → layout ≡ shape_of size sound params bytes more → with_sound b (Ok sound) ≡ Ok layout
  laid_out params len bytes more layout read is bytes_is few more_is_it made =
      let declared_is : declared b sound ≡ bytes = ap (λ k. min (2 ^ 63 - 1) (k - extra sound)) (sym (is ∙ size_same)) ∙ omega (arith, bytes_is, few) in
      let shape : voc_shape b sound params ≡ layout =
      ap (λ k. shape_of (length b) sound params k (goes_on b (data_start sound + k))) declared_is ∙ ap (λ (t : Bool). shape_of (length b) sound params bytes t) (sym more_is_it)
      ∙ ap (λ k. shape_of k sound params bytes more) (sym whole) ∙ sym made in
      rw read (ap (λ (s : Shape). Ok s) shape)

pub placed_err : (b : List ℕ) (refusal : OpenRefusal) → first_place b ≡ Err refusal → voc_layout b ≡ Err refusal
unfolding voc_layout
placed_err b refusal is = ap (from_place b) is

pub placed_ok : (b : List ℕ) (place : ℕ) → first_place b ≡ Ok place → voc_layout b ≡ with_sound b (walk b 256 place None)
unfolding voc_layout
placed_ok b place is = ap (from_place b) is
