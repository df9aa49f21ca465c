-- The states of a file of ADPCM that is made, and what the file says once its blocks are put and it is sealed.
use Rattle.std.proofs.Common.{◌≡◌, ◌∙◌, ap, sym, subst, refl, inl, inr, ⊎_elim, ℕ, ℤ, ◌+◌, ◌*◌, ◌/◌, ◌%◌, ◌^◌, ◌<◌, ◌≤◌, Bool, true, false, List, ◌++◌, length, get_or, arith}
use Rattle.std.proofs.Math.Nat.{div-add-mod, mul-mod_left}
use Rattle.std.proofs.lemmas.Bool.{cases_lt}
use Rattle.std.proofs.lemmas.List.{length-append}
use Rattle.std.proofs.lemmas.List.Elements.{All-append}
use Rattle.snd_ima_adpcm.specs.Frames.{Is16Bit}
use Rattle.snd_blocks.proofs.Public.{frames_are_in_blocks}
use Rattle.snd_blocks.specs.Calls.{AreBlocks}
use Rattle.snd_blocks.specs.Sound.{frames_in}
use Rattle.snd_block_writer.proofs.Public.{all_are_kept, coded_size, kept_is_read}
use Rattle.snd_block_writer.specs.Coded.{coded, kept, whole}
use Rattle.snd_container.specs.Laws.{FileSays}
use Rattle.snd_disk.proofs.Public.{length-over}
use Rattle.snd_layout.specs.Blocks.{block_frames, is_adpcm}
use Rattle.snd_layout.specs.Container.{HasRoomFor, KeepsHead}
use Rattle.snd_layout.specs.Params.{data_bytes}
use Rattle.snd_layout.specs.Shape.{KeepsRule, Shape, end, room}
use Rattle.snd_layout.specs.declared.kind.Kind.TheVariants.{Wave}
use Rattle.snd_patch.proofs.Public.{over_beside}
use Rattle.snd_patch.specs.Sealed.{counted, sealed}
use Rattle.snd_edits.specs.Editing.{Editing}
use Rattle.snd_edits.specs.Edits.{automatic_to, sealed_where, written_shape}
use Rattle.snd_edits.specs.Encoding.{MayEncode, encoded_to, encoded_whole, over_blocks, whole_frames}
use Rattle.snd_edits.specs.Laws.{AutomaticStays, EncodedFrames, EncodedSound, EncodedStays, IsEncoded, IsStateOf, KeepsFile}
use Rattle.snd_edits.specs.Pacing.{HasPlaceFor, HasRoomToEncode}
use Rattle.snd_edits.specs.WriteCalls.{end_written}
use Rattle.snd_edits.proofs.EditedFiles.{automatic_edited, automatic_keeps, counted_rule, is_known, keeps_beside, room_ends, sealed_kept, sealed_long, sealed_says}
use Rattle.snd_edits.proofs.EditedSounds.{sound_said}
use Rattle.snd_edits.proofs.EditedSteps.{more_frames}
use Rattle.snd_edits.proofs.Encoded.{blocks_read, frames_of, frames_where, frames_whole, held_where, holds_sealed, in_blocks, whole_bytes, whole_even}
use Rattle.snd_edits.proofs.EncodedPlaces.{data_more, may_encode, whole_least}
use Rattle.snd_edits.proofs.EncodedState.{holds_where, whole_reaches}
use Rattle.snd_chunks.proofs.Public.{over_stays}
use Rattle.snd_edits.proofs.Ranges.{are_16_bits}
use Rattle.snd_edits.proofs.SealedFrames.{sealed_decoded}

-- ---- what is there

module _ (file : List ℕ) (e : Editing) (of : IsEncoded file e) where
  -- the blocks of whole numbers, put again, leave the file
  pub put_again : over_blocks e.bytes e.shape (whole e.shape.params e.given) ≡ e.bytes
  put_again =
      let h = e.shape in
      over_stays e.bytes h.start (coded h.params (whole h.params e.given))
      (omega (arith, of.keeps.holds.held, whole_bytes h.params of.given.form e.given, ap (λ (n : ℕ). end h n) of.given.frames)) of.given.held

  pub frames_kept : e.frames ≡ kept e.shape.params (whole e.shape.params e.given)
  frames_kept =
      let h = e.shape in
      of.keeps.holds.sound
      ∙ ap (frames_in e.bytes) (ap (λ (n : ℕ). record h { frames = n }) of.given.frames)
      ∙ ap (λ (b : List ℕ). frames_in b (record h { frames = length (whole h.params e.given) / h.params.channels })) (sym put_again)
      ∙ sym (blocks_read h of.given.form e.bytes e.given)

-- ---- blocks put

-- the blocks of numbers of whole frames are put, n frames, for which there is room
module _ (file : List ℕ) (e : Editing) (of : IsEncoded file e) (zs : List ℤ) (even : length zs % e.shape.params.channels ≡ 0) (n : ℕ) (count : n ≡ length zs / e.shape.params.channels)
    (within : e.shape.frames ≤ n) (room_for : HasRoomToEncode e.shape n) where
  abbrev h : Shape
  h = e.shape

  abbrev keeps : KeepsFile file e
  keeps = of.keeps

  abbrev g : Shape
  g = record h { frames = n }

  abbrev b : List ℕ
  b = over_blocks e.bytes h zs

  pub put_bytes : length (coded h.params zs) ≡ data_bytes h.params n
  put_bytes = coded_size h.params of.given.form zs even ∙ ap (data_bytes h.params) (sym count)

  pub put_before : (i : ℕ) → i < h.start → get_or b i 0 ≡ get_or e.bytes i 0
  put_before i lt = over_beside e.bytes h.start (coded h.params zs) i (inl (omega (arith, lt)))

  pub put_held : end h n ≤ length b
  put_held = omega (arith, put_bytes, length-over e.bytes h.start (coded h.params zs))

  put_kept : KeepsHead h file b
  put_kept = λ i lt out. put_before i lt ∙ keeps.kept i lt out

  place : HasPlaceFor h n
  place = record { blocks = of.place.blocks; free = of.place.free; fits = room_for }

  pub put_room : HasRoomFor h n × (end h n + 8 ≤ 2 ^ 63)
  put_room = may_encode h n n of.given.form.some_frames place (room_ends file e keeps) (omega arith)

  head_room : HasRoomFor keeps.head n
  head_room =
      let few : data_bytes keeps.head.params n ≤ room keeps.head = subst (λ (s : Shape). data_bytes s.params n ≤ room s) keeps.shape room_for.in_room in
      record {
        in_room = omega (arith, few);
        on_disk = subst (λ (s : Shape). s.start + data_bytes s.params n < 2 ^ 63) keeps.shape put_room.0.on_disk;
        counted = subst (λ (s : Shape). s.kind ≡ Wave → is_adpcm s.params.codec ≡ true → n < 2 ^ 32) keeps.shape put_room.0.counted;
      }

  put_rule : KeepsRule g
  put_rule = more_frames h n keeps.rule (is_known file e keeps) put_room.1 (inr room_for.in_room)

  pub put_read : kept h.params zs ≡ frames_in b g
  put_read = sym (frames_are_in_blocks b g (in_blocks h.params of.given.form) ∙ kept_is_read e.bytes g zs of.given.form even count)

  -- the head brought up to them
  pub put_says : FileSays (sealed b g n) (counted g n)
  put_says =
      sealed_says file keeps.head keeps.bytes keeps.opened keeps.joined keeps.known g (ap (λ (s : Shape). record s { frames = n }) keeps.shape) put_rule of.place.free n head_room put_room.1 b put_kept put_held

  -- the state then, which is sealed or not, and updated automatically or not
  abbrev pub put_as : Bool → Bool → Editing
  put_as t automatic = record e { bytes = sealed_where t b g n; shape = written_shape t g n; frames = kept h.params zs; automatic = automatic }

  long : end h n ≤ length (sealed b g n)
  long = omega (arith, put_held, sealed_long b g n put_rule put_held)

  count_kept : n ≡ length (kept h.params zs)
  count_kept = count ∙ sym (all_are_kept h.params zs of.given.form)

  pub put_keeps : (t automatic : Bool) → (automatic ≡ true → t ≡ true) → KeepsFile file (put_as t automatic)
  put_keeps true automatic by = record {
    head = keeps.head;
    bytes = keeps.bytes;
    opened = keeps.opened;
    known = keeps.known;
    joined = keeps.joined;
    shape = ap (λ (s : Shape). record s { frames = n; declared = (counted g n).declared }) keeps.shape;
    rule = counted_rule g n put_rule (is_known file e keeps) put_room.1 (λ trailing. refl);
    kept = sealed_kept file b g n put_rule put_kept;
    stays = λ trailing. absurd (let free = of.place.free in cc);
    holds = record { sound = put_read ∙ sealed_decoded b g put_rule put_held long; count = count_kept; held = long; placed = omega (arith, keeps.holds.placed, within) };
    room = head_room;
    told = λ either. put_says;
  }
  put_keeps false automatic by = record {
    head = keeps.head;
    bytes = keeps.bytes;
    opened = keeps.opened;
    known = keeps.known;
    joined = keeps.joined;
    shape = ap (λ (s : Shape). record s { frames = n }) keeps.shape;
    rule = put_rule;
    kept = put_kept;
    stays = λ trailing. absurd (let free = of.place.free in cc);
    holds = record { sound = put_read; count = count_kept; held = put_held; placed = omega (arith, keeps.holds.placed, within) };
    room = head_room;
    told = ⊎_elim (λ on. absurd (let no = by on in cc)) (λ trailing. absurd (let free = of.place.free in cc));
  }

place_then : (t : Bool) (h : Shape) (n to : ℕ) → HasPlaceFor h to → HasPlaceFor (written_shape t (record h { frames = n }) n) to
place_then true h n to was = record { blocks = was.blocks; free = was.free; fits = record { in_room = was.fits.in_room; few = was.fits.few } }
place_then false h n to was = record { blocks = was.blocks; free = was.free; fits = record { in_room = was.fits.in_room; few = was.fits.few } }

-- room for frames is room for fewer
fewer_fit : (h : Shape) (n to : ℕ) → 1 ≤ block_frames h.params.codec → n ≤ to → HasRoomToEncode h to → HasRoomToEncode h n
fewer_fit h n to some within fits = record { in_room = omega (arith, data_more h.params n to some within, fits.in_room); few = λ wave. omega (arith, fits.few wave, within) }

-- ---- more numbers given

module _ (file : List ℕ) (e : Editing) (of : IsEncoded file e) (xs : List ℤ) (may : MayEncode xs e.shape e.write_place) where
  abbrev s : Shape
  s = e.shape

  abbrev form : AreBlocks e.shape.params
  form = of.given.form

  abbrev ys : List ℤ
  ys = e.given ++ xs

  abbrev pub numbers_then : List ℤ
  numbers_then = whole e.shape.params (e.given ++ xs)

  abbrev to : ℕ
  to = end_written xs e.shape e.write_place

  abbrev pub count_then : ℕ
  count_then = length (whole e.shape.params (e.given ++ xs)) / e.shape.params.channels

  all_given : length ys ≡ to * s.params.channels
  all_given =
      let k = length xs / s.params.channels in
      let parts : s.params.channels * k + 0 ≡ length xs = sym (ap (λ (r : ℕ). s.params.channels * k + r) may.frames.whole) ∙ div-add-mod (length xs) s.params.channels in
      let turn : s.params.channels * k ≡ k * s.params.channels = omega arith in
      let sum : (e.write_place + k) * s.params.channels ≡ e.write_place * s.params.channels + k * s.params.channels = omega arith in
      omega (arith, length-append e.given xs, of.given.whole, parts, turn, sum)

  pub counted_whole : count_then ≡ whole_frames s.params to
  counted_whole = frames_whole s.params form ys ∙ ap (whole_frames s.params) (frames_of s.params form ys to all_given)

  before_whole : s.frames ≡ whole_frames s.params e.write_place
  before_whole = of.given.frames ∙ frames_whole s.params form e.given ∙ ap (whole_frames s.params) (frames_of s.params form e.given e.write_place of.given.whole)

  pub no_fewer : s.frames ≤ count_then
  no_fewer =
      let within : s.frames ≤ to = omega (arith, before_whole, whole_least s form e.write_place) in
      omega (arith, counted_whole, whole_reaches s (e.write_place / block_frames s.params.codec) to form.some_frames before_whole within)

  fits_then : HasPlaceFor s to
  fits_then = elim (cases_lt e.write_place to) [
    | inl lt ↦ record { blocks = of.place.blocks; free = of.place.free; fits = may.fits lt }
    | inr le ↦ let same : e.write_place ≡ to = omega (arith, le) in subst (HasPlaceFor s) same of.place
  ]

  pub room_whole : HasRoomToEncode s count_then
  room_whole = fewer_fit s count_then to form.some_frames (omega (arith, counted_whole, whole_least s form to)) fits_then.fits

  pub even_whole : length numbers_then % s.params.channels ≡ 0
  even_whole = whole_even s.params form ys

  given_keeps : KeepsFile file (encoded_to xs e)
  given_keeps =
      let put = put_keeps file e of numbers_then even_whole count_then refl no_fewer room_whole e.automatic e.automatic (λ on. on) in
      keeps_beside file (put_as file e of numbers_then even_whole count_then refl no_fewer room_whole e.automatic e.automatic) put e.place to true ys (omega (arith, of.keeps.holds.placed, no_fewer, frames_where e.automatic (record s { frames = count_then }) count_then))

  pub given_then : IsEncoded file (encoded_to xs e)
  given_then =
      let rule : KeepsRule (record s { frames = count_then }) =
      more_frames s count_then of.keeps.rule (is_known file e of.keeps) (put_room file e of numbers_then even_whole count_then refl no_fewer room_whole).1 (inr room_whole.in_room) in
      record {
        keeps = given_keeps;
        given = holds_where e.automatic ys _ (record s { frames = count_then }) count_then to refl (record {
          form = form;
          range = All-append Is16Bit e.given xs of.given.range (are_16_bits s.params.codec xs of.place.blocks may.frames.in_range);
          whole = all_given;
          frames = refl;
          held = held_where s form e.bytes ys e.automatic rule;
        });
        place = place_then e.automatic s count_then to fits_then;
      }

pub encoded_stays : EncodedStays
encoded_stays file e xs of may = given_then file e of xs may

-- ---- sealed

pub automatic_stays : AutomaticStays
automatic_stays file e on of = record {
  keeps = automatic_keeps file e of.keeps on;
  given = holds_sealed e.given e.bytes e.shape e.write_place of.keeps.rule of.given;
  place = record { blocks = of.place.blocks; free = of.place.free; fits = record { in_room = of.place.fits.in_room; few = of.place.fits.few } };
}

pub state_stays : (t : Bool) (file : List ℕ) (e : Editing) (on : Bool) → IsStateOf t file e → IsStateOf t file (automatic_to on e)
state_stays true file e on of = automatic_stays file e on of
state_stays false file e on of = automatic_edited file e of on

-- ---- closed

module _ (file : List ℕ) (e : Editing) (of : IsEncoded file e) where
  pub even_given : length e.given % e.shape.params.channels ≡ 0
  even_given = ap (λ (m : ℕ). m % e.shape.params.channels) of.given.whole ∙ mul-mod_left e.write_place e.shape.params.channels

  pub all_frames : e.write_place ≡ length e.given / e.shape.params.channels
  all_frames = sym (frames_of e.shape.params of.given.form e.given e.write_place of.given.whole)

  pub whole_within : e.shape.frames ≤ length e.given / e.shape.params.channels
  whole_within =
      let h = e.shape in
      omega (arith, of.given.frames, frames_whole h.params of.given.form e.given, whole_least h of.given.form (length e.given / h.params.channels))

  pub room_given : HasRoomToEncode e.shape (length e.given / e.shape.params.channels)
  room_given = subst (HasRoomToEncode e.shape) all_frames of.place.fits

  pub whole_keeps : KeepsFile file (encoded_whole e)
  whole_keeps = put_keeps file e of e.given even_given (length e.given / e.shape.params.channels) refl whole_within room_given true e.automatic (λ on. refl)

  pub whole_said : FileSays (encoded_whole e).bytes (encoded_whole e).shape
  whole_said = put_says file e of e.given even_given (length e.given / e.shape.params.channels) refl whole_within room_given

pub encoded_frames : EncodedFrames
encoded_frames file e of = frames_kept file e of

pub encoded_sound : EncodedSound
encoded_sound file e of = sound_said file (encoded_whole e) (whole_keeps file e of) (whole_said file e of)
