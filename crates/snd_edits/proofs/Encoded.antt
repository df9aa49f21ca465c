-- The editing state of a file of ADPCM that is made.
use Rattle.std.proofs.Common.{◌≡◌, refl, inl, ℕ, ◌<◌, List, length, get_or, ◌∙◌, ap, sym, subst, suc, ℤ, ◌+◌, ◌*◌, ◌/◌, ◌%◌, ◌^◌, ◌≤◌, Bool, true, false, inr, [], Option, None, Some, drop, arith, ◌++◌}
use Rattle.std.proofs.lemmas.Bool.{cond_both, cases_Bool, cases_lt}
use Rattle.std.specs.Prelude.{nat_lt, is_none, is_some}
use Rattle.snd_container.specs.Values.{closed_end, closing}
use Rattle.snd_layout.specs.Shape.{Shape, end, KeepsRule, room}
use Rattle.snd_patch.proofs.Public.{over_beside, sealed_keeps}
use Rattle.snd_patch.specs.Images.{AllLieApart}
use Rattle.snd_patch.specs.Sealed.{closed, over_closing, SameBesideFields, counted, sealed}
use Rattle.std.specs.Global.{Box}
use Rattle.std.proofs.Math.Nat.{mul-div_left, mul-le-mul_right, mul-mod_left, zero-div}
use Rattle.std.proofs.lemmas.List.{length-drop, nil_from_length, take_all}
use Rattle.snd_disk.proofs.Public.{length-over}
use Rattle.snd_disk.specs.Runs.{HasAt}
use Rattle.snd_blocks.specs.Calls.{AreBlocks, HasForm}
use Rattle.snd_blocks.specs.Sound.{frames_in}
use Rattle.snd_blocks.proofs.Public.{frames_are_in_blocks}
use Rattle.snd_ima_adpcm.specs.Frames.{Is16Bit}
use Rattle.std.proofs.lemmas.List.Elements.{All-nil}
use Rattle.snd_block_writer.specs.Coded.{block_numbers, coded, kept, whole, whole_blocks}
use Rattle.snd_block_writer.specs.Writing.{StandsFor, Writing, more_bytes, padding}
use Rattle.snd_block_writer.proofs.Public.{all_are_kept, coded_more, coded_padded, kept_is_read, length-whole, none_coded, over_has, padded, some_channel, whole_frames_are_kept}
use Rattle.snd_layout.specs.Blocks.{block_align, block_frames, is_adpcm}
use Rattle.snd_layout.specs.Params.{AreParams, Parameters, data_bytes}
use Rattle.snd_container.specs.Sound.{fixed_of}
use Rattle.snd_patch.specs.Steps.{MayCount}
use Rattle.snd_layout.specs.declared.codec.Codec.{Codec}
use Rattle.snd_layout.specs.declared.codec.Codec.TheVariants.{Ima, Ms}
use Rattle.snd_edits.specs.Edits.{sealed_where, written_shape}
use Rattle.snd_edits.specs.Encoding.{counting, over_blocks, whole_frames}
use Rattle.snd_edits.specs.Pacing.{HasPlaceFor, HoldsBlocks, IsGiven, KeepsPace, PacesIn}
use Rattle.snd_edits.proofs.EncodedPlaces.{blocks_of, may_encode, whole_data}
use Rattle.snd_edits.proofs.Overwritten.{data_beside}
use Rattle.snd_edits.proofs.Rooms.{may_count, not_adpcm}
use Rattle.snd_edits.proofs.SealedFrames.{sealed_decoded}

pub in_blocks : (p : Parameters) → AreBlocks p → is_adpcm p.codec ≡ true
in_blocks p form = by p.channels p.codec form.form
  where
    by : (channels : ℕ) (codec : Codec) → HasForm channels codec → is_adpcm codec ≡ true
    by channels (Ima align per_block) is = refl
    by channels (Ms align per_block) is = refl
    by channels _ is = absurd is

-- sealing leaves what stands among the data
pub held_sealed : (b : List ℕ) (h : Shape) (v : List ℕ) → KeepsRule h → length v ≤ data_bytes h.params h.frames → HasAt b h.start v → HasAt (sealed b h h.frames) h.start v
held_sealed b h v rule within has j lt =
    let keeps : SameBesideFields h h.frames b (sealed b h h.frames) = sealed_keeps b h h.frames rule in
    keeps (h.start + j) (omega (arith, lt, within)) (data_beside h (h.start + j) rule (omega arith)) ∙ has j lt

module _ (p : Parameters) (form : AreBlocks p) where
  channels : 0 < p.channels
  channels = let h = some_channel p.channels form.channels in omega (arith, h)

  -- the frames of numbers of whole frames
  pub frames_of : (ys : List ℤ) (place : ℕ) → length ys ≡ place * p.channels → length ys / p.channels ≡ place
  frames_of ys place all = ap (λ (n : ℕ). n / p.channels) all ∙ mul-div_left place channels

  pub frames_whole : (ys : List ℤ) → length (whole p ys) / p.channels ≡ whole_frames p (length ys / p.channels)
  frames_whole ys = sym (all_are_kept p (whole p ys) form) ∙ whole_frames_are_kept p ys form

  -- whole blocks are whole frames
  pub whole_even : (ys : List ℤ) → length (whole p ys) % p.channels ≡ 0
  whole_even ys =
      let product : whole_blocks p ys * block_numbers p ≡ whole_blocks p ys * block_frames p.codec * p.channels = omega arith in
      ap (λ (n : ℕ). n % p.channels) ((length-whole p form ys).0 ∙ product) ∙ mul-mod_left (whole_blocks p ys * block_frames p.codec) p.channels

  -- their bytes are those of their data
  pub whole_bytes : (ys : List ℤ) → length (coded p (whole p ys)) ≡ data_bytes p (length (whole p ys) / p.channels)
  whole_bytes ys =
      let product : whole_blocks p ys * block_numbers p ≡ whole_blocks p ys * block_frames p.codec * p.channels = omega arith in
      let frames : length (whole p ys) / p.channels ≡ whole_blocks p ys * block_frames p.codec =
      ap (λ (n : ℕ). n / p.channels) ((length-whole p form ys).0 ∙ product) ∙ mul-div_left (whole_blocks p ys * block_frames p.codec) channels in
      (length-whole p form ys).1 ∙ sym (whole_data p (whole_blocks p ys) form.some_frames) ∙ ap (data_bytes p) (sym frames)

  -- where no numbers wait, all stand in whole blocks
  pub whole_all : (ys : List ℤ) → length (drop (whole_blocks p ys * block_numbers p) ys) ≡ 0 → whole p ys ≡ ys
  whole_all ys none = take_all (whole_blocks p ys * block_numbers p) ys (omega (arith, none, length-drop (whole_blocks p ys * block_numbers p) ys))

module _ (h : Shape) (form : AreBlocks h.params) (b : List ℕ) (ys : List ℤ) where
  abbrev zs : List ℤ
  zs = whole h.params ys

  abbrev g : Shape
  g = counting h (whole h.params ys)

  abbrev l : List ℕ
  l = over_blocks b h (whole h.params ys)

  -- a reader finds them
  pub blocks_read : kept h.params (whole h.params ys) ≡ frames_in (over_blocks b h (whole h.params ys)) (counting h (whole h.params ys))
  blocks_read =
      sym (frames_are_in_blocks (over_blocks b h (whole h.params ys)) (counting h (whole h.params ys)) (in_blocks h.params form)
      ∙ kept_is_read b (counting h (whole h.params ys)) (whole h.params ys) form (whole_even h.params form ys) refl)

  blocks_held : end (counting h (whole h.params ys)) (length (whole h.params ys) / h.params.channels) ≤ length (over_blocks b h (whole h.params ys))
  blocks_held = omega (arith, length-over b h.start (coded h.params (whole h.params ys)), whole_bytes h.params form ys)

  -- also once they are sealed, where that is automatic
  pub blocks_read_where : (automatic : Bool) (n : ℕ) (x : List ℕ) → KeepsRule (counting h (whole h.params ys)) → n ≡ length (whole h.params ys) / h.params.channels
      → x ≡ sealed_where automatic (over_blocks b h (whole h.params ys)) (counting h (whole h.params ys)) (length (whole h.params ys) / h.params.channels) → end h n ≤ length x
      → kept h.params (whole h.params ys) ≡ frames_in x (written_shape automatic (counting h (whole h.params ys)) (length (whole h.params ys) / h.params.channels))
  blocks_read_where false n x rule is x_is long = blocks_read ∙ ap (λ (m : List ℕ). frames_in m (counting h (whole h.params ys))) (sym x_is)
  blocks_read_where true n x rule is x_is long =
      let reach : end (counting h (whole h.params ys)) (length (whole h.params ys) / h.params.channels)
      ≤ length (sealed (over_blocks b h (whole h.params ys)) (counting h (whole h.params ys)) (length (whole h.params ys) / h.params.channels)) =
      omega (arith, ap (end h) is, long, ap length x_is) in
      blocks_read
      ∙ sealed_decoded (over_blocks b h (whole h.params ys)) (counting h (whole h.params ys)) rule blocks_held reach
      ∙ ap (λ (m : List ℕ). frames_in m (counted (counting h (whole h.params ys)) (length (whole h.params ys) / h.params.channels))) (sym x_is)

  pub held_where : (automatic : Bool) → KeepsRule (counting h (whole h.params ys))
      → HasAt (sealed_where automatic (over_blocks b h (whole h.params ys)) (counting h (whole h.params ys)) (length (whole h.params ys) / h.params.channels)) h.start (coded h.params (whole h.params ys))
  held_where false rule = over_has b h.start (coded h.params (whole h.params ys))
  held_where true rule =
      held_sealed (over_blocks b h (whole h.params ys)) (counting h (whole h.params ys)) (coded h.params (whole h.params ys)) rule (omega (arith, whole_bytes h.params form ys))
      (over_has b h.start (coded h.params (whole h.params ys)))

pub frames_where : (automatic : Bool) (h : Shape) (n : ℕ) → (written_shape automatic h n).frames ≡ n
frames_where true h n = refl
frames_where false h n = refl

-- ---- what a writer was given

-- nothing yet
pub given_none : (writer : Option (Box Writing)) (b : List ℕ) (h : Shape) → AreBlocks h.params → h.frames ≡ 0 → ((w : Box Writing) → writer ≡ Some w → StandsFor w.value h.params [])
    → IsGiven writer [] b h 0
given_none writer b h form empty stands = record {
  holds = record {
    form = form;
    range = All-nil Is16Bit;
    whole = omega arith;
    frames = empty ∙ sym (frames_whole h.params form [] ∙ ap (whole_frames h.params) (zero-div h.params.channels) ∙ none_of_none);
    held = λ j lt. absurd (omega (arith, lt, ap length (none_coded h.params form)));
  };
  stands = stands;
}
  where
    none_of_none : whole_frames h.params 0 ≡ 0
    none_of_none = ap (λ (n : ℕ). n * block_frames h.params.codec) (zero-div (block_frames h.params.codec)) ∙ (let e : 0 * block_frames h.params.codec ≡ 0 = omega arith in e)

-- sealing leaves it
pub holds_sealed : (ys : List ℤ) (b : List ℕ) (h : Shape) (place : ℕ) → KeepsRule h → HoldsBlocks ys b h place → HoldsBlocks ys (sealed b h h.frames) (counted h h.frames) place
holds_sealed ys b h place rule was = record {
  form = was.form;
  range = was.range;
  whole = was.whole;
  frames = was.frames;
  held = held_sealed b h (coded h.params (whole h.params ys)) rule (omega (arith, whole_bytes h.params was.form ys, ap (data_bytes h.params) was.frames)) was.held;
}

pub given_sealed : (writer : Option (Box Writing)) (ys : List ℤ) (b : List ℕ) (h : Shape) (place : ℕ) → KeepsRule h → IsGiven writer ys b h place
    → IsGiven writer ys (sealed b h h.frames) (counted h h.frames) place
given_sealed writer ys b h place rule was = record {
  holds = holds_sealed ys b h place rule was.holds;
  stands = was.stands;
}

-- a head laid anew before the first frame
pub nothing_given : (writer : Option (Box Writing)) (ys : List ℤ) (b : List ℕ) (h : Shape) (place : ℕ) → IsGiven writer ys b h place → place ≡ 0 → ys ≡ []
nothing_given writer ys b h place was first =
    nil_from_length ys (was.holds.whole ∙ ap (λ (n : ℕ). n * h.params.channels) first ∙ (let e : 0 * h.params.channels ≡ 0 = omega arith in e))

pub given_anew : (writer : Option (Box Writing)) (ys : List ℤ) (b x : List ℕ) (h h' : Shape) (place : ℕ) → IsGiven writer ys b h place → place ≡ 0 → h'.params ≡ h.params → h'.frames ≡ 0
    → IsGiven writer ys x h' place
given_anew writer ys b x h h' place was first params empty =
    let none = nothing_given writer ys b h place was first in
    let form : AreBlocks h'.params = subst AreBlocks (sym params) was.holds.form in
    let anew = given_none writer x h' form empty (λ w is. subst (λ (p : Parameters). StandsFor w.value p []) (sym params) (subst (StandsFor w.value h.params) none (was.stands w is))) in
    subst (λ (l : List ℤ). IsGiven writer l x h' place) (sym none) (subst (IsGiven writer [] x h') (sym first) anew)

pub place_anew : (h h' : Shape) (place : ℕ) → 1 ≤ block_frames h.params.codec → HasPlaceFor h place → h'.params ≡ h.params → place ≡ 0 → h'.trailing ≡ false → HasPlaceFor h' place
place_anew h h' place some was params first free =
    let none : data_bytes h'.params 0 ≡ 0 =
    ap (λ (p : Parameters). data_bytes p 0) params ∙ ap (data_bytes h.params) (let e : 0 ≡ 0 * block_frames h.params.codec = omega arith in e) ∙ whole_data h.params 0 some
    ∙ (let e : 0 * block_align h.params.channels h.params.codec ≡ 0 = omega arith in e) in
    subst (HasPlaceFor h') (sym first) (record {
      blocks = ap (λ (p : Parameters). is_adpcm p.codec) params ∙ was.blocks;
      free = free;
      fits = record { in_room = omega (arith, none); few = λ wave. omega arith };
    })

pub pace_anew : (h h' : Shape) (place : ℕ) (writer : Option (Box Writing)) → PacesIn h place writer → h'.params ≡ h.params → h'.frames ≡ h.frames → PacesIn h' place writer
pace_anew h h' place writer was params frames = λ w is.
    let pace = was w is in
    record {
      numbers = pace.numbers ∙ sym (ap block_numbers params);
      size = pace.size ∙ sym (ap (λ (p : Parameters). block_align p.channels p.codec) params);
      blocks = frames ∙ pace.blocks ∙ ap (λ (p : Parameters). w.value.blocks * block_frames p.codec) (sym params);
      waiting = ap (λ (p : Parameters). place * p.channels) params ∙ pace.waiting ∙ ap (λ (p : Parameters). h.frames * p.channels + length w.value.waiting) (sym params)
          ∙ ap (λ (n : ℕ). n * h'.params.channels + length w.value.waiting) (sym frames);
    }

-- ---- what is sealed

pub some_writer : (encodes : Bool) (writer : Option (Box Writing)) → is_some writer ≡ encodes → encodes ≡ true → (w : Box Writing) × (writer ≡ Some w)
some_writer encodes None is so = absurd (let no : false ≡ true = is ∙ so in cc)
some_writer encodes (Some w) is so = (w, refl)

-- the frames on the disk are no more than those that were given
pub counted_within : (h : Shape) (place : ℕ) (w : Writing) → 1 ≤ h.params.channels → KeepsPace h place w → h.frames ≤ place
counted_within h place w some pace = elim (cases_lt place h.frames) [
  | inl more ↦ absurd (let e : suc place * h.params.channels ≤ h.frames * h.params.channels = mul-le-mul_right h.params.channels more in
      let sum : suc place * h.params.channels ≡ place * h.params.channels + h.params.channels = omega arith in omega (arith, e, sum, pace.waiting, some))
  | inr le ↦ le
]

-- a file that is open to be written may be sealed
pub sealed_may : (encodes : Bool) (h : Shape) (place : ℕ) (writer : Option (Box Writing)) (size : ℕ) → KeepsRule h → AreParams h.params → h.unknown_length ≡ false → h.start + room h + 8 ≤ 2 ^ 63
    → end h h.frames ≤ size → (encodes ≡ false → is_none (fixed_of h.params.codec) ≡ false) → is_some writer ≡ encodes → (encodes ≡ true → HasPlaceFor h place) → (encodes ≡ true → PacesIn h place writer)
    → MayCount h h.frames size
sealed_may encodes h place writer size rule good known roomy there linear is fits paces = elim (cases_Bool encodes) [
  | inl so ↦
      let w = some_writer encodes writer is so in
      let form = blocks_of h rule (fits so).blocks good in
      let may = may_encode h place h.frames form.some_frames (fits so) roomy (counted_within h place w.0.value good.some_channel (paces so w.0 w.1)) in
      record { room = may.0; on_disk = may.1; there = there }
  | inr not ↦
      let may = may_count h h.frames rule (linear not) known roomy (inl refl) in
      record { room = may.0; on_disk = may.1; there = there }
]

-- where samples stand in blocks, none of them has a fixed number of bytes
pub no_form : (p : Parameters) → is_adpcm p.codec ≡ true → is_none (fixed_of p.codec) ≡ false → ⊥
no_form p blocks linear = absurd (let no = not_adpcm p.codec linear in cc)

-- the fields are those of the layout, however many frames it counts
pub still_apart : (h : Shape) (n : ℕ) → AllLieApart h → AllLieApart (record h { frames = n })
still_apart h n apart = record { inner = record { outer = apart.inner.outer; side = apart.inner.side }; others = apart.others }

-- what closes the data stands behind these
pub closed_before : (b : List ℕ) (h : Shape) (n i : ℕ) → i < end h n → get_or (closed b h n) i 0 ≡ get_or b i 0
closed_before b h n i lt =
    cond_both (nat_lt (length b) (closed_end h n)) (over_closing b h n) b (λ l. get_or l i 0 ≡ get_or b i 0) (λ is. over_beside b (end h n) (closing h n) i (inl lt)) (λ other. refl)

-- the blocks of all of these are those that are there, and the one of the numbers that wait
pub last_given : (p : Parameters) (form : AreBlocks p) (w : Writing) (ys : List ℤ) → StandsFor w p ys → coded p ys ≡ coded p (whole p ys) ++ more_bytes w (padding w)
last_given p form w ys stands =
    sym (coded_padded p form ys) ∙ ap (λ (l : List ℤ). coded p (whole p l)) (sym (padded p form w ys stands)) ∙ sym (coded_more p form w (padding w) ys stands)
