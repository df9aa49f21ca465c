-- Frames that are written to a file that is being made stand behind those that it holds.
use Rattle.std.proofs.Common.{◌≡◌, ◌∙◌, ap, sym, subst, refl, inl, inr, ℕ, ◌+◌, ◌*◌, ◌/◌, ◌%◌, ◌<◌, ◌≤◌, ℤ, Bool, true, false, cond, List, [], ◌++◌, length, arith}
use Rattle.std.specs.Prelude.{is_none}
use Rattle.std.proofs.lemmas.Bool.{cases_lt, le-ltb, lt-ltb}
use Rattle.std.proofs.lemmas.List.{nil_from_length}
use Rattle.std.proofs.lemmas.List.Elements.{All-append}
use Rattle.snd_chunks.specs.Written.{NewChunk}
use Rattle.snd_disk.specs.Bytes.{over}
use Rattle.snd_container.proofs.Public.{closes}
use Rattle.snd_container.specs.Fixed.{InRange}
use Rattle.snd_container.specs.Sound.{fixed_of}
use Rattle.snd_container.specs.Values.{closed_end, closing}
use Rattle.snd_layout.specs.Blocks.{is_adpcm}
use Rattle.snd_layout.specs.Params.{Parameters, data_bytes}
use Rattle.snd_layout.specs.Shape.{Shape, end}
use Rattle.snd_layout.specs.declared.codec.Codec.{Codec}
use Rattle.snd_layout.specs.declared.kind.Kind.{Kind}
use Rattle.snd_patch.specs.Sealed.{over_closing}
use Rattle.snd_edits.specs.Editing.{Editing}
use Rattle.snd_edits.specs.Edits.{closed_behind, coded, count_written, over_data, written_bytes, written_shape, written_to}
use Rattle.snd_edits.specs.Laws.{writes}
use Rattle.snd_edits.specs.Reading.{FitCodec}
use Rattle.snd_edits.specs.Relaid.{head_with, shape_with}
use Rattle.snd_edits.specs.WriteCalls.{MayWrite}
use Rattle.snd_edits.proofs.Public.{ends_before, leads_to_edited, whole_frames, written_end}
use Rattle.snd_output.specs.Laws.{WrittenIsMaking}
use Rattle.snd_output.specs.Made.{HoldsNumbers, IsMaking, closing_so_far, frame_count}
use Rattle.snd_output.proofs.Bytes.{coded_data, coded_joined, coded_none, same_closing, so_far_few}
use Rattle.snd_output.proofs.Finished.{channels, ends, linear, making_params}
use Rattle.snd_output.proofs.Lists.{nothing_put, put_and_closed}
use Rattle.snd_output.proofs.Numbers.{counts_joined}

pub fit_joined : (codec : Codec) (xs ys : List ℤ) → FitCodec codec xs → FitCodec codec ys → FitCodec codec (xs ++ ys)
fit_joined codec xs ys first second = λ form is. All-append (InRange form) xs ys (first form is) (second form is)

module _ (kind : Kind) (p : Parameters) (pieces : List NewChunk) (xs ys : List ℤ) (e : Editing) (m : IsMaking kind p pieces xs e) (plain : is_adpcm p.codec ≡ false) (may : MayWrite ys e.shape e.write_place) where
  abbrev head : List ℕ
  head = head_with kind p pieces

  abbrev says : Shape
  says = shape_with kind p pieces

  -- the frames that there are, and those that are written
  abbrev n : ℕ
  n = frame_count p xs

  abbrev k : ℕ
  k = length ys / p.channels

  abbrev h : Shape
  h = record says { frames = n }

  abbrev body : List ℕ
  body = coded p xs

  abbrev more : List ℕ
  more = coded p ys

  abbrev rest : List ℕ
  rest = closing_so_far says n

  same_params : e.shape.params ≡ p
  same_params = making_params kind p pieces xs e m

  some : 1 ≤ p.channels
  some = channels kind p pieces xs e m plain

  ys_whole : length ys ≡ p.channels * k
  ys_whole = whole_frames (length ys) p.channels k some (subst (λ q. length ys % q.channels ≡ 0) same_params may.frames.whole) refl

  joins : (frame_count p (xs ++ ys) ≡ n + k) × (length (xs ++ ys) % p.channels ≡ 0)
  joins = counts_joined p.channels xs ys some m.whole (subst (λ q. length ys % q.channels ≡ 0) same_params may.frames.whole)

  pub count : frame_count p (xs ++ ys) ≡ n + k
  count = joins.0

  holds : HoldsNumbers kind p pieces xs e
  holds = m.numbers plain

  -- ---- the bytes

  data_end : end h n ≡ length (head ++ body)
  data_end = sym (ends kind p pieces xs e m plain)

  says_linear : is_none (fixed_of says.params.codec) ≡ false
  says_linear = ap (λ (q : Parameters). is_none (fixed_of q.codec)) m.params ∙ linear kind p pieces xs e m plain

  next_end : end h (n + k) ≡ end h n + length more
  next_end =
      let size : length more ≡ data_bytes p k = coded_data p ys k (linear kind p pieces xs e m plain) ys_whole in
      let shown : length (coded says.params ys) ≡ length more = ap (λ (q : Parameters). length (coded q ys)) m.params in
      let sum : end h n + length (coded says.params ys) ≡ end h (n + k) = written_end h ys n k says_linear (subst (λ (q : Parameters). length ys ≡ q.channels * k) (sym m.params) ys_whole) in
      omega (arith, sum, shown)

  -- what closed the data is no longer than the new frames and what closes them
  few : length rest ≤ length more + length (closing h (n + k))
  few =
      let before : end h n ≤ end h (n + k) = ends_before h n (n + k) says_linear (omega arith) in
      let order : closed_end h n ≤ closed_end h (n + k) = (closes h.kind h).ordered n (n + k) (omega (arith, before)) in
      let same : length (closing h n) ≡ length (closing says n) = ap length (same_closing says n n) in
      omega (arith, so_far_few says n, order, next_end, same)

  grown : 0 < k → closed_behind (over_data (head ++ body ++ rest) h n ys) h (n + k) ≡ head ++ coded p (xs ++ ys) ++ closing_so_far says (n + k)
  grown some_more =
      let b = head ++ body ++ rest in
      let written = over_data b h n ys in
      ap (λ (t : Bool). cond t (over_closing written h (n + k)) written) (lt-ltb n (n + k) (omega (arith, some_more)))
      ∙ ap (λ (q : Parameters). over_closing (over b (end h n) (coded q ys)) h (n + k)) m.params
      ∙ put_and_closed head body rest more (closing h (n + k)) (end h n) (end h (n + k)) data_end next_end few
      ∙ ap (λ (l : List ℕ). head ++ l ++ closing h (n + k)) (sym (coded_joined p xs ys))
      ∙ ap (λ (l : List ℕ). head ++ coded p (xs ++ ys) ++ l) (same_closing says n (n + k))
      ∙ ap (λ (t : Bool). head ++ coded p (xs ++ ys) ++ cond t (closing says (n + k)) []) (sym (lt-ltb 0 (n + k) (omega (arith, some_more))))

  same : k ≡ 0 → closed_behind (over_data (head ++ body ++ rest) h n ys) h (n + k) ≡ head ++ coded p (xs ++ ys) ++ closing_so_far says (n + k)
  same none =
      let b = head ++ body ++ rest in
      let written = over_data b h n ys in
      let empty : ys ≡ [] = nil_from_length ys (ys_whole ∙ ap (λ (i : ℕ). p.channels * i) none ∙ (let e : p.channels * 0 ≡ 0 = omega arith in e)) in
      let nothing : more ≡ [] = ap (coded p) empty ∙ coded_none p in
      ap (λ (t : Bool). cond t (over_closing written h (n + k)) written) (le-ltb n (n + k) (omega (arith, none)))
      ∙ ap (λ (q : Parameters). over b (end h n) (coded q ys)) m.params
      ∙ nothing_put head body rest more (end h n) data_end nothing
      ∙ ap (λ (l : List ℕ). head ++ l ++ rest) (sym (coded_joined p xs ys))
      ∙ ap (λ (i : ℕ). head ++ coded p (xs ++ ys) ++ closing_so_far says i) (let e : n ≡ n + k = omega (arith, none) in e)

  pub longer_bytes : closed_behind (over_data (head ++ body ++ rest) h n ys) h (n + k) ≡ head ++ coded p (xs ++ ys) ++ closing_so_far says (n + k)
  longer_bytes = elim (cases_lt 0 k) [
    | inl lt ↦ grown lt
    | inr le ↦ same (omega (arith, le))
  ]

  -- ---- the state

  count_is : count_written h n k ≡ n + k
  count_is = omega arith

  frames_are : length ys / e.shape.params.channels ≡ k
  frames_are = ap (λ (q : Parameters). length ys / q.channels) same_params

  bytes_by : (automatic : Bool) (b : List ℕ) (s : Shape) (w i : ℕ) → automatic ≡ false → b ≡ head ++ body ++ rest → s ≡ h → w ≡ n → i ≡ k
      → written_bytes automatic b s w (count_written s w i) ys ≡ closed_behind (over_data (head ++ body ++ rest) h n ys) h (n + k)
  bytes_by automatic b s w i by_hand bytes shape place frames =
      ap (λ (t : Bool). written_bytes t b s w (count_written s w i) ys) by_hand
      ∙ ap (λ (l : List ℕ). written_bytes false l s w (count_written s w i) ys) bytes
      ∙ ap (λ (u : Shape). written_bytes false (head ++ body ++ rest) u w (count_written u w i) ys) shape
      ∙ ap (λ (v : ℕ). written_bytes false (head ++ body ++ rest) h v (count_written h v i) ys) place
      ∙ ap (λ (v : ℕ). written_bytes false (head ++ body ++ rest) h n (count_written h n v) ys) frames
      ∙ ap (λ (v : ℕ). written_bytes false (head ++ body ++ rest) h n v ys) count_is

  shape_by : (automatic : Bool) (s : Shape) (w i : ℕ) → automatic ≡ false → s ≡ h → w ≡ n → i ≡ k → written_shape automatic s (count_written s w i) ≡ record says { frames = n + k }
  shape_by automatic s w i by_hand shape place frames =
      ap (λ (t : Bool). written_shape t s (count_written s w i)) by_hand
      ∙ ap (λ (u : Shape). record u { frames = count_written u w i }) shape
      ∙ ap (λ (v : ℕ). record says { frames = count_written h v i }) place
      ∙ ap (λ (v : ℕ). record says { frames = count_written h n v }) frames
      ∙ ap (λ (v : ℕ). record says { frames = v }) count_is

  longer_holds : HoldsNumbers kind p pieces (xs ++ ys) (written_to ys e)
  longer_holds = record {
    edited = leads_to_edited head e (written_to ys e) holds.edited (writes ys may);
    shape = shape_by e.automatic e.shape e.write_place (length ys / e.shape.params.channels) m.automatic holds.shape m.write_place frames_are ∙ ap (λ (v : ℕ). record says { frames = v }) (sym count);
    bytes = bytes_by e.automatic e.bytes e.shape e.write_place (length ys / e.shape.params.channels) m.automatic holds.bytes holds.shape m.write_place frames_are
        ∙ longer_bytes ∙ ap (λ (v : ℕ). head ++ coded p (xs ++ ys) ++ closing_so_far says v) (sym count);
  }

  pub longer_is_making : IsMaking kind p pieces (xs ++ ys) (written_to ys e)
  longer_is_making = record {
    kind_is = m.kind_is;
    kept = m.kept;
    params = m.params;
    start = m.start;
    free = m.free;
    whole = joins.1;
    in_range = fit_joined p.codec xs ys m.in_range (subst (λ (q : Parameters). FitCodec q.codec ys) same_params may.frames.in_range);
    numbers = λ same. longer_holds;
    blocks = λ is. absurd (let no : true ≡ false = sym is ∙ plain in cc);
    write_place = (let e' : e.write_place + length ys / e.shape.params.channels ≡ n + k = omega (arith, m.write_place, frames_are) in e') ∙ sym count;
    automatic = m.automatic;
  }

pub written_is_making : WrittenIsMaking
written_is_making kind p pieces xs ys e m plain may = longer_is_making kind p pieces xs ys e m plain may
