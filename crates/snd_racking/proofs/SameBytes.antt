-- A file that is given frames as the bytes of their samples: it holds what was written of the numbers.
use Rattle.std.proofs.Common.{◌≡◌, ◌∙◌, ap, sym, subst, inl, inr, ℕ, ◌+◌, ◌*◌, ◌/◌, ◌%◌, ◌<◌, ◌≤◌, ℤ, true, false, List, ◌++◌, All, Option, Some, length, arith}
use Rattle.std.proofs.Math.Nat.{mul-div_cancel, mul-div_cancel_left}
use Rattle.std.specs.Prelude.{is_none}
use Rattle.std.proofs.lemmas.Bool.{cases_Bool}
use Rattle.std.proofs.lemmas.Nat.{div-add-mod'}
use Rattle.std.proofs.lemmas.List.{length-append}
use Rattle.std.proofs.lemmas.List.Elements.{All-append}
use Rattle.snd_chunks.specs.Written.{NewChunk}
use Rattle.snd_container.proofs.Public.{byte_count_pos, count_of_bytes}
use Rattle.snd_container.specs.Fixed.{InRange, byte_count}
use Rattle.snd_container.specs.Sound.{fixed_of}
use Rattle.snd_container.specs.declared.fixed.Fixed.{Fixed}
use Rattle.snd_disk.specs.State.{State}
use Rattle.snd_disk.specs.declared.disk.Disk.{Ghosts}
use Rattle.snd_fields.specs.Laws.{IsByte}
use Rattle.snd_layout.specs.Blocks.{block_align, is_adpcm}
use Rattle.snd_layout.specs.Params.{Parameters}
use Rattle.snd_layout.specs.Shape.{Shape}
use Rattle.snd_layout.specs.declared.codec.Codec.{Codec}
use Rattle.snd_layout.specs.declared.kind.Kind.{Kind}
use Rattle.snd_edits.specs.Editing.{Editing}
use Rattle.snd_edits.proofs.Public.{bytes_given, count_of_given}
use Rattle.snd_edits.specs.Bytes.{AreWhole, sources_in}
use Rattle.snd_edits.specs.Edits.{coded, coded_as}
use Rattle.snd_edits.specs.Known.{Known}
use Rattle.snd_edits.specs.declared.mode.Mode.{Ghosts as ModeGhosts}
use Rattle.snd_edits.specs.Reading.{FitCodec}
use Rattle.snd_edits.specs.Relaid.{head_with, shape_with}
use Rattle.snd_file.specs.Handle.{codec_of}
use Rattle.snd_file.specs.declared.handle.File.{File}
use Rattle.snd_output.specs.Appended.{Gains, HasRoom, IsAtEnd, MayPass, coded_in}
use Rattle.snd_output.specs.Made.{IsMaking, closing_so_far, frame_count}
use Rattle.snd_output.proofs.Public.{bytes_of_samples, coded_are_bytes, coded_joined, frames_size, some_form}
use Rattle.snd_racking.specs.Appending.{frames_of_bytes}

fit_joined : (codec : Codec) (xs ys : List ℤ) → FitCodec codec xs → FitCodec codec ys → FitCodec codec (xs ++ ys)
fit_joined codec xs ys first second = λ form is. All-append (InRange form) xs ys (first form is) (second form is)

-- a file that is being made of some numbers is being made of others of the same bytes
module _ (kind : Kind) (p : Parameters) (pieces : List NewChunk) (xs ys zs : List ℤ) (e : Editing) (plain : is_adpcm p.codec ≡ false) (as_many : length ys ≡ length zs) (same : coded p ys ≡ coded p zs) where
  sums : length (xs ++ ys) ≡ length (xs ++ zs)
  sums = length-append xs ys ∙ ap (λ (n : ℕ). length xs + n) as_many ∙ sym (length-append xs zs)

  counts : frame_count p (xs ++ ys) ≡ frame_count p (xs ++ zs)
  counts = ap (λ (n : ℕ). n / p.channels) sums

  bytes : coded p (xs ++ ys) ≡ coded p (xs ++ zs)
  bytes = coded_joined p xs ys ∙ ap (λ (l : List ℕ). coded p xs ++ l) same ∙ sym (coded_joined p xs zs)

  same_making : FitCodec p.codec xs → FitCodec p.codec zs → IsMaking kind p pieces (xs ++ ys) e → IsMaking kind p pieces (xs ++ zs) e
  same_making first second m =
      let head = head_with kind p pieces in
      let says = shape_with kind p pieces in
      record {
        kind_is = m.kind_is;
        params = m.params;
        start = m.start;
        free = m.free;
        kept = m.kept;
        whole = ap (λ (n : ℕ). n % p.channels) (sym sums) ∙ m.whole;
        in_range = fit_joined p.codec xs zs first second;
        numbers = λ is.
            let holds = m.numbers is in
            record {
              edited = holds.edited;
              shape = holds.shape ∙ ap (λ (n : ℕ). record says { frames = n }) counts;
              bytes = holds.bytes
                  ∙ ap (λ (l : List ℕ). head ++ l ++ closing_so_far says (frame_count p (xs ++ ys))) bytes
                  ∙ ap (λ (n : ℕ). head ++ coded p (xs ++ zs) ++ closing_so_far says n) counts;
            };
        blocks = λ is. absurd (let no : true ≡ false = sym is ∙ plain in cc);
        write_place = m.write_place ∙ counts;
        automatic = m.automatic;
      }

-- what a file that is being made says of itself so far has its parameters
making_params : (kind : Kind) (p : Parameters) (pieces : List NewChunk) (xs : List ℤ) (e : Editing) → IsMaking kind p pieces xs e → e.shape.params ≡ p
making_params kind p pieces xs e m = elim (cases_Bool (is_adpcm p.codec)) [
  | inl is ↦ ap (λ (s : Shape). s.params) (m.blocks is).shape ∙ m.params
  | inr plain ↦ ap (λ (s : Shape). s.params) (m.numbers plain).shape ∙ m.params
]

-- so what was given as some numbers was given as others
pub gains_as : {E N : Type 0} {t : Ghosts E} {n : ModeGhosts N} (state : E → State) (to to' : File E N t n) (ys zs : List ℤ) → is_adpcm (codec_of to) ≡ false → length ys ≡ length zs
    → coded_in (codec_of to) ys ≡ coded_in (codec_of to) zs → FitCodec (codec_of to) zs → Gains state ys to to' → Gains state zs to to'
gains_as state to to' ys zs plain as_many same fit gains = λ kind p pieces xs e stands making.
    let is = gains kind p pieces xs e stands making in
    let codec : codec_of to ≡ p.codec = ap (λ (s : Shape). s.params.codec) stands.shape ∙ ap (λ (q : Parameters). q.codec) (making_params kind p pieces xs e making) in (
      is.0,
      is.1,
      same_making kind p pieces xs ys zs is.0 (ap is_adpcm (sym codec) ∙ plain) as_many (subst (λ (q : Codec). coded_in q ys ≡ coded_in q zs) codec same) making.in_range (subst (λ (q : Codec). FitCodec q zs) codec fit) is.2,
    )

-- ---- whole frames as the bytes of their samples

module _ (k : Known) (b : List ℕ) (fixed : is_adpcm k.shape.params.codec ≡ false) (some : 1 ≤ k.shape.params.channels) (whole : AreWhole k.shape.params (length b)) where
  abbrev p : Parameters
  p = k.shape.params

  abbrev n : ℕ
  n = frames_of_bytes p (length b)

  abbrev form : Fixed
  form = (some_form p.codec fixed).0

  form_is : fixed_of p.codec ≡ Some form
  form_is = (some_form p.codec fixed).1

  size : length b ≡ byte_count form * (n * p.channels)
  size =
      let align = block_align p.channels p.codec in
      let parts : length b / align * align + length b % align ≡ length b = div-add-mod' (length b) align in
      (let e : length b ≡ n * align = omega (arith, parts, whole) in e) ∙ frames_size p.codec p.channels n fixed ∙ bytes_of_samples p.codec form (n * p.channels) form_is

  count : length (sources_in p.codec b) ≡ n * p.channels
  count = count_of_given p.codec b form form_is ∙ ap (λ (m : ℕ). m / byte_count form) size ∙ mul-div_cancel_left (n * p.channels) (byte_count_pos form)

  pub frames_given : length (sources_in p.codec b) / p.channels ≡ n
  frames_given = ap (λ (m : ℕ). m / p.channels) count ∙ mul-div_cancel n (let e : 0 < p.channels = omega (arith, some) in e)

  pub may_pass : IsAtEnd k → HasRoom n k → MayPass b k
  may_pass at_end roomy = record { at_end = at_end; whole = whole; roomy = subst (λ (m : ℕ). HasRoom m k) (sym frames_given) roomy }

  -- they are written of as many numbers as those of which they are
  module _ (xs : List ℤ) (is : b ≡ coded_in p.codec xs) where
    pub as_many : length (sources_in p.codec b) ≡ length xs
    as_many =
        let bytes : length b ≡ byte_count form * length xs = ap length (is ∙ ap (λ (o : Option Fixed). coded_as o xs) form_is) ∙ (count_of_bytes form xs).0 in
        count_of_given p.codec b form form_is ∙ ap (λ (m : ℕ). m / byte_count form) bytes ∙ mul-div_cancel_left (length xs) (byte_count_pos form)

    pub same_coded : coded_in p.codec (sources_in p.codec b) ≡ coded_in p.codec xs
    same_coded = bytes_given p b (ap is_none form_is) some whole (subst (All IsByte) (sym is) (coded_are_bytes p.codec xs fixed)) ∙ is
