-- What a crash leaves while a sealed file is turned into RF64 is safe.
use Rattle.std.proofs.Common.{◌≡◌, ◌∙◌, ⊎_elim, ap, sym, subst, inl, inr, refl, ℕ, ℤ, ◌-◌, ◌≤◌, List, Ok, length, map, arith}
use Rattle.snd_blocks.specs.Sound.{frames_in, sound_in}
use Rattle.snd_container.specs.Sound.{kept_of, layout_of}
use Rattle.snd_disk.specs.Runs.{IsPatching}
use Rattle.snd_layout.specs.Shape.{Shape, end}
use Rattle.snd_layout.specs.declared.kind.Kind.TheVariants.{Rf64}
use Rattle.snd_patch.specs.Sealed.{counted, sealed}
use Rattle.snd_promote.proofs.Public.{front_counted, promoting_beside, promoting_opens}
use Rattle.snd_ds64.specs.Moments.{IsPromoting}
use Rattle.snd_ds64.specs.Promoted.{new_size, promoted_shape}
use Rattle.snd_edits.proofs.Public.{at_rest, sealed_keeps_file, sealed_told}
use Rattle.snd_edits.proofs.SafeImages.{safe_across}
use Rattle.snd_edits.specs.Editing.{Editing}
use Rattle.snd_edits.specs.Edits.{sealed_to}
use Rattle.snd_edits.specs.Safe.{IsSafe, frame_at}
use Rattle.snd_reservations.proofs.Beside.{SameBeside, frames_same, pieces_same, promoted_beside, promoted_length}
use Rattle.snd_reservations.proofs.Ready.{inside, lead, promotable, sealed_there}
use Rattle.snd_reservations.specs.Laws.{IsReady, PromotedIsSafe}
use Rattle.snd_reservations.specs.States.{promoted_to}

module _ (file : List ℕ) (e : Editing) (ready : IsReady file e) where
  abbrev h : Shape
  h = e.shape

  abbrev n : ℕ
  n = e.shape.frames

  abbrev s : List ℕ
  s = sealed e.bytes e.shape e.shape.frames

  early : 56 ≤ h.start
  early = (lead file e ready.edited ready.may).early

  there : end h n ≤ length s
  there = sealed_there file e ready.edited ready.may

  -- the sealed file
  before : IsSafe e (promoted_to e) s
  before =
      let of = ready.edited.keeps in
      let then = sealed_keeps_file file e of in
      safe_across file e (sealed_to e) (promoted_to e) s of then refl (at_rest file (sealed_to e) then (sealed_told file e of))

  -- a file with its bytes beside the two places that opens as RF64
  after : (x : List ℕ) → length x ≡ length s → SameBeside h.start s x → layout_of x ≡ Ok (promoted_shape h n) → IsSafe e (promoted_to e) x
  after x long same told =
      let frames : frames_in x (promoted_shape h n) ≡ e.frames = frames_same s x h n early there long same ∙ sym (sealed_keeps_file file e ready.edited.keeps).holds.sound in
      let count : length (frames_in x (promoted_shape h n)) ≡ length e.frames = ap (λ (l : List (List ℤ)). length l) frames in
      let pieces : map (kept_of x) h.pieces ≡ map (kept_of (promoted_to e).bytes) h.pieces =
      pieces_same s x h n early there long same h.pieces (inside file e ready.edited ready.may)
      ∙ sym (pieces_same s (promoted_to e).bytes h n early there (promoted_length s h n early there) (promoted_beside s h n early there) h.pieces (inside file e ready.edited ready.may)) in
      record {
        sound = record { kind = Rf64; params = h.params; frames = frames_in x (promoted_shape h n); pieces = map (kept_of x) h.pieces };
        opens = ap (sound_in x) told;
        params = refl;
        head = inr (refl, pieces);
        count = inl count;
        unwritten = λ i lt within un. ap (λ (l : List (List ℤ)). frame_at l i) frames;
        risen = λ more. absurd (omega (arith, count, more));
      }

  turning : (x : List ℕ) → IsPromoting s h n x → IsSafe e (promoted_to e) x
  turning x way =
      let way' : IsPromoting s (counted h n) n x = subst (λ (f : List ℕ). IsPatching s 0 f (h.start - 4) new_size x) (sym (front_counted h n n)) way in
      ⊎_elim (λ old. subst (IsSafe e (promoted_to e)) (sym old) before)
      (λ told. after x way.size (promoting_beside s x h n early way) told)
      (promoting_opens s x (counted h n) n (promotable file e ready.edited ready.may ready.bytes) way')

pub promoted_is_safe : PromotedIsSafe
promoted_is_safe file e x ready way = turning file e ready x way
