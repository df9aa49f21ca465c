-- A block that is filled with the frames of inputs, channel after channel.
use Rattle.std.proofs.Common.{◌≡◌, ◌∙◌, sym, subst, ℕ, ◌+◌, ◌*◌, ◌<◌, ℤ, pos, List, [], length, get_or, arith}
use Rattle.std.proofs.lemmas.List.{length-map}
use Rattle.snd_disk.specs.declared.disk.Disk.{Ghosts}
use Rattle.snd_layout.specs.declared.codec.Codec.{Codec}
use Rattle.snd_edits.specs.Editing.{Editing, first_editing}
use Rattle.snd_interleave.specs.Beside.{HasChannel, frame_at, frames_from}
use Rattle.snd_inputs.specs.Opening.{Holds}
use Rattle.snd_interleave.specs.Channels.{AreFrames, HoldAll, ReadAll}
use Rattle.snd_interleave.specs.Held.{AllSuit}
use Rattle.snd_interleave.specs.Interleave.{channel_in, channels_in}
use Rattle.snd_interleave.specs.Reading.{HasChannelOf}
use Rattle.snd_inputs.specs.declared.input.Input.{Input}
use Rattle.snd_interleave.proofs.Frames.{frames_are}
use Rattle.snd_interleave.proofs.Inputs.{all_unread, hold_still}
use Rattle.snd_interleave.proofs.ChannelNumbers.{each_of_two, number_in}

module _ {D : Type 0} (ghosts : Ghosts D) (first now : List (Input D ghosts)) where
  -- what suits the inputs still does
  pub still_suit : (Suits : Codec → Codec → Type 0) (codec : Codec) → ReadAll ghosts first now → AllSuit Suits codec first → AllSuit Suits codec now
  still_suit Suits codec reads suit = record {
    itself = suit.itself;
    each = λ k d lt.
        let within : k < length first = omega (arith, lt, reads.count) in
        subst (λ h. Suits codec h.params.codec) (sym (reads.each k d d within).layout) (suit.each k d within);
  }

  module _ (codec : Codec) (place count : ℕ) (es : List Editing) (hold : HoldAll ghosts.state first es) where
    -- the samples of one input are those of its channel
    pub channel_is : ReadAll ghosts first now → (i : ℕ) (x : Input D ghosts) (xs : List ℤ) → i < length now → x ≡ get_or now i x → HasChannelOf ghosts.state x codec place count xs
        → (j : ℕ) → j < count → get_or xs j (pos 0) ≡ get_or (frame_at (channels_in codec es) (place + j)) i (pos 0)
    channel_is reads i x xs within is got j lt =
        let d = first_editing [] x.layout in
        let e = get_or es i d in
        let all = hold_still ghosts first now es reads hold in
        let holds : Holds ghosts.state x e = subst (λ (y : Input D ghosts). Holds ghosts.state y e) (sym is) (all.each i x d within) in
        got e holds j lt ∙ sym (number_in codec es (place + j) i d (omega (arith, within, all.count)))

    -- a block that has all channels has the frames
    pub block_is : (n : ℕ) (block : List ℤ) → n ≡ length first → length block ≡ count * n
        → ((j c : ℕ) → j < count → c < n → get_or block (j * n + c) (pos 0) ≡ get_or (frame_at (channels_in codec es) (place + j)) c (pos 0)) → block ≡ frames_from (channels_in codec es) place count
    block_is n block many size is = frames_are (channels_in codec es) n place count block (length-map es (channel_in codec) ∙ hold.count ∙ sym many) size is

-- those of two inputs
pub two_filled : {D : Type 0} (ghosts : Ghosts D) (first now : List (Input D ghosts)) (codec : Codec) (place count : ℕ) (x y : Input D ghosts) (left right block : List ℤ) → length first ≡ 2 → ReadAll ghosts first now
    → x ≡ get_or first 0 x → y ≡ get_or now 1 y → HasChannelOf ghosts.state x codec place count left → HasChannelOf ghosts.state y codec place count right
    → HasChannel 2 0 count left block → HasChannel 2 1 count right block → length block ≡ count * 2 → AreFrames ghosts.state first codec place count block
two_filled ghosts first now codec place count x y left right block two reads is is' got got' put put' size es hold =
    block_is ghosts first now codec place count es hold 2 block (sym two) size
    (each_of_two count (λ j c z. z ≡ get_or (frame_at (channels_in codec es) (place + j)) c (pos 0)) left right block put put'
    (channel_is ghosts first first codec place count es hold (all_unread ghosts first) 0 x left (omega (arith, two)) is got)
    (channel_is ghosts first now codec place count es hold reads 1 y right (omega (arith, two, reads.count)) is' got'))
