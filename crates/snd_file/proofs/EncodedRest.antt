-- What giving frames to a file of ADPCM at rest leaves, and closing it; and where it is at rest again.
use Rattle.std.proofs.Common.{◌≡◌, sym, subst, inr, ℕ, ℤ, Bool, true, List, ◌++◌, Err, Some}
use Rattle.std.specs.Global.{Box}
use Rattle.std.specs.Prelude.{Result}
use Rattle.snd_block_writer.specs.Coded.{whole}
use Rattle.snd_block_writer.specs.Writing.{Writing}
use Rattle.snd_disk.specs.Device.{IsStable}
use Rattle.snd_disk.specs.declared.disk.Disk.{Ghosts}
use Rattle.snd_layout.specs.Shape.{Shape}
use Rattle.snd_patch.proofs.Public.{leaves_weaker}
use Rattle.snd_patch.specs.Images.{LeavesEach}
use Rattle.snd_edits.specs.declared.error.WriteError.{WriteError}
use Rattle.snd_edits.specs.declared.error.WriteError.TheVariants as write
use Rattle.snd_file.specs.declared.handle.File.{File}
use Rattle.snd_edits.specs.declared.mode.Mode.{Ghosts as ModeGhosts}
use Rattle.snd_edits.specs.Closing.{closed_to}
use Rattle.snd_edits.specs.Editing.{Editing}
use Rattle.snd_edits.specs.Encoding.{IsEncodeRefusal, MayEncode, encoded_to, encoded_whole, whole_frames}
use Rattle.snd_file.specs.Handle.{Stands, disk_of, writer_of}
use Rattle.snd_edits.specs.Laws.{IsEncoded, IsStateOf}
use Rattle.snd_edits.specs.Outcomes.{write_outcome}
use Rattle.snd_file.specs.Rest.{IsAtRest, StaysAtRest}
use Rattle.snd_edits.specs.Safe.{IsSafe, IsSized}
use Rattle.snd_edits.specs.UnderWay.{IsBlocksUnderWay}
use Rattle.snd_frames.specs.UnderWay.{LeavesAllIn, LeavesGivenIn}
use Rattle.snd_edits.specs.WriteCalls.{end_written}
use Rattle.snd_edits.proofs.Public.{fields_apart, given_rests, given_safe, given_then, put_again, whole_safe}
use Rattle.snd_file.proofs.LeftSafe.{rests_in}

module _ {D M : Type 0} {mode : ModeGhosts M} (d : Ghosts D) (opened : List ℕ) (old : File D M d mode) (e : Editing) (encodes : mode.ENCODES ≡ true) (rest : IsAtRest d opened old e) where
  of : IsEncoded opened e
  of = subst (λ (t : Bool). IsStateOf t opened e) encodes rest.state

  sized : IsSized e
  sized = rest.sized (inr encodes) of.place.free

  module _ (w : Box Writing) (is : writer_of old ≡ Some w) where
    -- more frames are given
    pub giving_is_safe : (last : D) (xs : List ℤ) (to : ℕ) → to ≡ end_written xs e.shape e.write_place → MayEncode xs e.shape e.write_place → LeavesGivenIn d e.shape to xs (writer_of old) (disk_of old) last
        → LeavesEach d (disk_of old) last (IsSafe e (encoded_to xs e))
    giving_is_safe last xs to reaches may leaves =
        let numbers = λ (n : ℕ). IsBlocksUnderWay e.bytes e.shape (whole e.shape.params (e.given ++ xs)) n in
        leaves_weaker d (disk_of old) last (numbers (whole_frames e.shape.params to)) (IsSafe e (encoded_to xs e))
        (λ x under_way. given_safe opened e of rest.fit sized x xs may (subst (λ (m : ℕ). numbers (whole_frames e.shape.params m) x) reaches under_way))
        (leaves w is (fields_apart opened e of.keeps) e.given e.bytes ((rest.stands.given encodes).stands w is) (put_again opened e of) rest.stands.bytes rest.stable)

    -- it is closed
    pub closing_is_safe : (last : D) → LeavesAllIn d e.shape e.write_place (writer_of old) (disk_of old) last → LeavesEach d (disk_of old) last (IsSafe e (closed_to mode.ENCODES e))
    closing_is_safe last leaves =
        subst (λ (t : Bool). LeavesEach d (disk_of old) last (IsSafe e (closed_to t e))) (sym encodes)
        (leaves_weaker d (disk_of old) last (IsBlocksUnderWay e.bytes e.shape e.given e.write_place) (IsSafe e (encoded_whole e))
        (λ x under_way. whole_safe opened e of rest.fit sized x under_way)
        (leaves w is (fields_apart opened e of.keeps) e.given e.bytes ((rest.stands.given encodes).stands w is) (put_again opened e of) rest.stands.bytes rest.stable))

  pub given_at_rest : (new : File D M d mode) (xs : List ℤ) → MayEncode xs e.shape e.write_place → e.automatic ≡ true → Stands d.state new (encoded_to xs e) → IsStable d.state d.may_leave (disk_of new) → IsAtRest d opened new (encoded_to xs e)
  given_at_rest new xs may on stands stable =
      rests_in d opened new (encoded_to xs e) (subst (λ (t : Bool). IsStateOf t opened (encoded_to xs e)) (sym encodes) (given_then opened e of xs may)) (given_rests opened e of xs may rest.fit.bytes rest.fit.whole on) stands stable

-- what refuses frames leaves a file at rest
pub stays_refused : {D M : Type 0} {mode : ModeGhosts M} (d : Ghosts D) (old new : File D M d mode) (step : Editing → Editing) (xs : List ℤ) (h : Shape) (place : ℕ) (error : WriteError)
    → IsEncodeRefusal xs h place error → ((opened : List ℕ) (e : Editing) → IsAtRest d opened old e → IsAtRest d opened new e) → StaysAtRest d (write_outcome {T = Unit} (Err error)) step old new
stays_refused d old new step xs h place (write.DiskFault fault) why rests = absurd why
stays_refused d old new step xs h place _ why rests = rests

pub stays_refused_as : {D M : Type 0} {mode : ModeGhosts M} (d : Ghosts D) (old new : File D M d mode) (step : Editing → Editing) (xs : List ℤ) (h : Shape) (place : ℕ) (error : WriteError)
    → IsEncodeRefusal xs h place error → ((opened : List ℕ) (e : Editing) → IsAtRest d opened old e → IsAtRest d opened new e) → (r : Result Unit WriteError) → r ≡ Err error → StaysAtRest d (write_outcome r) step old new
stays_refused_as d old new step xs h place error why rests r is =
    subst (λ (q : Result Unit WriteError). StaysAtRest d (write_outcome q) step old new) (sym is) (stays_refused d old new step xs h place error why rests)
