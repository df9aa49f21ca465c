-- The handle of a file of ADPCM that is made stands for its state again.
use Rattle.std.proofs.Common.{◌≡◌, ◌∙◌, ap, sym, subst, Bool, Option}
use Rattle.std.specs.Global.{Box}
use Rattle.snd_block_writer.specs.Writing.{Writing}
use Rattle.snd_disk.specs.declared.disk.Disk.{Ghosts}
use Rattle.snd_disk.specs.State.{State}
use Rattle.snd_file.specs.declared.handle.File.{File}
use Rattle.snd_edits.specs.declared.mode.Mode.{Ghosts as ModeGhosts}
use Rattle.snd_edits.specs.Editing.{Editing}
use Rattle.snd_edits.specs.Pacing.{IsGiven}
use Rattle.snd_edits.specs.Known.{Known}
use Rattle.snd_file.specs.Handle.{Stands, disk_of, known_of, writer_of}

-- a handle whose updates are automatic now, or by hand, stands for its state as before
pub stands_automatic : {D M : Type 0} {ghosts : Ghosts D} {mode : ModeGhosts M} (state : D → State) (old new : File D M ghosts mode) (on : Bool) (e : Editing) → disk_of new ≡ disk_of old
    → known_of new ≡ record (known_of old) { automatic = on } → writer_of new ≡ writer_of old → Stands state old e → Stands state new (record e { automatic = on })
stands_automatic state old new on e disk known writer was = record {
  bytes = ap (λ d. (state d).contents) disk ∙ was.bytes;
  shape = ap (λ (k : Known). k.shape) known ∙ was.shape;
  place = ap (λ (k : Known). k.place) known ∙ was.place;
  write_place = ap (λ (k : Known). k.write_place) known ∙ was.write_place;
  automatic = ap (λ (k : Known). k.automatic) known;
  written = ap (λ (k : Known). k.written) known ∙ was.written;
  sound = was.sound;
  count = was.count;
  none_given = was.none_given;
  given = λ encodes. subst (λ (w : Option (Box Writing)). IsGiven w e.given e.bytes e.shape e.write_place) (sym writer) (was.given encodes);
}

-- one of which nothing has changed that is seen stands for what it did
pub stands_again : {D M : Type 0} {ghosts : Ghosts D} {mode : ModeGhosts M} (state : D → State) (old new : File D M ghosts mode) (e : Editing) → disk_of new ≡ disk_of old
    → known_of new ≡ known_of old → writer_of new ≡ writer_of old → Stands state old e → Stands state new e
stands_again state old new e disk known writer was = record {
  bytes = ap (λ d. (state d).contents) disk ∙ was.bytes;
  shape = ap (λ (k : Known). k.shape) known ∙ was.shape;
  place = ap (λ (k : Known). k.place) known ∙ was.place;
  write_place = ap (λ (k : Known). k.write_place) known ∙ was.write_place;
  automatic = ap (λ (k : Known). k.automatic) known ∙ was.automatic;
  written = ap (λ (k : Known). k.written) known ∙ was.written;
  sound = was.sound;
  count = was.count;
  none_given = was.none_given;
  given = λ encodes. subst (λ (w : Option (Box Writing)). IsGiven w e.given e.bytes e.shape e.write_place) (sym writer) (was.given encodes);
}
