-- What a call leaves that reads the body of a chunk, and then puts the whole chunk.
use Rattle.std.proofs.Common.{◌≡◌, ◌+◌, ℕ, List, [], Result, Err, sym, ap, subst, arith, ◌∙◌}
use Rattle.std.specs.Prelude.{is_some}
use Rattle.snd_disk.specs.Device.{GoesOnFrom, OnlyReadsOn, WritesAtMost}
use Rattle.snd_disk.specs.declared.disk.Disk.{Ghosts}
use Rattle.snd_disk.proofs.Public.{at_most_then, goes_on_kept, goes_on_then}
use Rattle.snd_edits.specs.Editing.{Editing}
use Rattle.snd_edits.specs.Known.{Known}
use Rattle.snd_file.specs.Handle.{Stands, disk_of, known_of}
use Rattle.snd_file.specs.Outcomes.{TellsOn}
use Rattle.snd_file.specs.declared.handle.File.{File}
use Rattle.snd_edits.specs.declared.mode.Mode.{Ghosts as ModeGhosts}
use Rattle.snd_tags.specs.Drafts.{IsSet, SetLeaves, SetsBody}
use Rattle.snd_tags.specs.Steps.{FailsToRead, Puts, Reads, Sets, no_memory}
use Rattle.snd_tags.specs.declared.error.SetError.{SetError}
use Rattle.snd_tags.proofs.Cases.{counts_after, only_puts_after}

module _ {D M : Type 0} {mode : ModeGhosts M} (d : Ghosts D) (old new : File D M d mode) where
  pub tells_read : OnlyReadsOn d.state d.may_leave d.left_between (disk_of old) (disk_of new) → TellsOn d.state old new
  tells_read reads = record { told = ap is_some reads.keeps.contents; name = reads.keeps.name }

  pub time_read : OnlyReadsOn d.state d.may_leave d.left_between (disk_of old) (disk_of new) → GoesOnFrom d.state d.left_between (disk_of old) (disk_of new)
  time_read reads = goes_on_kept _ _ _ _ _ _ reads.images

  pub written_read : (most : ℕ) → OnlyReadsOn d.state d.may_leave d.left_between (disk_of old) (disk_of new) → WritesAtMost d.state most (disk_of old) (disk_of new)
  written_read most reads = record { later = omega (arith, reads.written); most = omega (arith, reads.written) }

module _ {D M : Type 0} {mode : ModeGhosts M} (d : Ghosts D) (old mid new : File D M d mode) (most : ℕ) (id body : List ℕ) (result : Result (Unit {0}) SetError) where
  pub put_after : Reads d old mid → Puts d most id body mid new result → Puts d (65536 + most) id body old new result
  put_after first puts = record {
    loan = puts.loan ∙ first.loan;
    fits = puts.fits;
    left = subst (λ (k : Known). SetLeaves id body k (known_of new) result) first.known puts.left;
    is_set = λ e stands. puts.is_set e (first.stands e stands);
    puts = only_puts_after d old mid new result first.known first.reads puts.puts;
    tells = record {
      told = puts.tells.told ∙ ap is_some first.reads.keeps.contents;
      name = puts.tells.name ∙ first.reads.keeps.name;
    };
    time = goes_on_then _ _ _ _ _ _ (time_read d old mid first.reads) puts.time;
    faults = counts_after d old mid new result first.faults puts.faults;
    written = record {
      later = omega (arith, first.reads.written, puts.written.later);
      most = omega (arith, first.reads.written, puts.written.most);
    };
    asked = at_most_then _ _ _ _ _ first.asked puts.asked;
  }

-- ---- whole calls

module _ {D M : Type 0} {mode : ModeGhosts M} (d : Ghosts D) (old new : File D M d mode) (id : List ℕ) (body_for : Editing → List ℕ) where
  -- where the disk tells the file, the body is the one by that which it held
  sets_body : (most : ℕ) (body : List ℕ) (result : Result (Unit {0}) SetError) → Puts d most id body old new result → ((e : Editing) → Stands d.state old e → body ≡ body_for e) → SetsBody d.state id body_for old new result
  sets_body most body result puts same e here =
      let both : SetLeaves id body (known_of old) (known_of new) result × IsSet (Stands d.state new) id body e result = (puts.left, puts.is_set e here) in
      subst (λ (l : List ℕ). SetLeaves id l (known_of old) (known_of new) result × IsSet (Stands d.state new) id l e result) (same e here) both

  pub sets_put : (most : ℕ) (body : List ℕ) (result : Result (Unit {0}) SetError) → Puts d most id body old new result → ((e : Editing) → Stands d.state old e → body ≡ body_for e) → Sets d most id body_for old new result
  sets_put most body result puts same = record {
    loan = puts.loan;
    fits = puts.fits;
    left = (body, puts.left);
    sets = sets_body most body result puts same;
    puts = puts.puts;
    tells = puts.tells;
    time = puts.time;
    faults = puts.faults;
    written = puts.written;
    asked = puts.asked;
  }

  -- the body that is there was not read
  pub sets_failed : (error : SetError) (result : Result (Unit {0}) SetError) → result ≡ Err error → FailsToRead d old new error → Sets d 65536 id body_for old new result
  sets_failed error result is fails = subst (λ (r : Result (Unit {0}) SetError). Sets d 65536 id body_for old new r) (sym is) failed
    where
      failed : Sets {T = Unit {0}} d 65536 id body_for old new (Err error)
      failed =
          let puts = fails id [] in
          record {
            loan = puts.loan;
            fits = puts.fits;
            left = ([], puts.left);
            sets = λ e here. let done = fails id (body_for e) in (done.left, done.is_set e here);
            puts = puts.puts;
            tells = puts.tells;
            time = puts.time;
            faults = puts.faults;
            written = puts.written;
            asked = puts.asked;
          }

-- a body was read, and then there was no memory
pub fails_after : {D M : Type 0} {mode : ModeGhosts M} (d : Ghosts D) (old new : File D M d mode) → Reads d old new → FailsToRead d old new no_memory
fails_after d old new first = λ id body. record {
  loan = first.loan;
  fits = λ is. absurd (cc);
  left = (first.working, first.known);
  is_set = first.stands;
  puts = first.reads;
  tells = tells_read d old new first.reads;
  time = time_read d old new first.reads;
  faults = first.faults;
  written = written_read d old new 16777216 first.reads;
  asked = first.asked;
}
