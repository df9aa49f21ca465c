use Rattle.std.proofs.Common.{◌≡◌, ◌∙◌, ◌+◌, ◌-◌, ◌≤◌, ◌++◌, ◌∷◌, [], length, rules, sym, arith}
use Rattle.snd_disk.proofs.Public.{only_reads_then}
use Rattle.snd_chunks.proofs.Public.{ends_grow}
use Rattle.snd_chunks.specs.Walks.{EndsBy}
use Rattle.snd_w64.specs.Layout.{chunk_at}
use Rattle.snd_w64.specs.declared.seen.Seen.TheVariants.{Sound, Whole, Nothing}
use Rattle.snd_w64.specs.Parts.{HasHeadAt, seen_of}
use Rattle.snd_w64.proofs.Raising.{raised-least}
use Rattle.snd_w64.proofs.Steps.{asked_more, begins, ends_at_sound, ends_cut, ends_too_many, goes_on}
use Rattle.snd_w64.proofs.walk.walk_front.Goals as goal

pub returns-in-Sound-clause-told : goal.returns-in-Sound-clause-told
returns-in-Sound-clause-told g c = λ b told.
    let seen : Sound c.in-Sound.chunk ≡ seen_of (length b) (chunk_at b c.loop-seen.place) =
    sym c.in-Sound.is ∙ c.in_ok-chunk.ensures.told b (c.loop-seen.invariant.reads.keeps.contents ∙ told) in
    ends_at_sound b c.loop-seen.chunks (257 - c.loop-seen._seen) c.loop-seen.place (c.loop-seen.invariant.so_far b told) (257 - (c.loop-seen._seen + 1)) c.in-Sound.chunk seen (omega arith)

pub returns-in-Nothing-clause-told : goal.returns-in-Nothing-clause-told
returns-in-Nothing-clause-told g c = λ b told.
    let seen : Nothing ≡ seen_of (length b) (chunk_at b c.loop-seen.place) =
    sym c.in-Nothing.is ∙ c.in_ok-chunk.ensures.told b (c.loop-seen.invariant.reads.keeps.contents ∙ told) in
    ends_cut b c.loop-seen.chunks (257 - c.loop-seen._seen) c.loop-seen.place (c.loop-seen.invariant.so_far b told) (257 - (c.loop-seen._seen + 1)) seen (omega arith)

pub returns-clause-told : goal.returns-clause-told
returns-clause-told g c = λ b told.
    ends_too_many b c.loop-seen.chunks (257 - c.loop-seen._seen) c.loop-seen.place (c.loop-seen.invariant.so_far b told) (omega arith)

pub loop-seen-preserved : goal.loop-seen-preserved
loop-seen-preserved g c =
    let pushed : c.push.new.self ≡ c.loop-seen.chunks ++ c.in-Whole.chunk ∷ [] = c.in_ok-push-in-Whole.ensures.added in
    let placed : HasHeadAt c.args.size c.loop-seen.place c.in-Whole.chunk × EndsBy c.args.size c.in-Whole.chunk = rw c.in-Whole.is at c.in_ok-chunk.ensures.placed in
    let ends : c.in-Whole.chunk.at + c.in-Whole.chunk.len ≤ c.in-Whole.chunk.next = omega (arith, placed.0.next, raised-least (c.in-Whole.chunk.at + c.in-Whole.chunk.len)) in
    let later : c.loop-seen.place ≤ c.in-Whole.chunk.next = omega (arith, placed.0.at, ends) in
    record {
      so_far = λ b told.
          let seen : Whole c.in-Whole.chunk ≡ seen_of (length b) (chunk_at b c.loop-seen.place) =
          sym c.in-Whole.is ∙ c.in_ok-chunk.ensures.told b (c.loop-seen.invariant.reads.keeps.contents ∙ told) in
          rw pushed (goes_on b c.loop-seen.chunks (257 - c.loop-seen._seen) c.loop-seen.place (c.loop-seen.invariant.so_far b told) (257 - (c.loop-seen._seen + 1)) c.in-Whole.chunk seen (omega arith));
      size = search rules;
      whole = rw pushed (ends_grow c.args.size c.args.size c.loop-seen.chunks c.in-Whole.chunk (omega arith) placed.1 c.loop-seen.invariant.whole);
      before = rw pushed (ends_grow c.loop-seen.place c.in-Whole.chunk.next c.loop-seen.chunks c.in-Whole.chunk later ends c.loop-seen.invariant.before);
      behind = omega (arith, c.loop-seen.invariant.behind, later);
      calm = search rules;
      reads = only_reads_then _ _ _ _ _ _ _ _ _ c.loop-seen.invariant.reads c.look.ensures.reads;
      asked = asked_more _ _ _ c.loop-seen._seen c.loop-seen.invariant.asked c.look.ensures.asked;
    }

pub loop-seen-init : goal.loop-seen-init
loop-seen-init g c = record {
  so_far = λ b told. rw c.new-chunks.ensures (begins b);
  size = search rules;
  whole = search rules;
  before = search rules;
  behind = omega arith;
  calm = search rules;
  reads = search rules;
  asked = search rules;
}
