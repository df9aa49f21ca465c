use Rattle.std.proofs.Common.{◌≡◌, ◌∙◌, ◌+◌, ◌-◌, ◌≤◌, ◌%◌, ◌<◌, ◌++◌, ◌∷◌, [], length, rules, sym, arith}
use Rattle.std.proofs.Math.Nat.{mod-lt}
use Rattle.std.proofs.lemmas.List.Elements.{All-push}
use Rattle.snd_disk.proofs.Public.{only_reads_then}
use Rattle.snd_chunks.specs.Chunks.{chunk_at}
use Rattle.snd_chunks.specs.declared.front.Seen.TheVariants.{Sound, Whole, Nothing}
use Rattle.snd_chunks.specs.Walks.{EndsBy, HasHeadAt, IsShort, seen_of}
use Rattle.snd_chunks.proofs.Walks.{goes_on, ends_at_sound, ends_cut, ends_too_many, ends_grow, asked_more}
use Rattle.snd_chunks.proofs.walk.walk_front.Goals as goal

pub returns-in-Sound-clause-told : goal.returns-in-Sound-clause-told
returns-in-Sound-clause-told g c = λ b told.
    let seen : Sound c.in-Sound.chunk ≡ seen_of c.args.sound.0 (length b) (chunk_at c.args.order b c.loop-seen.place) =
    sym c.in-Sound.is ∙ c.in_ok-chunk.ensures.told b (c.loop-seen.invariant.reads.keeps.contents ∙ told) in
    ends_at_sound (chunk_at c.args.order b) c.args.sound.0 (length b) _ c.loop-seen.chunks (c.args.most - c.loop-seen._seen) c.loop-seen.place
    (c.args.most - (c.loop-seen._seen + 1)) c.in-Sound.chunk seen (omega arith) (c.loop-seen.invariant.so_far b told)

pub returns-in-Nothing-clause-told : goal.returns-in-Nothing-clause-told
returns-in-Nothing-clause-told g c = λ b told.
    let seen : Nothing ≡ seen_of c.args.sound.0 (length b) (chunk_at c.args.order b c.loop-seen.place) =
    sym c.in-Nothing.is ∙ c.in_ok-chunk.ensures.told b (c.loop-seen.invariant.reads.keeps.contents ∙ told) in
    ends_cut (chunk_at c.args.order b) c.args.sound.0 (length b) _ c.loop-seen.chunks (c.args.most - c.loop-seen._seen) c.loop-seen.place
    (c.args.most - (c.loop-seen._seen + 1)) seen (omega arith) (c.loop-seen.invariant.so_far b told)

pub returns-clause-told : goal.returns-clause-told
returns-clause-told g c = λ b told.
    ends_too_many (chunk_at c.args.order b) c.args.sound.0 (length b) _ c.loop-seen.chunks (c.args.most - c.loop-seen._seen) c.loop-seen.place
    (omega arith) (c.loop-seen.invariant.so_far b told)

pub loop-seen-preserved : goal.loop-seen-preserved
loop-seen-preserved g c =
    let pushed : c.push.new.self ≡ c.loop-seen.chunks ++ c.in-Whole.chunk ∷ [] = c.in_ok-push-in-Whole.ensures.added in
    let placed : HasHeadAt c.args.size c.loop-seen.place c.in-Whole.chunk × EndsBy c.args.size c.in-Whole.chunk = rw c.in-Whole.is at c.in_ok-chunk.ensures.placed in
    let padded : c.in-Whole.chunk.len % 2 < 2 = mod-lt c.in-Whole.chunk.len (omega arith) in
    let ends : c.in-Whole.chunk.at + c.in-Whole.chunk.len ≤ c.in-Whole.chunk.next = omega (arith, placed.0.next) in
    let later : c.loop-seen.place ≤ c.in-Whole.chunk.next = omega (arith, placed.0.at) in
    record {
      so_far = λ b told.
          let seen : Whole c.in-Whole.chunk ≡ seen_of c.args.sound.0 (length b) (chunk_at c.args.order b c.loop-seen.place) =
          sym c.in-Whole.is ∙ c.in_ok-chunk.ensures.told b (c.loop-seen.invariant.reads.keeps.contents ∙ told) in
          rw pushed (goes_on (chunk_at c.args.order b) c.args.sound.0 (length b) _ c.loop-seen.chunks (c.args.most - c.loop-seen._seen) c.loop-seen.place
          (c.args.most - (c.loop-seen._seen + 1)) c.in-Whole.chunk seen (omega arith) (c.loop-seen.invariant.so_far b told));
      size = search rules;
      whole = rw pushed (ends_grow c.args.size c.args.size c.loop-seen.chunks c.in-Whole.chunk (omega arith) placed.1 c.loop-seen.invariant.whole);
      short = rw pushed (All-push IsShort c.loop-seen.chunks c.in-Whole.chunk c.loop-seen.invariant.short placed.0.len);
      before = rw pushed (ends_grow c.loop-seen.place c.in-Whole.chunk.next c.loop-seen.chunks c.in-Whole.chunk later ends c.loop-seen.invariant.before);
      behind = omega (arith, c.loop-seen.invariant.behind);
      near = omega (arith, c.loop-seen.invariant.near, placed.0.at, placed.0.len, placed.0.next);
      calm = search rules;
      reads = only_reads_then _ _ _ _ _ _ _ _ _ c.loop-seen.invariant.reads c.look.ensures.reads;
      asked = asked_more _ _ _ c.loop-seen._seen c.loop-seen.invariant.asked c.look.ensures.asked;
    }
