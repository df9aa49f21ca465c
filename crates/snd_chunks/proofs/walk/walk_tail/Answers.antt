use Rattle.std.proofs.Common.{◌≡◌, ◌∙◌, ◌+◌, ◌-◌, ◌++◌, ◌∷◌, [], Some, None, rules, sym, arith}
use Rattle.snd_disk.proofs.Public.{only_reads_then}
use Rattle.snd_chunks.specs.Chunks.{chunk_at}
use Rattle.snd_chunks.specs.Walks.{EndsBy, ended_by}
use Rattle.snd_chunks.proofs.Walks.{tail_goes_on, tail_ends, tail_is_full, ends_grow, asked_more}
use Rattle.snd_chunks.proofs.walk.walk_tail.Goals as goal

pub returns-in_default-clause-told : goal.returns-in_default-clause-told
returns-in_default-clause-told g c = λ b told.
    let seen : None ≡ ended_by c.args.to (chunk_at c.args.order b c.loop-seen.place) =
    sym c.in_default.is ∙ c.in_ok-chunk.ensures.told b (c.loop-seen.invariant.reads.keeps.contents ∙ told) in
    tail_ends (chunk_at c.args.order b) c.args.to _ c.loop-seen.chunks (c.args.most - c.loop-seen._seen) c.loop-seen.place
    (c.args.most - (c.loop-seen._seen + 1)) seen (omega arith) (c.loop-seen.invariant.so_far b told)

pub returns-clause-told : goal.returns-clause-told
returns-clause-told g c = λ b told.
    tail_is_full (chunk_at c.args.order b) c.args.to _ c.loop-seen.chunks (c.args.most - c.loop-seen._seen) c.loop-seen.place
    (omega arith) (c.loop-seen.invariant.so_far b told)

pub loop-seen-preserved : goal.loop-seen-preserved
loop-seen-preserved g c =
    let pushed : c.push.new.self ≡ c.loop-seen.chunks ++ c.in-Some.chunk ∷ [] = c.in_ok-push.ensures.added in
    let placed : EndsBy c.args.to c.in-Some.chunk = rw c.in-Some.is at c.in_ok-chunk.ensures.placed in
    record {
      so_far = λ b told.
          let seen : Some c.in-Some.chunk ≡ ended_by c.args.to (chunk_at c.args.order b c.loop-seen.place) =
          sym c.in-Some.is ∙ c.in_ok-chunk.ensures.told b (c.loop-seen.invariant.reads.keeps.contents ∙ told) in
          rw pushed (tail_goes_on (chunk_at c.args.order b) c.args.to _ c.loop-seen.chunks (c.args.most - c.loop-seen._seen) c.loop-seen.place
          (c.args.most - (c.loop-seen._seen + 1)) c.in-Some.chunk seen (omega arith) (c.loop-seen.invariant.so_far b told));
      size = search rules;
      placed = rw pushed (ends_grow c.args.to c.args.to c.loop-seen.chunks c.in-Some.chunk (omega arith) placed c.loop-seen.invariant.placed);
      calm = search rules;
      reads = only_reads_then _ _ _ _ _ _ _ _ _ c.loop-seen.invariant.reads c.look_behind.ensures.reads;
      asked = asked_more _ _ _ c.loop-seen._seen c.loop-seen.invariant.asked c.look_behind.ensures.asked;
    }
