use Rattle.std.proofs.Common.{◌≡◌, ◌∙◌, ◌+◌, ◌≤◌, None, Some, take, drop, length, refl, rules}
use Rattle.snd_disk.proofs.Public.{only_reads_then}
use Rattle.snd_search.specs.Search.{format_here, found_in}
use Rattle.snd_search.proofs.Blocks.{asked_after, none_ahead, none_in_rest, none_next}
use Rattle.snd_search.proofs.format.format_within.Goals as goal

pub returns-in-Some-2-clause-told : goal.returns-in-Some-2-clause-told
returns-in-Some-2-clause-told g c = λ b told is.
    let d = take c.args.size b in
    let x = c.args.bytes.now in
    let there : format_here (drop (c.args.at + c.in-Some.place) d) ≡ Some (found_in d c.in-Some-2.stated) =
    rw c.in-Some-2.is at (c.in_ok-stated.ensures.told b (c.loop-place.invariant.reads.keeps.contents ∙ told)) in
    record {
      place = c.in-Some.place;
      within = c.in-Some.ensures.within;
      none_before = none_ahead d x c.args.at (length x) c.loop-place.from c.in-Some.place is refl (c.loop-place.invariant.so_far b told is) c.in-Some.ensures;
      is = there;
    }

pub loop-place-preserved : goal.loop-place-preserved
loop-place-preserved g c =
    let x = c.args.bytes.now in
    let within : c.in-Some.place + 4 ≤ length x = c.in-Some.ensures.within in
    record {
      so_far = λ b told is.
          let d = take c.args.size b in
          let none : format_here (drop (c.args.at + c.in-Some.place) d) ≡ None =
          rw c.in_default-2.is at (c.in_ok-stated.ensures.told b (c.loop-place.invariant.reads.keeps.contents ∙ told)) in
          none_next d x c.args.at (length x) c.loop-place.from c.in-Some.place is refl (c.loop-place.invariant.so_far b told is) c.in-Some.ensures none;
      within = within;
      size = search rules;
      calm = search rules;
      reads = only_reads_then _ _ _ _ _ _ _ _ _ c.loop-place.invariant.reads c.format_at.ensures.reads;
      asked = asked_after c.loop-place.from c.in-Some.place _ _ _ c.in-Some.ensures.behind c.loop-place.invariant.asked c.format_at.ensures.asked;
    }

pub returns-clause-told : goal.returns-clause-told
returns-clause-told g c = λ b told is.
    none_in_rest (take c.args.size b) c.args.bytes.now c.args.at (length c.args.bytes.now) c.loop-place.from is (c.loop-place.invariant.so_far b told is) c.in_default.ensures
