use Rattle.std.proofs.Common.{rules, ◌≡◌, ◌∙◌, ap, sym, subst, refl, ℕ, ℤ, false, List, length}
use Rattle.snd_blocks.specs.declared.buffer.BlockCache.{BlockCache}
use Rattle.snd_blocks.specs.Calls.{is_bad_in}
use Rattle.snd_blocks.specs.Fetching.{block_among}
use Rattle.snd_blocks.specs.Four.{AreFourOf}
use Rattle.snd_blocks.specs.Frames.{block_samples}
use Rattle.snd_blocks.proofs.Kept.{four_are_kept, one_is_kept}
use Rattle.snd_blocks.proofs.cache.keep_fetched.Goals.{then-decode_four, else-decode_four+in_ok-decode_fetched}
use Rattle.snd_blocks.proofs.cache.keep_fetched.Goals as goal

pub returns-clause-has : goal.returns-clause-has
returns-clause-has c = λ b hold n is.
    let s = c.args.layout.now in
    let fetched = c.args.fetched in
    let number = c.args.number in
    let now = c.if-decode_four.cache in
    let cache : BlockCache = record { first = number; count = c.if-decode_four.count; bytes = now.bytes; samples = now.samples } in
    elim c.if-decode_four.branch [
      | then-decode_four w ↦
          let bytes : now.bytes ≡ c.args.cache.now.bytes = ap (λ (x : BlockCache). x.bytes) w.cache-is in
          let samples : now.samples.items ≡ c.decode_four.new.into.items = ap (λ (x : BlockCache). x.samples.items) w.cache-is in
          let four : AreFourOf s fetched number now.bytes now.samples.items =
          subst (λ (l : List ℕ). AreFourOf s fetched number l now.samples.items) (sym bytes)
          (subst (λ (l : List ℤ). AreFourOf s fetched number c.args.cache.now.bytes l) (sym samples) (w.if-decode_four.ensures refl)) in
          four_are_kept b now.bytes s fetched number cache refl w.count-is hold c.requires.begun four n is
      | else-decode_four+in_ok-decode_fetched w ↦
          let bytes : now.bytes ≡ c.args.cache.now.bytes = ap (λ (x : BlockCache). x.bytes) w.cache-is in
          let samples : now.samples.items ≡ w.decode_fetched.new.into.items = ap (λ (x : BlockCache). x.samples.items) w.cache-is in
          let block : block_among now.bytes s fetched.first number ≡ block_among c.args.cache.now.bytes s fetched.first number = ap (λ (l : List ℕ). block_among l s fetched.first number) bytes in
          let good : is_bad_in s (block_among c.args.cache.now.bytes s fetched.first number) ≡ false = search (rules, w.in_ok-decode_fetched.ensures.bad) in
          one_is_kept b now.bytes s fetched.first fetched.next number cache refl w.count-is hold c.requires.begun c.requires.some
          (ap (λ (l : List ℤ). length l) samples ∙ w.in_ok-decode_fetched.ensures.count)
          (ap (is_bad_in s) block ∙ good)
          (samples ∙ w.in_ok-decode_fetched.ensures.samples ∙ ap (block_samples s.params.channels s.params.codec) (sym block))
          n is
    ]
