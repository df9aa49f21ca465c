use Rattle.std.proofs.Common.{rules, ◌≡◌, ◌∙◌, ap, sym, inl, inr, ℕ, ◌+◌, ◌<◌, List, get_or, length, arith}
use Rattle.std.proofs.lemmas.Bool.{cases_lt}
use Rattle.std.proofs.lemmas.List.{get_or_read}
use Rattle.snd_disk.specs.declared.disk.Disk.{Ghosts}
use Rattle.snd_inputs.specs.declared.input.Input.{Input}
use Rattle.snd_layout.specs.declared.codec.Codec.{Codec}
use Rattle.snd_interleave.specs.Held.{HaveCodec}
use Rattle.snd_interleave.proofs.blocks.are_pairs.Goals as goal

have_more : {D : Type 0} {ghosts : Ghosts D} (n : ℕ) (codec : Codec) (xs : List (Input D ghosts)) (x : Input D ghosts) → n < length xs → x ≡ get_or xs n x → x.layout.params.codec ≡ codec
    → HaveCodec n codec xs → HaveCodec (n + 1) codec xs
have_more {D = D} {ghosts = ghosts} n codec xs x within is here so_far k d lt = elim (cases_lt k n) [
  | inl before ↦ so_far k d before
  | inr le ↦
      let same : k ≡ n = omega (arith, lt, le) in
      ap (λ (m : ℕ). (get_or xs m d).layout.params.codec) same ∙ ap (λ (y : Input D ghosts). y.layout.params.codec) (sym (get_or_read xs n x within is d)) ∙ here
]

pub loop-input-preserved : goal.loop-input-preserved
loop-input-preserved g c =
    let x = c.input-item.result in
    let here : x.layout.params.codec ≡ c.args.codec = search rules in
    have_more c.loop-input.input-index c.args.codec c.args.inputs.now x c.loop-input-test.true c.input-item.is here c.loop-input.invariant
