use Rattle.std.proofs.Common.{◌≡◌, ◌∙◌, ap, sym, subst, ℕ, ◌+◌, ◌*◌, ◌<◌, ℤ, List, [], ◌∷◌, ◌++◌, All, drop, get_or, length, take, set, to_z, of_z, w16, arith, rules}
use Rattle.std.proofs.lemmas.List.{drop_more, length-set}
use Rattle.snd_ima_adpcm.specs.Frames.{high_half_first}
use Rattle.snd_vox.specs.Vox.{vox_samples, vox_state_read}
use Rattle.snd_pcm.specs.Width.{HasWidth}
use Rattle.snd_import.proofs.Halves.{one_read, one_stepped, two_fit}
use Rattle.snd_import.proofs.codes.read_codes.Goals as goal

pub loop-i-preserved : goal.loop-i-preserved
loop-i-preserved c =
    let inv = c.loop-i.invariant in
    let i = c.loop-i.i in
    let bytes = c.args.bytes.now in
    let byte = get_or bytes i 0 in
    let within : i < length bytes = search rules in
    let next : drop i bytes ≡ byte ∷ drop (i + 1) bytes = drop_more bytes i 0 within in
    let twice : 2 * (i + 1) ≡ 2 * i + 2 = omega arith in
    let places : 2 * i + 1 < length c.loop-i.numbers = omega (arith, within, inv.size) in
    let x = to_z w16 (of_z w16 c.next-first.result.0) in
    let y = to_z w16 (of_z w16 c.next-first.result.1) in
    let first : x ≡ c.next-first.result.0 = search rules in
    let second : y ≡ c.next-first.result.1 = search rules in
    let samples : x ∷ y ∷ [] ≡ vox_samples c.loop-i.reader (high_half_first (byte ∷ [])) =
    ap (λ (z : ℤ). z ∷ y ∷ []) first ∙ ap (λ (z : ℤ). c.next-first.result.0 ∷ z ∷ []) second ∙ c.next-first.ensures.samples in
    let now = c.put_two.new.numbers in
    let put : now ≡ set (set c.loop-i.numbers (2 * i) x) (2 * i + 1) y = c.put_two.ensures.put in
    record {
      so_far =
          ap (λ (n : ℕ). take n now ++ vox_samples c.next-first.new.self (high_half_first (drop (i + 1) bytes))) twice
          ∙ ap (λ (l : List ℤ). take (2 * i + 2) l ++ vox_samples c.next-first.new.self (high_half_first (drop (i + 1) bytes))) put
          ∙ one_read c.loop-i.reader c.next-first.new.self byte (drop (i + 1) bytes) c.loop-i.numbers _ (2 * i) x y samples c.next-first.ensures.state places
          (ap (λ (l : List ℕ). take (2 * i) c.loop-i.numbers ++ vox_samples c.loop-i.reader (high_half_first l)) (sym next) ∙ inv.so_far);
      state = one_stepped c.loop-i.reader c.next-first.new.self _ byte (drop (i + 1) bytes) c.next-first.ensures.state (ap (λ (l : List ℕ). vox_state_read c.loop-i.reader (high_half_first l)) (sym next) ∙ inv.state);
      in_range = subst (λ (n : ℕ). All (HasWidth 16) (take n now)) (sym twice) (subst (λ (l : List ℤ). All (HasWidth 16) (take (2 * i + 2) l)) (sym put)
          (two_fit c.loop-i.numbers (2 * i) x y places inv.in_range c.put_two.ensures.fit.0 c.put_two.ensures.fit.1));
      size = ap (λ (l : List ℤ). length l) put ∙ length-set (set c.loop-i.numbers (2 * i) x) (2 * i + 1) y ∙ length-set c.loop-i.numbers (2 * i) x ∙ inv.size;
    }
