-- The data bytes of frames that do not stand in blocks.
use Rattle.std.proofs.Common.{◌≡◌, ℕ, ◌+◌, ◌-◌, ◌*◌, ◌/◌, [], false, Option, None, Some, refl, sym, ◌∙◌, ap, arith}
use Rattle.std.specs.Prelude.{is_none}
use Rattle.snd_chunks.specs.Written.{chunks_bytes}
use Rattle.snd_container.specs.Sound.{fixed_of}
use Rattle.snd_container.specs.declared.fixed.Fixed.{Fixed}
use Rattle.snd_layout.specs.Blocks.{block_align}
use Rattle.snd_layout.specs.Params.{Parameters, data_bytes}
use Rattle.snd_layout.specs.declared.kind.Kind.{Kind}
use Rattle.snd_edits.proofs.Public.{linear_frames}
use Rattle.snd_container.specs.Room.{Take}

-- no chunks take no bytes
pub none_take : (kind : Kind) → Take kind 0 []
unfolding chunks_bytes
none_take kind = refl

some_form : (o : Option Fixed) → is_none o ≡ false → (form : Fixed) × (o ≡ Some form)
some_form None linear = absurd (cc)
some_form (Some form) linear = (form, refl)

module _ (p : Parameters) (linear : is_none (fixed_of p.codec) ≡ false) where
  pub align_bytes : (n : ℕ) → n * block_align p.channels p.codec ≡ data_bytes p n
  align_bytes n =
      let form = some_form (fixed_of p.codec) linear in
      sym (ap (λ (m : ℕ). (n + m - 1) / m * block_align p.channels p.codec) (linear_frames p.codec form.0 form.1)
      ∙ ap (λ (m : ℕ). m * block_align p.channels p.codec) (let e : (n + 1 - 1) / 1 ≡ n = omega arith in e))
