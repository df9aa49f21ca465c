-- What a new file of 16 bits without further chunks says of itself.
use Rattle.std.proofs.Common.{◌≡◌, ◌∙◌, ap, sym, refl, ℕ, List, [], Some, None, false, length}
use Rattle.snd_chunks.specs.Written.{all_placed, chunks_bytes}
use Rattle.snd_fields.specs.declared.field.Order.TheVariants.{Little}
use Rattle.snd_layout.specs.Params.{Parameters, data_bytes}
use Rattle.snd_layout.specs.Shape.{Shape}
use Rattle.snd_layout.specs.declared.codec.Codec.{Codec}
use Rattle.snd_layout.specs.declared.codec.Codec.TheVariants.{S16}
use Rattle.snd_layout.specs.declared.kind.Kind.TheVariants.{Wave}
use Rattle.snd_wave.proofs.Starts.{begins_wave}
use Rattle.snd_wave.specs.Written.{head_size, inner_at, made_shape, reserved_pieces, reserved_shape, side_at}

module _ (p : Parameters) where
  -- by its codec, and the place of its data
  abbrev pub laid_by : Codec → ℕ → Shape
  laid_by codec start = record {
    kind = Wave;
    params = p;
    start = start;
    frames = 0;
    declared = data_bytes p 0;
    inner = inner_at codec start;
    outer = Some (record { at = 4; size = 4 });
    side = side_at codec start;
    trailing = false;
    unknown_length = false;
    reserve = None;
    pieces = [];
  }

  shape_is : made_shape p [] 0 ≡ laid_by p.codec (head_size p [])
  unfolding reserved_shape reserved_pieces all_placed
  shape_is = refl

  no_chunks : length (chunks_bytes Little []) ≡ 0
  unfolding chunks_bytes
  no_chunks = refl

  size_is : p.codec ≡ S16 Little → 44 ≡ head_size p []
  size_is same = begins_wave (S16 Little) 0 44 4 44 refl refl refl p [] same no_chunks

  -- its data begin at 44
  pub plain_is : p.codec ≡ S16 Little → made_shape p [] 0 ≡ laid_by (S16 Little) 44
  plain_is same = shape_is ∙ ap (laid_by p.codec) (sym (size_is same)) ∙ ap (λ (codec : Codec). laid_by codec 44) same
