-- In the kinds that hold chunks, what closes the data is its pad.
use Rattle.std.proofs.Common.{◌≡◌, refl, ℕ, true}
use Rattle.snd_chunks.specs.Written.{pad}
use Rattle.snd_container.specs.Kinds.{container_of}
use Rattle.snd_layout.specs.Kinds.{holds_pieces}
use Rattle.snd_layout.specs.Params.{data_bytes}
use Rattle.snd_layout.specs.Shape.{Shape}
use Rattle.snd_layout.specs.declared.kind.Kind.{Kind}
use Rattle.snd_layout.specs.declared.kind.Kind.TheVariants.{Wave, Rf64, W64, Au, Dns, Voc, Svx, Sphere}
use Rattle.snd_rf64.specs.Values as rf64
use Rattle.snd_svx.specs.Values as svx
use Rattle.snd_wave.specs.Values as wave

pub closes_with_pad : (kind : Kind) (h : Shape) (n : ℕ) → holds_pieces kind ≡ true → (container_of kind).closing h n ≡ pad (data_bytes h.params n)
unfolding wave.closing rf64.closing svx.closing
closes_with_pad Wave h n holds = refl
closes_with_pad Rf64 h n holds = refl
closes_with_pad Svx h n holds = refl
closes_with_pad W64 h n holds = absurd (cc)
closes_with_pad Au h n holds = absurd (cc)
closes_with_pad Dns h n holds = absurd (cc)
closes_with_pad Voc h n holds = absurd (cc)
closes_with_pad Sphere h n holds = absurd (cc)
