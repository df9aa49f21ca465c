-- A head with a place for a reservation.
use Rattle.std.proofs.Common.{◌≡◌, refl, ◌==◌, not, ◌&&◌, true, false, ℕ, [], Option, None, Some, length}
use Rattle.std.proofs.lemmas.Bool.{and_parts, eqb-true, not-true}
use Rattle.std.proofs.lemmas.List.{nil_from_length}
use Rattle.std.specs.Prelude.{is_none}
use Rattle.snd_layout.specs.Blocks.{is_adpcm}
use Rattle.snd_layout.specs.Shape.{Shape}
use Rattle.snd_layout.specs.declared.kind.Kind.{Kind}
use Rattle.snd_layout.specs.declared.kind.Kind.TheVariants.{Wave, Rf64, W64, Au, Dns, Voc, Svx, Sphere}
use Rattle.snd_reservations.specs.States.{has_place, is_wave}

pub record HasPlace (h : Shape) : Type 0 where
  pub wave : h.kind ≡ Wave
  pub fixed : is_adpcm h.params.codec ≡ false
  pub bare : h.pieces ≡ []
  pub free : h.reserve ≡ None

wave_is : (kind : Kind) → is_wave kind ≡ true → kind ≡ Wave
wave_is Wave is = refl
wave_is Rf64 is = absurd (cc)
wave_is W64 is = absurd (cc)
wave_is Au is = absurd (cc)
wave_is Dns is = absurd (cc)
wave_is Voc is = absurd (cc)
wave_is Svx is = absurd (cc)
wave_is Sphere is = absurd (cc)

none_is : (o : Option ℕ) → is_none o ≡ true → o ≡ None
none_is None is = refl
none_is (Some len) is = absurd (cc)

pub place_is : (h : Shape) → has_place h ≡ true → HasPlace h
place_is h is =
    let last = and_parts (is_wave h.kind && not (is_adpcm h.params.codec) && (length h.pieces == 0)) (is_none h.reserve) is in
    let third = and_parts (is_wave h.kind && not (is_adpcm h.params.codec)) (length h.pieces == 0) last.0 in
    let first = and_parts (is_wave h.kind) (not (is_adpcm h.params.codec)) third.0 in
    record {
      wave = wave_is h.kind first.0;
      fixed = not-true (is_adpcm h.params.codec) first.1;
      bare = nil_from_length h.pieces (eqb-true (length h.pieces) 0 third.1);
      free = none_is h.reserve last.1;
    }
