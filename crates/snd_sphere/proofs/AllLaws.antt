-- SPHERE files keep all laws of containers.
use Rattle.std.proofs.Common.{◌≡◌, refl, sym, ap, arith}
use Rattle.std.proofs.lemmas.List.Elements.{All-nil}
use Rattle.snd_fields.specs.Laws.{IsByte}
use Rattle.snd_layout.specs.Container.{KeepsLaws}
use Rattle.snd_layout.specs.Shape.{Shape}
use Rattle.snd_layout.specs.declared.kind.Kind.TheVariants.{Sphere}
use Rattle.snd_sphere.specs.Container.{sphere}
use Rattle.snd_sphere.specs.Values.{inner_value}
use Rattle.snd_sphere.specs.Written.{made_shape}
use Rattle.snd_sphere.proofs.Digits.{are_bytes}
use Rattle.snd_sphere.proofs.Kept.{apart, fill, fitting, lie, marked, new, no_pieces, old, opens, outside_data}
use Rattle.snd_sphere.proofs.Made.{head_bytes, head_size}
use Rattle.snd_sphere.proofs.ReadsBack.{head_reads_back}

pub keeps_laws : KeepsLaws Sphere sphere
unfolding inner_value made_shape
keeps_laws = record {
  marks = marked;
  lies = λ b h bytes told. lie b h told;
  old = λ b x h says bytes free known hold keeps has reach. old b h says x hold keeps has;
  new = λ b x h n may keeps has there reach. new b h may.says x n may keeps has (omega (arith, there));
  outside = λ b x h told params size same. outside_data b x h told size same;
  voice = λ b x h says kind. absurd (let e : h.kind ≡ Sphere = ap (λ (s : Shape). s.kind) (opens b (record h { trailing = says.goes_on }) says.told).shape in cc);
  declares = λ b h told kind. absurd (let e : h.kind ≡ Sphere = ap (λ (s : Shape). s.kind) (opens b h told).shape in cc);
  reaches = λ b x h n says has. omega arith;
  stops = λ b x h says free has few. omega arith;
  within = λ kind x. omega arith;
  order = λ b h n says. (λ le. omega (arith, le), λ le. omega (arith, le));
  closes = λ h. record { few = λ n. omega arith; ordered = λ n m le. omega (arith, le) };
  apart = λ b h says. apart b h says;
  fill = λ b h n says. fill b h says n;
  fit = fitting;
  free = λ h n declared trailing m. record { inner = refl; outer = refl; side = refl; closing = refl };
  bytes = λ h n. record { inner = are_bytes h.inner.size n; outer = All-nil IsByte; side = All-nil IsByte; closing = All-nil IsByte };
  pieces = λ b x h told params there keeps same. no_pieces b x h told;
  made = λ p good fits. record {
    told = head_reads_back p good fits;
    bytes = head_bytes p good;
    is_kind = refl;
    params = refl;
    frames = refl;
    start = sym (head_size p good);
    known = refl;
    free = refl;
    pieces = refl;
  };
}
