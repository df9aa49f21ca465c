-- What a file that is made says of itself.
use Rattle.std.proofs.Common.{◌≡◌, sym, refl, [], None, arith}
use Rattle.std.proofs.lemmas.List.Elements.{All-nil}
use Rattle.snd_layout.specs.Container.{IsNew}
use Rattle.snd_layout.specs.Fit.{fit_refusal}
use Rattle.snd_layout.specs.Params.{AreParams, Parameters, data_bytes}
use Rattle.snd_layout.specs.declared.kind.Kind.TheVariants.{Wave}
use Rattle.snd_chunks.specs.Written.{all_placed}
use Rattle.snd_chunks.specs.HeadLaws.{IsOfBytes}
use Rattle.snd_wave.proofs.HeadsOfBytes.{wave_is}
use Rattle.snd_wave.proofs.Made.{head_reads_back, length-head_for, no_bytes_yet}
use Rattle.snd_wave.specs.Container.{wave}
use Rattle.snd_wave.specs.Written.{MayBeMade, MayBePiece, made_pieces, reserved_pieces, reserved_shape}

no_pieces : (p : Parameters) → AreParams p → fit_refusal Wave p ≡ None → MayBeMade p [] 0
no_pieces p good fits = record {
  params = good;
  fits = fits;
  pieces_are = All-nil MayBePiece;
  few = omega arith;
  in_room = let none : data_bytes p 0 ≡ 0 = no_bytes_yet p good fits in omega (arith, none);
  counted = λ adpcm. omega arith;
  reserved = tt;
}

no_piece : (p : Parameters) → made_pieces p [] ≡ []
unfolding reserved_pieces all_placed
no_piece p = refl

pub is_new : (p : Parameters) → AreParams p → fit_refusal Wave p ≡ None → IsNew Wave wave p
unfolding reserved_shape
is_new p good fits = record {
  told = head_reads_back p [] (no_pieces p good fits);
  bytes = wave_is p [] (All-nil IsOfBytes);
  is_kind = refl;
  params = refl;
  frames = refl;
  start = sym (length-head_for p [] 0);
  known = refl;
  free = refl;
  pieces = no_piece p;
}
