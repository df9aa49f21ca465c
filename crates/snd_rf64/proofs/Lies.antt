-- What holds of the layout that a list of bytes gives.
use Rattle.std.proofs.Common.{Bool, ◌≡◌, ap, sym, subst, refl, ℕ, ◌+◌, ◌*◌, ◌-◌, ◌^◌, ◌<◌, ◌≤◌, List, All, None, Ok, length, drop, arith}
use Rattle.std.proofs.lemmas.List.Elements.{All-drop, All-take, All-weaker}
use Rattle.std.specs.Prelude.{codes}
use Rattle.snd_chunks.proofs.Public.{chain_end, in_order, is_head, IsBetween, IsHead, tail_ends}
use Rattle.snd_chunks.specs.declared.front.Front.{Front}
use Rattle.snd_chunks.specs.Chunks.{chunk_at}
use Rattle.snd_chunks.specs.Walks.{EndsBy}
use Rattle.snd_fields.proofs.Numbers.{number_fits}
use Rattle.snd_fields.specs.Field.{number}
use Rattle.snd_fields.specs.Laws.{IsByte}
use Rattle.snd_fields.specs.declared.field.Order.TheVariants.{Little}
use Rattle.snd_layout.specs.Container.{LiesIn}
use Rattle.snd_layout.specs.Format.{format_of}
use Rattle.snd_layout.specs.Opened.{EndsIn}
use Rattle.snd_layout.specs.Params.{AreParams, Parameters, data_bytes}
use Rattle.snd_layout.specs.Shape.{IsPlaced, KeepsRule, Shape}
use Rattle.snd_layout.specs.declared.kind.Kind.TheVariants.{Rf64}
use Rattle.snd_layout.specs.declared.piece.Piece.{Piece}
use Rattle.snd_layout.specs.Fit.{fit_refusal}
use Rattle.snd_layout.proofs.StatedFormats.{good_params}
use Rattle.snd_wave.proofs.Public.{pieces_end}
use Rattle.snd_chunks.specs.Parts.{body_of, whole_frames}
use Rattle.snd_rf64.specs.Layout.{held, outer_end, rf64_front, rf64_layout, rf64_shape, rf64_tail, shape_at}
use Rattle.snd_rf64.specs.declared.sizes.Sizes.{Sizes}
use Rattle.snd_rf64.proofs.Counted.{frames_few}
use Rattle.snd_rf64.proofs.Opens.{Begins, Opens, TellsSizes, begins, fits_rf64, opens, reached, tells}

pub keeps_rule : (p : Parameters) (start bytes sound : ℕ) (trailing : Bool) (pieces : List Piece) → AreParams p → fit_refusal Rf64 p ≡ None → 56 ≤ start → start + bytes + 8 ≤ 2 ^ 63 → bytes ≤ sound → sound < 2 ^ 63 → All IsPlaced pieces
    → KeepsRule (shape_at p start (whole_frames p bytes) sound trailing pieces)
keeps_rule p start bytes sound trailing pieces good fits late ends few short placed =
    let held_all : data_bytes p (whole_frames p bytes) ≤ bytes = frames_few p bytes good fits in
    record {
      fits = fits;
      inner_size = refl;
      outer_size = refl;
      side_size = refl;
      inner_end = omega (arith, late);
      outer_end = omega (arith, late);
      side_end = omega (arith, late);
      sound_start = refl;
      pieces_placed = placed;
      data_end = omega (arith, held_all, ends);
      in_room = λ known. omega (arith, held_all, few);
      declared_fits = short;
      reserved = tt;
    }

-- the data begin early
early : (b : List ℕ) (h : Shape) (from : Opens b h) → All IsByte b → from.sound.at < 2 ^ 42
early b h from bytes =
    let reach = reached b from.sizes.next from.sound from.sound_is in
    let head : IsHead Little b reach.last from.sound = is_head Little b reach.last from.sound reach.at in
    let tell : TellsSizes b from.sizes = tells b from.sizes from.told in
    let next = ap (λ (s : Sizes). s.next) tell.is in
    let few : number Little b 16 4 < 2 ^ 32 = number_fits Little b 16 4 bytes in
    let near : reach.last ≤ from.sizes.next + length (rf64_front b from.sizes.next).chunks * 2 ^ 33 =
    chain_end Little b (codes "data") (length b) from.sizes.next reach.last (rf64_front b from.sizes.next).chunks bytes reach.chain in
    omega (arith, near, reach.few, head.at, next, few)

pub lies_in : (b : List ℕ) (h : Shape) → All IsByte b → rf64_layout b ≡ Ok h → LiesIn b h
lies_in b h bytes is =
    let from : Opens b h = opens b h is in
    let s : Sizes = from.sizes in
    let f : Front = rf64_front b s.next in
    let p : Parameters = from.params in
    let start : ℕ = from.sound.at in
    let fit = fits_rf64 (format_of (body_of b from.format)) p from.params_are in
    let format_bytes : All IsByte (body_of b from.format) = All-take IsByte from.format.len (drop from.format.at b) (All-drop IsByte from.format.at b bytes) in
    let good : AreParams p = good_params (body_of b from.format) p format_bytes fit.1 in
    let tell : TellsSizes b s = tells b s from.told in
    let sound : s.sound < 2 ^ 63 = let e = ap (λ (t : Sizes). t.sound) tell.is in omega (arith, e) in
    let begin : Begins b s.next from.sound = begins b s.next from.sound from.sound_is in
    let near : start < 2 ^ 42 = early b h from bytes in
    let reach = reached b s.next from.sound from.sound_is in
    let head : IsHead Little b reach.last from.sound = is_head Little b reach.last from.sound reach.at in
    let ordered = in_order Little b (codes "data") (length b) s.next reach.last f.chunks reach.chain in
    let before : All (EndsBy (2 ^ 63 - 1)) f.chunks = All-weaker (IsBetween s.next reach.last) (EndsBy (2 ^ 63 - 1)) (λ chunk is. omega (arith, is.before, head.at, near)) f.chunks ordered.1 in
    let shape : Shape = rf64_shape b s f p start in
    let all : All (EndsIn (2 ^ 63 - 1)) shape.pieces =
    pieces_end (2 ^ 63 - 1) (outer_end (length b) s.whole) f.chunks (rf64_tail b s f start) shape.pieces (omega arith) before (tail_ends (chunk_at Little b) (outer_end (length b) s.whole) _ _) refl in
    let placed : All IsPlaced shape.pieces = All-weaker (EndsIn (2 ^ 63 - 1)) IsPlaced (λ piece is. omega (arith, is)) shape.pieces all in
    let some : ℕ = held (length b) start s.sound in
    let few = frames_few p some good fit.0 in
    subst (λ (t : Shape). LiesIn b t) (sym from.shape) (record {
      params = good;
      rule = keeps_rule p start some s.sound _ shape.pieces good fit.0 (omega (arith, begin.least, tell.behind)) (omega (arith, near)) (omega arith) sound placed;
      within = begin.within;
      held = omega (arith, few, begin.within);
      room_ends = omega (arith, near);
      declared = λ known. omega (arith, few);
    })
