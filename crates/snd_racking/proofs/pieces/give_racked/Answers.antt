use Rattle.std.proofs.Common.{rules, ◌≡◌, ◌∙◌, ap, sym, subst, refl, ℕ, ◌+◌, ◌-◌, ◌*◌, ◌/◌, ◌≤◌, ℤ, List, ◌++◌, length, map, take, min, arith}
use Rattle.std.proofs.Math.Nat.{zero-div, zero-mod}
use Rattle.std.proofs.lemmas.List.{take_all}
use Rattle.snd_disk.proofs.Public.{goes_on_then}
use Rattle.snd_file.specs.Handle.{channels_of, codec_of, known_of}
use Rattle.snd_layout.specs.Shape.{Shape}
use Rattle.snd_output.specs.Made.{IsMaking}
use Rattle.snd_output.specs.Widths.{change_numbers}
use Rattle.snd_output.proofs.Public.{longer_as, longer_none}
use Rattle.snd_rack.specs.Held.{Held}
use Rattle.snd_racking.specs.Appending.{passed_groups}
use Rattle.snd_racking.proofs.Rounds.{none_given, none_passed, turn_end, turn_longer, turn_may, turn_numbers, turn_states}
use Rattle.snd_racking.proofs.Turns.{piece_size, turn_fits, turn_whole}
use Rattle.snd_racking.proofs.pieces.give_racked.Goals as goal

pub loop-at-init : goal.loop-at-init
loop-at-init g c =
    let hs : List Held = map (λ b. (goal.Stage-dyn g (b.vtable, b.value)).stage b.value) c.args.stages.now in
    let to = known_of c.args.to.now in
    record {
      within = omega arith;
      whole = zero-mod c.args.channels;
      loan = refl;
      written = longer_as 0 (0 / c.args.channels) to to (sym (zero-div c.args.channels)) (longer_none to);
      gains = λ kind p pieces xs e stands making.
          (e, stands, subst (λ (l : List ℤ). IsMaking kind p pieces l e) (none_given c.args.channels hs c.args.codec (codec_of c.args.to.now) xs) making);
      states = none_passed c.args.channels hs;
      calm = refl;
      tells = search rules;
      time = search rules;
      asked = refl;
    }

pub give_piece-requires-clause-may : goal.give_piece-requires-clause-may
give_piece-requires-clause-may g c =
    let hs : List Held = map (λ b. (goal.Stage-dyn g (b.vtable, b.value)).stage b.value) c.args.stages.now in
    let then : List Held = map (λ b. (goal.Stage-dyn g (b.vtable, b.value)).stage b.value) c.loop-at.stages in
    let inv = c.loop-at.invariant in
    let at = c.loop-at.at in
    let end = at + c.min.result in
    let n = end - at in
    let few : c.min.result ≡ min c.args.most (length c.args.numbers.now - at) = search rules in
    let n_is : n ≡ min c.args.most (length c.args.numbers.now - at) = omega (arith, few) in
    let whole = turn_whole c.args.channels c.args.most (length c.args.numbers.now) at n c.requires.may.some c.requires.piece.whole c.requires.may.whole inv.whole inv.within n_is in
    turn_may c.args.codec c.args.channels hs then c.args.numbers.now at n end (known_of c.args.to.now) (known_of c.loop-at.to) c.requires.may inv.written inv.states inv.whole (omega arith) (omega (arith, few, inv.within)) whole

pub give_piece-requires-clause-fits : goal.give_piece-requires-clause-fits
give_piece-requires-clause-fits g c =
    let inv = c.loop-at.invariant in
    let at = c.loop-at.at in
    let n = at + c.min.result - at in
    let few : c.min.result ≡ min c.args.most (length c.args.numbers.now - at) = search rules in
    let n_is : n ≡ min c.args.most (length c.args.numbers.now - at) = omega (arith, few) in
    let whole = turn_whole c.args.channels c.args.most (length c.args.numbers.now) at n c.requires.may.some c.requires.piece.whole c.requires.may.whole inv.whole inv.within n_is in
    let size = piece_size c.args.channels c.args.numbers.now at n c.requires.may.some inv.whole (omega (arith, few, inv.within)) whole in
    let same : channels_of c.loop-at.to ≡ channels_of c.args.to.now = ap (λ (s : Shape). s.params.channels) inv.written.shape in
    let fits = turn_fits c.args.channels (channels_of c.args.to.now) c.args.most n 16384 c.requires.may.some c.requires.piece.whole whole (omega (arith, n_is)) c.requires.piece.fits in
    subst (λ (i : ℕ). i / c.args.channels * channels_of c.loop-at.to ≤ 16384) (sym size) (subst (λ (i : ℕ). n / c.args.channels * i ≤ 16384) (sym same) fits)

pub loop-at-preserved : goal.loop-at-preserved
loop-at-preserved g c =
    let hs : List Held = map (λ b. (goal.Stage-dyn g (b.vtable, b.value)).stage b.value) c.args.stages.now in
    let then : List Held = map (λ b. (goal.Stage-dyn g (b.vtable, b.value)).stage b.value) c.loop-at.stages in
    let to = known_of c.loop-at.to in
    let inv = c.loop-at.invariant in
    let one = c.in_ok-give_piece.ensures in
    let at = c.loop-at.at in
    let end = at + c.min.result in
    let n = end - at in
    let numbers = c.args.numbers.now in
    let few : c.min.result ≡ min c.args.most (length numbers - at) = search rules in
    let n_is : n ≡ min c.args.most (length numbers - at) = omega (arith, few) in
    let within : end ≤ length numbers = omega (arith, few, inv.within) in
    let is : at + n ≡ end = omega arith in
    let whole = turn_whole c.args.channels c.args.most (length numbers) at n c.requires.may.some c.requires.piece.whole c.requires.may.whole inv.whole inv.within n_is in
    record {
      within = within;
      whole = turn_end c.args.codec c.args.channels hs then numbers at n end (known_of c.args.to.now) to c.requires.may inv.written inv.states inv.whole is within whole;
      loan = one.loan ∙ inv.loan;
      written = turn_longer c.args.codec c.args.channels hs then numbers at n end (known_of c.args.to.now) to c.requires.may inv.written inv.states inv.whole is within whole (known_of c.give_piece.new.to) one.left;
      gains = λ kind p pieces xs e stands making.
          let before = inv.gains kind p pieces xs e stands making in
          let so_far = xs ++ change_numbers c.args.codec (codec_of c.args.to.now) (passed_groups c.args.channels hs (take at numbers)) in
          let more = one.gains kind p pieces so_far before.0 before.1 before.2 in
          let are = turn_numbers c.args.codec c.args.channels hs then numbers at n end (known_of c.args.to.now) to c.requires.may inv.written inv.states inv.whole is within whole xs in
          (more.0, more.1, subst (λ (l : List ℤ). IsMaking kind p pieces l more.0) are more.2);
      states = one.states ∙ turn_states c.args.codec c.args.channels hs then numbers at n end (known_of c.args.to.now) to c.requires.may inv.written inv.states inv.whole is within whole;
      calm = one.faults ∙ inv.calm;
      tells = search rules;
      time = goes_on_then _ _ _ _ _ _ inv.time one.time;
      asked = one.asked ∙ inv.asked;
    }

pub returns-clause-gains : goal.returns-clause-gains
returns-clause-gains g c = λ kind p pieces xs e stands making.
    let hs : List Held = map (λ b. (goal.Stage-dyn g (b.vtable, b.value)).stage b.value) c.args.stages.now in
    let got = c.loop-at.invariant.gains kind p pieces xs e stands making in
    let all : take c.loop-at.at c.args.numbers.now ≡ c.args.numbers.now = take_all c.loop-at.at c.args.numbers.now (omega (arith, c.loop-at-test.false)) in
    (got.0, got.1, subst (λ (l : List ℤ). IsMaking kind p pieces (xs ++ change_numbers c.args.codec (codec_of c.args.to.now) (passed_groups c.args.channels hs l)) got.0) all got.2)
