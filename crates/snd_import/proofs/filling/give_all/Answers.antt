use Rattle.std.proofs.Common.{◌≡◌, ◌∙◌, ap, sym, subst, refl, ℕ, ◌+◌, ◌-◌, ◌*◌, ◌/◌, ◌%◌, ◌<◌, ◌≤◌, List, Result, Ok, Err, drop, length, take, rules, arith}
use Rattle.std.proofs.lemmas.List.{length-take-le}
use Rattle.snd_file.specs.Handle.{channels_of, codec_of, known_of}
use Rattle.snd_layout.specs.Shape.{Shape}
use Rattle.snd_output.proofs.Public.{longer_as, longer_none, longer_then}
use Rattle.snd_output.specs.Widths.{change_numbers}
use Rattle.snd_output.specs.declared.stop.Stop.{Stop}
use Rattle.snd_import.proofs.Carried.{carries_none, carries_then, carries_within}
use Rattle.snd_import.proofs.Gained.{gains_same, given_all, given_next, given_none}
use Rattle.snd_import.proofs.Pieces.{are_numbers, bytes_fewer, bytes_joined, bytes_none, frames_counted, frames_whole, takes_as, takes_next}
use Rattle.snd_import.specs.Filling.{Carries, IsPiece, sound_behind, state_behind}
use Rattle.snd_import.specs.Import.{bytes_in}
use Rattle.snd_import.specs.Source.{IsHeld}
use Rattle.snd_import.specs.declared.source.Coding.TheVariants.{Codes}
use Rattle.snd_import.proofs.filling.give_all.Goals as goal

pub loop-given-init : goal.loop-given-init
loop-given-init g c =
    let s = c.args.source.now in
    let none : 0 ≡ bytes_in s.coding s.params 0 = sym (bytes_none s.coding s.params) in
    record {
      within = omega arith;
      even = λ is. refl;
      longer = longer_none (known_of c.args.to.now);
      carries = subst (λ (n : ℕ). Carries {T = Unit {0}} g.D.Disk g.E.Disk n c.args.disk.now c.args.disk.now c.args.to.now c.args.to.now (Ok (tt {0}))) none
          (carries_none g.D.Disk g.E.Disk (tt {0}) c.args.disk.now c.args.to.now c.requires.takes.at_end.working);
      so_far = λ b told.
          let held : IsHeld (length b) s = subst (λ (n : ℕ). IsHeld n s) (g.met.D.Disk.size_told c.args.disk.now b told) c.requires.held in
          given_none g.E.Disk.state s b held c.new-reader.result c.args.to.now c.new-reader.ensures;
    }

pub bytes_in-requires : goal.bytes_in-requires
bytes_in-requires g c =
    let s = c.args.source.now in
    let few = bytes_fewer s.coding s.params c.loop-given.given s.frames c.loop-given.invariant.within in
    omega (arith, few, c.requires.held.within, g.met.D.Disk.size_fits c.args.disk.now)

pub overflow_add-at : goal.overflow_add-at
overflow_add-at g c =
    let s = c.args.source.now in
    let few = bytes_fewer s.coding s.params c.loop-given.given s.frames c.loop-given.invariant.within in
    omega (arith, few, c.bytes_in.ensures, c.requires.held.within, g.met.D.Disk.size_fits c.args.disk.now)

pub pass_piece-requires-clause-within : goal.pass_piece-requires-clause-within
pass_piece-requires-clause-within g c =
    let s = c.args.source.now in
    let i = c.loop-given.given in
    let k = c.next_count-count.result in
    let inv = c.loop-given.invariant in
    let sum = bytes_joined s.coding s.params i k inv.even in
    let few = bytes_fewer s.coding s.params (i + k) s.frames (omega (arith, c.next_count-count.ensures.fits, c.loop-given-test.true)) in
    let n = c.bytes_in-in-loop-given.result in
    let size : length (take n c.loop-given.bytes) ≡ n = length-take-le n c.loop-given.bytes (omega (arith, c.bytes_in-in-loop-given.array_long, c.bytes_in-in-loop-given.ensures, c.next_count-count.ensures.bytes)) in
    omega (arith, sum, few, size, c.bytes_in.ensures, c.bytes_in-in-loop-given.ensures, c.requires.held.within, inv.carries.reads.keeps.size)

pub pass_piece-requires-clause-takes : goal.pass_piece-requires-clause-takes
pass_piece-requires-clause-takes g c =
    let s = c.args.source.now in
    let i = c.loop-given.given in
    let k = c.next_count-count.result in
    let m = c.from-channels.result in
    let inv = c.loop-given.invariant in
    let m_is : m ≡ s.params.channels = search rules in
    let same : m ≡ channels_of c.loop-given.to = m_is ∙ c.requires.takes.alike ∙ sym (ap (λ (h : Shape). h.params.channels) inv.longer.shape) in
    let size : length (take (k * m) c.loop-given.numbers) ≡ k * m = search rules in
    let counted : length (take (k * m) c.loop-given.numbers) / channels_of c.loop-given.to ≡ k =
    ap (λ (n : ℕ). n / channels_of c.loop-given.to) size ∙ frames_counted k m (channels_of c.loop-given.to) same (omega (arith, m_is, c.requires.held.source.good.some_channel)) in
    takes_as s k _ (known_of c.loop-given.to) (sym counted)
    (takes_next s s.frames i k (known_of c.args.to.now) (known_of c.loop-given.to) c.requires.takes inv.longer (omega (arith, c.next_count-count.ensures.fits, c.loop-given-test.true)))

pub pass_piece-requires-clause-whole : goal.pass_piece-requires-clause-whole
pass_piece-requires-clause-whole g c =
    let s = c.args.source.now in
    let k = c.next_count-count.result in
    let m = c.from-channels.result in
    let m_is : m ≡ s.params.channels = search rules in
    let same : m ≡ channels_of c.loop-given.to = m_is ∙ c.requires.takes.alike ∙ sym (ap (λ (h : Shape). h.params.channels) c.loop-given.invariant.longer.shape) in
    let size : length (take (k * m) c.loop-given.numbers) ≡ k * m = search rules in
    ap (λ (n : ℕ). n % channels_of c.loop-given.to) size ∙ frames_whole k m (channels_of c.loop-given.to) same

pub pass_piece-requires-clause-held : goal.pass_piece-requires-clause-held
pass_piece-requires-clause-held g c =
    let s = c.args.source.now in
    let i = c.loop-given.given in
    let k = c.next_count-count.result in
    let m = c.from-channels.result in
    let n = c.bytes_in-in-loop-given.result in
    let m_is : m ≡ s.params.channels = search rules in
    let numbers : length (take (k * m) c.loop-given.numbers) ≡ k * m = search rules in
    let bytes : length (take n c.loop-given.bytes) ≡ n = length-take-le n c.loop-given.bytes (omega (arith, c.bytes_in-in-loop-given.array_long, c.bytes_in-in-loop-given.ensures, c.next_count-count.ensures.bytes)) in
    let even = λ (is : s.coding ≡ Codes). c.next_count-count.ensures.even is (omega (arith, c.loop-given.invariant.even is, (c.requires.held.source.codes is).even)) in
    let are = are_numbers s.coding s.params k c.requires.held.source.fixed (λ is. (c.requires.held.source.codes is).mono) even in
    subst (λ (x : ℕ). IsPiece s x (length (take n c.loop-given.bytes))) (sym (numbers ∙ ap (λ (x : ℕ). k * x) m_is))
    (subst (λ (x : ℕ). IsPiece s (k * s.params.channels) x) (sym (bytes ∙ c.bytes_in-in-loop-given.ensures)) are)

pub returns-in_err-pass_piece-clause-carries : goal.returns-in_err-pass_piece-clause-carries
returns-in_err-pass_piece-clause-carries g c =
    let s = c.args.source.now in
    let i = c.loop-given.given in
    let k = c.next_count-count.result in
    let n = c.bytes_in-in-loop-given.result in
    let inv = c.loop-given.invariant in
    let size : length (take n c.loop-given.bytes) ≡ n = length-take-le n c.loop-given.bytes (omega (arith, c.bytes_in-in-loop-given.array_long, c.bytes_in-in-loop-given.ensures, c.next_count-count.ensures.bytes)) in
    let sum = bytes_joined s.coding s.params i k inv.even in
    let few = bytes_fewer s.coding s.params (i + k) s.frames (omega (arith, c.next_count-count.ensures.fits, c.loop-given-test.true)) in
    let is : c.from_residual.result ≡ Err c.in_err-pass_piece.field-0.0 = search rules in
    let all = bytes_in s.coding s.params s.frames in
    let both = carries_then g.D.Disk g.E.Disk (bytes_in s.coding s.params i) (length (take n c.loop-given.bytes)) c.args.disk.now c.loop-given.disk c.pass_piece.new.disk c.args.to.now c.loop-given.to c.pass_piece.new.to (tt {0})
    (Err c.in_err-pass_piece.field-0.0) inv.carries c.in_err-pass_piece.ensures.carries in
    subst (λ (r : Result (Unit {0}) Stop). Carries g.D.Disk g.E.Disk all c.args.disk.now c.pass_piece.new.disk c.args.to.now c.pass_piece.new.to r) (sym is)
    (carries_within g.D.Disk g.E.Disk (bytes_in s.coding s.params i + length (take n c.loop-given.bytes)) all c.args.disk.now c.pass_piece.new.disk c.args.to.now c.pass_piece.new.to (Err c.in_err-pass_piece.field-0.0)
    (omega (arith, size, sum, few, c.bytes_in-in-loop-given.ensures)) both)

pub loop-given-preserved : goal.loop-given-preserved
loop-given-preserved g c =
    let s = c.args.source.now in
    let i = c.loop-given.given in
    let k = c.next_count-count.result in
    let m = c.from-channels.result in
    let n = c.bytes_in-in-loop-given.result in
    let inv = c.loop-given.invariant in
    let to = c.loop-given.to in
    let one = c.in_ok-pass_piece.ensures in
    let within : i + k ≤ s.frames = omega (arith, c.next_count-count.ensures.fits, c.loop-given-test.true) in
    let size : length (take n c.loop-given.bytes) ≡ n = length-take-le n c.loop-given.bytes (omega (arith, c.bytes_in-in-loop-given.array_long, c.bytes_in-in-loop-given.ensures, c.next_count-count.ensures.bytes)) in
    let long : length (take n c.loop-given.bytes) ≡ bytes_in s.coding s.params k = size ∙ c.bytes_in-in-loop-given.ensures in
    let sum = bytes_joined s.coding s.params i k inv.even in
    let m_is : m ≡ s.params.channels = search rules in
    let same : m ≡ channels_of to = m_is ∙ c.requires.takes.alike ∙ sym (ap (λ (h : Shape). h.params.channels) inv.longer.shape) in
    let numbers : length (take (k * m) c.loop-given.numbers) ≡ k * m = search rules in
    let counted : length (take (k * m) c.loop-given.numbers) / channels_of to ≡ k =
    ap (λ (x : ℕ). x / channels_of to) numbers ∙ frames_counted k m (channels_of to) same (omega (arith, m_is, c.requires.held.source.good.some_channel)) in
    let both = carries_then g.D.Disk g.E.Disk (bytes_in s.coding s.params i) (length (take n c.loop-given.bytes)) c.args.disk.now c.loop-given.disk c.pass_piece.new.disk c.args.to.now to c.pass_piece.new.to (tt {0}) (Ok (tt {0})) inv.carries one.carries in
    record {
      within = within;
      even = λ is. omega (arith, inv.even is, c.next_count-count.ensures.even is (omega (arith, inv.even is, (c.requires.held.source.codes is).even)));
      longer = longer_then i k (known_of c.args.to.now) (known_of to) (known_of c.pass_piece.new.to) inv.longer (longer_as _ k (known_of to) (known_of c.pass_piece.new.to) counted one.longer);
      carries = carries_within g.D.Disk g.E.Disk (bytes_in s.coding s.params i + length (take n c.loop-given.bytes)) (bytes_in s.coding s.params (i + k)) c.args.disk.now c.pass_piece.new.disk c.args.to.now c.pass_piece.new.to (Ok (tt {0}))
          (omega (arith, sum, long)) both;
      so_far = λ b told.
          let held : IsHeld (length b) s = subst (λ (x : ℕ). IsHeld x s) (g.met.D.Disk.size_told c.args.disk.now b told) c.requires.held in
          let passed = one.passed b (inv.carries.reads.keeps.contents ∙ told) in
          let piece : take (length (take n c.loop-given.bytes)) (drop (s.start + c.bytes_in.result) b) ≡ take (bytes_in s.coding s.params k) (drop (s.start + bytes_in s.coding s.params i) b) =
          ap (λ (x : ℕ). take x (drop (s.start + c.bytes_in.result) b)) long ∙ ap (λ (x : ℕ). take (bytes_in s.coding s.params k) (drop (s.start + x) b)) c.bytes_in.ensures in
          given_next g.E.Disk.state s b held i k c.loop-given.reader c.pass_piece.new.reader c.args.to.now to c.pass_piece.new.to within inv.even (ap (λ (h : Shape). h.params.codec) inv.longer.shape) (inv.so_far b told)
          (passed.0 ∙ ap (state_behind s.coding c.loop-given.reader) piece)
          (gains_same g.E.Disk.state _ _ to c.pass_piece.new.to (ap (λ (l : List ℕ). change_numbers s.params.codec (codec_of to) (sound_behind s.coding s.params.codec c.loop-given.reader l)) piece) passed.1);
    }

pub returns-clause-gains : goal.returns-clause-gains
returns-clause-gains g c =
    let s = c.args.source.now in
    let all : c.loop-given.given ≡ s.frames = search rules in
    λ b told.
    let held : IsHeld (length b) s = subst (λ (n : ℕ). IsHeld n s) (g.met.D.Disk.size_told c.args.disk.now b told) c.requires.held in
    given_all g.E.Disk.state s b held c.loop-given.given c.loop-given.reader c.args.to.now c.loop-given.to all (c.loop-given.invariant.so_far b told)
