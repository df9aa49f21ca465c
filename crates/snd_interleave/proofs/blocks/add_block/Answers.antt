use Rattle.std.proofs.Common.{rules, ◌≡◌, ◌∙◌, ◌*◌, ap, subst, sym, ℕ, ℤ, List, ◌++◌, length}
use Rattle.std.proofs.lemmas.Result.{on_ok_weaker}
use Rattle.snd_layout.specs.declared.codec.Codec.{Codec}
use Rattle.snd_file.specs.Handle.{channels_of, codec_of}
use Rattle.snd_output.proofs.Public.{changed_as}
use Rattle.snd_output.specs.Made.{IsMaking}
use Rattle.snd_interleave.specs.Beside.{HaveEach, frames_from}
use Rattle.snd_interleave.specs.Held.{AllSuit}
use Rattle.snd_interleave.specs.Interleave.{channels_in}
use Rattle.snd_interleave.proofs.Bad.{only_writes}
use Rattle.snd_interleave.proofs.blocks.add_block.Goals as goal

pub fill-requires-clause-suit : goal.fill-requires-clause-suit
fill-requires-clause-suit g c = subst (λ (q : Codec). AllSuit g.U.Held.suits q c.args.inputs.now) (sym c.numbers_of-codec.ensures.codec) c.requires.suit

pub give-requires : goal.give-requires
give-requires g c =
    let codec = c.numbers_of-codec.ensures.codec in
    let all : c.args.count * length c.args.inputs.now ≡ c.args.count * channels_of c.args.to.now = ap (λ (n : ℕ). c.args.count * n) (sym c.requires.alike) in
    record {
      served = c.requires.suit.itself;
      size = c.fill.auto.block ∙ c.requires.all ∙ ap (λ (n : ℕ). g.U.Held.PER * n) all;
      at_end = c.requires.at_end;
      room = c.requires.room;
      in_range = subst (λ (n : ℕ). HaveEach (g.U.Held.fits (codec_of c.args.to.now)) n (g.U.Held.numbers (codec_of c.args.to.now) c.fill.new.block)) all
          (subst (λ (q : Codec). HaveEach (g.U.Held.fits q) (c.args.count * length c.args.inputs.now) (g.U.Held.numbers q c.fill.new.block)) codec c.in_ok-fill.ensures.in_range);
    }

pub returns-clause-lengthens : goal.returns-clause-lengthens
returns-clause-lengthens g c =
    let block = c.fill.new.block in
    on_ok_weaker c.give.result
    (λ gains kind p pieces xs es e hold stands making.
    let are : g.U.Held.numbers (codec_of c.args.to.now) block ≡ frames_from (channels_in (codec_of c.args.to.now) es) c.args.place c.args.count =
    subst (λ (q : Codec). g.U.Held.numbers q block ≡ frames_from (channels_in q es) c.args.place c.args.count) c.numbers_of-codec.ensures.codec (c.in_ok-fill.ensures.filled es hold) in
    let more = gains kind p pieces xs e stands making in
    (more.0, more.1, subst (λ (l : List ℤ). IsMaking kind p pieces (xs ++ l) more.0) are more.2))
    c.give.ensures.gains

pub returns-in_err-fill-clause-changed : goal.returns-in_err-fill-clause-changed
returns-in_err-fill-clause-changed g c = changed_as _ _ c.in_err-fill.field-0.0 c.from_residual.result (search rules) (λ never. never) c.in_err-fill.ensures.changed

pub returns-clause-changed : goal.returns-clause-changed
returns-clause-changed g c = only_writes _ _ _ c.give.result c.give.ensures.faults
