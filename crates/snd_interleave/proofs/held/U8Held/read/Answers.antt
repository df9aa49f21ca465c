use Rattle.std.proofs.Common.{◌≡◌, ◌∙◌, ap, refl, subst, ℕ, arith}
use Rattle.std.proofs.lemmas.Result.{on_ok_weaker}
use Rattle.snd_layout.specs.declared.codec.Codec.{Codec}
use Rattle.snd_edits.specs.Bytes.{numbers_in}
use Rattle.snd_output.proofs.Public.{if_unchanged}
use Rattle.snd_interleave.specs.Asking.{AsksInput, bytes_from}
use Rattle.snd_interleave.specs.Held.{is_pair, pairs_in}
use Rattle.snd_interleave.specs.Reading.{HasChannelOf}
use Rattle.snd_interleave.proofs.held.U8Held.read.Goals as goal

pub read_pairs-requires : goal.read_pairs-requires
read_pairs-requires g c = record {
  mono = c.requires.mono;
  pairs = ap is_pair c.requires.served.1 ∙ c.requires.served.0;
  whole = omega (arith, c.requires.size);
}

pub returns-clause-read : goal.returns-clause-read
returns-clause-read g c =
    let half : pairs_in c.args.into.now ≡ c.args._count = omega (arith, c.requires.size) in
    on_ok_weaker c.read_pairs.result
    (λ read. subst (λ (q : Codec). HasChannelOf g.D.Disk.state c.args.input.now q c.args.place c.args._count (numbers_in q c.read_pairs.new.into)) c.requires.served.1
    (subst (λ (n : ℕ). HasChannelOf g.D.Disk.state c.args.input.now c.args.input.now.layout.params.codec c.args.place n (numbers_in c.args.input.now.layout.params.codec c.read_pairs.new.into)) half read))
    c.read_pairs.ensures.read

pub returns-clause-in_range : goal.returns-clause-in_range
returns-clause-in_range g c = on_ok_weaker c.read_pairs.result (λ read j lt. refl) c.read_pairs.ensures.read

pub returns-clause-changed : goal.returns-clause-changed
returns-clause-changed g c = if_unchanged _ c.read_pairs.result c.read_pairs.ensures.unchanged

pub returns-clause-asked : goal.returns-clause-asked
returns-clause-asked g c =
    let half : pairs_in c.args.into.now ≡ c.args._count = omega (arith, c.requires.size) in
    subst (λ (n : ℕ). AsksInput g.D.Disk.state (bytes_from c.args.place n) c.args.input.now c.read_pairs.new.input) half c.read_pairs.ensures.asked
