use Rattle.std.proofs.Common.{◌≡◌, ◌∙◌, ap, arith, refl, subst, sym, [], false, ℕ, ◌/◌, ℤ, List}
use Rattle.std.proofs.lemmas.Result.{on_ok_weaker}
use Rattle.snd_disk.specs.State.{AtMost}
use Rattle.snd_inputs.proofs.Public.{asks_then, asks_to_copy, copies_then, counts_appended, still_works}
use Rattle.snd_layout.specs.Blocks.{is_adpcm}
use Rattle.snd_layout.specs.Params.{Parameters}
use Rattle.snd_layout.specs.Shape.{Shape}
use Rattle.snd_edits.specs.Known.{Known}
use Rattle.snd_file.specs.Handle.{codec_of, disk_of, known_of}
use Rattle.snd_output.specs.Appended.{bytes_by_calls, left_in}
use Rattle.snd_output.specs.Made.{IsMaking}
use Rattle.snd_metadata.specs.Making.{chunks_planned}
use Rattle.snd_metadata.specs.declared.chunks.PlannedChunk.{PlannedChunk}
use Rattle.snd_metadata.proofs.Filling.{may_append, never_blocks, numbers_same, params_filled}
use Rattle.snd_metadata.proofs.make.fill.Goals as goal

pub append-requires-clause-may : goal.append-requires-clause-may
append-requires-clause-may g c =
    may_append (known_of c.args.from.now).shape c.args.plan.now (known_of c.args.from.now) (known_of c.carry.new.from) (known_of c.args.to.now) (known_of c.carry.new.to)
    c.requires.ready c.requires.unread c.requires.fresh refl c.in_ok-carry.ensures.same c.in_ok-carry.ensures.known

pub returns-clause-fills : goal.returns-clause-fills
returns-clause-fills g c =
    on_ok_weaker c.append.result
    (λ lengthens r e stands made begun.
    let h : Shape = (known_of c.args.from.now).shape in
    let plan : List PlannedChunk = c.args.plan.now in
    let carried = c.in_ok-carry.ensures.carried r e stands made begun in
    let reads = c.in_ok-carry.ensures.stands r stands in
    let longer = lengthens h.kind h.params (chunks_planned r plan) [] r carried.0 reads carried.1 carried.2 in
    let from_codec : codec_of c.carry.new.from ≡ r.shape.params.codec = ap (λ (s : Shape). s.params.codec) reads.shape in
    let params : (known_of c.carry.new.to).shape.params ≡ h.params =
    params_filled h plan (known_of c.args.from.now) (known_of c.carry.new.from) (known_of c.args.to.now) (known_of c.carry.new.to) c.requires.ready c.requires.unread c.requires.fresh refl c.in_ok-carry.ensures.known in
    let to_codec : codec_of c.carry.new.to ≡ r.shape.params.codec = ap (λ (p : Parameters). p.codec) params ∙ ap (λ (s : Shape). s.params.codec) stands.shape in
    let numbers = numbers_same r (codec_of c.carry.new.from) (codec_of c.carry.new.to) r.shape.params.codec from_codec to_codec (sym stands.place ∙ c.requires.unread.first) in
    (longer.0, longer.1, subst (λ (l : List ℤ). IsMaking h.kind h.params (chunks_planned r plan) l longer.0) numbers longer.2))
    c.append.ensures.lengthens

pub returns-clause-copies : goal.returns-clause-copies
returns-clause-copies g c =
    copies_then g.D.Disk g.E.Disk c.args.from.now c.carry.new.from c.append.new.from c.args.to.now c.carry.new.to c.append.new.to tt c.append.result c.in_ok-carry.ensures.copies
    (record {
      loan = c.append.ensures.loan;
      to_loan = c.append.ensures.to_loan;
      works = still_works c.append.result (left_in (known_of c.carry.new.from)) (known_of c.carry.new.from) (known_of c.append.new.from) (known_of c.carry.new.to) (known_of c.append.new.to) _ _ _ _ c.append.ensures.left c.append.ensures.faults c.in_ok-carry.ensures.copies.works;
      faults = counts_appended c.append.result _ _ _ _ c.append.ensures.faults;
      reads = c.append.ensures.reads;
      tells = c.append.ensures.tells;
      time = c.append.ensures.time;
    })

pub returns-clause-asked : goal.returns-clause-asked
returns-clause-asked g c =
    let k : Known = known_of c.args.from.now in
    let frames = subst (λ (x : Known). AtMost (g.D.Disk.state (disk_of c.carry.new.from)).asked (bytes_by_calls x.shape.params (16384 / x.shape.params.channels) (left_in x)) (g.D.Disk.state (disk_of c.append.new.from)).asked)
    c.in_ok-carry.ensures.same c.append.ensures.asked in
    asks_then _ _ _ _ _ _ c.carry.ensures.asked (asks_to_copy k 16384 _ _ c.requires.unread refl frames) (omega arith)

pub returns-clause-unchanged : goal.returns-clause-unchanged
returns-clause-unchanged g c =
    let linear : is_adpcm (known_of c.carry.new.from).shape.params.codec ≡ false = ap (λ (k : Known). is_adpcm k.shape.params.codec) c.in_ok-carry.ensures.same ∙ c.requires.ready.linear in
    never_blocks (left_in (known_of c.carry.new.from)) (known_of c.carry.new.from) (known_of c.append.new.from) (known_of c.carry.new.to) (known_of c.append.new.to) c.append.result linear c.append.ensures.left
