use Rattle.std.proofs.Common.{◌≡◌, ◌∙◌, ap, sym, subst, refl, [], ◌/◌, ℤ, List, arith, rules}
use Rattle.snd_layout.specs.Params.{Parameters}
use Rattle.snd_layout.specs.Shape.{Shape}
use Rattle.snd_disk.specs.State.{AtMost}
use Rattle.snd_edits.specs.Known.{Known}
use Rattle.snd_file.specs.Handle.{codec_of, disk_of, known_of}
use Rattle.snd_output.proofs.Public.{if_changed, unchanged_as}
use Rattle.snd_output.specs.Appended.{bytes_by_calls, left_in}
use Rattle.snd_output.specs.Made.{IsMaking}
use Rattle.snd_convert.specs.Convert.{chunks_for}
use Rattle.snd_convert.specs.Planning.{items_of, planned_by}
use Rattle.snd_inputs.proofs.Public.{all_ahead, asks_then, asks_to_copy, copies_then, counts_appended, still_works}
use Rattle.snd_convert.proofs.Making.{begun_with, may_rack, numbers_same}
use Rattle.std.proofs.lemmas.Result.{on_ok_weaker}
use Rattle.snd_convert.proofs.make.fill.Goals as goal

pub put_frames-requires-clause-may : goal.put_frames-requires-clause-may
put_frames-requires-clause-may g c =
    may_rack (items_of c.args.rack.now) _ (planned_by c.args.plan.now) (known_of c.args.from.now) (known_of c.carry.new.from) (known_of c.args.to.now) (known_of c.carry.new.to) c.requires.good c.requires.fits c.requires.unread c.requires.fresh c.requires.rack c.requires.room
    c.in_ok-carry.ensures.same c.in_ok-carry.ensures.known

pub returns-clause-fills : goal.returns-clause-fills
returns-clause-fills g c =
    on_ok_weaker c.put_frames.result
    (λ lengthens r e stands made begun.
    let plan = planned_by c.args.plan.now in
    let carried = c.in_ok-carry.ensures.carried r e stands made begun in
    let reads = c.in_ok-carry.ensures.stands r stands in
    let longer = lengthens plan.kind plan.params (chunks_for plan r) [] r carried.0 reads carried.1 carried.2 in
    let from_codec : codec_of c.carry.new.from ≡ r.shape.params.codec = ap (λ (h : Shape). h.params.codec) reads.shape in
    let params : (known_of c.carry.new.to).shape.params ≡ plan.params = ap (λ (k : Known). k.shape.params) c.in_ok-carry.ensures.known ∙ (begun_with plan (known_of c.args.from.now).shape c.requires.good c.requires.fits).params in
    let numbers = numbers_same (items_of c.args.rack.now) plan r (codec_of c.carry.new.from) (codec_of c.carry.new.to) from_codec (ap (λ (p : Parameters). p.codec) params) (sym stands.place ∙ c.requires.unread.first) in
    (longer.0, longer.1, subst (λ (l : List ℤ). IsMaking plan.kind plan.params (chunks_for plan r) l longer.0) numbers longer.2))
    c.put_frames.ensures.lengthens

pub returns-clause-copies : goal.returns-clause-copies
returns-clause-copies g c =
    copies_then g.D.Disk g.E.Disk c.args.from.now c.carry.new.from c.put_frames.new.from c.args.to.now c.carry.new.to c.put_frames.new.to tt c.put_frames.result c.in_ok-carry.ensures.copies
    (record {
      loan = c.put_frames.ensures.loan;
      to_loan = c.put_frames.ensures.to_loan;
      works = still_works c.put_frames.result (left_in (known_of c.carry.new.from)) (known_of c.carry.new.from) (known_of c.put_frames.new.from) (known_of c.carry.new.to) (known_of c.put_frames.new.to) _ _ _ _ c.put_frames.ensures.left c.put_frames.ensures.faults c.in_ok-carry.ensures.copies.works;
      faults = counts_appended c.put_frames.result _ _ _ _ c.put_frames.ensures.faults;
      reads = c.put_frames.ensures.reads;
      tells = c.put_frames.ensures.tells;
      time = c.put_frames.ensures.time;
    })

pub returns-in_err-carry-clause-changed : goal.returns-in_err-carry-clause-changed
returns-in_err-carry-clause-changed g c = unchanged_as _ c.in_err-carry.field-0.0 c.from_residual.result (search rules) c.in_err-carry.ensures.unchanged

pub returns-clause-changed : goal.returns-clause-changed
returns-clause-changed g c =
    if_changed _ _ c.put_frames.result
    (λ bad e stands. all_ahead e (sym stands.place ∙ c.requires.unread.first) (bad e (c.in_ok-carry.ensures.stands e stands))) c.put_frames.ensures.changed

pub returns-clause-asked : goal.returns-clause-asked
returns-clause-asked g c =
    let k : Known = known_of c.args.from.now in
    let frames = subst (λ (x : Known). AtMost (g.D.Disk.state (disk_of c.carry.new.from)).asked (bytes_by_calls x.shape.params (16384 / x.shape.params.channels) (left_in x)) (g.D.Disk.state (disk_of c.put_frames.new.from)).asked)
    c.in_ok-carry.ensures.same c.put_frames.ensures.asked in
    asks_then _ _ _ _ _ _ c.carry.ensures.asked (asks_to_copy k 16384 _ _ c.requires.unread refl frames) (omega arith)
