use Rattle.std.proofs.Common.{rules, ◌≡◌, ◌∙◌, ap, sym, subst, ℕ, ◌%◌, ℤ, List, ◌++◌, length}
use Rattle.snd_edits.specs.Calls.{count_read}
use Rattle.snd_file.specs.Handle.{known_of}
use Rattle.snd_output.specs.Appended.{read_on}
use Rattle.snd_output.specs.Made.{IsMaking}
use Rattle.snd_output.proofs.Public.{changed_as, left_unread, left_unwritten, longer_as, never_changed, read_failed, write_failed}
use Rattle.snd_deinterleave.proofs.ChannelPutting.{block_is, block_known, block_may}
use Rattle.snd_deinterleave.proofs.channel.append_block.Goals as goal

pub returns-in_err-count-clause-faults : goal.returns-in_err-count-clause-faults
returns-in_err-count-clause-faults g c =
    read_failed ℕ ℕ _ _ _ c.in_err-count.field-0.0 c.from_residual.result (search rules) c.in_err-count.ensures.faults

pub returns-in_err-count-clause-left : goal.returns-in_err-count-clause-left
returns-in_err-count-clause-left g c =
    left_unread _ _ _ _ c.in_err-count.field-0.0 c.from_residual.result (search rules) c.in_err-count.ensures.left c.requires.may.working c.requires.may.at_end.working

pub returns-in_err-count-clause-changed : goal.returns-in_err-count-clause-changed
returns-in_err-count-clause-changed g c = changed_as _ _ c.in_err-count.field-0.0 c.from_residual.result (search rules) (λ bad. bad) c.in_err-count.ensures.changed

pub give-requires : goal.give-requires
give-requires g c =
    let from = known_of c.args.from.now in
    let whole : length c.read_some.new.into % from.shape.params.channels ≡ 0 = ap (λ (n : ℕ). n % from.shape.params.channels) c.read_some.auto.into ∙ c.requires.whole in
    let is : c.in_ok-count.count ≡ count_read (length c.read_some.new.into) from = c.in_ok-count.ensures.count ∙ sym (ap (λ (n : ℕ). count_read n from) c.read_some.auto.into) in
    let size : length c.pick.new.into ≡ c.in_ok-count.count = search rules in
    record {
      may = block_may from (known_of c.args.to.now) c.args.which c.in_ok-count.count c.numbers_of-channels.result.0 c.read_some.new.into c.pick.new.into
          c.requires.may whole is c.numbers_of-channels.ensures.channels c.numbers_of-channels.ensures.some size c.pick.ensures c.in_ok-count.ensures.in_range;
    }

pub returns-in_err-give-clause-faults : goal.returns-in_err-give-clause-faults
returns-in_err-give-clause-faults g c =
    write_failed ℕ Unit _ _ _ _ c.in_err-give.field-0.0 c.from_residual-in_err-give.result (search rules) c.in_ok-count.ensures.faults c.in_err-give.ensures.faults

pub returns-in_err-give-clause-left : goal.returns-in_err-give-clause-left
returns-in_err-give-clause-left g c =
    left_unwritten _ _ _ _ _ _ _ c.in_err-give.field-0.0 c.from_residual-in_err-give.result (search rules) c.in_err-give.ensures.faults c.in_err-give.ensures.left

pub returns-in_err-give-clause-changed : goal.returns-in_err-give-clause-changed
returns-in_err-give-clause-changed g c = never_changed _ _ _ c.in_err-give.field-0.0 c.from_residual-in_err-give.result (search rules) c.in_err-give.ensures.faults

pub returns-clause-left : goal.returns-clause-left
returns-clause-left g c =
    let from = known_of c.args.from.now in
    let to = known_of c.args.to.now in
    let whole : length c.read_some.new.into % from.shape.params.channels ≡ 0 = ap (λ (n : ℕ). n % from.shape.params.channels) c.read_some.auto.into ∙ c.requires.whole in
    let is : c.in_ok-count.count ≡ count_read (length c.read_some.new.into) from = c.in_ok-count.ensures.count ∙ sym (ap (λ (n : ℕ). count_read n from) c.read_some.auto.into) in
    let size : length c.pick.new.into ≡ c.in_ok-count.count = search rules in
    let grown = block_known from to c.args.which c.in_ok-count.count c.numbers_of-channels.result.0 c.read_some.new.into c.pick.new.into
    c.requires.may whole is c.numbers_of-channels.ensures.channels c.numbers_of-channels.ensures.some size c.pick.ensures (known_of c.give.new.to) c.in_ok-give.ensures.left in (
      c.in_ok-count.ensures.left ∙ ap (λ (n : ℕ). read_on n from) c.in_ok-count.ensures.count,
      longer_as c.in_ok-count.count (count_read (length c.args.block.now) from) to (known_of c.give.new.to) c.in_ok-count.ensures.count grown,
    )

pub returns-clause-lengthens : goal.returns-clause-lengthens
returns-clause-lengthens g c = λ kind p pieces xs r e reads stands making.
    let from = known_of c.args.from.now in
    let to = known_of c.args.to.now in
    let whole : length c.read_some.new.into % from.shape.params.channels ≡ 0 = ap (λ (n : ℕ). n % from.shape.params.channels) c.read_some.auto.into ∙ c.requires.whole in
    let is : c.in_ok-count.count ≡ count_read (length c.read_some.new.into) from = c.in_ok-count.ensures.count ∙ sym (ap (λ (n : ℕ). count_read n from) c.read_some.auto.into) in
    let size : length c.pick.new.into ≡ c.in_ok-count.count = search rules in
    let are = block_is from to c.args.which c.in_ok-count.count c.numbers_of-channels.result.0 c.read_some.new.into c.pick.new.into
    c.requires.may whole is c.numbers_of-channels.ensures.channels c.numbers_of-channels.ensures.some size c.pick.ensures r (c.in_ok-count.ensures.read r reads).frames in
    let given = c.in_ok-give.ensures.gains kind p pieces xs e stands making in (
      given.0,
      given.1,
      subst (λ (l : List ℤ). IsMaking kind p pieces (xs ++ l) given.0) are given.2,
    )
