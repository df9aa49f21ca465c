use Rattle.std.proofs.Common.{rules, ◌≡◌, ◌∙◌, ap, sym, subst, ℕ, ◌%◌, ℤ, List, ◌++◌, length, map}
use Rattle.snd_edits.specs.Calls.{count_read}
use Rattle.snd_file.specs.Handle.{known_of}
use Rattle.snd_output.specs.Appended.{read_on}
use Rattle.snd_output.specs.Made.{IsMaking}
use Rattle.snd_output.proofs.Public.{changed_as, left_unread, left_unwritten, longer_as, never_changed, read_failed, write_failed}
use Rattle.snd_racking.proofs.Appended.{block_is, block_known, block_may, block_states}
use Rattle.snd_racking.proofs.blocks.append_block.Goals as goal

pub returns-in_err-count-clause-faults : goal.returns-in_err-count-clause-faults
returns-in_err-count-clause-faults g c =
    read_failed ℕ ℕ _ _ _ c.in_err-count.field-0.0 c.from_residual.result (search rules) c.in_err-count.ensures.faults

pub returns-in_err-count-clause-left : goal.returns-in_err-count-clause-left
returns-in_err-count-clause-left g c =
    left_unread _ _ _ _ c.in_err-count.field-0.0 c.from_residual.result (search rules) c.in_err-count.ensures.left c.requires.may.working c.requires.may.at_end.working

pub returns-in_err-count-clause-changed : goal.returns-in_err-count-clause-changed
returns-in_err-count-clause-changed g c = changed_as _ _ c.in_err-count.field-0.0 c.from_residual.result (search rules) (λ bad. bad) c.in_err-count.ensures.changed

pub give_racked-requires-clause-may : goal.give_racked-requires-clause-may
give_racked-requires-clause-may g c =
    let from = known_of c.args.from.now in
    let hs = map (λ b. (goal.Stage-dyn g (b.vtable, b.value)).stage b.value) c.args.stages.now in
    let whole : length c.read_some.new.into % from.shape.params.channels ≡ 0 = ap (λ (n : ℕ). n % from.shape.params.channels) c.read_some.auto.into ∙ c.requires.whole in
    let is : c.in_ok-count.count ≡ count_read (length c.read_some.new.into) from = c.in_ok-count.ensures.count ∙ sym (ap (λ (n : ℕ). count_read n from) c.read_some.auto.into) in
    block_may hs from (known_of c.args.to.now) c.in_ok-count.count c.numbers_of-channels.result.0 c.read_some.new.into c.numbers_of-channels.result.1 c.requires.may whole is
    c.numbers_of-channels.ensures.channels c.numbers_of-channels.ensures.some c.numbers_of-channels.ensures.codec c.numbers_of-channels.ensures.most c.in_ok-count.ensures.in_range

pub returns-in_err-give_racked-clause-faults : goal.returns-in_err-give_racked-clause-faults
returns-in_err-give_racked-clause-faults g c =
    write_failed ℕ Unit _ _ _ _ c.in_err-give_racked.field-0.0 c.from_residual-in_err-give_racked.result (search rules) c.in_ok-count.ensures.faults c.in_err-give_racked.ensures.faults

pub returns-in_err-give_racked-clause-left : goal.returns-in_err-give_racked-clause-left
returns-in_err-give_racked-clause-left g c =
    left_unwritten _ _ _ _ _ _ _ c.in_err-give_racked.field-0.0 c.from_residual-in_err-give_racked.result (search rules) c.in_err-give_racked.ensures.faults c.in_err-give_racked.ensures.left

pub returns-in_err-give_racked-clause-changed : goal.returns-in_err-give_racked-clause-changed
returns-in_err-give_racked-clause-changed g c = never_changed _ _ _ c.in_err-give_racked.field-0.0 c.from_residual-in_err-give_racked.result (search rules) c.in_err-give_racked.ensures.faults

pub returns-clause-left : goal.returns-clause-left
returns-clause-left g c =
    let from = known_of c.args.from.now in
    let to = known_of c.args.to.now in
    let hs = map (λ b. (goal.Stage-dyn g (b.vtable, b.value)).stage b.value) c.args.stages.now in
    let whole : length c.read_some.new.into % from.shape.params.channels ≡ 0 = ap (λ (n : ℕ). n % from.shape.params.channels) c.read_some.auto.into ∙ c.requires.whole in
    let is : c.in_ok-count.count ≡ count_read (length c.read_some.new.into) from = c.in_ok-count.ensures.count ∙ sym (ap (λ (n : ℕ). count_read n from) c.read_some.auto.into) in
    let grown = block_known hs from to c.in_ok-count.count c.numbers_of-channels.result.0 c.read_some.new.into c.numbers_of-channels.result.1 c.requires.may whole is
    c.numbers_of-channels.ensures.channels c.numbers_of-channels.ensures.some (known_of c.give_racked.new.to) c.in_ok-give_racked.ensures.left in (
      c.in_ok-count.ensures.left ∙ ap (λ (n : ℕ). read_on n from) c.in_ok-count.ensures.count,
      longer_as c.in_ok-count.count (count_read (length c.args.block.now) from) to (known_of c.give_racked.new.to) c.in_ok-count.ensures.count grown,
    )

pub returns-clause-states : goal.returns-clause-states
returns-clause-states g c =
    let from = known_of c.args.from.now in
    let hs = map (λ b. (goal.Stage-dyn g (b.vtable, b.value)).stage b.value) c.args.stages.now in
    let whole : length c.read_some.new.into % from.shape.params.channels ≡ 0 = ap (λ (n : ℕ). n % from.shape.params.channels) c.read_some.auto.into ∙ c.requires.whole in
    let is : c.in_ok-count.count ≡ count_read (length c.read_some.new.into) from = c.in_ok-count.ensures.count ∙ sym (ap (λ (n : ℕ). count_read n from) c.read_some.auto.into) in
    c.in_ok-give_racked.ensures.states
    ∙ block_states hs from (known_of c.args.to.now) c.in_ok-count.count c.numbers_of-channels.result.0 c.read_some.new.into c.numbers_of-channels.result.1 c.requires.may whole is
    c.numbers_of-channels.ensures.channels c.numbers_of-channels.ensures.some

pub returns-clause-lengthens : goal.returns-clause-lengthens
returns-clause-lengthens g c = λ kind p pieces xs r e reads stands making.
    let from = known_of c.args.from.now in
    let to = known_of c.args.to.now in
    let hs = map (λ b. (goal.Stage-dyn g (b.vtable, b.value)).stage b.value) c.args.stages.now in
    let whole : length c.read_some.new.into % from.shape.params.channels ≡ 0 = ap (λ (n : ℕ). n % from.shape.params.channels) c.read_some.auto.into ∙ c.requires.whole in
    let is : c.in_ok-count.count ≡ count_read (length c.read_some.new.into) from = c.in_ok-count.ensures.count ∙ sym (ap (λ (n : ℕ). count_read n from) c.read_some.auto.into) in
    let are = block_is hs from to c.in_ok-count.count c.numbers_of-channels.result.0 c.read_some.new.into c.numbers_of-channels.result.1 c.requires.may whole is
    c.numbers_of-channels.ensures.channels c.numbers_of-channels.ensures.some r to.shape.params.codec c.numbers_of-channels.ensures.codec (c.in_ok-count.ensures.read r reads).frames in
    let given = c.in_ok-give_racked.ensures.gains kind p pieces xs e stands making in (
      given.0,
      given.1,
      subst (λ (l : List ℤ). IsMaking kind p pieces (xs ++ l) given.0) are given.2,
    )
