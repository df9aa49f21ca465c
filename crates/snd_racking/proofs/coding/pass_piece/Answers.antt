use Rattle.std.proofs.Common.{rules, ◌≡◌, ◌∙◌, ap, sym, subst, ◌*◌, ◌/◌, ◌≤◌, ℕ, ℤ, List, All, Some, length, map, refl, arith}
use Rattle.std.proofs.lemmas.List.{length-map}
use Rattle.snd_container.specs.Fixed.{InRange, samples}
use Rattle.snd_container.specs.Sound.{fixed_of}
use Rattle.snd_container.proofs.Public.{samples_fit}
use Rattle.snd_edits.specs.Reading.{FitCodec}
use Rattle.snd_fields.proofs.Numbers.{all_from_bytes}
use Rattle.snd_layout.specs.declared.codec.Codec.{Codec}
use Rattle.snd_output.specs.Appended.{bytes_in}
use Rattle.snd_output.specs.Widths.{change_numbers, width_of}
use Rattle.snd_pcm.specs.Width.{changed}
use Rattle.snd_rack.specs.Held.{Held}
use Rattle.snd_rack.proofs.Public.{kinds_passable}
use Rattle.snd_racking.specs.Appending.{passed_groups}
use Rattle.snd_racking.specs.Racked.{high_of, low_of}
use Rattle.snd_racking.proofs.Coded.{count_read, piece_coded, piece_count, piece_fit, piece_in_range, piece_may, piece_room, size_held}
use Rattle.snd_racking.proofs.Passed.{refilled}
use Rattle.snd_racking.proofs.coding.pass_piece.Goals as goal

pub pass_read-requires-clause-held : goal.pass_read-requires-clause-held
pass_read-requires-clause-held g c =
    let from_is : fixed_of c.args.from.codec ≡ Some c.in-Some-Some.old = search rules in
    size_held c.args.from.codec c.in-Some-Some.old c.args.bytes.now (length c.args.numbers.now) from_is c.requires.held

pub pass_read-requires-clause-kinds : goal.pass_read-requires-clause-kinds
pass_read-requires-clause-kinds g c =
    let codec = c.args.from.codec in
    kinds_passable (λ b. (goal.Stage-dyn g (b.vtable, b.value)).stage b.value) (low_of codec) (high_of codec) c.args.from.channels c.args.stages.now c.requires.placed.passable

pub pass_read-requires-clause-may : goal.pass_read-requires-clause-may
pass_read-requires-clause-may g c =
    let hs : List Held = map (λ b. (goal.Stage-dyn g (b.vtable, b.value)).stage b.value) c.args.stages.now in
    let from = c.args.from in
    let to = c.args.to in
    let channels = c.from-channels.result in
    let old = c.in-Some-Some.old in
    let new = c.in-Some-Some.new in
    let numbers : List ℤ = samples old c.args.bytes.now in
    let fits : All (InRange old) numbers = samples_fit old c.args.bytes.now (all_from_bytes c.args.bytes.now (λ i. omega (arith, c.type_inv.bytes i))) in
    let from_is : fixed_of from.codec ≡ Some old = search rules in
    let to_is : fixed_of to.codec ≡ Some new = search rules in
    let alike : channels ≡ from.channels = search rules in
    piece_may from to hs channels old new c.args.bytes.now numbers from_is to_is c.requires.placed alike refl fits

pub pass_read-requires-clause-room : goal.pass_read-requires-clause-room
pass_read-requires-clause-room g c =
    let hs : List Held = map (λ b. (goal.Stage-dyn g (b.vtable, b.value)).stage b.value) c.args.stages.now in
    let from = c.args.from in
    let to = c.args.to in
    let channels = c.from-channels.result in
    let old = c.in-Some-Some.old in
    let new = c.in-Some-Some.new in
    let numbers : List ℤ = samples old c.args.bytes.now in
    let fits : All (InRange old) numbers = samples_fit old c.args.bytes.now (all_from_bytes c.args.bytes.now (λ i. omega (arith, c.type_inv.bytes i))) in
    let from_is : fixed_of from.codec ≡ Some old = search rules in
    let to_is : fixed_of to.codec ≡ Some new = search rules in
    let alike : channels ≡ from.channels = search rules in
    let as_many : length numbers ≡ length c.args.numbers.now = count_read old c.args.bytes.now (length c.args.numbers.now) (size_held from.codec old c.args.bytes.now (length c.args.numbers.now) from_is c.requires.held) in
    let few : length numbers / from.channels * to.channels ≤ 16384 = subst (λ (n : ℕ). n / from.channels * to.channels ≤ 16384) (sym as_many) c.requires.few in
    subst (λ (n : ℕ). n ≤ 16384) (sym (piece_count from to hs channels old new c.args.bytes.now numbers from_is to_is c.requires.placed alike refl fits)) few

pub change_numbers-requires : goal.change_numbers-requires
change_numbers-requires g c =
    let hs : List Held = map (λ b. (goal.Stage-dyn g (b.vtable, b.value)).stage b.value) c.args.stages.now in
    let from = c.args.from in
    let to = c.args.to in
    let channels = c.from-channels.result in
    let old = c.in-Some-Some.old in
    let new = c.in-Some-Some.new in
    let numbers : List ℤ = samples old c.args.bytes.now in
    let fits : All (InRange old) numbers = samples_fit old c.args.bytes.now (all_from_bytes c.args.bytes.now (λ i. omega (arith, c.type_inv.bytes i))) in
    let from_is : fixed_of from.codec ≡ Some old = search rules in
    let to_is : fixed_of to.codec ≡ Some new = search rules in
    let alike : channels ≡ from.channels = search rules in
    let is : c.as_mut_slice.result.now ≡ passed_groups channels hs numbers = c.as_mut_slice.ensures.value ∙ c.pass_read.ensures.passed in
    let same : c.from.inside.codec ≡ from.codec = search rules in
    subst (λ (q : Codec). FitCodec q c.as_mut_slice.result.now) (sym same) (subst (λ (l : List ℤ). FitCodec from.codec l) (sym is) (piece_fit from to hs channels old new c.args.bytes.now numbers from_is to_is c.requires.placed alike refl fits))

pub put_samples-requires-clause-room : goal.put_samples-requires-clause-room
put_samples-requires-clause-room g c =
    let hs : List Held = map (λ b. (goal.Stage-dyn g (b.vtable, b.value)).stage b.value) c.args.stages.now in
    let from = c.args.from in
    let to = c.args.to in
    let channels = c.from-channels.result in
    let old = c.in-Some-Some.old in
    let new = c.in-Some-Some.new in
    let numbers : List ℤ = samples old c.args.bytes.now in
    let fits : All (InRange old) numbers = samples_fit old c.args.bytes.now (all_from_bytes c.args.bytes.now (λ i. omega (arith, c.type_inv.bytes i))) in
    let from_is : fixed_of from.codec ≡ Some old = search rules in
    let to_is : fixed_of to.codec ≡ Some new = search rules in
    let alike : channels ≡ from.channels = search rules in
    let items = c.pass_read.new.room.passed.items in
    let passed = c.as_mut_slice.result.now in
    let became = c.as_slice.result.now in
    let is : passed ≡ passed_groups channels hs numbers = c.as_mut_slice.ensures.value ∙ c.pass_read.ensures.passed in
    let size : length c.change_numbers.new.numbers ≡ length items =
    ap length c.change_numbers.ensures.changed ∙ length-map passed (changed (width_of c.from.inside.codec) (width_of c.to.inside.codec)) ∙ ap length c.as_mut_slice.ensures.value in
    let shown : became ≡ c.change_numbers.new.numbers = c.as_slice.ensures.value ∙ refilled (length items) items c.change_numbers.new.numbers size in
    let from_same : c.from.inside.codec ≡ from.codec = search rules in
    let to_same : c.to.inside.codec ≡ to.codec = search rules in
    let changes : became ≡ change_numbers from.codec to.codec (passed_groups channels hs numbers) =
    shown ∙ c.change_numbers.ensures.changed
    ∙ ap (λ (q : Codec). change_numbers q c.to.inside.codec passed) from_same
    ∙ ap (λ (q : Codec). change_numbers from.codec q passed) to_same
    ∙ ap (change_numbers from.codec to.codec) is in
    let as_many : length numbers ≡ length c.args.numbers.now = count_read old c.args.bytes.now (length c.args.numbers.now) (size_held from.codec old c.args.bytes.now (length c.args.numbers.now) from_is c.requires.held) in
    piece_room from to hs channels old new c.args.bytes.now numbers from_is to_is c.requires.placed alike refl fits became changes (length c.args.coded.now) (c.requires.fits ∙ ap (λ (n : ℕ). bytes_in to.codec (n / from.channels * to.channels)) (sym as_many))

pub put_samples-requires-clause-in_range : goal.put_samples-requires-clause-in_range
put_samples-requires-clause-in_range g c =
    let hs : List Held = map (λ b. (goal.Stage-dyn g (b.vtable, b.value)).stage b.value) c.args.stages.now in
    let from = c.args.from in
    let to = c.args.to in
    let channels = c.from-channels.result in
    let old = c.in-Some-Some.old in
    let new = c.in-Some-Some.new in
    let numbers : List ℤ = samples old c.args.bytes.now in
    let fits : All (InRange old) numbers = samples_fit old c.args.bytes.now (all_from_bytes c.args.bytes.now (λ i. omega (arith, c.type_inv.bytes i))) in
    let from_is : fixed_of from.codec ≡ Some old = search rules in
    let to_is : fixed_of to.codec ≡ Some new = search rules in
    let alike : channels ≡ from.channels = search rules in
    let items = c.pass_read.new.room.passed.items in
    let passed = c.as_mut_slice.result.now in
    let became = c.as_slice.result.now in
    let is : passed ≡ passed_groups channels hs numbers = c.as_mut_slice.ensures.value ∙ c.pass_read.ensures.passed in
    let size : length c.change_numbers.new.numbers ≡ length items =
    ap length c.change_numbers.ensures.changed ∙ length-map passed (changed (width_of c.from.inside.codec) (width_of c.to.inside.codec)) ∙ ap length c.as_mut_slice.ensures.value in
    let shown : became ≡ c.change_numbers.new.numbers = c.as_slice.ensures.value ∙ refilled (length items) items c.change_numbers.new.numbers size in
    let from_same : c.from.inside.codec ≡ from.codec = search rules in
    let to_same : c.to.inside.codec ≡ to.codec = search rules in
    let changes : became ≡ change_numbers from.codec to.codec (passed_groups channels hs numbers) =
    shown ∙ c.change_numbers.ensures.changed
    ∙ ap (λ (q : Codec). change_numbers q c.to.inside.codec passed) from_same
    ∙ ap (λ (q : Codec). change_numbers from.codec q passed) to_same
    ∙ ap (change_numbers from.codec to.codec) is in
    piece_in_range from to hs channels old new c.args.bytes.now numbers from_is to_is c.requires.placed alike refl fits became changes
    (subst (λ (q : Codec). FitCodec q became) to_same (subst (λ (l : List ℤ). FitCodec c.to.inside.codec l) (sym shown) c.change_numbers.ensures.in_range))

pub returns-clause-coded : goal.returns-clause-coded
returns-clause-coded g c =
    let hs : List Held = map (λ b. (goal.Stage-dyn g (b.vtable, b.value)).stage b.value) c.args.stages.now in
    let from = c.args.from in
    let to = c.args.to in
    let channels = c.from-channels.result in
    let old = c.in-Some-Some.old in
    let new = c.in-Some-Some.new in
    let numbers : List ℤ = samples old c.args.bytes.now in
    let fits : All (InRange old) numbers = samples_fit old c.args.bytes.now (all_from_bytes c.args.bytes.now (λ i. omega (arith, c.type_inv.bytes i))) in
    let from_is : fixed_of from.codec ≡ Some old = search rules in
    let to_is : fixed_of to.codec ≡ Some new = search rules in
    let alike : channels ≡ from.channels = search rules in
    let items = c.pass_read.new.room.passed.items in
    let passed = c.as_mut_slice.result.now in
    let became = c.as_slice.result.now in
    let is : passed ≡ passed_groups channels hs numbers = c.as_mut_slice.ensures.value ∙ c.pass_read.ensures.passed in
    let size : length c.change_numbers.new.numbers ≡ length items =
    ap length c.change_numbers.ensures.changed ∙ length-map passed (changed (width_of c.from.inside.codec) (width_of c.to.inside.codec)) ∙ ap length c.as_mut_slice.ensures.value in
    let shown : became ≡ c.change_numbers.new.numbers = c.as_slice.ensures.value ∙ refilled (length items) items c.change_numbers.new.numbers size in
    let from_same : c.from.inside.codec ≡ from.codec = search rules in
    let to_same : c.to.inside.codec ≡ to.codec = search rules in
    let changes : became ≡ change_numbers from.codec to.codec (passed_groups channels hs numbers) =
    shown ∙ c.change_numbers.ensures.changed
    ∙ ap (λ (q : Codec). change_numbers q c.to.inside.codec passed) from_same
    ∙ ap (λ (q : Codec). change_numbers from.codec q passed) to_same
    ∙ ap (change_numbers from.codec to.codec) is in
    c.put_samples.ensures ∙ piece_coded from to hs channels old new c.args.bytes.now numbers from_is to_is c.requires.placed alike refl fits became changes
