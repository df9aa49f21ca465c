use Rattle.std.proofs.Common.{rules, ◌≡◌, ◌∙◌, ◌*◌, ◌≤◌, ℕ, ap, sym, subst, length, drop, take, arith}
use Rattle.std.proofs.lemmas.List.{length-take-le}
use Rattle.snd_edits.specs.Bytes.{numbers_in}
use Rattle.snd_layout.specs.declared.codec.Codec.{Codec}
use Rattle.snd_output.proofs.Passing.{places_fit}
use Rattle.snd_output.proofs.Public.{frames_size}
use Rattle.snd_output.specs.Appended.{bytes_in, coded_in}
use Rattle.snd_output.specs.Widths.{change_numbers}
use Rattle.snd_export.proofs.Found.{asks_plain, bytes_fit, front_holds, samples_passed}
use Rattle.snd_export.proofs.coding.pass_samples.Goals as goal

pub returns-in-Ok-clause-coded : goal.returns-in-Ok-clause-coded
returns-in-Ok-clause-coded g c = λ vox.
    let h = c.args.layout.now in
    let own = h.params.codec in
    let codec = c.args.codec in
    let numbers = c.args.count * h.params.channels in
    let bytes = c.read_raw.new.into in
    let size = c.args.count * c.align_of.result in
    let sized : size ≡ bytes_in own numbers = ap (λ (n : ℕ). c.args.count * n) c.align_of.ensures.value ∙ frames_size own h.params.channels c.args.count c.requires.plain in
    let few = places_fit own numbers numbers c.requires.plain (omega arith) in
    let small : size ≤ length c.args.bytes.now = omega (arith, sized, few, c.requires.room, c.requires.places) in
    let held : length bytes ≡ bytes_in own numbers = omega (arith, c.read_raw.auto.into, length-take-le size c.args.bytes.now small, sized) in
    let counted : c.recode_into.result ≡ bytes_in codec numbers = search rules in
    let fewer = places_fit codec numbers numbers c.requires.to_plain (omega arith) in
    let fits : c.recode_into.result ≤ length c.recode_into.new.coded = omega (arith, counted, fewer, c.requires.room, c.requires.fits, c.recode_into.auto.coded) in
    samples_passed g.D.Disk.state c.args.from.now h codec c.args.place c.args.count bytes c.requires.plain held c.in-Ok.ensures.told c.recode_into.result c.recode_into.new.coded vox counted fits
    (subst (λ (q : Codec). take c.recode_into.result c.recode_into.new.coded ≡ coded_in codec (change_numbers q codec (numbers_in q bytes))) c.codec_of-own.ensures c.recode_into.ensures.coded)

pub returns-in-Ok-clause-asked : goal.returns-in-Ok-clause-asked
returns-in-Ok-clause-asked g c = asks_plain c.args.layout.now.params c.args.count _ _ c.requires.plain c.read_raw.ensures.asked

pub returns-in-Err-clause-asked : goal.returns-in-Err-clause-asked
returns-in-Err-clause-asked g c = asks_plain c.args.layout.now.params c.args.count _ _ c.requires.plain c.read_raw.ensures.asked

pub slice_bounds-bytes-end : goal.slice_bounds-bytes-end
slice_bounds-bytes-end g c = bytes_fit c.args.layout.now.params.codec c.args.layout.now.params.channels c.args.count c.align_of.result (length c.args.bytes.now) c.requires.plain c.align_of.ensures.value (omega (arith, c.requires.room, c.requires.places))

pub slice_bounds-bytes-end-2 : goal.slice_bounds-bytes-end-2
slice_bounds-bytes-end-2 g c =
    let fits = bytes_fit c.args.layout.now.params.codec c.args.layout.now.params.channels c.args.count c.align_of.result (length c.args.bytes.now) c.requires.plain c.align_of.ensures.value (omega (arith, c.requires.room, c.requires.places)) in
    sym (length-take-le (c.args.count * c.align_of.result) c.args.bytes.now fits)

pub read_raw-requires-clause-room : goal.read_raw-requires-clause-room
read_raw-requires-clause-room g c =
    let fits = bytes_fit c.args.layout.now.params.codec c.args.layout.now.params.channels c.args.count c.align_of.result (length c.args.bytes.now) c.requires.plain c.align_of.ensures.value (omega (arith, c.requires.room, c.requires.places)) in
    length-take-le (c.args.count * c.align_of.result) c.args.bytes.now fits ∙ ap (λ (n : ℕ). c.args.count * n) c.align_of.ensures.value

pub recode_into-requires-clause-held : goal.recode_into-requires-clause-held
recode_into-requires-clause-held g c =
    let p = c.args.layout.now.params in
    let fits = bytes_fit c.args.layout.now.params.codec c.args.layout.now.params.channels c.args.count c.align_of.result (length c.args.bytes.now) c.requires.plain c.align_of.ensures.value (omega (arith, c.requires.room, c.requires.places)) in
    front_holds c.codec_of-own.result p.codec p.channels c.args.count c.align_of.result c.channels_of.result c.read_raw.new.into c.args.bytes.now c.args.numbers.now c.requires.plain
    c.codec_of-own.ensures c.align_of.ensures.value c.channels_of.ensures.value fits c.read_raw.auto.into c.requires.room
