use Rattle.std.proofs.Common.{rules, ◌≡◌, ◌∙◌, ◌*◌, ◌≤◌, ◌++◌, ℕ, List, ap, sym, subst, length, drop, take, All, arith}
use Rattle.std.proofs.lemmas.List.{length-take-le, take_at}
use Rattle.snd_fields.specs.Laws.{IsByte}
use Rattle.snd_output.proofs.Passing.{places_fit}
use Rattle.snd_output.proofs.Public.{frames_size}
use Rattle.snd_output.specs.Appended.{bytes_in}
use Rattle.snd_export.proofs.Found.{asks_plain, bytes_fit, front_fits, samples_kept}
use Rattle.snd_export.proofs.coding.keep_samples.Goals as goal

pub returns-in-Ok-clause-coded : goal.returns-in-Ok-clause-coded
returns-in-Ok-clause-coded g c = λ vox.
    let h = c.args.layout.now in
    let codec = h.params.codec in
    let numbers = c.args.count * h.params.channels in
    let front = c.read_raw.new.into in
    let size = c.args.count * c.align_of.result in
    let rest = drop size c.args.coded.now in
    let sized : size ≡ bytes_in codec numbers = ap (λ (n : ℕ). c.args.count * n) c.align_of.ensures.value ∙ frames_size codec h.params.channels c.args.count c.requires.plain in
    let few = places_fit codec numbers numbers c.requires.plain (omega arith) in
    let small : size ≤ length c.args.coded.now = omega (arith, sized, few, c.requires.fits) in
    let whole : size ≡ length front = omega (arith, c.read_raw.auto.into, length-take-le size c.args.coded.now small) in
    let here : take size (front ++ rest) ≡ front = take_at front rest size (sym whole) in
    let all : All IsByte front = subst (λ (l : List ℕ). All IsByte l) here c.are_bytes.ensures.bytes in
    samples_kept g.D.Disk.state c.args.from.now h c.args.place c.args.count front rest c.are_bytes.result vox c.requires.plain c.requires.one (sym whole ∙ sized) (c.are_bytes.ensures.size ∙ ap length here) all c.in-Ok.ensures.told

pub returns-in-Ok-clause-asked : goal.returns-in-Ok-clause-asked
returns-in-Ok-clause-asked g c = asks_plain c.args.layout.now.params c.args.count _ _ c.requires.plain c.read_raw.ensures.asked

pub returns-in-Err-clause-asked : goal.returns-in-Err-clause-asked
returns-in-Err-clause-asked g c = asks_plain c.args.layout.now.params c.args.count _ _ c.requires.plain c.read_raw.ensures.asked

pub slice_bounds-read_raw-end : goal.slice_bounds-read_raw-end
slice_bounds-read_raw-end g c = bytes_fit c.args.layout.now.params.codec c.args.layout.now.params.channels c.args.count c.align_of.result (length c.args.coded.now) c.requires.plain c.align_of.ensures.value c.requires.fits

pub slice_bounds-read_raw-end-2 : goal.slice_bounds-read_raw-end-2
slice_bounds-read_raw-end-2 g c =
    let fits = bytes_fit c.args.layout.now.params.codec c.args.layout.now.params.channels c.args.count c.align_of.result (length c.args.coded.now) c.requires.plain c.align_of.ensures.value c.requires.fits in
    sym (length-take-le (c.args.count * c.align_of.result) c.args.coded.now fits)

pub read_raw-requires-clause-room : goal.read_raw-requires-clause-room
read_raw-requires-clause-room g c =
    let fits = bytes_fit c.args.layout.now.params.codec c.args.layout.now.params.channels c.args.count c.align_of.result (length c.args.coded.now) c.requires.plain c.align_of.ensures.value c.requires.fits in
    length-take-le (c.args.count * c.align_of.result) c.args.coded.now fits ∙ ap (λ (n : ℕ). c.args.count * n) c.align_of.ensures.value

pub slice_bounds-are_bytes-end : goal.slice_bounds-are_bytes-end
slice_bounds-are_bytes-end g c =
    let size = c.args.count * c.align_of.result in
    let fits = bytes_fit c.args.layout.now.params.codec c.args.layout.now.params.channels c.args.count c.align_of.result (length c.args.coded.now) c.requires.plain c.align_of.ensures.value c.requires.fits in
    front_fits size c.read_raw.new.into (drop size c.args.coded.now) c.args.coded.now fits c.read_raw.auto.into

pub slice_bounds-are_bytes-end-in-Ok : goal.slice_bounds-are_bytes-end-in-Ok
slice_bounds-are_bytes-end-in-Ok g c =
    let size = c.args.count * c.align_of.result in
    let rest = drop size c.args.coded.now in
    let fits = bytes_fit c.args.layout.now.params.codec c.args.layout.now.params.channels c.args.count c.align_of.result (length c.args.coded.now) c.requires.plain c.align_of.ensures.value c.requires.fits in
    sym (length-take-le size (c.read_raw.new.into ++ rest) (front_fits size c.read_raw.new.into rest c.args.coded.now fits c.read_raw.auto.into))
