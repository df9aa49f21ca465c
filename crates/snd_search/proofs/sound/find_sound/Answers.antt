use Rattle.std.proofs.Common.{◌≡◌, ◌∙◌, ◌≤◌, None, Some, Err, length, drop, take, sym, ap, subst, arith}
use Rattle.snd_layout.specs.Shape.{Shape, end}
use Rattle.snd_layout.specs.declared.refusal.OpenRefusal.{OpenRefusal}
use Rattle.snd_layout.specs.declared.refusal.OpenRefusal.TheVariants.{NoData, NoFormat}
use Rattle.snd_search.specs.Search.{IsPlaced, behind_data, format_in, found_in}
use Rattle.snd_search.specs.Sought.{counted, shape_at}
use Rattle.snd_search.proofs.Marks.{long_front}
use Rattle.snd_search.proofs.Sought.{counted_is, data_there, ends_within, no_data, no_format}
use Rattle.snd_search.proofs.sound.find_sound.Goals as goal

pub returns-in_default-2-clause-opened : goal.returns-in_default-2-clause-opened
returns-in_default-2-clause-opened g c = λ refusal b by told.
    let d = take c.min-size.result b in
    let same : d ≡ counted b = counted_is b c.in-Ok.len c.min-size.result (c.in-Ok.ensures.value ∙ g.met.D.Disk.size_told c.args.disk.now b told) c.min-size.ensures in
    let none : format_in d ≡ None = rw c.in_default-2.is at (c.in_ok-stated.ensures.told b (c.len.ensures.reads.keeps.contents ∙ told)) in
    let why : NoFormat ≡ refusal = cc in
    no_format b d same none ∙ ap (λ (r : OpenRefusal). Err r) why

pub returns-in_default-3-clause-opened : goal.returns-in_default-3-clause-opened
returns-in_default-3-clause-opened g c = λ refusal b by told.
    let d = take c.min-size.result b in
    let stated = c.in-Some.stated in
    let same : d ≡ counted b = counted_is b c.in-Ok.len c.min-size.result (c.in-Ok.ensures.value ∙ g.met.D.Disk.size_told c.args.disk.now b told) c.min-size.ensures in
    let told_now = c.len.ensures.reads.keeps.contents ∙ told in
    let format : format_in d ≡ Some (found_in d stated) = rw c.in-Some.is at (c.in_ok-stated.ensures.told b told_now) in
    let none : behind_data (drop stated.behind d) ≡ None = rw c.in_default-3.is at (c.in_ok-start.ensures.told b (c.find_format.ensures.reads.keeps.contents ∙ told_now)) in
    let why : NoData ≡ refusal = cc in
    no_data b d same stated format none ∙ ap (λ (r : OpenRefusal). Err r) why

pub returns-clause-opened : goal.returns-clause-opened
returns-clause-opened g c = λ b told.
    let size = c.min-size.result in
    let d = take size b in
    let stated = c.in-Some.stated in
    let start = c.in-Some-2.start in
    let len : c.in-Ok.len ≡ length b = c.in-Ok.ensures.value ∙ g.met.D.Disk.size_told c.args.disk.now b told in
    let same : d ≡ counted b = counted_is b c.in-Ok.len size len c.min-size.ensures in
    let told_now = c.len.ensures.reads.keeps.contents ∙ told in
    let format : format_in d ≡ Some (found_in d stated) = rw c.in-Some.is at (c.in_ok-stated.ensures.told b told_now) in
    let found : behind_data (drop stated.behind d) ≡ Some (drop start d) = rw c.in-Some-2.is at (c.in_ok-start.ensures.told b (c.find_format.ensures.reads.keeps.contents ∙ told_now)) in
    let within : start ≤ size = rw c.in-Some-2.is at c.in_ok-start.ensures.within in
    let long : length d ≡ size = long_front size b (omega (arith, c.min-size.ensures, len)) in
    data_there b d same stated start size c.layout_at.result format found long within c.layout_at.ensures

pub returns-clause-held : goal.returns-clause-held
returns-clause-held g c =
    let size = c.min-size.result in
    let stated = c.in-Some.stated in
    let start = c.in-Some-2.start in
    let placed : IsPlaced size 0 stated = rw c.in-Some.is at c.in_ok-stated.ensures.placed in
    let within : start ≤ size = rw c.in-Some-2.is at c.in_ok-start.ensures.within in
    let ends : end (shape_at stated.params start size) (shape_at stated.params start size).frames ≤ size = ends_within stated.params start size placed.is_fixed within in
    subst (λ (h : Shape). end h h.frames ≤ (g.D.Disk.state c.args.disk.now).size) (sym c.layout_at.ensures) (omega (arith, ends, c.min-size.ensures, c.in-Ok.ensures.value))
