use Rattle.std.proofs.Common.{◌≡◌, ◌+◌, ◌≤◌, None, take, length, arith}
use Rattle.std.specs.Prelude.{codes}
use Rattle.snd_search.specs.Marks.{IsFirstAt, IsFirstMark}
use Rattle.snd_search.proofs.Blocks.{cut_marks, data_found, no_marks}
use Rattle.snd_search.proofs.Marks.{long_front}
use Rattle.snd_search.proofs.data.find_data.Goals as goal

pub returns-in_default-clause-told : goal.returns-in_default-clause-told
returns-in_default-clause-told g c = λ b told.
    let none : IsFirstMark (codes "data") (take c.args.size b) c.args.from None = rw c.in_default.is at (c.in_ok-place.ensures.told b told) in
    no_marks (take c.args.size b) c.args.from none

pub returns-then-size-place-lt8-clause-told : goal.returns-then-size-place-lt8-clause-told
returns-then-size-place-lt8-clause-told g c = λ b told.
    let first : IsFirstAt (codes "data") (take c.args.size b) c.args.from c.in-Some.place = rw c.in-Some.is at (c.in_ok-place.ensures.told b told) in
    let within : c.in-Some.place + 4 ≤ c.args.size = rw c.in-Some.is at c.in_ok-place.ensures.within in
    let long : length (take c.args.size b) ≡ c.args.size = long_front c.args.size b (omega (arith, c.requires, g.met.D.Disk.size_told c.args.disk.now b told)) in
    cut_marks (take c.args.size b) c.args.from c.in-Some.place first (omega (arith, c.if-size-place-lt8.true, within, long))

pub returns-clause-told : goal.returns-clause-told
returns-clause-told g c = λ b told.
    let first : IsFirstAt (codes "data") (take c.args.size b) c.args.from c.in-Some.place = rw c.in-Some.is at (c.in_ok-place.ensures.told b told) in
    let within : c.in-Some.place + 4 ≤ c.args.size = rw c.in-Some.is at c.in_ok-place.ensures.within in
    let long : length (take c.args.size b) ≡ c.args.size = long_front c.args.size b (omega (arith, c.requires, g.met.D.Disk.size_told c.args.disk.now b told)) in
    data_found (take c.args.size b) c.args.from c.in-Some.place first (omega (arith, c.if-size-place-lt8.false, within, long))
