use Rattle.std.proofs.Common.{◌≡◌, ap, sym, subst, refl, ℤ, List}
use Rattle.std.specs.Prelude.{◌↔◌, IsTrue}
use Rattle.snd_edits.specs.Bytes.{sources_in}
use Rattle.snd_frames.specs.Given.{HoldsGiven, MayBeGiven, given}
use Rattle.snd_edits.specs.Reading.{FitCodec}
use Rattle.snd_frames.specs.declared.given.Given.{Given}
use Rattle.snd_edits.proofs.Public.{fits_given}
use Rattle.snd_frames.proofs.growth.fits_given.Goals as goal

pub returns-in-Bytes-clause-fit : goal.returns-in-Bytes-clause-fit
returns-in-Bytes-clause-fit c =
    let h = c.args.layout.now in
    let p = h.params in
    let bytes = c.in-Bytes.field-0.now in
    let is : given h c.args.from ≡ sources_in p.codec bytes = ap (given h) c.in-Bytes.is in
    let may = subst (MayBeGiven h) c.in-Bytes.is c.requires.given in
    (λ yes. subst (FitCodec p.codec) (sym is) (fits_given p.codec bytes c.requires.linear may.1), λ fit. refl)

pub returns-in-Bytes-clause-coded : goal.returns-in-Bytes-clause-coded
returns-in-Bytes-clause-coded c = λ yes. subst (λ (f : Given). HoldsGiven c.args.layout.now f c.args.block.now) (sym c.in-Bytes.is) tt

pub returns-in-Numbers-clause-fit : goal.returns-in-Numbers-clause-fit
returns-in-Numbers-clause-fit c =
    let h = c.args.layout.now in
    let p = h.params in
    let is : given h c.args.from ≡ c.in-Numbers.numbers.now = ap (given h) c.in-Numbers.is in
    subst (λ (xs : List ℤ). IsTrue c.fits_codec.result ↔ FitCodec p.codec xs) (sym is) c.fits_codec.ensures.fit

pub returns-in-Numbers-clause-coded : goal.returns-in-Numbers-clause-coded
returns-in-Numbers-clause-coded c = λ yes. subst (λ (f : Given). HoldsGiven c.args.layout.now f c.fits_codec.new.block) (sym c.in-Numbers.is) (c.fits_codec.ensures.coded yes)
