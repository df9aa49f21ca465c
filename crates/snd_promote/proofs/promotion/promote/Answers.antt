use Rattle.std.proofs.Common.{◌≡◌, ◌⊎◌, ◌∙◌, ap, inr, rules, subst, sym}
use Rattle.std.specs.Prelude.{is_some}
use Rattle.snd_disk.proofs.Public.{goes_on_then}
use Rattle.snd_layout.specs.Params.{data_bytes}
use Rattle.snd_layout.specs.Shape.{Shape}
use Rattle.snd_patch.specs.Sealed.{counted}
use Rattle.snd_patch.specs.Steps.{Becomes, MayCount}
use Rattle.snd_promote.proofs.Contents.{counted_free, may_count_sealed, promoted_contents}
use Rattle.snd_promote.proofs.Faults.{early_start, promoted_beside, sealed_beside}
use Rattle.snd_promote.proofs.Moments.{promotion_leaves, seal_leaves}
use Rattle.snd_promote.specs.Images.{KeepsBesideFront, LeavesConverting}
use Rattle.snd_ds64.specs.Promoted.{promoted, promoted_shape}
use Rattle.snd_promote.proofs.promotion.promote.Goals as goal

pub convert-requires-clause-counts : goal.convert-requires-clause-counts
convert-requires-clause-counts g c =
    subst (λ (l : Shape). MayCount l l.frames (g.D.Disk.state c.seal.new.disk).size) (sym c.in_ok-seal.ensures.layout)
    (may_count_sealed c.args.layout.now c.args.layout.now.frames (g.D.Disk.state c.args.disk.now).size (g.D.Disk.state c.seal.new.disk).size c.requires.counts c.requires.free c.in_ok-seal.ensures.size)

pub convert-requires-clause-reserved : goal.convert-requires-clause-reserved
convert-requires-clause-reserved g c = ap (λ (l : Shape). is_some l.reserve) c.in_ok-seal.ensures.layout ∙ c.requires.reserved

pub note_promoted-requires-clause-reserved : goal.note_promoted-requires-clause-reserved
note_promoted-requires-clause-reserved g c = ap (λ (l : Shape). is_some l.reserve) c.in_ok-seal.ensures.layout ∙ c.requires.reserved

pub note_promoted-requires-clause-declared : goal.note_promoted-requires-clause-declared
note_promoted-requires-clause-declared g c =
    subst (λ (l : Shape). l.declared ≡ data_bytes l.params l.frames) (sym c.in_ok-seal.ensures.layout) (counted_free c.args.layout.now c.args.layout.now.frames c.requires.free)

-- the seal failed
pub returns-in_err-seal-clause-leaves : goal.returns-in_err-seal-clause-leaves
returns-in_err-seal-clause-leaves g c = seal_leaves g.D.Disk c.args.layout.now c.args.layout.now.frames c.args.disk.now c.seal.new.disk c.seal.ensures.leaves

pub returns-in_err-seal-clause-beside : goal.returns-in_err-seal-clause-beside
returns-in_err-seal-clause-beside g c =
    sealed_beside g.D.Disk.state c.args.layout.now c.args.layout.now.frames (early_start c.args.layout.now c.keeps_rule.ensures c.requires.reserved) c.args.disk.now c.seal.new.disk c.seal.ensures.beside

-- the conversion failed
pub returns-in_err-convert-clause-leaves : goal.returns-in_err-convert-clause-leaves
returns-in_err-convert-clause-leaves g c =
    promotion_leaves g.D.Disk c.args.layout.now c.args.layout.now.frames c.args.disk.now c.seal.new.disk c.seal.ensures.leaves c.convert.new.disk c.in_ok-seal.ensures.contents c.in_ok-seal.ensures.stable
    (subst (λ (l : Shape). LeavesConverting g.D.Disk l l.frames c.seal.new.disk c.convert.new.disk) c.in_ok-seal.ensures.layout c.convert.ensures.leaves)

pub returns-in_err-convert-clause-beside : goal.returns-in_err-convert-clause-beside
returns-in_err-convert-clause-beside g c =
    promoted_beside g.D.Disk.state c.args.layout.now c.args.layout.now.frames (early_start c.args.layout.now c.keeps_rule.ensures c.requires.reserved) c.args.disk.now c.seal.new.disk c.convert.new.disk c.seal.ensures.beside
    (subst (λ (l : Shape). KeepsBesideFront g.D.Disk.state l l.frames c.seal.new.disk c.convert.new.disk) c.in_ok-seal.ensures.layout c.convert.ensures.beside)

pub returns-in_err-convert-clause-tells : goal.returns-in_err-convert-clause-tells
returns-in_err-convert-clause-tells g c = record { told = c.convert.ensures.tells.told ∙ c.seal.ensures.tells.told; name = c.convert.ensures.tells.name ∙ c.seal.ensures.tells.name }

pub returns-in_err-convert-clause-time : goal.returns-in_err-convert-clause-time
returns-in_err-convert-clause-time g c =
    goes_on_then (g.D.Disk.state c.args.disk.now).clock (g.D.Disk.state c.seal.new.disk).clock (g.D.Disk.state c.convert.new.disk).clock (g.D.Disk.left_between c.args.disk.now) (g.D.Disk.left_between c.seal.new.disk)
    (g.D.Disk.left_between c.convert.new.disk) c.seal.ensures.time c.convert.ensures.time

pub returns-in_err-convert-clause-kept : goal.returns-in_err-convert-clause-kept
returns-in_err-convert-clause-kept g c =
    let is : (c.seal.new.layout ≡ c.args.layout.now) ⊎ (c.seal.new.layout ≡ counted c.args.layout.now c.args.layout.now.frames) = inr c.in_ok-seal.ensures.layout in
    search rules

-- none did
pub returns-clause-leaves : goal.returns-clause-leaves
returns-clause-leaves g c =
    promotion_leaves g.D.Disk c.args.layout.now c.args.layout.now.frames c.args.disk.now c.seal.new.disk c.seal.ensures.leaves c.convert.new.disk c.in_ok-seal.ensures.contents c.in_ok-seal.ensures.stable
    (subst (λ (l : Shape). LeavesConverting g.D.Disk l l.frames c.seal.new.disk c.convert.new.disk) c.in_ok-seal.ensures.layout c.convert.ensures.leaves)

pub returns-clause-beside : goal.returns-clause-beside
returns-clause-beside g c =
    promoted_beside g.D.Disk.state c.args.layout.now c.args.layout.now.frames (early_start c.args.layout.now c.keeps_rule.ensures c.requires.reserved) c.args.disk.now c.seal.new.disk c.convert.new.disk c.seal.ensures.beside
    (subst (λ (l : Shape). KeepsBesideFront g.D.Disk.state l l.frames c.seal.new.disk c.convert.new.disk) c.in_ok-seal.ensures.layout c.convert.ensures.beside)

pub returns-clause-tells : goal.returns-clause-tells
returns-clause-tells g c = record { told = c.convert.ensures.tells.told ∙ c.seal.ensures.tells.told; name = c.convert.ensures.tells.name ∙ c.seal.ensures.tells.name }

pub returns-clause-time : goal.returns-clause-time
returns-clause-time g c =
    goes_on_then (g.D.Disk.state c.args.disk.now).clock (g.D.Disk.state c.seal.new.disk).clock (g.D.Disk.state c.convert.new.disk).clock (g.D.Disk.left_between c.args.disk.now) (g.D.Disk.left_between c.seal.new.disk)
    (g.D.Disk.left_between c.convert.new.disk) c.seal.ensures.time c.convert.ensures.time

pub returns-clause-contents : goal.returns-clause-contents
returns-clause-contents g c =
    promoted_contents c.args.layout.now c.args.layout.now.frames (g.D.Disk.state c.args.disk.now).contents (g.D.Disk.state c.seal.new.disk).contents (g.D.Disk.state c.convert.new.disk).contents c.in_ok-seal.ensures.contents
    (subst (λ (l : Shape). Becomes g.D.Disk.state (λ b. promoted b l l.frames) c.seal.new.disk c.convert.new.disk) c.in_ok-seal.ensures.layout c.in_ok-convert.ensures.contents)

pub returns-clause-layout : goal.returns-clause-layout
returns-clause-layout g c = c.note_promoted.ensures ∙ ap (λ (l : Shape). promoted_shape l l.frames) c.in_ok-seal.ensures.layout
