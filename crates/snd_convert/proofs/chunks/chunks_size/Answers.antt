use Rattle.std.proofs.Common.{◌≡◌, ◌∙◌, ap, sym, subst, refl, true, false, All, List, length, map}
use Rattle.snd_carry.specs.Carried.{TakesBytes, carried, carried_pieces}
use Rattle.snd_layout.specs.Opened.{EndsIn}
use Rattle.snd_layout.specs.Shape.{Shape}
use Rattle.snd_layout.specs.declared.piece.Piece.{Piece}
use Rattle.snd_chunks.specs.Written.{chunks_bytes}
use Rattle.snd_fields.specs.declared.field.Order.TheVariants.{Little}
use Rattle.snd_file.specs.Handle.{known_of}
use Rattle.snd_chunks.specs.Heads.{outline}
use Rattle.snd_convert.specs.Convert.{carries}
use Rattle.snd_convert.proofs.Making.{all_end, no_take, some_take}
use Rattle.snd_convert.proofs.chunks.chunks_size.Goals as goal

pub returns-then-not-carries-clause-outlines : goal.returns-then-not-carries-clause-outlines
returns-then-not-carries-clause-outlines g c =
    let h : Shape = (known_of c.args.file.now).shape in
    let none : carries c.args.plan.now.kind h.kind ≡ false = ap (carries c.args.plan.now.kind) (sym c.kind.ensures) ∙ sym c.carries.ensures ∙ c.if-not-carries.true in
    no_take c.args.plan.now.kind h.kind (map outline (carried_pieces h.pieces)) none

pub returns-then-not-carries-clause-told : goal.returns-then-not-carries-clause-told
returns-then-not-carries-clause-told g c = λ e stands.
    let none : carries c.args.plan.now.kind e.shape.kind ≡ false =
    ap (λ (h : Shape). carries c.args.plan.now.kind h.kind) (sym stands.shape) ∙ ap (carries c.args.plan.now.kind) (sym c.kind.ensures) ∙ sym c.carries.ensures ∙ c.if-not-carries.true in
    no_take c.args.plan.now.kind e.shape.kind (carried e.bytes e.shape.pieces) none

pub returns-clause-outlines : goal.returns-clause-outlines
returns-clause-outlines g c =
    let h : Shape = (known_of c.args.file.now).shape in
    let both : carries c.args.plan.now.kind h.kind ≡ true = ap (carries c.args.plan.now.kind) (sym c.kind.ensures) ∙ sym c.carries.ensures ∙ c.if-not-carries.false in
    let bytes : length (chunks_bytes Little (map outline (carried_pieces h.pieces))) ≡ c.carried_size.result =
    ap (λ (ps : List Piece). length (chunks_bytes Little (map outline (carried_pieces ps)))) (sym c.pieces.ensures) ∙ c.carried_size.ensures.outlines in
    some_take c.args.plan.now.kind h.kind c.carried_size.result (map outline (carried_pieces h.pieces)) both bytes

pub returns-clause-told : goal.returns-clause-told
returns-clause-told g c = λ e stands.
    let h : Shape = (known_of c.args.file.now).shape in
    let both : carries c.args.plan.now.kind e.shape.kind ≡ true =
    ap (λ (s : Shape). carries c.args.plan.now.kind s.kind) (sym stands.shape) ∙ ap (carries c.args.plan.now.kind) (sym c.kind.ensures) ∙ sym c.carries.ensures ∙ c.if-not-carries.false in
    let ends : All (EndsIn (length e.bytes)) e.shape.pieces =
    all_end _ h e.shape e.bytes (g.met.D.Disk.size_told c.args.file.now.disk.now e.bytes stands.bytes) stands.shape (c.args.file.now.pieces_held refl c.requires.working) in
    let takes : TakesBytes e.shape.pieces c.carried_size.result = subst (λ (ps : List Piece). TakesBytes ps c.carried_size.result) (c.pieces.ensures ∙ ap (λ (s : Shape). s.pieces) stands.shape) c.carried_size.ensures.size in
    some_take c.args.plan.now.kind e.shape.kind c.carried_size.result (carried e.bytes e.shape.pieces) both (takes e.bytes ends)
