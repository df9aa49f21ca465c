use Rattle.std.proofs.Common.{◌≡◌, ◌∙◌, ap, refl, subst, sym, true, All, List, length, map, rules}
use Rattle.snd_chunks.specs.Written.{NewChunk}
use Rattle.snd_layout.specs.Blocks.{block_align}
use Rattle.snd_layout.specs.Opened.{EndsIn}
use Rattle.snd_layout.specs.Params.{Parameters}
use Rattle.snd_layout.specs.Shape.{Shape, room}
use Rattle.snd_layout.specs.declared.kind.Kind.{Kind}
use Rattle.snd_file.specs.Handle.{known_of}
use Rattle.snd_edits.proofs.Public.{is_fixed}
use Rattle.snd_layout.specs.Kinds.{holds_meta}
use Rattle.snd_edits.specs.Relaid.{shape_with}
use Rattle.snd_container.specs.Room.{Take}
use Rattle.snd_metadata.specs.Making.{chunks_planned}
use Rattle.snd_metadata.specs.Planned.{MayStand, outline_planned}
use Rattle.snd_metadata.specs.Retagged.{is_full_with}
use Rattle.snd_metadata.proofs.Sizes.{all_end, chunks_take, full_by, little_take, outlines_take}
use Rattle.snd_metadata.proofs.planning.is_full.Goals as goal

pub returns-clause-outlines : goal.returns-clause-outlines
returns-clause-outlines g c =
    let h : Shape = (known_of c.args.file.now).shape in
    let chunks : List NewChunk = map outline_planned c.args.plan.now in
    let frames : c.from.result ≡ h.frames = search rules in
    let align : c.from-2.result ≡ block_align h.params.channels h.params.codec = search rules in
    let meta : holds_meta c.kind.result ≡ true = ap holds_meta c.kind.ensures ∙ c.requires.meta in
    let take : Take c.kind.result c.size_of.result chunks = little_take c.kind.result c.size_of.result chunks meta (outlines_take h.pieces c.args.plan.now c.requires.plan.each ∙ sym c.size_of.ensures.size) in
    let most : c.from-3.result ≡ room (shape_with h.kind h.params chunks) =
    c.from-3.ensures ∙ c.room_with.ensures chunks take ∙ ap (λ (k : Kind). room (shape_with k c.params-params.result chunks)) c.kind.ensures ∙ ap (λ (p : Parameters). room (shape_with h.kind p chunks)) c.params-params.ensures in
    full_by h chunks c.from.result c.from-2.result c.from-3.result (is_fixed _ c.requires.linear) frames align most

pub returns-clause-told : goal.returns-clause-told
returns-clause-told g c = λ e stands.
    let h : Shape = (known_of c.args.file.now).shape in
    let same : h ≡ e.shape = stands.shape in
    let chunks : List NewChunk = chunks_planned e c.args.plan.now in
    let known : c.from.result ≡ h.frames = search rules in
    let align : c.from-2.result ≡ block_align h.params.channels h.params.codec = search rules in
    let meta : holds_meta c.kind.result ≡ true = ap holds_meta c.kind.ensures ∙ c.requires.meta in
    let ends : All (EndsIn (length e.bytes)) e.shape.pieces =
    all_end _ h e.shape e.bytes (g.met.D.Disk.size_told c.args.file.now.disk.now e.bytes stands.bytes) same (c.args.file.now.pieces_held refl c.requires.working) in
    let may : All (MayStand e.shape.pieces) c.args.plan.now = subst (λ (s : Shape). All (MayStand s.pieces) c.args.plan.now) same c.requires.plan.each in
    let take : Take c.kind.result c.size_of.result chunks = little_take c.kind.result c.size_of.result chunks meta (chunks_take e.bytes e.shape.pieces c.args.plan.now ends may ∙ sym c.size_of.ensures.size) in
    let most : c.from-3.result ≡ room (shape_with h.kind h.params chunks) =
    c.from-3.ensures ∙ c.room_with.ensures chunks take ∙ ap (λ (k : Kind). room (shape_with k c.params-params.result chunks)) c.kind.ensures ∙ ap (λ (p : Parameters). room (shape_with h.kind p chunks)) c.params-params.ensures in
    full_by h chunks c.from.result c.from-2.result c.from-3.result (is_fixed _ c.requires.linear) known align most
    ∙ ap (λ (s : Shape). is_full_with s chunks) same
