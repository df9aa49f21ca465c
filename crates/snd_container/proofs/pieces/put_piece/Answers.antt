use Rattle.std.proofs.Common.{◌≡◌, sym, ap, ◌∙◌}
use Rattle.std.proofs.lemmas.Result.{on_ok_weaker}
use Rattle.snd_container.proofs.Heads.{holds_as_kind, holds_of_kind, puts_of_kind, rf64_same, rf64_says, svx_same, svx_says, wave_same, wave_says}
use Rattle.snd_container.specs.Put.{heads_of}
use Rattle.snd_wave.specs.Put.{reserved_heads}
use Rattle.snd_layout.specs.Shape.{Shape}
use Rattle.snd_layout.specs.declared.kind.Kind.TheVariants.{Rf64, Svx, Wave}
use Rattle.snd_chunks.specs.Heads.{new_piece}
use Rattle.snd_container.proofs.pieces.put_piece.Goals as goal

pub put_piece-requires-clause-head : goal.put_piece-requires-clause-head
put_piece-requires-clause-head g c =
    let kind : c.args.layout.now.kind ≡ Wave = sym (ap (λ (s : Shape). s.kind) c.layout.view_is) ∙ c.in-Wave.is in
    holds_as_kind Wave (reserved_heads c.args.layout.now.reserve) (g.D.Disk.state c.args.disk.now) c.args.layout.now (kind, wave_same c.args.layout.now.reserve) c.requires.head

pub returns-in-Wave-clause-put : goal.returns-in-Wave-clause-put
returns-in-Wave-clause-put g c =
    let kind : c.args.layout.now.kind ≡ Wave = sym (ap (λ (s : Shape). s.kind) c.layout.view_is) ∙ c.in-Wave.is in
    on_ok_weaker c.put_piece.result (λ put. puts_of_kind Wave (reserved_heads c.args.layout.now.reserve) g.D.Disk.state c.args.disk.now c.put_piece.new.disk c.args.layout.now c.put_piece.new.layout c.args.place (new_piece c.args.id.0 c.args.body.now) (kind, wave_same c.args.layout.now.reserve) put) c.put_piece.ensures.put

pub returns-in-Wave-clause-head : goal.returns-in-Wave-clause-head
returns-in-Wave-clause-head g c = on_ok_weaker c.put_piece.result (λ head. holds_of_kind Wave (reserved_heads c.args.layout.now.reserve) (wave_says c.args.layout.now.reserve) (g.D.Disk.state c.put_piece.new.disk) c.put_piece.new.layout head) c.put_piece.ensures.head

pub put_piece-requires-in-Rf64-clause-head : goal.put_piece-requires-in-Rf64-clause-head
put_piece-requires-in-Rf64-clause-head g c =
    let kind : c.args.layout.now.kind ≡ Rf64 = sym (ap (λ (s : Shape). s.kind) c.layout.view_is) ∙ c.in-Rf64.is in
    holds_as_kind Rf64 (heads_of Rf64) (g.D.Disk.state c.args.disk.now) c.args.layout.now (kind, rf64_same c.args.layout.now.reserve) c.requires.head

pub returns-in-Rf64-clause-put : goal.returns-in-Rf64-clause-put
returns-in-Rf64-clause-put g c =
    let kind : c.args.layout.now.kind ≡ Rf64 = sym (ap (λ (s : Shape). s.kind) c.layout.view_is) ∙ c.in-Rf64.is in
    on_ok_weaker c.put_piece-in-Rf64.result (λ put. puts_of_kind Rf64 (heads_of Rf64) g.D.Disk.state c.args.disk.now c.put_piece-in-Rf64.new.disk c.args.layout.now c.put_piece-in-Rf64.new.layout c.args.place (new_piece c.args.id.0 c.args.body.now) (kind, rf64_same c.args.layout.now.reserve) put) c.put_piece-in-Rf64.ensures.put

pub returns-in-Rf64-clause-head : goal.returns-in-Rf64-clause-head
returns-in-Rf64-clause-head g c = on_ok_weaker c.put_piece-in-Rf64.result (λ head. holds_of_kind Rf64 (heads_of Rf64) rf64_says (g.D.Disk.state c.put_piece-in-Rf64.new.disk) c.put_piece-in-Rf64.new.layout head) c.put_piece-in-Rf64.ensures.head

pub put_piece-requires-in-Svx-clause-head : goal.put_piece-requires-in-Svx-clause-head
put_piece-requires-in-Svx-clause-head g c =
    let kind : c.args.layout.now.kind ≡ Svx = sym (ap (λ (s : Shape). s.kind) c.layout.view_is) ∙ c.in-Svx.is in
    holds_as_kind Svx (heads_of Svx) (g.D.Disk.state c.args.disk.now) c.args.layout.now (kind, svx_same c.args.layout.now.reserve) c.requires.head

pub returns-in-Svx-clause-put : goal.returns-in-Svx-clause-put
returns-in-Svx-clause-put g c =
    let kind : c.args.layout.now.kind ≡ Svx = sym (ap (λ (s : Shape). s.kind) c.layout.view_is) ∙ c.in-Svx.is in
    on_ok_weaker c.put_piece-in-Svx.result (λ put. puts_of_kind Svx (heads_of Svx) g.D.Disk.state c.args.disk.now c.put_piece-in-Svx.new.disk c.args.layout.now c.put_piece-in-Svx.new.layout c.args.place (new_piece c.args.id.0 c.args.body.now) (kind, svx_same c.args.layout.now.reserve) put) c.put_piece-in-Svx.ensures.put

pub returns-in-Svx-clause-head : goal.returns-in-Svx-clause-head
returns-in-Svx-clause-head g c = on_ok_weaker c.put_piece-in-Svx.result (λ head. holds_of_kind Svx (heads_of Svx) svx_says (g.D.Disk.state c.put_piece-in-Svx.new.disk) c.put_piece-in-Svx.new.layout head) c.put_piece-in-Svx.ensures.head
