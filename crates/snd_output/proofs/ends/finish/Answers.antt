use Rattle.std.proofs.Common.{◌≡◌, ◌∙◌, ap, subst, sym, true, false, Bool, List, ℕ, Some, Ok, inl, inr}
use Rattle.std.proofs.lemmas.Bool.{cases_Bool}
use Rattle.snd_disk.specs.Device.{Tells}
use Rattle.snd_layout.specs.Blocks.{is_adpcm}
use Rattle.snd_layout.specs.Params.{Parameters}
use Rattle.snd_layout.specs.Shape.{Shape}
use Rattle.snd_edits.specs.Closing.{closed_to}
use Rattle.snd_file.specs.Closing.{ClosesFile, HoldsClosed}
use Rattle.snd_file.specs.Handle.{known_of}
use Rattle.snd_edits.proofs.Public.{not_adpcm}
use Rattle.snd_output.proofs.Encoding.{filled_is_made}
use Rattle.snd_output.proofs.Finished.{making_params, sealed_is_made}
use Rattle.snd_output.proofs.ends.finish.Goals as goal

pub returns-in-Ok-clause-made : goal.returns-in-Ok-clause-made
returns-in-Ok-clause-made g c = λ kind p pieces xs e stands making.
    let file = c.args.to in
    let writes : g.M.Mode.WRITES ≡ true = g.met.M.CanMake.writes in
    let closes : HoldsClosed g.E.Disk.state file c.in-Ok.disk.now = subst (λ (t : Bool). ClosesFile t g.E.Disk.state file (Ok c.in-Ok.disk)) writes c.in-Ok.ensures.back in
    let told = closes e stands in
    let params = making_params kind p pieces xs e making in
    elim (cases_Bool g.M.Mode.ENCODES) [
      | inl encodes ↦
          let is : is_adpcm p.codec ≡ true = ap (λ (q : Parameters). is_adpcm q.codec) (sym params) ∙ ap (λ (s : Shape). is_adpcm s.params.codec) (sym stands.shape) ∙ (file.roomy encodes).blocks in
          subst (λ (t : Bool). Tells g.E.Disk.state c.in-Ok.disk.now (closed_to t e).bytes) encodes told ∙ ap (λ (b : List ℕ). Some b) (filled_is_made kind p pieces xs e making is)
      | inr by_place ↦
          let plain : is_adpcm p.codec ≡ false =
          ap (λ (q : Parameters). is_adpcm q.codec) (sym params) ∙ ap (λ (s : Shape). is_adpcm s.params.codec) (sym stands.shape) ∙ not_adpcm (known_of file).shape.params.codec (file.linear (g.M.Mode.ways writes by_place)) in
          subst (λ (t : Bool). Tells g.E.Disk.state c.in-Ok.disk.now (closed_to t e).bytes) by_place told ∙ ap (λ (b : List ℕ). Some b) (sealed_is_made kind p pieces xs e making plain)
    ]
