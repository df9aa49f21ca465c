use Rattle.std.proofs.Common.{◌≡◌, ◌-ℤ◌, ◌∙◌, w32, to_z, of_z, rules, sym, ap}
use Rattle.snd_ima_adpcm.specs.Ima.{ima_predictor, ima_code, ima_index}
use Rattle.snd_ima_adpcm.specs.Step.{code_for, next_index}
use Rattle.snd_ima_adpcm.proofs.Reached.{predictor_of_sample}
use Rattle.snd_ima_adpcm.proofs.ima_writer.ImaPlace.encode.Goals as goal

pub returns-clause-code : goal.returns-clause-code
unfolding ima_code
returns-clause-code c =
    let s = c.args.self.state in
    let way_is : to_z w32 (of_z w32 (to_z w32 (of_z w32 c.args.sample) -ℤ to_z w32 (of_z w32 s.predictor))) ≡ c.args.sample -ℤ s.predictor = search rules in
    c.code_of-code.ensures.value ∙ ap (λ way. code_for c.args.self.step way) way_is ∙ ap (λ step. code_for step (c.args.sample -ℤ s.predictor)) c.args.self.stepped

pub returns-clause-predictor : goal.returns-clause-predictor
returns-clause-predictor c =
    let s = c.args.self.state in
    let target_is : to_z w32 (of_z w32 c.args.sample) ≡ c.args.sample = search rules in
    let way_is : to_z w32 (of_z w32 (to_z w32 (of_z w32 c.args.sample) -ℤ to_z w32 (of_z w32 s.predictor))) ≡ c.args.sample -ℤ s.predictor = search rules in
    let is : ima_predictor s.predictor s.index (ima_code s.predictor s.index c.args.sample) ≡ c.reached-predictor.result =
    predictor_of_sample s.predictor c.args.sample _ c.reached-predictor.result _ s.index c.args.self.step c.reached-predictor.ensures.value c.args.self.stepped target_is way_is in
    let same : to_z w32 (of_z w32 c.reached-predictor.result) ≡ c.reached-predictor.result = search rules in
    same ∙ sym is

pub returns-clause-index : goal.returns-clause-index
unfolding ima_index
returns-clause-index c = c.next_index_at-index.ensures ∙ ap (λ code. next_index 0 88 c.args.self.state.index code) (returns-clause-code c)
