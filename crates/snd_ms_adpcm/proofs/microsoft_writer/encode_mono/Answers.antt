use Rattle.std.proofs.Common.{◌≡◌, [], ◌∷◌, ◌++◌, take, rules, ap, ◌∙◌, append_assoc}
use Rattle.std.proofs.lemmas.List.{take_min}
use Rattle.snd_ima_adpcm.specs.Frames.{bytes_16, bytes_high_half_first}
use Rattle.snd_ms_adpcm.proofs.MsWritten.{Starts, starts_whole, mono_block, codes_of}
use Rattle.snd_ms_adpcm.proofs.microsoft_writer.encode_mono.Goals as goal

pub returns : goal.returns
returns c =
    let samples = c.args.samples.now in
    let number = c.start_of-number.result.0 in
    let s = c.start_of-number.result.1 in
    let front : c.split_at.result.0.now ≡ take 5 samples = c.split_at.ensures.front ∙ ap (λ n. take n samples) (c.min.ensures) ∙ take_min 5 samples in
    let begins : Starts c.split_at.result.0.now number s =
    let e = c.start_of-number.ensures in record { number_is = e.number; newer_by = e.newer_by; older_by = e.older_by; newer = e.newer; older = e.older; delta = e.delta } in
    let pushed : c.push.new.self.items ≡ number ∷ [] = search rules in
    let one : c.put_number.new.into.items ≡ c.push.new.self.items ++ bytes_16 s.delta = search rules in
    let two : c.put_number-2.new.into.items ≡ c.put_number.new.into.items ++ bytes_16 s.newer = search rules in
    let three : c.put_number-3.new.into.items ≡ c.put_number-2.new.into.items ++ bytes_16 s.older = search rules in
    let codes : c.encode_samples.new.into.items ≡ c.put_number-3.new.into.items ++ bytes_high_half_first (codes_of s c.split_at-2.result.1.now) = c.encode_samples.ensures in
    mono_block samples c.split_at-2.result.1.now number s c.encode_samples.new.into.items (starts_whole samples _ number s front begins) c.split_at-2.ensures.back
    (rw (codes, three, two, one, pushed) (simp append_assoc))
