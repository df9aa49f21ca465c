-- How many bytes are asked for frames.
use Rattle.std.proofs.Common.{◌≡◌, ◌+◌, ◌*◌, ◌/◌, ◌%◌, ◌-◌, ◌≤◌, ℕ, min, length, ◌∙◌, ap, arith}
use Rattle.std.proofs.Math.Nat.{mul-div_cancel, mul-mod_left}
use Rattle.snd_disk.specs.State.{AtMost}
use Rattle.snd_layout.specs.Params.{AreParams}
use Rattle.snd_layout.specs.Shape.{KeepsRule, Shape}
use Rattle.snd_edits.specs.Calls.{count_read}
use Rattle.snd_edits.specs.Editing.{Editing, frames_left}
use Rattle.snd_edits.specs.Known.{Known}
use Rattle.snd_edits.specs.Reading.{bytes_to_read}
use Rattle.snd_rules.specs.Rules.{read_known}
use Rattle.snd_edits.proofs.Public.{most_read}

whole_frames : (size count channels : ℕ) → size ≡ count * channels → 1 ≤ channels → size / channels ≡ count
whole_frames size count channels e some = ap (λ n. n / channels) e ∙ mul-div_cancel count some

-- so that places for whole frames have no part of one
pub no_part : (size count channels : ℕ) → size ≡ count * channels → size % channels ≡ 0
no_part size count channels e = ap (λ n. n % channels) e ∙ mul-mod_left count channels

pub asked_for_frames : (old new : ℕ) (known : Known) (size count wanted : ℕ) → AtMost old (bytes_to_read known.shape.params (count_read size known)) new → KeepsRule known.shape → AreParams known.shape.params
    → size ≡ count * known.shape.params.channels → count ≤ wanted → AtMost old (1024 * wanted + 16384) new
asked_for_frames old new known size count wanted asked rule good e few =
    let most = most_read known.shape (count_read size known) rule good in
    let frames : size / known.shape.params.channels ≡ count = whole_frames size count known.shape.params.channels e good.some_channel in
    record { later = asked.later; most = omega (arith, asked.most, most, frames, few) }

-- as many frames are read as are wanted and are left
pub read_on : (old new : Known) (wanted k size count channels : ℕ) → new ≡ record old { place = old.place + k } → k ≡ min (size / channels) (old.shape.frames - old.place) → size ≡ count * channels → 1 ≤ channels
    → count ≡ min wanted old.shape.frames → new ≡ read_known wanted old
read_on old new wanted k size count channels is read e some few =
    let frames = whole_frames size count channels e some in
    let all : k ≡ min wanted (old.shape.frames - old.place) = omega arith in
    is ∙ ap (λ n. record old { place = old.place + n }) all

pub count_left : (old : Known) (e : Editing) (wanted k size count channels : ℕ) → k ≡ min (size / channels) (old.shape.frames - old.place) → size ≡ count * channels → 1 ≤ channels → count ≡ min wanted old.shape.frames
    → old.shape ≡ e.shape → old.place ≡ e.place → e.shape.frames ≡ length e.frames → k ≡ frames_left e wanted
count_left old e wanted k size count channels read whole some few shape place total =
    let frames = whole_frames size count channels whole some in
    let all : k ≡ min wanted (old.shape.frames - old.place) = omega arith in
    let same : old.shape.frames ≡ length e.frames = ap (λ (s : Shape). s.frames) shape ∙ total in
    all ∙ ap (λ n. min wanted (n - old.place)) same ∙ ap (λ n. min wanted (length e.frames - n)) place
