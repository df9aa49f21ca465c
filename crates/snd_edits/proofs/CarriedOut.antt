-- Calls that are carried out lead from one editing state to another, and to files that read back.
use Rattle.std.proofs.Common.{◌≡◌, ap, subst, ℕ, ◌≤◌, true, arith}
use Rattle.snd_layout.specs.Shape.{Shape}
use Rattle.snd_layout.specs.declared.kind.Kind.TheVariants.{Voc}
use Rattle.snd_edits.specs.Laws.{CutLeads, MayTruncate, ReachedSound, ReadLeads, SeekLeads, SeekWriteLeads, TrimLeads, WriteLeads, reads, seeks, seeks_to_write, trims, truncates, writes}
use Rattle.snd_edits.specs.WriteCalls.{MayWrite}
use Rattle.snd_edits.proofs.EditedSounds.{sealed_sound}
use Rattle.snd_edits.proofs.EditedSteps.{reached_is_edited}

pub write_leads : WriteLeads
write_leads k k' e xs done knows left =
    let at : MayWrite xs e.shape k.write_place = subst (λ (s : Shape). MayWrite xs s k.write_place) knows.shape left.1 in
    writes xs (subst (λ (n : ℕ). MayWrite xs e.shape n) knows.write_place at)

pub cut_leads : CutLeads
cut_leads k k' e to done knows left =
    let may : MayTruncate to k.shape = record { within = left.0.within; free = left.0.free } in
    truncates to (subst (MayTruncate to) knows.shape may)

pub trim_leads : TrimLeads
trim_leads k k' e done knows left = trims (subst (λ (s : Shape). s.trailing ≡ true → s.kind ≡ Voc) knows.shape left.0.free)

pub read_leads : ReadLeads
read_leads k k' e places count knows holds left =
    let frames : k.shape.frames ≡ e.shape.frames = ap (λ (s : Shape). s.frames) knows.shape in
    reads count (omega (arith, left.1, frames, knows.place, holds.placed))

pub seek_leads : SeekLeads
seek_leads k k' e to done knows left = seeks to (subst (λ (s : Shape). to ≤ s.frames) knows.shape left.1)

pub seek_write_leads : SeekWriteLeads
seek_write_leads k k' e to done knows left = seeks_to_write to (subst (λ (s : Shape). to ≤ s.frames) knows.shape left.1)

pub reached_sound : ReachedSound
reached_sound file e bytes reached = sealed_sound file e (reached_is_edited file e bytes reached).keeps
