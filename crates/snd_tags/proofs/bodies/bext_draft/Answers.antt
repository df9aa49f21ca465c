use Rattle.std.proofs.Common.{◌≡◌, ◌<◌, ℕ, List, Vec, Option, None, Some, length, refl, sym, ap, ◌∙◌, rules}
use Rattle.std.specs.Option.{unwrap_or}
use Rattle.std.specs.declared.alloc.Global.{Global}
use Rattle.std.proofs.lemmas.Bool.{lt-ltb}
use Rattle.snd_meta.specs.Broadcast.{Broadcast, bext_of, blank}
use Rattle.snd_edits.specs.TagDrafts.{bext_draft}
use Rattle.snd_tags.specs.Steps.{bytes_in}
use Rattle.snd_tags.proofs.bodies.bext_draft.Goals as goal

too_short : (body : List ℕ) → length body < 602 → bext_of body ≡ None
unfolding bext_of
too_short body short = rw (lt-ltb (length body) 602 short) refl

pub returns-in-Err-BadBext-clause-draft : goal.returns-in-Err-BadBext-clause-draft
returns-in-Err-BadBext-clause-draft c =
    let body = c.in-Some.body.items in
    let short : length body < 602 = search rules in
    let none : bext_draft (Some body) ≡ blank = ap (λ (found : Option Broadcast). unwrap_or found blank) (too_short body short) in
    let held : bext_draft (bytes_in c.args.held) ≡ bext_draft (Some body) = ap (λ (h : Option (Vec ℕ Global)). bext_draft (bytes_in h)) c.in-Some.is in
    c.new-in-Err-BadBext.ensures ∙ (sym none ∙ sym held)
