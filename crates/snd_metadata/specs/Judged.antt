-- What the steps before the output is made find out, as the code has it.
use Rattle.std.specs.Prelude.{◌≡◌, ℕ, true, false, List, All, None, Some, Result, Ok, Err}
use Rattle.snd_chunks.specs.Written.{NewChunk}
use Rattle.snd_fields.specs.Laws.{IsByte}
use Rattle.snd_layout.specs.Fit.{fit_refusal}
use Rattle.snd_layout.specs.Shape.{Shape}
use Rattle.snd_lines.specs.declared.refusal.Refusal.TheVariants.{ChunkTooLarge, ContainerFull, Open, TextTooLong}
use Rattle.snd_meta.specs.Broadcast.{bext_body}
use Rattle.snd_meta.specs.Info.{info_body}
use Rattle.snd_words.specs.Stated.{Stated}
use Rattle.snd_metadata.specs.declared.bodies.Bodies.{Bodies}
use Rattle.snd_metadata.specs.declared.halt.Halt.{Halt}
use Rattle.snd_metadata.specs.declared.halt.Halt.TheVariants as halt
use Rattle.snd_metadata.specs.declared.settings.Drafts.{Drafts}
use Rattle.snd_metadata.specs.Retagged.{are_too_large, is_full_with}
use Rattle.snd_metadata.specs.Settings.{are_too_long, with_entries, with_entry, with_field, with_fields}

-- what one setting says was put into the draft of the chunk that it changes; and what all of them say
abbrev pub PutsSetting : Stated → Drafts → Drafts → Type 0
PutsSetting setting old new = (new.extension ≡ with_field setting old.extension) × (new.texts ≡ with_entry setting old.texts)

abbrev pub PutsSettings : List Stated → Drafts → Drafts → Type 0
PutsSettings settings old new = (new.extension ≡ with_fields settings old.extension) × (new.texts ≡ with_entries settings old.texts)

-- the bodies of two drafts with all that is set, or why they are not put
abbrev pub extension_of : List Stated → Drafts → List ℕ
extension_of settings drafts = bext_body (with_fields settings drafts.extension)

abbrev pub texts_of : List Stated → Drafts → List ℕ
texts_of settings drafts = info_body (with_entries settings drafts.texts)

abbrev pub PutsBodies : List Stated → Drafts → Bodies → Type 0
PutsBodies settings drafts bodies =
    (bodies.extension.items ≡ extension_of settings drafts) × (bodies.texts.items ≡ texts_of settings drafts)
    × All IsByte bodies.extension.items × All IsByte bodies.texts.items

abbrev pub HasBodies : List Stated → Drafts → Result Bodies Halt → Type 0
HasBodies settings drafts (Ok bodies) =
    (are_too_long settings ≡ false) × (bodies.extension.items ≡ extension_of settings drafts) × (bodies.texts.items ≡ texts_of settings drafts)
    × (are_too_large bodies.extension.items bodies.texts.items ≡ false) × All IsByte bodies.extension.items × All IsByte bodies.texts.items
HasBodies settings drafts (Err (halt.Output TextTooLong)) = are_too_long settings ≡ true
HasBodies settings drafts (Err (halt.Output ChunkTooLarge)) =
    (are_too_long settings ≡ false) × (are_too_large (extension_of settings drafts) (texts_of settings drafts) ≡ true)
HasBodies settings drafts (Err (halt.Stop stop)) = Unit {0}
HasBodies settings drafts (Err other) = ⊥

-- whether the output may be made with some chunks
abbrev pub HasRoom : {T : Type 0} → Shape → List NewChunk → Result T Halt → Type 0
HasRoom h chunks (Ok done) = (fit_refusal h.kind h.params ≡ None) × (is_full_with h chunks ≡ false)
HasRoom h chunks (Err (halt.Output (Open why))) = fit_refusal h.kind h.params ≡ Some why
HasRoom h chunks (Err (halt.Output ContainerFull)) = (fit_refusal h.kind h.params ≡ None) × (is_full_with h chunks ≡ true)
HasRoom h chunks (Err other) = ⊥
