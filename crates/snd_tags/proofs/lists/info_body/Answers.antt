use Rattle.std.proofs.Common.{rules, ◌≡◌, None, Result, Ok, Err, subst, take}
use Rattle.std.specs.Prelude.{codes}
use Rattle.snd_layout.specs.Shape.{Shape}
use Rattle.snd_edits.specs.Known.{Known}
use Rattle.snd_file.specs.Handle.{known_of}
use Rattle.snd_edits.specs.Pieces.{first_piece, has_name}
use Rattle.snd_edits.specs.declared.error.GetError.TheVariants as get
use Rattle.snd_tags.specs.Bodies.{BodyLeaves, begins_info, first_list}
use Rattle.snd_tags.specs.Found.{FindsInfo}
use Rattle.snd_edits.specs.TagsHeld.{info_piece}
use Rattle.snd_edits.specs.declared.tag_error.TagError.{TagError}
use Rattle.snd_edits.specs.declared.tag_error.TagError.TheVariants.{Get, BadBody}
use Rattle.snd_tags.proofs.Searches.{none_in_front, none_of_both}
use Rattle.snd_tags.proofs.lists.info_body.Goals as goal

-- what reading the body leaves, in a file that is whole and has a list
finds : {T : Type 0} (old new : Known) (result : Result T TagError) → old.broken ≡ None → (first_piece (codes "LIST") old.shape ≡ None → ⊥) → BodyLeaves old new result → FindsInfo old new result
finds old new (Ok body) whole some left = (whole, some, left)
finds old new (Err (Get (get.Broken step))) whole some left = absurd left
finds old new (Err (Get get.NoSuchChunk)) whole some left = (whole, left)
finds old new (Err (Get get.ChunkTooLarge)) whole some left = (whole, some, left)
finds old new (Err (Get (get.DiskFault step))) whole some left = (whole, left)
finds old new (Err (Get get.Memory)) whole some left = (whole, some, left)
finds old new (Err BadBody) whole some left = (whole, some, left)

pub returns-in-Some-clause-left : goal.returns-in-Some-clause-left
returns-in-Some-clause-left g c =
    let old = known_of c.args.file.now in
    let new = known_of c.body_at.new.file in
    let whole : old.broken ≡ None = search rules in
    let some : first_list (take 256 old.shape.pieces) ≡ None → ⊥ = search rules in
    let same : known_of c.info_place.new.file ≡ old = search rules in
    finds old new c.body_at.result whole (λ none. some (none_in_front (has_name (codes "LIST")) 256 old.shape.pieces none))
    (subst (λ (k : Known). BodyLeaves k new c.body_at.result) same c.body_at.ensures.left)

pub returns-then-is_none-clause-refused : goal.returns-then-is_none-clause-refused
returns-then-is_none-clause-refused g c = λ e stands.
    let shape = (known_of c.args.file.now).shape in
    let none : first_list (take 256 shape.pieces) ≡ None = search rules in
    subst (λ (h : Shape). info_piece e.bytes h ≡ None) stands.shape (none_of_both (has_name (codes "LIST")) (begins_info e.bytes) (take 256 shape.pieces) none)
