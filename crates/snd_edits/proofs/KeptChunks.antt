-- The further chunks of an open file stay, whatever is written, cut or sealed.
use Rattle.std.proofs.Common.{◌≡◌, ◌∙◌, ap, sym, subst, refl, ℕ, ◌/◌, List, [], ◌∷◌, length, map}
use Rattle.std.specs.Prelude.{nat_lt}
use Rattle.std.proofs.lemmas.Bool.{cond_both}
use Rattle.std.proofs.lemmas.List.Elements.{All-cons, All-nil}
use Rattle.snd_container.specs.Sound.{Kept, kept_of}
use Rattle.snd_layout.specs.Shape.{Shape}
use Rattle.snd_layout.specs.declared.piece.Piece.{Piece}
use Rattle.snd_patch.specs.Sealed.{counted}
use Rattle.snd_edits.specs.Chunks.{EditedHasChunks, LeadsKeepChunks, SameBodies}
use Rattle.snd_edits.specs.Editing.{Editing}
use Rattle.snd_edits.specs.Edits.{count_written, cut_to, sealed_to}
use Rattle.snd_edits.specs.Laws.{IsEdited, Leads, reads, seals, seeks, seeks_to_write, sets_automatic, trims, truncates, writes}
use Rattle.snd_edits.specs.Pieces.{body_of}
use Rattle.snd_edits.proofs.EditedSounds.{edited_pieces}
use Rattle.snd_edits.proofs.EditedSteps.{leads_to_edited}

-- chunks that are kept alike have the same bodies
same_bodies : (x b : List ℕ) (pieces : List Piece) → map (kept_of x) pieces ≡ map (kept_of b) pieces → SameBodies pieces b x
same_bodies x b [] same = All-nil (λ piece. body_of x piece ≡ body_of b piece)
same_bodies x b (piece ∷ pieces) same =
    let first : kept_of x piece ≡ kept_of b piece = cc in
    let others : map (kept_of x) pieces ≡ map (kept_of b) pieces = cc in
    All-cons (λ (p : Piece). body_of x p ≡ body_of b p) piece pieces (ap (λ (k : Kept). k.body) first) (same_bodies x b pieces others)

module _ (file : List ℕ) (e : Editing) (ed : IsEdited file e) where
  listed : e.shape.pieces ≡ ed.keeps.head.pieces
  listed = ap (λ (s : Shape). s.pieces) ed.keeps.shape

  kept : map (kept_of e.bytes) e.shape.pieces ≡ map (kept_of file) e.shape.pieces
  kept = subst (λ (l : List Piece). map (kept_of e.bytes) l ≡ map (kept_of file) l) (sym listed) (edited_pieces file e ed.keeps)

pub edited_has_chunks : EditedHasChunks
edited_has_chunks file e ed = record {
  head = record ed.keeps.head { trailing = ed.keeps.opened.goes_on };
  opened = ed.keeps.opened.told;
  listed = listed file e ed;
  bodies = same_bodies e.bytes file ed.keeps.head.pieces (edited_pieces file e ed.keeps);
}

-- no call changes the list
still_listed : (e e' : Editing) → Leads e e' → e'.shape.pieces ≡ e.shape.pieces
still_listed e _ (writes xs may) =
    let n = count_written e.shape e.write_place (length xs / e.shape.params.channels) in
    cond_both e.automatic (counted e.shape n) (record e.shape { frames = n }) (λ (s : Shape). s.pieces ≡ e.shape.pieces) (λ is. refl) (λ other. refl)
still_listed e _ seals = refl
still_listed e _ (sets_automatic on) = refl
still_listed e _ (truncates to may) = cond_both (nat_lt to e.shape.frames) (cut_to to e) (sealed_to e) (λ (x : Editing). x.shape.pieces ≡ e.shape.pieces) (λ is. refl) (λ other. refl)
still_listed e _ (trims may) = refl
still_listed e _ (reads n within) = refl
still_listed e _ (seeks to within) = refl
still_listed e _ (seeks_to_write to within) = refl

pub leads_keep_chunks : LeadsKeepChunks
leads_keep_chunks file e e' ed leads =
    let same = still_listed e e' leads in
    let then = kept file e' (leads_to_edited file e e' ed leads) in
    let now : map (kept_of e'.bytes) e.shape.pieces ≡ map (kept_of file) e.shape.pieces = subst (λ (l : List Piece). map (kept_of e'.bytes) l ≡ map (kept_of file) l) same then in
    record { listed = same; bodies = same_bodies e'.bytes e.bytes e.shape.pieces (now ∙ sym (kept file e ed)) }
