-- The further chunks of an edited file are those of the file that was opened or made.
use Rattle.std.proofs.Common.{◌≡◌, ◌⊎◌, ◌∙◌, ap, sym, subst, refl, inl, inr, ⊎_elim, ℕ, ◌≤◌, true, List, [], ◌∷◌, All, length, get_or, map}
use Rattle.std.proofs.lemmas.Bool.{cases_Bool}
use Rattle.std.proofs.lemmas.List.Elements.{All-head, All-tail}
use Rattle.snd_container.proofs.Public.{declares, pieces}
use Rattle.snd_container.specs.Laws.{FileSays}
use Rattle.snd_container.specs.Sound.{Kept, kept_of}
use Rattle.snd_layout.specs.Container.{KeepsHead, SameBody}
use Rattle.snd_layout.specs.Params.{AreParams}
use Rattle.snd_layout.specs.Shape.{Shape, end}
use Rattle.snd_layout.specs.declared.kind.Kind.TheVariants.{Voc}
use Rattle.snd_layout.specs.declared.piece.Piece.{Piece}

same_pieces : (x y : List ℕ) (pieces : List Piece) → All (SameBody x y) pieces → map (kept_of x) pieces ≡ map (kept_of y) pieces
same_pieces x y [] all = refl
same_pieces x y (piece ∷ pieces) all =
    let here : SameBody x y piece = All-head (SameBody x y) piece pieces all in
    let kept : kept_of x piece ≡ kept_of y piece = ap (λ (l : List ℕ). record { id = piece.id.0; body = l; after = piece.after }) here in
    ap (λ (k : Kept). k ∷ map (kept_of x) pieces) kept ∙ ap (λ (l : List Kept). kept_of y piece ∷ l) (same_pieces x y pieces (All-tail (SameBody x y) piece pieces all))

no_pieces : (x y : List ℕ) (listed : List Piece) → listed ≡ [] → map (kept_of x) listed ≡ map (kept_of y) listed
no_pieces x y listed none = subst (λ (l : List Piece). map (kept_of x) l ≡ map (kept_of y) l) (sym none) refl

-- two files of one length have the same bytes behind their frames
abbrev pub SameTail : Shape → List ℕ → List ℕ → Type 0
SameTail h x y = (length x ≡ length y) × ((i : ℕ) → end h h.frames ≤ i → get_or x i 0 ≡ get_or y i 0)

-- where the bytes before the data are those of a file, but for the fields, and behind them too where it goes on there, but in
-- Creative Voice, which has none
pub pieces_stay : (x y : List ℕ) (h : Shape) → FileSays y h → AreParams h.params → h.start ≤ length x → KeepsHead h y x
    → (h.trailing ≡ true → (h.kind ≡ Voc) ⊎ SameTail h x y) → map (kept_of x) h.pieces ≡ map (kept_of y) h.pieces
pieces_stay x y h says good within keeps behind =
    let told = record h { trailing = says.goes_on } in
    let none = λ (voc : h.kind ≡ Voc). no_pieces x y h.pieces (declares h.kind y told says.told voc).1 in
    let by_tail = λ (tail : says.goes_on ≡ true → SameTail h x y). same_pieces x y h.pieces (pieces h.kind y x told says.told good within keeps tail) in
    elim says.same [
      | inl voc ↦ none voc
      | inr same ↦ elim (cases_Bool h.trailing) [
        | inl goes_on ↦ ⊎_elim none (λ tail. by_tail (λ is. tail)) (behind goes_on)
        | inr free ↦ by_tail (λ is. absurd (let no : h.trailing ≡ true = sym same ∙ is in cc))
      ]
    ]
