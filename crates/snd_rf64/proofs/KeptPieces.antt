-- The further chunks of a file stay where its head stays.
use Rattle.std.proofs.Common.{◌≡◌, ◌⊎◌, sym, subst, inl, inr, ℕ, ◌-◌, ◌<◌, ◌≤◌, true, false, not, List, [], All, length, get_or, arith}
use Rattle.std.proofs.lemmas.Bool.{cases_Bool, ltb-false}
use Rattle.std.proofs.lemmas.List.Elements.{All-append, All-nil}
use Rattle.std.specs.List.{filter}
use Rattle.std.specs.Prelude.{codes, nat_lt}
use Rattle.snd_chunks.proofs.Public.{bodies_before, bodies_behind, is_head, IsHead, no_tail, Reaches, SameBody as SameChunk}
use Rattle.snd_chunks.specs.declared.chunk.Chunk.{Chunk}
use Rattle.snd_chunks.specs.declared.front.Front.{Front}
use Rattle.snd_chunks.specs.Chunks.{chunk_at}
use Rattle.snd_fields.specs.declared.field.Order.TheVariants.{Little}
use Rattle.snd_layout.specs.Container.{KeepsHead, PiecesStay, SameBody}
use Rattle.snd_layout.specs.Params.{Parameters}
use Rattle.snd_layout.specs.Shape.{Shape, end}
use Rattle.snd_wave.proofs.Public.{pieces_kept}
use Rattle.snd_wave.specs.Layout.{is_own, pieces_of}
use Rattle.snd_rf64.specs.Container.{rf64}
use Rattle.snd_rf64.specs.Layout.{data_end, outer_end, rf64_front, rf64_shape, rf64_tail}
use Rattle.snd_rf64.specs.declared.sizes.Sizes.{Sizes}
use Rattle.snd_rf64.proofs.Counted.{frames_end}
use Rattle.snd_rf64.proofs.Opens.{reached}
use Rattle.snd_rf64.proofs.Stays.{Stays, no_field, stays}

-- those before the data
before_stay : (x y : List ℕ) (sizes : Sizes) (sound : Chunk) → Reaches (chunk_at Little y) (codes "data") (length y) 256 sizes.next (rf64_front y sizes.next).chunks sound → 48 ≤ sizes.next → sound.at ≤ length x
    → ((i : ℕ) → i < sound.at → (i < 20) ⊎ (44 ≤ i) → get_or x i 0 ≡ get_or y i 0) → All (SameChunk x y) (filter (λ chunk. not (is_own chunk)) (rf64_front y sizes.next).chunks)
before_stay x y sizes sound reach behind in_x same =
    let head : IsHead Little y reach.last sound = is_head Little y reach.last sound reach.at in
    bodies_before Little x y (codes "data") (λ chunk. not (is_own chunk)) sizes.next reach.last (rf64_front y sizes.next).chunks reach.chain (omega (arith, head.at, in_x)) (omega (arith, head.within))
    (λ i from to beside. same i (omega (arith, to, head.at)) (inr (omega (arith, from, behind))))

pub pieces_stay : PiecesStay rf64
pieces_stay y x h is good in_x keeps behind =
    let there : Stays x y h = stays x y h is in_x keeps in
    let sizes : Sizes = there.sizes in
    let at : ℕ = there.sound.at in
    let f : Front = rf64_front y sizes.next in
    let p : Parameters = there.params in
    let shape : Shape = rf64_shape y sizes f p at in
    let in_x_too : at ≤ length x = rw there.old at in_x in
    let keeps_too : KeepsHead shape y x = rw there.old at keeps in
    let front = pieces_of false f.chunks in
    let back = pieces_of true (rf64_tail y sizes f at) in
    let before : All (SameBody x y) front = pieces_kept x y false f.chunks (before_stay x y sizes there.sound (reached y sizes.next there.sound there.ends) there.behind in_x_too
    (λ i lt place. keeps_too i lt (no_field y sizes f p at i place))) in
    let few : end h h.frames ≤ data_end (length y) at sizes.sound = frames_end x y h there good in
    let most = 255 - length f.chunks in
    let after : All (SameBody x y) back = elim (cases_Bool (nat_lt (data_end (length y) at sizes.sound) (outer_end (length y) sizes.whole))) [
      | inl goes_on ↦
          let trails : h.trailing ≡ true = rw there.old goes_on in
          let rest = behind trails in
          pieces_kept x y true (rf64_tail y sizes f at) (bodies_behind Little x y (λ chunk. not (is_own chunk)) (outer_end (length y) sizes.whole) most (data_end (length y) at sizes.sound) (omega arith) rest.0
          (λ i le. rest.1 i (omega (arith, le, few))))
      | inr ends_there ↦
          let none : rf64_tail y sizes f at ≡ [] = no_tail Little y (outer_end (length y) sizes.whole) most (data_end (length y) at sizes.sound) (ltb-false (data_end (length y) at sizes.sound) (outer_end (length y) sizes.whole) ends_there) in
          subst (λ (l : List Chunk). All (SameBody x y) (pieces_of true l)) (sym none) (All-nil (SameBody x y))
    ] in
    subst (λ (s : Shape). All (SameBody x y) s.pieces) (sym there.old) (All-append (SameBody x y) front back before after)
