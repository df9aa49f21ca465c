-- The head that is made with chunks of bytes is of bytes.
use Rattle.std.proofs.Common.{refl, ℕ, ◌-◌, Bool, true, false, cond, List, [], ◌∷◌, ◌++◌, All, arith}
use Rattle.std.proofs.lemmas.List.Elements.{All-append, All-cons, All-nil, All-replicate}
use Rattle.std.specs.Prelude.{codes, replicate}
use Rattle.snd_chunks.proofs.Public.{all_chunks, both, number_bytes, three}
use Rattle.snd_chunks.specs.HeadLaws.{IsOfBytes}
use Rattle.snd_chunks.specs.Written.{NewChunk, chunks_bytes, head_bytes}
use Rattle.snd_fields.proofs.Tested.{from_test}
use Rattle.snd_fields.specs.Field.{bytes_of}
use Rattle.snd_fields.specs.Laws.{IsByte}
use Rattle.snd_fields.specs.declared.field.Order.TheVariants.{Big}
use Rattle.snd_layout.specs.Params.{Parameters, data_bytes}
use Rattle.snd_layout.specs.Sector.{is_in_one_sector}
use Rattle.snd_svx.specs.Values.{form_size}
use Rattle.snd_svx.specs.Written.{chunks_before, filler, form_head, head_for, head_size, junk, new_header, start_without_filler, svx_head}

header_is : (rate : ℕ) → IsOfBytes (new_header rate 0)
header_is rate =
    let last = 1 ∷ 0 ∷ 0 ∷ 1 ∷ 0 ∷ 0 ∷ [] in
    let front = bytes_of Big 4 0 ++ replicate 8 0 in
    (from_test (codes "VHDR") refl, three front (bytes_of Big 2 rate) last (both (bytes_of Big 4 0) (replicate 8 0) (number_bytes Big 4 0) (All-replicate IsByte 8 0 (omega arith))) (number_bytes Big 2 rate) (from_test last refl))

filler_is : (t : Bool) → All IsOfBytes (cond t [] (junk ∷ []))
filler_is true = All-nil IsOfBytes
filler_is false = All-cons IsOfBytes junk [] (from_test (codes "JUNK") refl, All-replicate IsByte 8 0 (omega arith)) (All-nil IsOfBytes)

before_is : (p : Parameters) (pieces : List NewChunk) → All IsOfBytes pieces → All IsOfBytes (chunks_before p pieces 0)
before_is p pieces are =
    All-cons IsOfBytes (new_header p.rate 0) (pieces ++ filler p pieces) (header_is p.rate)
    (All-append IsOfBytes pieces (filler p pieces) are (filler_is (is_in_one_sector (start_without_filler p pieces - 4) 4)))

pub svx_is : (p : Parameters) (pieces : List NewChunk) → All IsOfBytes pieces → All IsByte (svx_head p pieces)
unfolding head_for head_bytes
svx_is p pieces are =
    let size = bytes_of Big 4 (form_size (head_size p pieces) (data_bytes p 0)) in
    let bytes = bytes_of Big 4 (data_bytes p 0) in
    three (form_head (form_size (head_size p pieces) (data_bytes p 0))) (chunks_bytes Big (chunks_before p pieces 0)) (codes "BODY" ++ bytes)
    (three (codes "FORM") size (codes "8SVX") (from_test (codes "FORM") refl) (number_bytes Big 4 (form_size (head_size p pieces) (data_bytes p 0))) (from_test (codes "8SVX") refl))
    (all_chunks Big (chunks_before p pieces 0) (before_is p pieces are))
    (both (codes "BODY") bytes (from_test (codes "BODY") refl) (number_bytes Big 4 (data_bytes p 0)))
