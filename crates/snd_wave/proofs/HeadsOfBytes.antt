-- The head that is made with chunks of bytes is of bytes.
use Rattle.std.proofs.Common.{refl, ◌-◌, Bool, true, false, cond, List, [], ◌∷◌, ◌++◌, All, arith}
use Rattle.std.proofs.lemmas.List.Elements.{All-append, All-cons, All-nil, All-replicate}
use Rattle.std.specs.Prelude.{codes}
use Rattle.snd_chunks.proofs.Public.{all_chunks, both, number_bytes, three}
use Rattle.snd_chunks.specs.HeadLaws.{IsOfBytes}
use Rattle.snd_chunks.specs.Written.{NewChunk, chunks_bytes, head_bytes}
use Rattle.snd_fields.specs.Field.{bytes_of}
use Rattle.snd_fields.specs.Laws.{IsByte}
use Rattle.snd_fields.specs.declared.field.Order.TheVariants.{Little}
use Rattle.snd_layout.proofs.StatedFormats.{format_bytes}
use Rattle.snd_layout.specs.Params.{Parameters, data_bytes}
use Rattle.snd_layout.specs.Sector.{is_in_one_sector}
use Rattle.snd_fields.proofs.Tested.{from_test}
use Rattle.snd_wave.specs.Values.{riff_size}
use Rattle.snd_wave.specs.Written.{chunks_before, filler, has_fact, head_size, inner_size, junk, new_fact, new_format, reserved_chunks, reserved_head, riff_head, start_without_filler, wave_head}

pub format_is : (p : Parameters) → IsOfBytes (new_format p)
format_is p = (from_test (codes "fmt ") refl, format_bytes p)

filler_is : (t : Bool) → All IsOfBytes (cond t [] (junk ∷ []))
filler_is true = All-nil IsOfBytes
filler_is false = All-cons IsOfBytes junk [] (from_test (codes "JUNK") refl, All-replicate IsByte 8 0 (omega arith)) (All-nil IsOfBytes)

abbrev fact : NewChunk
fact = record { id = codes "fact"; body = bytes_of Little 4 0 }

fact_is : (t : Bool) → All IsOfBytes (cond t (fact ∷ []) [])
fact_is true = All-cons IsOfBytes fact [] (from_test (codes "fact") refl, number_bytes Little 4 0) (All-nil IsOfBytes)
fact_is false = All-nil IsOfBytes

before_is : (p : Parameters) (pieces : List NewChunk) → All IsOfBytes pieces → All IsOfBytes (chunks_before p pieces 0)
unfolding reserved_chunks
before_is p pieces are =
    All-cons IsOfBytes (new_format p) (pieces ++ (filler p pieces ++ new_fact p.codec 0)) (format_is p)
    (All-append IsOfBytes pieces (filler p pieces ++ new_fact p.codec 0) are
    (All-append IsOfBytes (filler p pieces) (new_fact p.codec 0) (filler_is (is_in_one_sector (start_without_filler p pieces - inner_size p.codec) (inner_size p.codec))) (fact_is (has_fact p.codec))))

pub wave_is : (p : Parameters) (pieces : List NewChunk) → All IsOfBytes pieces → All IsByte (wave_head p pieces)
unfolding reserved_head riff_head head_bytes
wave_is p pieces are =
    let size = bytes_of Little 4 (riff_size (head_size p pieces) (data_bytes p 0)) in
    let bytes = bytes_of Little 4 (data_bytes p 0) in
    three (codes "RIFF" ++ size ++ codes "WAVE") (chunks_bytes Little (chunks_before p pieces 0)) (codes "data" ++ bytes)
    (three (codes "RIFF") size (codes "WAVE") (from_test (codes "RIFF") refl) (number_bytes Little 4 (riff_size (head_size p pieces) (data_bytes p 0))) (from_test (codes "WAVE") refl))
    (all_chunks Little (chunks_before p pieces 0) (before_is p pieces are))
    (both (codes "data") bytes (from_test (codes "data") refl) (number_bytes Little 4 (data_bytes p 0)))
