-- The head that is made with chunks of bytes is of bytes.
use Rattle.std.proofs.Common.{refl, ℕ, ◌-◌, List, ◌++◌, All}
use Rattle.std.proofs.lemmas.List.Elements.{All-cons}
use Rattle.std.specs.Prelude.{codes}
use Rattle.snd_chunks.proofs.Public.{all_chunks, both, number_bytes, three}
use Rattle.snd_chunks.specs.HeadLaws.{IsOfBytes}
use Rattle.snd_chunks.specs.Written.{NewChunk, chunks_bytes, head_bytes}
use Rattle.snd_fields.specs.Field.{bytes_of}
use Rattle.snd_fields.specs.Laws.{IsByte}
use Rattle.snd_fields.specs.declared.field.Order.TheVariants.{Little}
use Rattle.snd_layout.specs.Params.{Parameters}
use Rattle.snd_rf64.specs.Written as rf64
use Rattle.snd_fields.proofs.Tested.{from_test}
use Rattle.snd_wave.proofs.Public.{format_is}
use Rattle.snd_wave.specs.Written.{new_format}

top_is : (size : ℕ) → All IsByte (rf64.top size)
unfolding rf64.top
top_is size =
    let form = codes "RF64" ++ bytes_of Little 4 rf64.no_size ++ codes "WAVE" in
    let first = form ++ codes "ds64" ++ bytes_of Little 4 28 in
    let zeros = bytes_of Little 8 0 in
    both (first ++ bytes_of Little 8 size ++ zeros ++ zeros) (bytes_of Little 4 0)
    (three (first ++ bytes_of Little 8 size) zeros zeros
    (both first (bytes_of Little 8 size)
    (three form (codes "ds64") (bytes_of Little 4 28) (three (codes "RF64") (bytes_of Little 4 rf64.no_size) (codes "WAVE") (from_test (codes "RF64") refl) (number_bytes Little 4 rf64.no_size) (from_test (codes "WAVE") refl))
    (from_test (codes "ds64") refl) (number_bytes Little 4 28))
    (number_bytes Little 8 size))
    (number_bytes Little 8 0) (number_bytes Little 8 0))
    (number_bytes Little 4 0)

pub rf64_is : (p : Parameters) (pieces : List NewChunk) → All IsOfBytes pieces → All IsByte (rf64.rf64_head p pieces)
unfolding rf64.rf64_head head_bytes
rf64_is p pieces are =
    three (rf64.top (rf64.head_size p pieces - 8)) (chunks_bytes Little (rf64.chunks_before p pieces)) (codes "data" ++ bytes_of Little 4 rf64.no_size)
    (top_is (rf64.head_size p pieces - 8)) (all_chunks Little (rf64.chunks_before p pieces) (All-cons IsOfBytes (new_format p) pieces (format_is p) are))
    (both (codes "data") (bytes_of Little 4 rf64.no_size) (from_test (codes "data") refl) (number_bytes Little 4 rf64.no_size))
