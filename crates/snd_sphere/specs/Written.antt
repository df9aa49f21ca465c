-- A SPHERE file as it is made, after "SPeech HEader REsources (SPHERE) 2.6" (National Institute of Standards and Technology,
-- 1995), header structure. The order of the lines, and the ten digits of the count, are this library's own rules.
use Rattle.std.specs.Prelude.{ℕ, ◌+◌, ◌-◌, List, ◌++◌, None, codes, decimal, length, replicate}
use Rattle.snd_fields.specs.declared.field.Order.TheVariants.{Little, Big}
use Rattle.snd_layout.specs.Made.{made}
use Rattle.snd_layout.specs.Params.{Parameters}
use Rattle.snd_layout.specs.Shape.{Shape}
use Rattle.snd_layout.specs.declared.codec.Codec.{Codec}
use Rattle.snd_layout.specs.declared.codec.Codec.TheVariants.{S16, ALaw}
use Rattle.snd_layout.specs.declared.kind.Kind.TheVariants.{Sphere}

-- the lines that say how samples are coded, with the line feed before them
abbrev pub coding_lines : Codec → List ℕ
coding_lines (S16 Little) = codes "\nsample_n_bytes -i 2\nsample_byte_format -s2 01\nsample_sig_bits -i 16\nsample_coding -s3 pcm\nend_head\n"
coding_lines (S16 Big) = codes "\nsample_n_bytes -i 2\nsample_byte_format -s2 10\nsample_sig_bits -i 16\nsample_coding -s3 pcm\nend_head\n"
coding_lines ALaw = codes "\nsample_n_bytes -i 1\nsample_byte_format -s1 1\nsample_sig_bits -i 8\nsample_coding -s4 alaw\nend_head\n"
coding_lines codec = codes "\nsample_n_bytes -i 1\nsample_byte_format -s1 1\nsample_sig_bits -i 8\nsample_coding -s4 ulaw\nend_head\n"

abbrev pub head_lines : Parameters → List ℕ
head_lines p = codes "NIST_1A\n   1024\nchannel_count -i " ++ decimal p.channels ++ codes "\nsample_count -i 0000000000\nsample_rate -i " ++ decimal p.rate ++ coding_lines p.codec

-- the head, which spaces fill up
unfoldable pub sphere_head : Parameters → List ℕ
sphere_head p = head_lines p ++ replicate (1024 - length (head_lines p)) 32

-- what it says
unfoldable pub made_shape : Parameters → Shape
made_shape p = made Sphere p 1024 (record { at = 50 + length (decimal p.channels); size = 10 }) None None
