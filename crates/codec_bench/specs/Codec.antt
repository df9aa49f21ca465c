-- How many bytes a codec turns at a time.
use Rattle.std.specs.Prelude.{ℕ}
use Rattle.codec_bench.specs.declared.codec.Codec.{Codec}
use Rattle.codec_bench.specs.declared.codec.Codec.TheVariants.{MulawDecode, MulawEncode, AlawDecode, AlawEncode, ImaDecode, ImaEncode, MsDecode, MsEncode}

abbrev pub block_size : Codec → ℕ
block_size MulawDecode = 16384
block_size AlawDecode = 16384
block_size MulawEncode = 32768
block_size AlawEncode = 32768
block_size ImaDecode = 1024
block_size MsDecode = 1024
block_size (ImaEncode w) = 4082
block_size (MsEncode w) = 4072
