-- The blocks of a file that is opened have the form of their codec.
use Rattle.std.proofs.Common.{◌≡◌, true, None}
use Rattle.snd_block_writer.proofs.Public.{are_blocks}
use Rattle.snd_blocks.specs.Calls.{AreBlocks}
use Rattle.snd_layout.proofs.Public.{few_channels, is_held}
use Rattle.snd_layout.specs.Blocks.{is_adpcm}
use Rattle.snd_layout.specs.Fit.{fit_refusal}
use Rattle.snd_layout.specs.Params.{AreParams, Parameters}
use Rattle.snd_layout.specs.declared.kind.Kind.{Kind}

pub keeps_blocks : (kind : Kind) (p : Parameters) → is_adpcm p.codec ≡ true → fit_refusal kind p ≡ None → AreParams p → AreBlocks p
keeps_blocks kind p is fits good = are_blocks p is (few_channels kind p.channels p.codec is (is_held kind p fits)) good
