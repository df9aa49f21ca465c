-- A WAVE file as the layers above see it, after "Multimedia Programming Interface and Data Specifications 1.0" (IBM and
-- Microsoft, 1991), chapters 2 and 3. Its data are closed by a pad byte behind an odd number of bytes; chunks are read behind
-- them up to the RIFF size.
use Rattle.std.specs.Prelude.{[]}
use Rattle.snd_chunks.specs.Chunks.{padded_end}
use Rattle.snd_layout.specs.Container.{Container}
use Rattle.snd_wave.specs.Layout.{outer_end, wave_layout}
use Rattle.snd_wave.specs.Values.{closing, inner_value, outer_value, side_value}
use Rattle.snd_wave.specs.Written.{made_shape, wave_head}

abbrev pub wave : Container
wave = record {
  layout = wave_layout;
  inner = inner_value;
  outer = outer_value;
  side = side_value;
  closing = closing;
  declared_end = λ h. padded_end h.start h.declared;
  reach = λ kind x. outer_end x;
  head = λ p. wave_head p [];
  made = λ p. made_shape p [] 0;
}
