-- The law of heads.
use Rattle.std.specs.Prelude.{◌≡◌, ℕ, List, ◌++◌, Ok, length, true}
use Rattle.snd_layout.specs.Params.{AreParams, Parameters}
use Rattle.snd_pvf.specs.Pvf.{is_pvf_codec, pvf_head, pvf_text}

-- a head that is written reads back, whatever data stand behind it
abbrev pub HeadsReadBack : Type 0
HeadsReadBack = (p : Parameters) (data_bytes : List ℕ) → AreParams p → is_pvf_codec p.codec ≡ true →
    pvf_head (pvf_text p ++ data_bytes) ≡ Ok (record { params = p; start = length (pvf_text p) })
