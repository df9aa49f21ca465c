-- Which kind of file the first bytes say. The marks are those of RIFF and IFF forms, RF64 (EBU Tech 3306), Sony's Wave64,
-- Sun's AU, Creative Voice files and NIST's SPHERE.
use Rattle.std.specs.Prelude.{ℕ, ◌==◌, Bool, ◌&&◌, ◌||◌, List, [], ◌∷◌, ◌++◌, Result, Ok, Err, drop, codes, if◌then◌else◌}
use Rattle.std.specs.List.{starts_with}
use Rattle.snd_layout.specs.declared.kind.Kind.{Kind}
use Rattle.snd_layout.specs.declared.kind.Kind.TheVariants.{Wave, Rf64, W64, Au, Dns, Voc, Svx, Sphere}
use Rattle.snd_layout.specs.declared.refusal.OpenRefusal.{OpenRefusal}
use Rattle.snd_layout.specs.declared.refusal.OpenRefusal.TheVariants.{NotSound, FloatRate}

-- whether these bytes stand at a place
abbrev pub has_mark : List ℕ → ℕ → List ℕ → Bool
has_mark head at mark = starts_with (λ x y. x == y) (drop at head) mark

-- a form of chunks, by its first identifier and the one at 8
abbrev pub is_form : List ℕ → List ℕ → List ℕ → Bool
is_form head first form = has_mark head 0 first && has_mark head 8 form

-- Wave64's GUIDs for `riff` and `wave`
abbrev pub riff_guid : List ℕ
riff_guid = codes "riff" ++ 0x2e ∷ 0x91 ∷ 0xcf ∷ 0x11 ∷ 0xa5 ∷ 0xd6 ∷ 0x28 ∷ 0xdb ∷ 0x04 ∷ 0xc1 ∷ 0x00 ∷ 0x00 ∷ []

abbrev pub wave_guid : List ℕ
wave_guid = codes "wave" ++ 0xf3 ∷ 0xac ∷ 0xd3 ∷ 0x11 ∷ 0x8c ∷ 0xd1 ∷ 0x00 ∷ 0xc0 ∷ 0x4f ∷ 0x8e ∷ 0xdb ∷ 0x8a ∷ []

-- AIFF and CAF hold the rate as a floating-point number
abbrev pub holds_float_rate : List ℕ → Bool
holds_float_rate head = is_form head (codes "FORM") (codes "AIFF") || is_form head (codes "FORM") (codes "AIFC") || has_mark head 0 (codes "caff")

-- the kind, by the first 40 bytes or all there are
unfoldable pub recognised : List ℕ → Result Kind OpenRefusal
recognised head =
    if is_form head (codes "RIFF") (codes "WAVE") then Ok Wave
    else (if is_form head (codes "RF64") (codes "WAVE") then Ok Rf64
    else (if has_mark head 0 riff_guid && has_mark head 24 wave_guid then Ok W64
    else (if has_mark head 0 (codes ".snd") then Ok Au
    else (if has_mark head 0 (codes "dns.") then Ok Dns
    else (if has_mark head 0 (codes "Creative Voice File" ++ 0x1a ∷ []) then Ok Voc
    else (if is_form head (codes "FORM") (codes "8SVX") then Ok Svx
    else (if has_mark head 0 (codes "NIST_1A\n") then Ok Sphere
    else (if holds_float_rate head then Err FloatRate
    else Err NotSound))))))))
