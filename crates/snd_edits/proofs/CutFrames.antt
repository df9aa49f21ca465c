-- The frames of an open file once it is cut.
use Rattle.std.proofs.Common.{◌≡◌, ◌∙◌, ap, sym, refl, inl, ℕ, ◌+◌, ◌*◌, ◌/◌, ◌^◌, ◌<◌, ◌≤◌, false, List, Option, None, Some, length, take, drop, min, arith}
use Rattle.std.specs.Prelude.{is_none}
use Rattle.std.proofs.Math.Nat.{mul-div_cancel_left}
use Rattle.std.proofs.lemmas.List.{length-drop, length-take-le}
use Rattle.snd_layout.specs.Params.{data_bytes}
use Rattle.snd_layout.specs.Shape.{KeepsRule, Shape, end, room}
use Rattle.snd_blocks.specs.Sound.{decode, frames_in}
use Rattle.snd_container.specs.Sound.{decoded, decoded_as, fixed_of, sound_bytes}
use Rattle.snd_layout.specs.Container.{HasRoomFor}
use Rattle.snd_disk.specs.Bytes.{over}
use Rattle.snd_container.proofs.Public.{byte_count_pos, free, length-samples}
use Rattle.snd_container.specs.Values.{closed_end, closing}
use Rattle.snd_patch.specs.Sealed.{SameBesideFields, counted, over_closing, shrunk}
use Rattle.snd_patch.proofs.Public.{closing_same, shrunk_keeps, take_before}
use Rattle.snd_edits.specs.Edits.{cut_off}
use Rattle.snd_pcm.specs.Groups.{first_groups}
use Rattle.snd_container.specs.Fixed.{byte_count, samples}
use Rattle.snd_container.specs.declared.fixed.Fixed.{Fixed}
use Rattle.snd_edits.specs.Known.{Known}
use Rattle.snd_edits.specs.WriteCalls.{known_cut, known_sealed}
use Rattle.snd_edits.proofs.FixedFrames.{frames_fixed}
use Rattle.snd_edits.proofs.Overwritten.{data_stay}
use Rattle.snd_edits.proofs.Rooms.{may_count, not_adpcm}
use Rattle.snd_edits.proofs.Sealing.{ends_before}
use Rattle.snd_edits.proofs.SoundFrames.{frames_told, linear_bytes}

-- the first frames of a sound
pub front_decoded : (b : List ℕ) (h : Shape) (form : Fixed) (n : ℕ) → fixed_of h.params.codec ≡ Some form → 1 ≤ h.params.channels → n ≤ h.frames → end h h.frames ≤ length b → end h n ≤ length b
    → decoded h.params (take (data_bytes h.params n) (drop h.start b)) ≡ take n (decoded h.params (sound_bytes b h))
front_decoded b h form n is some within fits fits' =
    let w = byte_count form in
    let c = h.params.channels in
    let piece = take (data_bytes h.params n) (drop h.start b) in
    let size : length piece ≡ w * (c * n) = length-take-le (data_bytes h.params n) (drop h.start b) (omega (arith, fits', length-drop h.start b)) ∙ linear_bytes h.params form n is in
    let count : length (samples form piece) ≡ c * n = length-samples form piece ∙ ap (λ (m : ℕ). m / w) size ∙ mul-div_cancel_left (c * n) (byte_count_pos form) in
    let whole : length (samples form piece) / c ≡ n = ap (λ (m : ℕ). m / c) count ∙ mul-div_cancel_left n (let e : 0 < c = omega (arith, some) in e) in
    let begins : h.start ≡ h.start + w * (c * 0) = omega arith in
    ap (λ (o : Option Fixed). decoded_as o c piece) is
    ∙ ap (λ (m : ℕ). first_groups c m (samples form piece)) whole
    ∙ ap (λ (m : ℕ). first_groups c n (samples form (take m (drop h.start b)))) (linear_bytes h.params form n is)
    ∙ ap (λ (m : ℕ). first_groups c n (samples form (take (w * (c * n)) (drop m b)))) begins
    ∙ frames_told b h form 0 n is some (omega (arith, within)) fits

cut_decoded_as : (b : List ℕ) (h : Shape) (n : ℕ) (o : Option Fixed) → fixed_of h.params.codec ≡ o → is_none o ≡ false → KeepsRule h → 1 ≤ h.params.channels → n ≤ h.frames
    → end h h.frames ≤ length b → end h n ≤ length b → end h n ≤ length (shrunk b h n)
    → take n (decoded h.params (sound_bytes b h)) ≡ decoded h.params (sound_bytes (shrunk b h n) (counted h n))
cut_decoded_as b h n None is linear rule some within fits fits' long = absurd (cc)
cut_decoded_as b h n (Some form) is linear rule some within fits fits' long =
    sym (front_decoded b h form n is some within fits fits') ∙ sym (ap (decoded h.params) (data_stay h n b (shrunk b h n) rule fits' long (shrunk_keeps b h n rule)))

pub cut_decoded : (b : List ℕ) (h : Shape) (n : ℕ) → is_none (fixed_of h.params.codec) ≡ false → KeepsRule h → 1 ≤ h.params.channels → n ≤ h.frames
    → end h h.frames ≤ length b → end h n ≤ length (shrunk b h n)
    → take n (frames_in b h) ≡ frames_in (shrunk b h n) (counted h n)
cut_decoded b h n linear rule some within fits long =
    ap (take n) (frames_fixed b h linear)
    ∙ cut_decoded_as b h n (fixed_of h.params.codec) refl linear rule some within fits (omega (arith, fits, ends_before h n h.frames linear within)) long
    ∙ sym (frames_fixed (shrunk b h n) (counted h n) linear)

-- fewer frames than there are have room
pub may_count_fewer : (h : Shape) (n : ℕ) → KeepsRule h → is_none (fixed_of h.params.codec) ≡ false → h.unknown_length ≡ false → h.start + room h + 8 ≤ 2 ^ 63 → n ≤ h.frames → HasRoomFor h n × (end h n + 8 ≤ 2 ^ 63)
may_count_fewer h n rule linear known roomy within =
    let all = may_count h h.frames rule linear known roomy (inl refl) in
    let before : end h n ≤ end h h.frames = ends_before h n h.frames linear within in
    (record { in_room = omega (arith, before, all.0.in_room); on_disk = omega (arith, before, all.0.on_disk); counted = λ wave blocks. absurd (let no = not_adpcm h.params.codec linear in cc) }, omega (arith, before, all.1))

-- to cut to as many frames as there are moves no place
pub cut_to_all : (k : Known) (to : ℕ) → to ≡ k.shape.frames → k.place ≤ k.shape.frames → k.write_place ≤ k.shape.frames → known_sealed k ≡ known_cut to k
cut_to_all k to is placed placed' =
    let made = λ (n : ℕ) (p : ℕ) (q : ℕ). record k { shape = counted k.shape n; place = p; write_place = q } in
    ap (λ (n : ℕ). made n k.place k.write_place) (sym is)
    ∙ ap (λ (p : ℕ). made to p k.write_place) (let e : k.place ≡ min k.place to = omega (arith, is, placed) in e)
    ∙ ap (λ (q : ℕ). made to (min k.place to) q) (let e : k.write_place ≡ min k.write_place to = omega (arith, is, placed') in e)

-- all cut off behind what closes the data
pub off_same : (b : List ℕ) (h : Shape) (n : ℕ) → SameBesideFields h n b (cut_off b h n)
off_same b h n = λ i lt out. take_before (over_closing b h n) (closed_end h n) i (omega (arith, lt)) ∙ closing_same b h n i lt out

pub off_decoded : (b : List ℕ) (h : Shape) → KeepsRule h → end h h.frames ≤ length b → end h h.frames ≤ length (cut_off b h h.frames)
    → frames_in b h ≡ frames_in (cut_off b h h.frames) h
off_decoded b h rule fits long = sym (ap (decode h.params h.frames) (data_stay h h.frames b (cut_off b h h.frames) rule fits long (off_same b h h.frames)))

pub closed_free : (h : Shape) (n : ℕ) → closed_end (record h { trailing = false }) n ≡ closed_end h n
closed_free h n = ap (λ (l : List ℕ). end h n + length l) (free h h.frames h.declared false n).closing

-- what is cut off a sealed file, by what it then says
pub off_counted : (b : List ℕ) (h : Shape) (n : ℕ) → cut_off b (counted h n) n ≡ cut_off b h n
off_counted b h n =
    let same : closing (counted h n) n ≡ closing h n = (free h n (counted h n).declared h.trailing n).closing in
    ap (λ (l : List ℕ). take (end h n + length l) (over b (end h n) l)) same
