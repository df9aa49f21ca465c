-- What a file that is made says of itself.
use Rattle.std.proofs.Common.{◌≡◌, ◌∙◌, ap, sym, subst, refl, ℕ, ◌^◌, ◌<◌, ◌≤◌, Bool, true, false, ◌&&◌, List, [], ◌∷◌, ◌++◌, All, None, Ok, length, arith}
use Rattle.std.proofs.lemmas.Bool.{and_parts, leb-true, ltb-true, ne_eqb}
use Rattle.std.proofs.lemmas.List.Elements.{All-append, All-cons, All-nil}
use Rattle.std.specs.Prelude.{◌==◌, Result, codes, nat_le, nat_lt, not}
use Rattle.snd_chunks.specs.HeadLaws.{IsOfBytes}
use Rattle.snd_chunks.specs.Written.{all_placed, chunk_bytes, chunks_bytes, head_bytes, placed}
use Rattle.snd_chunks.specs.declared.chunk.Chunk.{Chunk}
use Rattle.snd_chunks.specs.declared.front.Ending.TheVariants.{AtSound}
use Rattle.snd_chunks.specs.declared.front.Front.{Front}
use Rattle.snd_chunks.specs.Chunks.{front, tail}
use Rattle.snd_fields.proofs.Numbers.{bytes_are_bytes, number_of_bytes}
use Rattle.snd_fields.specs.Field.{bytes_of, number}
use Rattle.snd_fields.specs.Laws.{IsByte}
use Rattle.snd_fields.specs.declared.field.Order.TheVariants.{Big}
use Rattle.snd_layout.specs.Container.{IsNew}
use Rattle.snd_layout.specs.Fit.{fit_refusal, is_kinds_rate, is_pair, is_svx_codec}
use Rattle.snd_layout.specs.Params.{AreParams, Parameters}
use Rattle.snd_layout.specs.Refusals.{first_refusal, refuse_if, unless}
use Rattle.snd_layout.specs.declared.codec.Codec.{Codec}
use Rattle.snd_layout.specs.declared.codec.Codec.TheVariants.{U8, S8, S16, S24, S32, MuLaw, ALaw, Ima, Ms}
use Rattle.snd_layout.specs.declared.kind.Kind.TheVariants.{Svx}
use Rattle.snd_layout.specs.declared.refusal.OpenRefusal.{OpenRefusal}
use Rattle.snd_layout.specs.declared.refusal.OpenRefusal.TheVariants.{BadChannels, BadPair, BadRate, PackedBody}
use Rattle.snd_svx.specs.Container.{svx}
use Rattle.snd_svx.specs.declared.header.Header.{Header}
use Rattle.snd_svx.specs.Layout.{header_of, is_packed, svx_front, svx_layout, svx_shape, voice, voice_of}
use Rattle.snd_svx.specs.Written.{head_for, made_shape, svx_head}
use Rattle.snd_svx.proofs.Agreements.{voice_by}
use Rattle.snd_svx.proofs.HeadsOfBytes.{svx_is}
use Rattle.snd_svx.proofs.Opens.{opened}

-- ---- what 8SVX files hold

is_signed : (codec : Codec) → is_svx_codec codec ≡ true → codec ≡ S8
is_signed S8 is = refl
is_signed U8 is = absurd (cc)
is_signed (S16 order) is = absurd (cc)
is_signed (S24 order) is = absurd (cc)
is_signed (S32 order) is = absurd (cc)
is_signed MuLaw is = absurd (cc)
is_signed ALaw is = absurd (cc)
is_signed (Ima align per_block) is = absurd (cc)
is_signed (Ms align per_block) is = absurd (cc)

both_fit : (rate pair : Bool) → first_refusal (refuse_if (not rate) BadRate ∷ refuse_if (not pair) BadPair ∷ []) ≡ None → (rate ≡ true) × (pair ≡ true)
both_fit true true is = (refl, refl)
both_fit true false is = absurd (cc)
both_fit false pair is = absurd (cc)

parts_are : (p : Parameters) (c : ℕ) (codec : Codec) → p.channels ≡ c → p.codec ≡ codec → p ≡ record { channels = c; rate = p.rate; codec = codec }
parts_are p c codec one two = rw (← one, ← two) refl

pub is_voice : (p : Parameters) → AreParams p → fit_refusal Svx p ≡ None → (p ≡ voice p.rate) × (p.rate < 2 ^ 16)
is_voice p good fits =
    let both = both_fit (is_kinds_rate Svx p.rate) (is_pair Svx p.channels p.codec) fits in
    let pair = and_parts (nat_le p.channels 1) (is_svx_codec p.codec) both.1 in
    let one : p.channels ≡ 1 = omega (arith, leb-true p.channels 1 pair.0, good.some_channel) in
    (parts_are p 1 S8 one (is_signed p.codec pair.1), ltb-true p.rate (2 ^ 16) both.0)

-- ---- the head of a file without pieces and frames

-- its voice header, and its body
abbrev first : Chunk
first = placed (codes "VHDR") 12 20

abbrev body : Chunk
body = placed (codes "BODY") 40 0

abbrev pub new_voice : ℕ → Header
new_voice rate = record { rate = rate; octaves = 1; compression = 0 }

pub walk_is : (rate : ℕ) → svx_front (svx_head (voice rate) []) ≡ record { chunks = first ∷ []; ending = AtSound body }
unfolding svx_front front head_for chunks_bytes chunk_bytes head_bytes
walk_is rate = refl

rate_read : (rate : ℕ) → rate < 2 ^ 16 → header_of (svx_head (voice rate) []) first ≡ new_voice rate
unfolding head_for chunks_bytes chunk_bytes head_bytes
rate_read rate few =
    let read : number Big (bytes_of Big 2 rate) 0 2 ≡ rate = number_of_bytes Big 2 rate few in
    ap new_voice read

abbrev by_test : Bool → ℕ → Result Header OpenRefusal
by_test none rate = unless (first_refusal (refuse_if false BadChannels ∷ refuse_if none BadRate ∷ refuse_if (is_packed (new_voice rate)) PackedBody ∷ [])) (new_voice rate)

pub good_voice : (rate : ℕ) → 1 ≤ rate → voice_by false (new_voice rate) ≡ Ok (new_voice rate)
good_voice rate some =
    let other : (rate == 0) ≡ false = ne_eqb rate 0 (λ none. omega (arith, none, some)) in
    ap (λ (t : Bool). by_test t rate) other

voice_read : (rate : ℕ) → 1 ≤ rate → rate < 2 ^ 16 → voice_of (svx_head (voice rate) []) (first ∷ []) first ≡ Ok (new_voice rate)
voice_read rate some few = ap (voice_by false) (rate_read rate few) ∙ good_voice rate some

shape_is : (rate : ℕ) → made_shape (voice rate) [] 0 ≡ svx_shape (svx_head (voice rate) []) (record { chunks = first ∷ []; ending = AtSound body }) (new_voice rate) first body
unfolding made_shape head_for chunks_bytes chunk_bytes head_bytes all_placed tail
shape_is rate = refl

told : (rate : ℕ) → 1 ≤ rate → rate < 2 ^ 16 → svx_layout (svx_head (voice rate) []) ≡ Ok (made_shape (voice rate) [] 0)
told rate some few =
    let walk = walk_is rate in
    opened (svx_head (voice rate) []) (made_shape (voice rate) [] 0) (record {
      chunk = first;
      sound = body;
      header = new_voice rate;
      no_refusal = rw walk refl;
      chunk_is = rw walk refl;
      sound_is = rw walk refl;
      header_is = ap (λ (f : Front). voice_of (svx_head (voice rate) []) f.chunks first) walk ∙ voice_read rate some few;
      shape = shape_is rate ∙ ap (λ (f : Front). svx_shape (svx_head (voice rate) []) f (new_voice rate) first body) (sym walk);
    })

pub size_is : (rate : ℕ) → length (svx_head (voice rate) []) ≡ 48
unfolding head_for chunks_bytes chunk_bytes head_bytes
size_is rate = refl

-- the bytes before the rate, and those behind it
abbrev before_rate : List ℕ
before_rate = codes "FORM" ++ 0 ∷ 0 ∷ 0 ∷ 40 ∷ [] ++ codes "8SVXVHDR" ++ 0 ∷ 0 ∷ 0 ∷ 20 ∷ 0 ∷ 0 ∷ 0 ∷ 0 ∷ 0 ∷ 0 ∷ 0 ∷ 0 ∷ 0 ∷ 0 ∷ 0 ∷ 0 ∷ []

abbrev behind_rate : List ℕ
behind_rate = 1 ∷ 0 ∷ 0 ∷ 1 ∷ 0 ∷ 0 ∷ [] ++ codes "BODY" ++ 0 ∷ 0 ∷ 0 ∷ 0 ∷ []

pub head_is : (rate : ℕ) → svx_head (voice rate) [] ≡ before_rate ++ (bytes_of Big 2 rate ++ behind_rate)
unfolding head_for chunks_bytes chunk_bytes head_bytes
head_is rate = refl

-- ---- all of it

new_voice_file : (rate : ℕ) → 1 ≤ rate → rate < 2 ^ 16 → IsNew Svx svx (voice rate)
unfolding made_shape chunks_bytes chunk_bytes head_bytes all_placed
new_voice_file rate some few = record {
  told = told rate some few;
  bytes = svx_is (voice rate) [] (All-nil IsOfBytes);
  is_kind = refl;
  params = refl;
  frames = refl;
  start = sym (size_is rate);
  known = refl;
  free = refl;
  pieces = refl;
}

pub is_new : (p : Parameters) → AreParams p → fit_refusal Svx p ≡ None → IsNew Svx svx p
is_new p good fits =
    let is = is_voice p good fits in
    subst (IsNew Svx svx) (sym is.0) (new_voice_file p.rate good.some_rate is.1)
