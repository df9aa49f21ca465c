-- What the head of a file that is to be made has room for.
use Rattle.std.proofs.Common.{◌≡◌, ◌∙◌, ap, sym, inl, inr, ℕ, ◌+◌, ◌-◌, ◌/◌, ◌^◌, ◌<◌, ◌≤◌, Bool, true, false, None, refl, arith}
use Rattle.std.specs.Prelude.{◌&&◌, ◌||◌, nat_le, nat_lt}
use Rattle.std.proofs.lemmas.Bool.{cases_Bool, cases_lt, le-leb, le-ltb, lt-leb, lt-ltb, ltb-false}
use Rattle.std.specs.Int.{div_ceil}
use Rattle.snd_container.proofs.Public.{rounded_up}
use Rattle.snd_layout.specs.Blocks.{block_align, block_frames, is_adpcm}
use Rattle.snd_layout.specs.Fit.{fit_refusal}
use Rattle.snd_layout.specs.Params.{AreParams, Parameters, data_bytes}
use Rattle.snd_layout.specs.declared.codec.Codec.{Codec}
use Rattle.snd_layout.specs.declared.codec.Codec.TheVariants.{U8, S8, S16, S24, S32, MuLaw, ALaw, Ima, Ms}
use Rattle.snd_layout.specs.declared.kind.Kind.{Kind}
use Rattle.snd_layout.specs.declared.kind.Kind.TheVariants.{Wave}
use Rattle.snd_edits.proofs.Public.{data_more, room_for}
use Rattle.snd_inputs.specs.Rooms.{exceeds, is_past_count}
use Rattle.snd_layout.specs.Kinds.{is_wave}
use Rattle.snd_inputs.proofs.Formed.{keeps_blocks}

-- a block has a byte and a frame at least
pub record SomeBlock (p : Parameters) : Type 0 where
  pub bytes : 1 ≤ block_align p.channels p.codec
  pub frames : 1 ≤ block_frames p.codec

plain_block : (channels : ℕ) (codec : Codec) → is_adpcm codec ≡ false → 1 ≤ channels → (1 ≤ block_align channels codec) × (1 ≤ block_frames codec)
plain_block channels U8 plain some = (omega (arith, some), omega arith)
plain_block channels S8 plain some = (omega (arith, some), omega arith)
plain_block channels (S16 order) plain some = (omega (arith, some), omega arith)
plain_block channels (S24 order) plain some = (omega (arith, some), omega arith)
plain_block channels (S32 order) plain some = (omega (arith, some), omega arith)
plain_block channels MuLaw plain some = (omega (arith, some), omega arith)
plain_block channels ALaw plain some = (omega (arith, some), omega arith)
plain_block channels (Ima align per_block) plain some = absurd (cc)
plain_block channels (Ms align per_block) plain some = absurd (cc)

pub some_block : (kind : Kind) (p : Parameters) → AreParams p → fit_refusal kind p ≡ None → SomeBlock p
some_block kind p good fits = elim (cases_Bool (is_adpcm p.codec)) [
  | inl is ↦ let form = keeps_blocks kind p is fits good in record { bytes = form.some_bytes; frames = form.some_frames }
  | inr plain ↦ let block = plain_block p.channels p.codec plain good.some_channel in record { bytes = block.0; frames = block.1 }
]

-- two tests that say the same
same_test : (a b c d : ℕ) → (b ≤ a → d ≤ c) → (d ≤ c → b ≤ a) → nat_lt a b ≡ nat_lt c d
same_test a b c d there back = elim (cases_lt a b) [
  | inl lt ↦ elim (cases_lt c d) [
    | inl less ↦ lt-ltb a b lt ∙ sym (lt-ltb c d less)
    | inr le ↦ absurd (omega (arith, lt, back le))
  ]
  | inr le ↦ le-ltb a b le ∙ sym (le-ltb c d (there le))
]

-- so many blocks are more than the room has where their bytes are
pub full_by : (p : Parameters) (room frames per align blocks most : ℕ) → SomeBlock p → per ≡ block_frames p.codec → align ≡ block_align p.channels p.codec → blocks ≡ div_ceil frames per → most ≡ room / align
    → nat_lt most blocks ≡ nat_lt room (data_bytes p frames)
full_by p room frames per align blocks most block per_is align_is blocks_are most_is =
    let up : blocks ≡ (frames + block_frames p.codec - 1) / block_frames p.codec = blocks_are ∙ ap (λ (m : ℕ). div_ceil frames m) per_is ∙ rounded_up frames (block_frames p.codec) block.frames in
    let fits = room_for p frames blocks room align block.bytes up align_is in
    ap (λ (m : ℕ). nat_lt m blocks) most_is ∙ same_test (room / align) blocks room (data_bytes p frames) fits.0 fits.1

-- where it has room
or_parts : (a b : Bool) → a || b ≡ false → (a ≡ false) × (b ≡ false)
or_parts true b is = absurd (cc)
or_parts false b is = (refl, is)

wave_is : (kind : Kind) → kind ≡ Wave → is_wave kind ≡ true
wave_is kind is = ap is_wave is

pub has_room : (kind : Kind) (p : Parameters) (room frames : ℕ) → exceeds kind p room frames ≡ false → (data_bytes p frames ≤ room) × (is_adpcm p.codec ≡ true → kind ≡ Wave → frames < 2 ^ 32)
has_room kind p room frames is =
    let parts = or_parts (nat_lt room (data_bytes p frames)) (is_past_count kind p.codec frames) is in (
      ltb-false room (data_bytes p frames) parts.0,
      λ blocks wave. elim (cases_lt frames (2 ^ 32)) [
        | inl lt ↦ lt
        | inr le ↦ absurd (
            let past : is_past_count kind p.codec frames ≡ true =
            ap (λ (t : Bool). t && is_wave kind && nat_le (2 ^ 32) frames) blocks ∙ ap (λ (t : Bool). true && t && nat_le (2 ^ 32) frames) (wave_is kind wave) ∙ le-leb (2 ^ 32) frames le in
            let no : true ≡ false = sym past ∙ parts.1 in cc)
      ],
    )

-- and where it has room for more
neither : (a b : Bool) → a ≡ false → b ≡ false → a || b ≡ false
neither true b is other = absurd (cc)
neither false b is other = other

past_fewer : (a b : Bool) (m n : ℕ) → m ≤ n → a && b && nat_le (2 ^ 32) n ≡ false → a && b && nat_le (2 ^ 32) m ≡ false
past_fewer false b m n le is = refl
past_fewer true false m n le is = refl
past_fewer true true m n le is = elim (cases_lt m (2 ^ 32)) [
  | inl lt ↦ lt-leb (2 ^ 32) m lt
  | inr past ↦ absurd (let no : true ≡ false = sym (le-leb (2 ^ 32) n (omega (arith, le, past))) ∙ is in cc)
]

pub exceeds_fewer : (kind : Kind) (p : Parameters) (room m n : ℕ) → 1 ≤ block_frames p.codec → m ≤ n → exceeds kind p room n ≡ false → exceeds kind p room m ≡ false
exceeds_fewer kind p room m n some le is =
    let parts = or_parts (nat_lt room (data_bytes p n)) (is_past_count kind p.codec n) is in
    let more : data_bytes p m ≤ data_bytes p n = data_more p m n some le in
    let fits : data_bytes p n ≤ room = ltb-false room (data_bytes p n) parts.0 in
    neither (nat_lt room (data_bytes p m)) (is_past_count kind p.codec m) (le-ltb room (data_bytes p m) (omega (arith, more, fits))) (past_fewer (is_adpcm p.codec) (is_wave kind) m n le parts.1)

-- what is answered, by the test of the blocks and by that of the count
module _ (kind : Kind) (p : Parameters) (room frames : ℕ) (full : Bool) (is : full ≡ nat_lt room (data_bytes p frames)) where
  pub exceeds_room : full ≡ true → full ≡ exceeds kind p room frames
  exceeds_room so = so ∙ sym (ap (λ (t : Bool). t || is_past_count kind p.codec frames) (sym is ∙ so))

  pub exceeds_by_count : full ≡ false → (past : Bool) → past ≡ is_past_count kind p.codec frames → past ≡ exceeds kind p room frames
  exceeds_by_count not_full past same = same ∙ sym (ap (λ (t : Bool). t || is_past_count kind p.codec frames) (sym is ∙ not_full))
