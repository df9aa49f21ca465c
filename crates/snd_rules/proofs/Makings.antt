-- A file is made where its kind is built and holds its parameters.
use Rattle.std.proofs.Common.{◌≡◌, ◌∙◌, ◌≤◌, ap, refl, sym, subst, arith, ℕ, List, Bool, true, false, Option, None, Some, Ok}
use Rattle.std.specs.Prelude.{is_none}
use Rattle.std.specs.Borrow.{Bor}
use Rattle.snd_command.specs.Said.{Said}
use Rattle.snd_command.specs.declared.tables.CodecWord.{CodecWord}
use Rattle.snd_command.specs.declared.tables.CodecWord.TheVariants as word
use Rattle.snd_container.specs.Made.{new_file, new_shape}
use Rattle.snd_container.specs.Sound.{fixed_of}
use Rattle.snd_layout.specs.Blocks.{is_adpcm}
use Rattle.snd_layout.specs.Fit.{fit_refusal}
use Rattle.snd_layout.specs.Params.{Parameters, params_of, params_refusal}
use Rattle.snd_layout.specs.Refusals.{unless}
use Rattle.snd_layout.specs.declared.codec.Codec.{Codec}
use Rattle.snd_layout.specs.declared.codec.Codec.TheVariants.{U8, S8, S16, S24, S32, MuLaw, ALaw, Ima, Ms}
use Rattle.snd_layout.specs.declared.kind.Kind.{Kind}
use Rattle.snd_layout.specs.declared.refusal.OpenRefusal.{OpenRefusal}
use Rattle.snd_edits.specs.Editing.{Editing, first_editing}
use Rattle.snd_edits.specs.Making.{making_as, making_of}
use Rattle.snd_layout.proofs.Public.{few_channels as few_held, is_held}
use Rattle.snd_edits.proofs.Public.{small_blocks}
use Rattle.snd_rules.specs.Desk.{makes}
use Rattle.snd_rules.specs.Edit.{mode_made}
use Rattle.snd_rules.specs.SmallBlocks.{HasSmallBlocks}
use Rattle.snd_rules.specs.Rules.{codec_of}
use Rattle.snd_rules.specs.Work.{WorksFor}
use Rattle.snd_rules.specs.declared.work.Work.TheVariants.{Make}

-- ---- what is made

pub making_is : (kind : Kind) (p : Parameters) (refusal : Option OpenRefusal) → fit_refusal kind p ≡ refusal → making_of kind p ≡ making_as kind p refusal
unfolding making_of
making_is kind p refusal is = ap (making_as kind p) is

-- parameters that are good are those that were asked
good_params : (refusal : Option OpenRefusal) (q p : Parameters) → unless refusal q ≡ Ok p → q ≡ p
good_params None q p is = cc
good_params (Some refusal) q p is = absurd (cc)

asked_params : (channels rate : ℕ) (codec : Codec) (p : Parameters) → params_of channels rate codec ≡ Ok p → record { channels = channels; rate = rate; codec = codec } ≡ p
asked_params channels rate codec p is = good_params (params_refusal channels rate codec) (record { channels = channels; rate = rate; codec = codec }) p is

pub kind_is_made : (kind : Kind) (channels rate : ℕ) (codec : Codec) (p : Parameters) → HasSmallBlocks channels codec → params_of channels rate codec ≡ Ok p → fit_refusal kind p ≡ None
    → (e : Editing) × (making_of kind p ≡ Ok e) × HasSmallBlocks p.channels p.codec
kind_is_made kind channels rate codec p small is fits = (
  first_editing (new_file kind p) (new_shape kind p),
  making_is kind p None fits,
  subst (λ (q : Parameters). HasSmallBlocks q.channels q.codec) (asked_params channels rate codec p is) small,
)

-- ---- in which mode, and with which blocks

pub made_makes : (in_blocks : Bool) → makes (mode_made in_blocks) ≡ true
made_makes true = refl
made_makes false = refl

pub in_numbers : (codec : Codec) → is_adpcm codec ≡ false → is_none (fixed_of codec) ≡ false
in_numbers U8 is = refl
in_numbers S8 is = refl
in_numbers (S16 order) is = refl
in_numbers (S24 order) is = refl
in_numbers (S32 order) is = refl
in_numbers MuLaw is = refl
in_numbers ALaw is = refl
in_numbers (Ima align per_block) is = absurd (cc)
in_numbers (Ms align per_block) is = absurd (cc)

-- no kind holds blocks of more than two channels
kept_fit : (kind : Kind) (p : Parameters) (refusal : Option OpenRefusal) (e : Editing) → fit_refusal kind p ≡ refusal → making_as kind p refusal ≡ Ok e → fit_refusal kind p ≡ None
kept_fit kind p None e is makes = is
kept_fit kind p (Some refusal) e is makes = absurd (cc)

pub few_channels : (kind : Kind) (p : Parameters) (e : Editing) → is_adpcm p.codec ≡ true → making_of kind p ≡ Ok e → p.channels ≤ 2
few_channels kind p e is makes =
    let fits = kept_fit kind p (fit_refusal kind p) e refl (sym (making_is kind p (fit_refusal kind p) refl) ∙ makes) in
    few_held kind p.channels p.codec is (is_held kind p fits)

pub codec_small : (codec : CodecWord) (channels rate : ℕ) → HasSmallBlocks channels (codec_of codec channels rate)
codec_small word.U8 channels rate is = absurd (cc)
codec_small word.S8 channels rate is = absurd (cc)
codec_small (word.S16 order) channels rate is = absurd (cc)
codec_small (word.S24 order) channels rate is = absurd (cc)
codec_small (word.S32 order) channels rate is = absurd (cc)
codec_small word.MuLaw channels rate is = absurd (cc)
codec_small word.ALaw channels rate is = absurd (cc)
codec_small word.Ima channels rate is = small_blocks channels rate
codec_small word.Ms channels rate is = small_blocks channels rate

-- a file is made for a command that says so
pub make_works : (kind : Kind) (codec : CodecWord) (channels rate : ℕ) (name : Bor (List ℕ)) → WorksFor (Said.create kind codec channels rate name.now) (Make kind (codec_of codec channels rate) channels rate name)
make_works kind codec channels rate name = record {
  rule = λ mode taps stays. refl;
  closed = λ store. refl;
  named = λ n is. is;
  closes = refl;
  small = codec_small codec channels rate;
  asked = omega arith;
  made = omega arith;
  writes = λ n not_named. not_named;
}
