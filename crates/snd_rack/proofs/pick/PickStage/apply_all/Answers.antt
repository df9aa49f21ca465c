use Rattle.std.proofs.Common.{◌≡◌, ◌∙◌, ◌+◌, ◌-◌, ◌/◌, ◌≤◌, ◌^◌, min, ℕ, ℤ, List, ap, length, map, nat_lt, pos, refl, slice_index_or, subst, sym, arith}
use Rattle.std.specs.List.{flat_map, list_all}
use Rattle.snd_pcm.specs.Groups.{groups}
use Rattle.snd_rack.specs.Stages.{pick_held}
use Rattle.snd_rack.proofs.Block.{counted_as, picked_as, picked_room, picked_there}
use Rattle.snd_rack.proofs.pick.PickStage.apply_all.Goals as goal

-- the samples at some places of each frame
abbrev all_picked : List ℕ → ℕ → List ℤ → List ℤ
all_picked places channels xs = flat_map (λ frame. map (λ place. slice_index_or frame place (pos 0)) places) (groups channels xs)

pub pick_all-requires-clause-there : goal.pick_all-requires-clause-there
pick_all-requires-clause-there c =
    let h = pick_held c.args.self.now in
    let places : c.as_slice.result.now ≡ c.args.self.now.places.items = c.as_slice.ensures.value in
    ap (λ (l : List ℕ). list_all (λ place. nat_lt place c.args.channels) l) places
    ∙ picked_there h c.args.self.now.places.items c.args.channels c.args.block.now.items refl c.requires

pub pick_all-requires-clause-room : goal.pick_all-requires-clause-room
pick_all-requires-clause-room c =
    let h = pick_held c.args.self.now in
    let places : c.as_slice.result.now ≡ c.args.self.now.places.items = c.as_slice.ensures.value in
    let same = ap (λ (l : List ℕ). all_picked l c.args.channels c.as_slice-2.result.now) places ∙ ap (all_picked c.args.self.now.places.items c.args.channels) c.as_slice-2.ensures.value in
    subst (λ (l : List ℤ). length l ≤ 16384) (sym same) (picked_room h c.args.self.now.places.items c.args.channels c.args.block.now.items refl c.requires)

pub copy_block-requires : goal.copy_block-requires
copy_block-requires c =
    let h = pick_held c.args.self.now in
    let places : c.as_slice.result.now ≡ c.args.self.now.places.items = c.as_slice.ensures.value in
    let same = c.as_slice-3.ensures.value ∙ c.pick_all.ensures ∙ ap (λ (l : List ℕ). all_picked l c.args.channels c.as_slice-2.result.now) places ∙ ap (all_picked c.args.self.now.places.items c.args.channels) c.as_slice-2.ensures.value in
    subst (λ (l : List ℤ). length l ≤ 16384) (sym same) (picked_room h c.args.self.now.places.items c.args.channels c.args.block.now.items refl c.requires)

pub returns-clause-block : goal.returns-clause-block
returns-clause-block c =
    let h = pick_held c.args.self.now in
    let places : c.as_slice.result.now ≡ c.args.self.now.places.items = c.as_slice.ensures.value in
    c.copy_block.ensures ∙ c.as_slice-3.ensures.value ∙ c.pick_all.ensures ∙ ap (λ (l : List ℕ). all_picked l c.args.channels c.as_slice-2.result.now) places
    ∙ ap (all_picked c.args.self.now.places.items c.args.channels) c.as_slice-2.ensures.value
    ∙ picked_as h c.args.self.now.places.items c.args.channels c.args.block.now.items refl c.requires

pub returns-clause-state : goal.returns-clause-state
returns-clause-state c =
    let n_is : c.len.result / c.args.channels ≡ length c.args.block.now.items / c.args.channels = ap (λ (m : ℕ). m / c.args.channels) c.len.ensures.value in
    let few : c.args.self.now.seen ≤ 2 ^ 64 - 1 = omega arith in
    let is : c.saturating_add-self.result ≡ min (c.args.self.now.seen + length c.args.block.now.items / c.args.channels) (2 ^ 64 - 1) = omega (arith, n_is) in
    counted_as (pick_held c.args.self.now) (length c.args.block.now.items / c.args.channels) c.saturating_add-self.result few is
