-- What is known of a text that was read.
use Rattle.std.specs.Prelude.{◌≡◌, ℕ, ◌≤◌, true, List, length}
use Rattle.std.specs.List.{filter_map, list_all}
use Rattle.std.specs.Option.{is_some}
use Rattle.snd_rack.specs.Spec.{item_of, parts}
use Rattle.snd_rack.specs.Stage.{Stated}

abbrev pub items_in : List ℕ → List Stated
items_in text = filter_map item_of (parts 44 text)

pub record IsRead (text : List ℕ) (count : ℕ) : Type 0 where
  pub all : count ≡ length (parts 44 text)
  pub few : count ≤ 8
  pub each : list_all (λ item. is_some (item_of item)) (parts 44 text) ≡ true
