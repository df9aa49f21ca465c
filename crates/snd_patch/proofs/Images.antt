-- What the phases of an update may leave.
use Rattle.std.proofs.Common.{◌≡◌, inl, inr, ℕ, ◌≤◌, Bool, true, false, cond, List, [], ◌∷◌, ◌++◌, length, Option, None, Some, IfSome, refl, sym, ◌∙◌, subst, arith}
use Rattle.std.proofs.lemmas.Bool.{cases_lt, le-leb, lt-leb}
use Rattle.std.specs.Prelude.{nat_le}
use Rattle.snd_disk.specs.Bytes.{over}
use Rattle.snd_disk.specs.Runs.{ComesFrom, IsMade, IsSource}
use Rattle.snd_disk.proofs.Public.{byte_from, made_comes}
use Rattle.snd_layout.specs.Params.{data_bytes}
use Rattle.snd_layout.specs.Shape.{KeepsRule, Shape}
use Rattle.snd_layout.specs.declared.field.Field.{Field}
use Rattle.snd_layout.specs.Container.{FitsField}
use Rattle.snd_layout.specs.Filled.{over_field}
use Rattle.snd_container.specs.Values.{inner_value, outer_value, side_value}
use Rattle.snd_container.proofs.Public.{inner_value_fits, outer_value_fits, side_value_fits}
use Rattle.snd_patch.specs.Images.{AllLieApart, HasNew, HasOld, IsGrowing, IsShrinking, IsUpdating}
use Rattle.snd_patch.specs.Laws.{CountsFromTo, GrowsFromTo, ShrinksFromTo}
use Rattle.snd_patch.specs.Sealed.{held_field, held_others, with_fewer, with_fields, with_inner, with_others}
use Rattle.snd_patch.proofs.Lists.{field_length}
use Rattle.snd_patch.proofs.Places.{inner_is_field, outer_is_field, side_is_field}
use Rattle.snd_patch.proofs.Wholes.{apart_back, itself_old, itself_whole, new_from, old_from, put_beside, put_new, put_whole, then_new, then_old, then_whole, whole_from}

-- the sources, where each image at the start is c
module _ (before : List ℕ → Type 0) (c : List ℕ) (only : (y : List ℕ) → before y → y ≡ c) (Q : List ℕ → Type 0) where
  one_source : (m : List ℕ) → Q c → Q m → (y : List ℕ) → IsSource before (m ∷ []) y → Q y
  one_source m of_c of_m y (inl is) = subst Q (sym is) of_m
  one_source m of_c of_m y (inr is) = subst Q (sym (only y is)) of_c

  two_sources : (m k : List ℕ) → Q c → Q m → Q k → (y : List ℕ) → IsSource before (m ∷ k ∷ []) y → Q y
  two_sources m k of_c of_m of_k y (inl is) = subst Q (sym is) of_m
  two_sources m k of_c of_m of_k y (inr is) = one_source k of_c of_k y is

  others_source : (outer side : Option Field) (v w : List ℕ) → Q c → Q (over_field outer c v) → Q (over_field side (over_field outer c v) w)
      → (y : List ℕ) → IsSource before (held_field outer c v ++ held_field side (over_field outer c v) w) y → Q y
  others_source None None v w of_c of_outer of_side y is = subst Q (sym (only y is)) of_c
  others_source None (Some s) v w of_c of_outer of_side y is = one_source (over c s.at w) of_c of_side y is
  others_source (Some o) None v w of_c of_outer of_side y is = one_source (over c o.at v) of_c of_outer y is
  others_source (Some o) (Some s) v w of_c of_outer of_side y is = two_sources (over c o.at v) (over (over c o.at v) s.at w) of_c of_outer of_side y is

cond_more : (test : Bool) (x y : List ℕ) → test ≡ true → cond test x y ≡ x
cond_more test x y is = rw is refl

cond_less : (test : Bool) (x y : List ℕ) → test ≡ false → cond test x y ≡ y
cond_less test x y is = rw is refl

module _ (b : List ℕ) (h : Shape) (n : ℕ) where
  pub starts_updating : IsUpdating b h n b
  starts_updating = record {
    size = refl;
    beside = λ i out. refl;
    inner = λ one. inl (λ j lt. refl);
    outer = itself_whole b (outer_value h n) h.outer;
    side = itself_whole b (side_value h n) h.side;
  }

  pub starts_growing : IsGrowing b h n b
  starts_growing = record { fields = starts_updating; ordered = inl (itself_old b h.outer, itself_old b h.side) }

  pub starts_shrinking : IsShrinking b h n b
  starts_shrinking = record { fields = starts_updating; ordered = inl (λ j lt. refl) }

  module _ (rule : KeepsRule h) (apart : AllLieApart h) (there : h.start ≤ length b) where
    few_inner : length (inner_value h n) ≤ h.inner.size
    few_inner = inner_value_fits h n rule

    few_outer : FitsField h.outer (outer_value h n)
    few_outer = outer_value_fits h n rule

    few_side : FitsField h.side (side_value h n)
    few_side = side_value_fits h n rule

    put_inner : (y : List ℕ) → IsUpdating b h n y → IsUpdating b h n (with_inner y h n)
    put_inner y so_far = record {
      size = field_length (Some h.inner) y (inner_value h n) h.start few_inner rule.inner_end (omega (arith, so_far.size, there)) ∙ so_far.size;
      beside = put_beside y (inner_value h n) h b (Some h.inner) few_inner (inner_is_field h) so_far.beside;
      inner = put_whole y (inner_value h n) b (Some h.inner) (put_new y (inner_value h n) (Some h.inner) h.start few_inner rule.inner_end (omega (arith, so_far.size, there)));
      outer = then_whole y (inner_value h n) b (outer_value h n) (Some h.inner) h.outer few_inner few_outer apart.inner.outer so_far.outer;
      side = then_whole y (inner_value h n) b (side_value h n) (Some h.inner) h.side few_inner few_side apart.inner.side so_far.side;
    }

    put_outer : (y : List ℕ) → IsUpdating b h n y → IsUpdating b h n (over_field h.outer y (outer_value h n))
    put_outer y so_far = record {
      size = field_length h.outer y (outer_value h n) h.start few_outer rule.outer_end (omega (arith, so_far.size, there)) ∙ so_far.size;
      beside = put_beside y (outer_value h n) h b h.outer few_outer (outer_is_field h) so_far.beside;
      inner = then_whole y (outer_value h n) b (inner_value h n) h.outer (Some h.inner) few_outer few_inner (apart_back (Some h.inner) h.outer apart.inner.outer) so_far.inner;
      outer = put_whole y (outer_value h n) b h.outer (put_new y (outer_value h n) h.outer h.start few_outer rule.outer_end (omega (arith, so_far.size, there)));
      side = then_whole y (outer_value h n) b (side_value h n) h.outer h.side few_outer few_side apart.others so_far.side;
    }

    put_side : (y : List ℕ) → IsUpdating b h n y → IsUpdating b h n (over_field h.side y (side_value h n))
    put_side y so_far = record {
      size = field_length h.side y (side_value h n) h.start few_side rule.side_end (omega (arith, so_far.size, there)) ∙ so_far.size;
      beside = put_beside y (side_value h n) h b h.side few_side (side_is_field h) so_far.beside;
      inner = then_whole y (side_value h n) b (inner_value h n) h.side (Some h.inner) few_side few_inner (apart_back (Some h.inner) h.side apart.inner.side) so_far.inner;
      outer = then_whole y (side_value h n) b (outer_value h n) h.side h.outer few_side few_outer (apart_back h.outer h.side apart.others) so_far.outer;
      side = put_whole y (side_value h n) b h.side (put_new y (side_value h n) h.side h.start few_side rule.side_end (omega (arith, so_far.size, there)));
    }

    -- what comes from lists that are b but for the fields is b but for the fields
    updating_from : (source : List ℕ → Type 0) → ((y : List ℕ) → source y → IsUpdating b h n y) → (x : List ℕ) → ComesFrom source x → IsUpdating b h n x
    updating_from source each x from = record {
      size = from.size.2 ∙ (each from.size.0 from.size.1).size;
      beside = λ i out. let byte = byte_from source x from i in byte.2 ∙ (each byte.0 byte.1).beside i out;
      inner = whole_from source x from b (inner_value h n) (Some h.inner) h.start few_inner rule.inner_end within (λ y of_y. (each y of_y).inner);
      outer = whole_from source x from b (outer_value h n) h.outer h.start few_outer rule.outer_end within (λ y of_y. (each y of_y).outer);
      side = whole_from source x from b (side_value h n) h.side h.start few_side rule.side_end within (λ y of_y. (each y of_y).side);
    }
      where
        within : (y : List ℕ) → source y → h.start ≤ length y
        within y of_y = omega (arith, there, (each y of_y).size)

    -- the states that a phase passes through
    abbrev OthersOld : List ℕ → Type 0
    OthersOld y = IsUpdating b h n y × IfSome h.outer (HasOld b y) × IfSome h.side (HasOld b y)

    abbrev InnerNew : List ℕ → Type 0
    InnerNew y = IsUpdating b h n y × HasNew (inner_value h n) y h.inner

    abbrev InnerOld : List ℕ → Type 0
    InnerOld y = IsUpdating b h n y × HasOld b y h.inner

    abbrev OthersNew : List ℕ → Type 0
    OthersNew y = IsUpdating b h n y × IfSome h.outer (HasNew (outer_value h n) y) × IfSome h.side (HasNew (side_value h n) y)

    inner_put : (y : List ℕ) → IsUpdating b h n y → InnerNew (with_inner y h n)
    inner_put y so_far = (put_inner y so_far, put_new y (inner_value h n) (Some h.inner) h.start few_inner rule.inner_end (omega (arith, so_far.size, there)))

    outer_behind : (y : List ℕ) → InnerNew y → InnerNew (over_field h.outer y (outer_value h n))
    outer_behind y so_far = (put_outer y so_far.0, then_new y (outer_value h n) (inner_value h n) h.outer (Some h.inner) few_outer few_inner (apart_back (Some h.inner) h.outer apart.inner.outer) so_far.1)

    side_behind : (y : List ℕ) → InnerNew y → InnerNew (over_field h.side y (side_value h n))
    side_behind y so_far = (put_side y so_far.0, then_new y (side_value h n) (inner_value h n) h.side (Some h.inner) few_side few_inner (apart_back (Some h.inner) h.side apart.inner.side) so_far.1)

    outer_first : (y : List ℕ) → InnerOld y → InnerOld (over_field h.outer y (outer_value h n))
    outer_first y so_far = (put_outer y so_far.0, then_old y (outer_value h n) b h.outer (Some h.inner) few_outer (apart_back (Some h.inner) h.outer apart.inner.outer) so_far.1)

    side_first : (y : List ℕ) → InnerOld y → InnerOld (over_field h.side y (side_value h n))
    side_first y so_far = (put_side y so_far.0, then_old y (side_value h n) b h.side (Some h.inner) few_side (apart_back (Some h.inner) h.side apart.inner.side) so_far.1)

    others_put : (y : List ℕ) → IsUpdating b h n y → OthersNew (with_others y h n)
    others_put y so_far =
        let mid : List ℕ = over_field h.outer y (outer_value h n) in
        let outer : IsUpdating b h n mid = put_outer y so_far in (
          put_side mid outer,
          then_new mid (side_value h n) (outer_value h n) h.side h.outer few_side few_outer (apart_back h.outer h.side apart.others)
              (put_new y (outer_value h n) h.outer h.start few_outer rule.outer_end (omega (arith, so_far.size, there))),
          put_new mid (side_value h n) h.side h.start few_side rule.side_end (omega (arith, outer.size, there)),
        )

    inner_behind : (y : List ℕ) → OthersNew y → OthersNew (with_inner y h n)
    inner_behind y so_far = (
      put_inner y so_far.0,
      then_new y (inner_value h n) (outer_value h n) (Some h.inner) h.outer few_inner few_outer apart.inner.outer so_far.1,
      then_new y (inner_value h n) (side_value h n) (Some h.inner) h.side few_inner few_side apart.inner.side so_far.2,
    )

    inner_first : OthersOld (with_inner b h n)
    inner_first = (
      put_inner b starts_updating,
      then_old b (inner_value h n) b (Some h.inner) h.outer few_inner apart.inner.outer (itself_old b h.outer),
      then_old b (inner_value h n) b (Some h.inner) h.side few_inner apart.inner.side (itself_old b h.side),
    )

    -- the contents at the end
    pub ends_growing : IsGrowing b h n (with_fields b h n)
    ends_growing = let last = side_behind _ (outer_behind _ (inner_put b starts_updating)) in record { fields = last.0; ordered = inr last.1 }

    pub ends_shrinking : IsShrinking b h n (with_fewer b h n)
    ends_shrinking = let last = inner_behind _ (others_put b starts_updating) in record { fields = last.0; ordered = inr (last.1, last.2) }

    -- the phases, each from a start that is stable
    module _ (before : List ℕ → Type 0) (x : List ℕ) where
      pub growing_inner : ((y : List ℕ) → before y → y ≡ b) → IsMade before (with_inner b h n ∷ []) x → IsGrowing b h n x
      growing_inner only made = record {
        fields = updating_from source (λ y of_y. (each y of_y).0) x made;
        ordered = inl (old_from source x made b h.outer (λ y of_y. (each y of_y).1), old_from source x made b h.side (λ y of_y. (each y of_y).2));
      }
        where
          source : List ℕ → Type 0
          source = IsSource before (with_inner b h n ∷ [])

          each : (y : List ℕ) → source y → OthersOld y
          each = one_source before b only OthersOld (with_inner b h n) (starts_updating, itself_old b h.outer, itself_old b h.side) inner_first

      pub growing_others : ((y : List ℕ) → before y → y ≡ with_inner b h n) → IsMade before (held_others (with_inner b h n) h n) x → IsGrowing b h n x
      growing_others only made = record {
        fields = updating_from source (λ y of_y. (each y of_y).0) x from;
        ordered = inr (new_from source x from (inner_value h n) (Some h.inner) (λ y of_y. (each y of_y).1));
      }
        where
          source : List ℕ → Type 0
          source = IsSource before (held_others (with_inner b h n) h n)

          from : ComesFrom source x
          from = made_comes before (held_others (with_inner b h n) h n) x made

          first : InnerNew (with_inner b h n)
          first = inner_put b starts_updating

          each : (y : List ℕ) → source y → InnerNew y
          each = others_source before (with_inner b h n) only InnerNew h.outer h.side (outer_value h n) (side_value h n) first (outer_behind _ first) (side_behind _ (outer_behind _ first))

      pub shrinking_others : ((y : List ℕ) → before y → y ≡ b) → IsMade before (held_others b h n) x → IsShrinking b h n x
      shrinking_others only made = record {
        fields = updating_from source (λ y of_y. (each y of_y).0) x from;
        ordered = inl (old_from source x from b (Some h.inner) (λ y of_y. (each y of_y).1));
      }
        where
          source : List ℕ → Type 0
          source = IsSource before (held_others b h n)

          from : ComesFrom source x
          from = made_comes before (held_others b h n) x made

          first : InnerOld b
          first = (starts_updating, λ j lt. refl)

          each : (y : List ℕ) → source y → InnerOld y
          each = others_source before b only InnerOld h.outer h.side (outer_value h n) (side_value h n) first (outer_first _ first) (side_first _ (outer_first _ first))

      pub shrinking_inner : ((y : List ℕ) → before y → y ≡ with_others b h n) → IsMade before (with_inner (with_others b h n) h n ∷ []) x → IsShrinking b h n x
      shrinking_inner only made = record {
        fields = updating_from source (λ y of_y. (each y of_y).0) x made;
        ordered = inr (new_from source x made (outer_value h n) h.outer (λ y of_y. (each y of_y).1), new_from source x made (side_value h n) h.side (λ y of_y. (each y of_y).2));
      }
        where
          source : List ℕ → Type 0
          source = IsSource before (with_inner (with_others b h n) h n ∷ [])

          each : (y : List ℕ) → source y → OthersNew y
          each = one_source before (with_others b h n) only OthersNew (with_inner (with_others b h n) h n) (others_put b starts_updating) (inner_behind _ (others_put b starts_updating))

pub grows_from_to : GrowsFromTo
grows_from_to b h n rule apart there = (starts_growing b h n, ends_growing b h n rule apart there)

pub shrinks_from_to : ShrinksFromTo
shrinks_from_to b h n rule apart there = (starts_shrinking b h n, ends_shrinking b h n rule apart there)

pub counts_from_to : CountsFromTo
counts_from_to b h n rule apart there = elim (cases_lt (data_bytes h.params n) h.declared) [
  | inl less ↦ (
    inr (less, starts_shrinking b h n),
    inr (less, subst (IsShrinking b h n) (sym (cond_less (nat_le h.declared (data_bytes h.params n)) (with_fields b h n) (with_fewer b h n) (lt-leb h.declared (data_bytes h.params n) less))) (ends_shrinking b h n rule apart there)),
  )
  | inr more ↦ (
    inl (more, starts_growing b h n),
    inl (more, subst (IsGrowing b h n) (sym (cond_more (nat_le h.declared (data_bytes h.params n)) (with_fields b h n) (with_fewer b h n) (le-leb h.declared (data_bytes h.params n) more))) (ends_growing b h n rule apart there)),
  )
]
