-- Eight channels that are coded side by side, sample by sample.
use Rattle.std.proofs.Common.{◌≡◌, ◌∙◌, refl, sym, subst, ap, ℕ, zero, suc, ℤ, pos, ◌+◌, ◌-◌, ◌*◌, ◌/◌, ◌%◌, ◌<◌, ◌≤◌, cond, ltb, max, List, [], ◌∷◌, ◌++◌, append_assoc, length, get_or, set, take, drop, arith, inl, inr}
use Rattle.std.specs.List.{refill}
use Rattle.std.proofs.lemmas.Bool.{cases_lt}
use Rattle.std.proofs.lemmas.List.{append-nil, drop_all, get_or-drop, get_or-set_other, length-append, length-drop, length-set, length-take-le, take_all}
use Rattle.std.proofs.lemmas.Grind.{get_or-set_at, take-set_at}
use Rattle.snd_ms_adpcm.specs.declared.microsoft_four_writer.Lanes.{Lanes}
use Rattle.snd_ms_adpcm.specs.declared.microsoft_state.MsState.{MsState}
use Rattle.snd_ima_adpcm.specs.Blocks.{bytes_of_blocks}
use Rattle.snd_ima_adpcm.specs.Frames.{alternating, bytes_high_half_first, firsts, seconds}
use Rattle.snd_ms_adpcm.specs.Laws.{ms_rule}
use Rattle.snd_ms_adpcm.specs.Lanes.{AreLeft, IsCoded, Takes, lane_codes}
use Rattle.snd_ms_adpcm.specs.Microsoft.{adaptation, adaptations, ms_bytes, ms_code, ms_codes, ms_delta, ms_sample}
use Rattle.snd_ms_adpcm.specs.States.{ms_codes_from, ms_runs}
use Rattle.snd_ima_adpcm.proofs.Public.{alternating-same, drop_two, written_over}

-- ---- what a code multiplies the delta by

abbrev factor : ℕ → ℕ
factor m = max (102 * m) 331 - 101 + cond (ltb 5 m) 1 0 + cond (ltb 7 m) 52 0

factors : (code : ℕ) → code < 16 → pos (factor (cond (ltb code 8) code (16 - code))) ≡ adaptation code
unfolding adaptation adaptations
factors zero lt = refl
factors (suc zero) lt = refl
factors (suc (suc zero)) lt = refl
factors (suc (suc (suc zero))) lt = refl
factors (suc (suc (suc (suc zero)))) lt = refl
factors (suc (suc (suc (suc (suc zero))))) lt = refl
factors (suc (suc (suc (suc (suc (suc zero)))))) lt = refl
factors (suc (suc (suc (suc (suc (suc (suc zero))))))) lt = refl
factors (suc (suc (suc (suc (suc (suc (suc (suc zero)))))))) lt = refl
factors (suc (suc (suc (suc (suc (suc (suc (suc (suc zero))))))))) lt = refl
factors (suc (suc (suc (suc (suc (suc (suc (suc (suc (suc zero)))))))))) lt = refl
factors (suc (suc (suc (suc (suc (suc (suc (suc (suc (suc (suc zero))))))))))) lt = refl
factors (suc (suc (suc (suc (suc (suc (suc (suc (suc (suc (suc (suc zero)))))))))))) lt = refl
factors (suc (suc (suc (suc (suc (suc (suc (suc (suc (suc (suc (suc (suc zero))))))))))))) lt = refl
factors (suc (suc (suc (suc (suc (suc (suc (suc (suc (suc (suc (suc (suc (suc zero)))))))))))))) lt = refl
factors (suc (suc (suc (suc (suc (suc (suc (suc (suc (suc (suc (suc (suc (suc (suc zero))))))))))))))) lt = refl
factors (suc (suc (suc (suc (suc (suc (suc (suc (suc (suc (suc (suc (suc (suc (suc (suc n)))))))))))))))) lt = absurd (omega (arith, lt))

pub adaptation_is : (code deltas first last : ℕ) → code < 16 → deltas ≡ cond (ltb code 8) code (16 - code) → first ≡ cond (ltb 5 deltas) 1 0 → last ≡ cond (ltb 7 deltas) 52 0
    → pos (max (102 * deltas) 331 - 101 + first + last) ≡ adaptation code
adaptation_is code deltas first last lt deltas_are first_is last_is =
    let more : max (102 * deltas) 331 - 101 + first + last ≡ factor deltas =
    ap (λ (k : ℕ). max (102 * deltas) 331 - 101 + k + last) first_is ∙ ap (λ (k : ℕ). max (102 * deltas) 331 - 101 + cond (ltb 5 deltas) 1 0 + k) last_is in
    ap (λ (k : ℕ). pos k) (more ∙ ap factor deltas_are) ∙ factors code lt

-- ---- a sample of each channel

-- the lanes once the channel at a place took its sample
module _ (old l m : Lanes) (samples : List ℤ) (codes : List ℕ) (k code : ℕ) (next delta : ℤ) (lt : k < 8)
    (newers : length l.newer ≡ 8) (olders : length l.older ≡ 8) (deltas : length l.delta ≡ 8) (places : length codes ≡ 8)
    (newer_by_is : m.newer_by ≡ l.newer_by) (older_by_is : m.older_by ≡ l.older_by) (newer_is : m.newer ≡ set l.newer k next) (older_is : m.older ≡ set l.older k (get_or l.newer k (pos 0))) (delta_is : m.delta ≡ set l.delta k delta) where
  set_other : {X : Type 0} (xs ys : List X) (x d : X) (j : ℕ) → ys ≡ set xs k x → (j ≡ k → ⊥) → get_or ys j d ≡ get_or xs j d
  set_other {X} xs ys x d j is other = ap (λ (l : List X). get_or l j d) is ∙ get_or-set_other xs k j x d other

  set_here : {X : Type 0} (xs ys : List X) (x d : X) → ys ≡ set xs k x → length xs ≡ 8 → get_or ys k d ≡ x
  set_here {X} xs ys x d is long = ap (λ (l : List X). get_or l k d) is ∙ get_or-set_at xs k k x d refl (omega (arith, long, lt))

  pub left_more : AreLeft old l k → AreLeft old m (k + 1)
  left_more left = record {
    newer_by = newer_by_is ∙ left.newer_by;
    older_by = older_by_is ∙ left.older_by;
    newer = λ j le. set_other l.newer m.newer next (pos 0) j newer_is (λ same. absurd (omega (arith, le, same))) ∙ left.newer j (omega (arith, le));
    older = λ j le. set_other l.older m.older (get_or l.newer k (pos 0)) (pos 0) j older_is (λ same. absurd (omega (arith, le, same))) ∙ left.older j (omega (arith, le));
    delta = λ j le. set_other l.delta m.delta delta (pos 0) j delta_is (λ same. absurd (omega (arith, le, same))) ∙ left.delta j (omega (arith, le));
  }

  abbrev x : ℤ
  x = get_or samples k (pos 0)

  abbrev by : ℤ
  by = get_or l.newer_by k (pos 0)

  abbrev by_older : ℤ
  by_older = get_or l.older_by k (pos 0)

  abbrev its_code : ℕ
  its_code = ms_code by by_older (get_or l.newer k (pos 0)) (get_or l.older k (pos 0)) (get_or l.delta k (pos 0)) x

  other_lane : (j : ℕ) (more : List ℤ) → (j ≡ k → ⊥) → lane_codes m j more ≡ lane_codes l j more
  unfolding lane_codes
  other_lane j more other =
      rw (newer_by_is, older_by_is, set_other l.newer m.newer next (pos 0) j newer_is other, set_other l.older m.older (get_or l.newer k (pos 0)) (pos 0) j older_is other, set_other l.delta m.delta delta (pos 0) j delta_is other) refl

  abbrev its_next : ℤ
  its_next = ms_sample by by_older (get_or l.newer k (pos 0)) (get_or l.older k (pos 0)) (get_or l.delta k (pos 0)) its_code

  abbrev its_delta : ℤ
  its_delta = ms_delta (get_or l.delta k (pos 0)) its_code

  lane_before : (xs : List ℤ) → AreLeft old l k → lane_codes old k xs ≡ lane_codes l k xs
  unfolding lane_codes
  lane_before xs left = rw (sym left.newer_by, sym left.older_by, sym (left.newer k (omega arith)), sym (left.older k (omega arith)), sym (left.delta k (omega arith))) refl

  lane_after : (xs : List ℤ) → next ≡ its_next → delta ≡ its_delta → lane_codes m k xs ≡ ms_codes by by_older its_next (get_or l.newer k (pos 0)) its_delta xs
  unfolding lane_codes
  lane_after xs n d =
      rw (
        newer_by_is,
        older_by_is,
        set_here l.newer m.newer next (pos 0) newer_is newers,
        set_here l.older m.older (get_or l.newer k (pos 0)) (pos 0) older_is olders,
        set_here l.delta m.delta delta (pos 0) delta_is deltas,
        n,
        d,
      ) refl

  this_lane : (more : List ℤ) → AreLeft old l k → next ≡ its_next → delta ≡ its_delta → lane_codes old k (x ∷ more) ≡ its_code ∷ lane_codes m k more
  unfolding lane_codes
  this_lane more left n d = lane_before (x ∷ more) left ∙ ap (λ (cs : List ℕ). its_code ∷ cs) (sym (lane_after more n d))

  pub takes_more : code ≡ its_code → next ≡ its_next → delta ≡ its_delta → AreLeft old l k → Takes old samples codes l k → Takes old samples (set codes k code) m (k + 1)
  takes_more code_is n d left takes = record {
    each = λ j more before. elim (cases_lt j k) [
      | inl less ↦
          let other : j ≡ k → ⊥ = λ same. absurd (omega (arith, less, same)) in
          takes.each j more less ∙ ap (λ (c : ℕ). c ∷ lane_codes l j more) (sym (get_or-set_other codes k j code 0 other)) ∙ ap (λ (cs : List ℕ). get_or (set codes k code) j 0 ∷ cs) (sym (other_lane j more other))
      | inr le ↦
          let here : j ≡ k = omega (arith, le, before) in
          let put : get_or (set codes k code) k 0 ≡ its_code = get_or-set_at codes k k code 0 refl (omega (arith, places, lt)) ∙ code_is in
          subst (λ (i : ℕ). lane_codes old i (get_or samples i (pos 0) ∷ more) ≡ get_or (set codes k code) i 0 ∷ lane_codes m i more) (sym here)
          (this_lane more left n d ∙ ap (λ (c : ℕ). c ∷ lane_codes m k more) (sym put))
    ];
  }

-- ---- a frame of each block

module _ (l m : Lanes) (left right : ℕ) (few_left : left < 8) (few_right : right < 8) where
  pub one_more : (n : ℕ) (samples frames : List ℤ) (codes into : List ℕ) (byte : ℕ) → n < length samples / 2 - 2
      → get_or frames left (pos 0) ≡ get_or samples (2 * n + 4) (pos 0) → get_or frames right (pos 0) ≡ get_or samples (2 * n + 5) (pos 0)
      → Takes l frames codes m 8 → byte ≡ 16 * get_or codes left 0 + get_or codes right 0 → IsCoded n samples l left right into → IsCoded (n + 1) samples m left right (set into (n + 14) byte)
  one_more n samples frames codes into byte lt x_is y_is takes byte_is d = record { so_far = all; room = length-set into (n + 14) byte ∙ d.room }
    where
      behind : List ℤ
      behind = drop 4 samples

      rest : List ℤ
      rest = drop (2 * (n + 1)) behind

      first : get_or behind (2 * n) (pos 0) ≡ get_or frames left (pos 0)
      first = get_or-drop 4 samples (2 * n) (pos 0) ∙ ap (λ (k : ℕ). get_or samples k (pos 0)) (let e : 4 + 2 * n ≡ 2 * n + 4 = omega arith in e) ∙ sym x_is

      second : get_or behind (2 * n + 1) (pos 0) ≡ get_or frames right (pos 0)
      second = get_or-drop 4 samples (2 * n + 1) (pos 0) ∙ ap (λ (k : ℕ). get_or samples k (pos 0)) (let e : 4 + (2 * n + 1) ≡ 2 * n + 5 = omega arith in e) ∙ sym y_is

      frame : drop (2 * n) behind ≡ get_or frames left (pos 0) ∷ get_or frames right (pos 0) ∷ rest
      frame =
          drop_two behind n (pos 0) (omega (arith, lt, length-drop 4 samples))
          ∙ ap (λ (k : ℤ). k ∷ get_or behind (2 * n + 1) (pos 0) ∷ rest) first ∙ ap (λ (k : ℤ). get_or frames left (pos 0) ∷ k ∷ rest) second

      code : ℕ
      code = 16 * get_or codes left 0 + get_or codes right 0

      runs : Lanes → List ℤ → List ℕ
      runs v xs = bytes_high_half_first (alternating (lane_codes v left (firsts xs)) (lane_codes v right (seconds xs)))

      more : runs l (drop (2 * n) behind) ≡ code ∷ runs m rest
      more = ap (runs l) frame ∙ ap bytes_high_half_first (alternating-same _ _ _ _ (takes.each left (firsts rest) few_left) (takes.each right (seconds rest) few_right))

      put : take (n + 1 + 14) (set into (n + 14) byte) ≡ take (n + 14) into ++ code ∷ []
      put = take-set_at into (n + 14) (n + 1 + 14) byte (omega arith) (omega (arith, lt, d.room)) ∙ ap (λ (k : ℕ). take (n + 14) into ++ k ∷ []) byte_is

      all : take (n + 1 + 14) (set into (n + 14) byte) ++ runs m rest ≡ ms_bytes 2 samples
      all =
          ap (λ (xs : List ℕ). xs ++ runs m rest) put ∙ append_assoc (take (n + 14) into) (code ∷ []) (runs m rest)
          ∙ ap (λ (xs : List ℕ). take (n + 14) into ++ xs) (sym more) ∙ d.so_far

-- at the end all stands there
none_left : (l : Lanes) (k : ℕ) → lane_codes l k [] ≡ []
unfolding lane_codes
none_left l k = refl

pub all_coded : (n : ℕ) (samples : List ℤ) (l : Lanes) (left right : ℕ) (into : List ℕ) → length samples / 2 - 2 ≤ n → 4 ≤ length samples → length samples % 2 ≡ 0
    → IsCoded n samples l left right into → into ≡ ms_bytes 2 samples
all_coded n samples l left right into past least even d =
    let codes : List ℤ → List ℕ = λ xs. bytes_high_half_first (alternating (lane_codes l left (firsts xs)) (lane_codes l right (seconds xs))) in
    let none : drop (2 * n) (drop 4 samples) ≡ [] = drop_all (2 * n) (drop 4 samples) (omega (arith, past, least, even, length-drop 4 samples)) in
    let nothing : codes (drop (2 * n) (drop 4 samples)) ≡ [] =
    ap codes none ∙ ap (λ (cs : List ℕ). bytes_high_half_first (alternating cs (lane_codes l right []))) (none_left l left) in
    sym (take_all (n + 14) into (omega (arith, past, least, d.room))) ∙ sym (append-nil (take (n + 14) into))
    ∙ ap (λ (cs : List ℕ). take (n + 14) into ++ cs) (sym nothing) ∙ d.so_far

-- two channels that stand as the states of a block's heads
stands_as : (l : Lanes) (k : ℕ) (s : MsState) → get_or l.newer_by k (pos 0) ≡ s.newer_by → get_or l.older_by k (pos 0) ≡ s.older_by → get_or l.newer k (pos 0) ≡ s.newer
    → get_or l.older k (pos 0) ≡ s.older → get_or l.delta k (pos 0) ≡ s.delta → (xs : List ℤ) → lane_codes l k xs ≡ ms_codes_from s xs
unfolding lane_codes
stands_as l k s a b c d e xs = rw (a, b, c, d, e) refl

-- .. each of eight
module _ (l : Lanes) (a b c d e f g h : MsState) (newer_by : l.newer_by ≡ a.newer_by ∷ b.newer_by ∷ c.newer_by ∷ d.newer_by ∷ e.newer_by ∷ f.newer_by ∷ g.newer_by ∷ h.newer_by ∷ []) (older_by : l.older_by ≡ a.older_by ∷ b.older_by ∷ c.older_by ∷ d.older_by ∷ e.older_by ∷ f.older_by ∷ g.older_by ∷ h.older_by ∷ [])
    (newer : l.newer ≡ a.newer ∷ b.newer ∷ c.newer ∷ d.newer ∷ e.newer ∷ f.newer ∷ g.newer ∷ h.newer ∷ []) (older : l.older ≡ a.older ∷ b.older ∷ c.older ∷ d.older ∷ e.older ∷ f.older ∷ g.older ∷ h.older ∷ []) (delta : l.delta ≡ a.delta ∷ b.delta ∷ c.delta ∷ d.delta ∷ e.delta ∷ f.delta ∷ g.delta ∷ h.delta ∷ []) where
  at : {X : Type 0} (xs ys : List X) (k : ℕ) (d : X) → xs ≡ ys → get_or xs k d ≡ get_or ys k d
  at xs ys k d is = ap (λ zs. get_or zs k d) is

  pub first_lane : (xs : List ℤ) → lane_codes l 0 xs ≡ ms_codes_from a xs
  first_lane = stands_as l 0 a (at _ _ 0 (pos 0) newer_by) (at _ _ 0 (pos 0) older_by) (at _ _ 0 (pos 0) newer) (at _ _ 0 (pos 0) older) (at _ _ 0 (pos 0) delta)

  pub second_lane : (xs : List ℤ) → lane_codes l 1 xs ≡ ms_codes_from b xs
  second_lane = stands_as l 1 b (at _ _ 1 (pos 0) newer_by) (at _ _ 1 (pos 0) older_by) (at _ _ 1 (pos 0) newer) (at _ _ 1 (pos 0) older) (at _ _ 1 (pos 0) delta)

  pub third_lane : (xs : List ℤ) → lane_codes l 2 xs ≡ ms_codes_from c xs
  third_lane = stands_as l 2 c (at _ _ 2 (pos 0) newer_by) (at _ _ 2 (pos 0) older_by) (at _ _ 2 (pos 0) newer) (at _ _ 2 (pos 0) older) (at _ _ 2 (pos 0) delta)

  pub fourth_lane : (xs : List ℤ) → lane_codes l 3 xs ≡ ms_codes_from d xs
  fourth_lane = stands_as l 3 d (at _ _ 3 (pos 0) newer_by) (at _ _ 3 (pos 0) older_by) (at _ _ 3 (pos 0) newer) (at _ _ 3 (pos 0) older) (at _ _ 3 (pos 0) delta)

  pub fifth_lane : (xs : List ℤ) → lane_codes l 4 xs ≡ ms_codes_from e xs
  fifth_lane = stands_as l 4 e (at _ _ 4 (pos 0) newer_by) (at _ _ 4 (pos 0) older_by) (at _ _ 4 (pos 0) newer) (at _ _ 4 (pos 0) older) (at _ _ 4 (pos 0) delta)

  pub sixth_lane : (xs : List ℤ) → lane_codes l 5 xs ≡ ms_codes_from f xs
  sixth_lane = stands_as l 5 f (at _ _ 5 (pos 0) newer_by) (at _ _ 5 (pos 0) older_by) (at _ _ 5 (pos 0) newer) (at _ _ 5 (pos 0) older) (at _ _ 5 (pos 0) delta)

  pub seventh_lane : (xs : List ℤ) → lane_codes l 6 xs ≡ ms_codes_from g xs
  seventh_lane = stands_as l 6 g (at _ _ 6 (pos 0) newer_by) (at _ _ 6 (pos 0) older_by) (at _ _ 6 (pos 0) newer) (at _ _ 6 (pos 0) older) (at _ _ 6 (pos 0) delta)

  pub eighth_lane : (xs : List ℤ) → lane_codes l 7 xs ≡ ms_codes_from h xs
  eighth_lane = stands_as l 7 h (at _ _ 7 (pos 0) newer_by) (at _ _ 7 (pos 0) older_by) (at _ _ 7 (pos 0) newer) (at _ _ 7 (pos 0) older) (at _ _ 7 (pos 0) delta)

pub coded_begins : (samples : List ℤ) (l : Lanes) (left right : ℕ) (s t : MsState) (into : List ℕ) → ((xs : List ℤ) → lane_codes l left xs ≡ ms_codes_from s xs)
    → ((xs : List ℤ) → lane_codes l right xs ≡ ms_codes_from t xs) → take 14 into ++ ms_runs s t (drop 4 samples) ≡ ms_bytes 2 samples → length into ≡ length samples / 2 + 12
    → IsCoded 0 samples l left right into
coded_begins samples l left right s t into f g begun room = record {
  so_far = ap (λ (cs : List ℕ). take 14 into ++ bytes_high_half_first cs) (alternating-same _ _ _ _ (f (firsts (drop 4 samples))) (g (seconds (drop 4 samples)))) ∙ begun;
  room = room;
}

-- the bytes of four blocks, whose samples were cut off one by one
pub four_blocks : (n : ℕ) (xs a r b s c d : List ℤ) → length xs ≡ 4 * n → a ≡ take n xs → r ≡ drop n xs → b ≡ take n r → s ≡ drop n r → c ≡ take n s → d ≡ drop n s
    → ms_bytes 2 a ++ (ms_bytes 2 b ++ (ms_bytes 2 c ++ ms_bytes 2 d)) ≡ bytes_of_blocks (ms_rule 2) n 4 tt xs
four_blocks n xs a r b s c d size a_is r_is b_is s_is c_is d_is =
    let r_size : length r ≡ 3 * n = omega (arith, ap length r_is, length-drop n xs, size) in
    let s_size : length s ≡ 2 * n = omega (arith, ap length s_is, length-drop n r, r_size) in
    let last : d ≡ take n (drop n s) = d_is ∙ sym (take_all n (drop n s) (omega (arith, length-drop n s, s_size))) in
    let made : List ℕ → List ℕ = λ l. ms_bytes 2 (take n xs) ++ (ms_bytes 2 (take n (drop n xs)) ++ (ms_bytes 2 (take n (drop n (drop n xs))) ++ l)) in
    rw (a_is, b_is, c_is, last, s_is, r_is) (ap made (sym (append-nil (ms_bytes 2 (take n (drop n (drop n (drop n xs))))))))

pub four_sizes : (n : ℕ) (xs a r b s c d : List ℤ) → length xs ≡ 4 * n → a ≡ take n xs → r ≡ drop n xs → b ≡ take n r → s ≡ drop n r → c ≡ take n s → d ≡ drop n s
    → (length a ≡ n) × (length b ≡ n) × (length c ≡ n) × (length d ≡ n)
four_sizes n xs a r b s c d size a_is r_is b_is s_is c_is d_is =
    let r_size : length r ≡ 3 * n = omega (arith, ap length r_is, length-drop n xs, size) in
    let s_size : length s ≡ 2 * n = omega (arith, ap length s_is, length-drop n r, r_size) in (
      ap length a_is ∙ length-take-le n xs (omega (arith, size)),
      ap length b_is ∙ length-take-le n r (omega (arith, r_size)),
      ap length c_is ∙ length-take-le n s (omega (arith, s_size)),
      omega (arith, ap length d_is, length-drop n s, s_size),
    )

-- .. which are put over a list
pub four_put : (items one two three four a b c d : List ℕ) (n : ℕ) → length items ≡ 4 * n → length one ≡ n → length two ≡ n → length three ≡ n → length four ≡ n → one ≡ a → two ≡ b → three ≡ c → four ≡ d
    → refill (length items) items (one ++ (two ++ (three ++ four))) ≡ a ++ (b ++ (c ++ d))
four_put items one two three four a b c d n size m1 m2 m3 m4 p q r s =
    let whole : length (one ++ (two ++ (three ++ four))) ≡ length items =
    omega (arith, length-append one (two ++ (three ++ four)), length-append two (three ++ four), length-append three four, m1, m2, m3, m4, size) in
    written_over items (one ++ (two ++ (three ++ four))) whole ∙ rw (p, q, r, s) refl
