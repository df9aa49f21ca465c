-- What is known of a run after one step and then another.
use Rattle.std.proofs.Common.{◌≡◌, inl, inr, ℕ, List, [], ◌∷◌, ◌++◌, Bool, true, false, ◌||◌, Option, Some, Result, Ok, Err, take, refl, sym, ◌∙◌, ap, subst, append_assoc, arith}
use Rattle.std.proofs.lemmas.List.{append-nil, same_lists, places}
use Rattle.snd_command.specs.Line.{command_of}
use Rattle.snd_disk.specs.Streams.{AppendsFront}
use Rattle.snd_rules.specs.Desk.{Desk}
use Rattle.snd_rules.specs.Edit.{Edited, edit_line, line_edit}
use Rattle.snd_script.specs.Lines.{IsLine, most_kept}
use Rattle.snd_rules.specs.Replies.{text_of, is_refusal}
use Rattle.snd_rules.specs.Script.{any_refused, last_desk, lines_within, steps, texts}
use Rattle.snd_script.specs.Served.{Appends, AppendsPart, first_text, none_lost}
use Rattle.snd_script.specs.Serving.{Brings, BringsNone, IsServedOn, IsStopped, Moment, Serves, ServesPart, StopsLine, is_longer, steps_from, steps_left}
use Rattle.snd_script.specs.declared.stop.Stop.{Stop}
use Rattle.snd_script.specs.declared.stop.Stop.TheVariants.{Ended, TooLong, Script, Sink, File, Memory}
use Rattle.snd_script.proofs.WholeScript.{goes_on, said_by_kept}

pub brings : (room : ℕ) (s kept line : List ℕ) (room' : ℕ) (s' : List ℕ) → IsLine room s line room' s' → kept ≡ take most_kept line → Brings room s kept room' s'
brings room s kept line room' s' is keeps =
    let goes = goes_on room s line room' s' is in
    record { line = line; lines = goes.lines; too_long = goes.too_long; same = ap command_of keeps ∙ said_by_kept line }

-- ---- texts

pub appends_none : (before after : Option (List ℕ)) → after ≡ before → Appends before after []
appends_none before after same = λ t told. same ∙ told ∙ ap Some (sym (append-nil t))

pub appends_then : (before mid after : Option (List ℕ)) (text more : List ℕ) → Appends before mid text → Appends mid after more → Appends before after (text ++ more)
appends_then before mid after text more first second = λ t told. second (t ++ text) (first t told) ∙ ap Some (append_assoc t text more)

part_then : (before mid after : Option (List ℕ)) (text more front : List ℕ) → Appends before mid text → AppendsPart mid after more front → AppendsPart before after (text ++ more) front
part_then before mid after text more front first second = λ t told.
    let part = second (t ++ text) (first t told) in
    (part.0, part.1, part.2 ∙ ap (λ l. Some (l ++ take part.0 front)) (append_assoc t text more))

-- nothing was appended, or a front of a text
pub part_none : (before after : Option (List ℕ)) (front : List ℕ) → after ≡ before → AppendsPart before after [] front
part_none before after front same = λ t told. (0, omega arith, same ∙ told ∙ ap Some (sym (append-nil t) ∙ sym (append-nil (t ++ []))))

pub part_front : (before after : Option (List ℕ)) (front : List ℕ) → AppendsFront before after front → AppendsPart before after [] front
part_front before after front part = λ t told. let is = part t told in (is.0, is.1, is.2 ∙ ap (λ l. Some (l ++ take is.0 front)) (sym (append-nil t)))

-- all of it, and nothing of more
pub part_of_all : (before after : Option (List ℕ)) (text front : List ℕ) → Appends before after text → AppendsPart before after text front
part_of_all before after text front all = λ t told. (0, omega arith, all t told ∙ ap Some (sym (append-nil (t ++ text))))

pub all_of_part : (before after : Option (List ℕ)) (text : List ℕ) → AppendsPart before after text [] → Appends before after text
all_of_part before after text part = λ t told. let is = part t told in is.2 ∙ ap Some (take_none (t ++ text) is.0)
  where
    take_none : (text : List ℕ) (n : ℕ) → text ++ take n [] ≡ text
    take_none text n = same_lists _ _ (grind (arith, places)) (λ k d lt. grind (arith, places))

-- ---- steps that are taken

pub texts_append : (a b : List Edited) → texts (a ++ b) ≡ texts a ++ texts b
texts_append [] b = refl
texts_append (step ∷ a) b = ap (λ l. text_of step.answer ++ l) (texts_append a b) ∙ sym (append_assoc (text_of step.answer) (texts a) (texts b))

pub last_append : (desk : Desk) (a b : List Edited) → last_desk desk (a ++ b) ≡ last_desk (last_desk desk a) b
last_append desk [] b = refl
last_append desk (step ∷ a) b = last_append step.desk a b

or_assoc : (a b c : Bool) → (a || (b || c)) ≡ ((a || b) || c)
or_assoc true b c = refl
or_assoc false b c = refl

pub or_none : (b : Bool) → (b || false) ≡ b
or_none true = refl
or_none false = refl

pub refused_append : (a b : List Edited) → any_refused (a ++ b) ≡ (any_refused a || any_refused b)
refused_append [] b = refl
refused_append (step ∷ a) b = ap (λ x. is_refusal step.answer || x) (refused_append a b) ∙ or_assoc (is_refusal step.answer) (any_refused a) (any_refused b)

steps_append : (all mid left a b : List Edited) → all ≡ a ++ mid → mid ≡ b ++ left → all ≡ (a ++ b) ++ left
steps_append all mid left a b first second = first ∙ ap (λ l. a ++ l) second ∙ sym (append_assoc a b left)

last_then : (d d' d'' : Desk) (a b : List Edited) → last_desk d a ≡ d' → last_desk d' b ≡ d'' → last_desk d (a ++ b) ≡ d''
last_then d d' d'' a b first second = last_append d a b ∙ ap (λ x. last_desk x b) first ∙ second

pub serves_then : (all mid left : List Edited) (d d' d'' : Desk) (m m' m'' : Moment) → Serves all mid d d' m m' → Serves mid left d' d'' m' m'' → Serves all left d d'' m m''
serves_then all mid left d d' d'' m m' m'' first second = record {
  done = first.done ++ second.done;
  whole = steps_append all mid left first.done second.done first.whole second.whole;
  last = last_then d d' d'' first.done second.done first.last second.last;
  appended = subst (λ (l : List ℕ). Appends m.told m''.told l) (sym (texts_append first.done second.done))
      (appends_then m.told m'.told m''.told (texts first.done) (texts second.done) first.appended second.appended);
  noted = second.noted ∙ ap (λ b. b || any_refused second.done) first.noted ∙ sym (or_assoc m.refused (any_refused first.done) (any_refused second.done))
      ∙ ap (λ b. m.refused || b) (sym (refused_append first.done second.done));
}

pub serves_part_then : (all mid left : List Edited) (front : List ℕ) (d d' d'' : Desk) (m m' m'' : Moment) → Serves all mid d d' m m' → ServesPart mid left front d' d'' m' m'' → ServesPart all left front d d'' m m''
serves_part_then all mid left front d d' d'' m m' m'' first second = record {
  done = first.done ++ second.done;
  whole = steps_append all mid left first.done second.done first.whole second.whole;
  last = last_then d d' d'' first.done second.done first.last second.last;
  appended = subst (λ (l : List ℕ). AppendsPart m.told m''.told l front) (sym (texts_append first.done second.done))
      (part_then m.told m'.told m''.told (texts first.done) (texts second.done) front first.appended second.appended);
}

pub stopped_then : (stop : Stop) (too_long : Bool) (all mid : List Edited) (d d' : Desk) (m m' m'' : Moment) (stands : (List ℕ → Bool) → Desk → Type 0)
    → Serves all mid d d' m m' → IsStopped stop too_long mid d' m' m'' stands → IsStopped stop too_long all d m m'' stands
stopped_then Ended too_long all mid d d' m m' m'' stands first stops =
    (stops.0, (stops.1.0, serves_then all mid _ d d' stops.1.0 m m' m'' first stops.1.1, stops.1.2))
stopped_then TooLong too_long all mid d d' m m' m'' stands first stops =
    (stops.0, (stops.1.0, serves_then all mid _ d d' stops.1.0 m m' m'' first stops.1.1, stops.1.2))
stopped_then Script too_long all mid d d' m m' m'' stands first stops =
    (stops.0, stops.1, serves_part_then all mid stops.0 [] d d' stops.1 m m' m'' first stops.2, stops.3, stops.4)
stopped_then Sink too_long all mid d d' m m' m'' stands first stops =
    (stops.0, stops.1, stops.2, serves_part_then all mid (stops.0 ∷ stops.1) (text_of stops.0.answer) d d' stops.2 m m' m'' first stops.3, stops.4)
stopped_then File too_long all mid d d' m m' m'' stands first (inl stops) =
    inl (stops.0, stops.1, serves_part_then all mid stops.0 (first_text stops.0) d d' stops.1 m m' m'' first stops.2, stops.3)
stopped_then File too_long all mid d d' m m' m'' stands first (inr stops) =
    inr (stops.0, stops.1, stops.2, serves_part_then all mid (stops.0 ∷ stops.1) (text_of stops.0.answer) d d' stops.2 m m' m'' first stops.3, stops.4)
stopped_then Memory too_long all mid d d' m m' m'' stands first stops =
    (stops.0, stops.1, serves_part_then all mid stops.0 [] d d' stops.1 m m' m'' first stops.2, stops.3)

pub stopped_as : (stop : Stop) (longer longer' : Bool) (all : List Edited) (d : Desk) (m m' : Moment) (stands : (List ℕ → Bool) → Desk → Type 0)
    → longer ≡ longer' → IsStopped stop longer all d m m' stands → IsStopped stop longer' all d m m' stands
stopped_as stop longer longer' all d m m' stands is stops = subst (λ (b : Bool). IsStopped stop b all d m m' stands) is stops

pub served_on_then : {T : Type 0} (r : Result T Stop) (longer longer' : Bool) (all mid : List Edited) (d d' : Desk) (m m' m'' : Moment) (stands : (List ℕ → Bool) → Desk → Type 0)
    → longer ≡ longer' → Serves all mid d d' m m' → IsServedOn r longer mid d' m' m'' stands → IsServedOn r longer' all d m m'' stands
served_on_then (Ok x) longer longer' all mid d d' m m' m'' stands is first (store, s, left, serves, here, long) =
    (store, s, left, serves_then all mid _ d d' _ m m' m'' first serves, here, long ∙ is)
served_on_then (Err stop) longer longer' all mid d d' m m' m'' stands is first stops =
    stopped_as stop longer longer' all d m m'' stands is (stopped_then stop longer all mid d d' m m' m'' stands first stops)

-- ---- one line

-- nothing is done, and nothing appended
pub serves_none : (all : List Edited) (d : Desk) (m m' : Moment) → m'.refused ≡ m.refused → m'.told ≡ m.told → Serves all all d d m m'
serves_none all d m m' noted told = record {
  done = [];
  whole = refl;
  last = refl;
  appended = appends_none m.told m'.told told;
  noted = noted ∙ sym (or_none m.refused);
}

-- one step is taken, and answered
pub serves_one : (edited : Edited) (left : List Edited) (d : Desk) (m m' : Moment) → m'.refused ≡ (m.refused || is_refusal edited.answer) → Appends m.told m'.told (text_of edited.answer)
    → Serves (edited ∷ left) left d edited.desk m m'
serves_one edited left d m m' noted appended = record {
  done = edited ∷ [];
  whole = refl;
  last = refl;
  appended = subst (λ (l : List ℕ). Appends m.told m'.told l) (sym (append-nil (text_of edited.answer))) appended;
  noted = noted ∙ ap (λ b. m.refused || b) (sym (or_none (is_refusal edited.answer)));
}

-- a line came: the steps that were left are its step and those behind it
pub line_came : (d : Desk) (kept s s' : List ℕ) (m m' : Moment) → Brings m.room (m.rest ++ s) kept m'.room (m'.rest ++ s') → steps_left d m s ≡ steps_from (edit_line d kept) m' s'
line_came d kept s s' m m' comes = ap (steps d) comes.lines ∙ ap (λ c. steps_from (line_edit d c) m' s') (sym comes.same)

pub brought_then : (d : Desk) (kept s s' : List ℕ) (m m' : Moment) → Brings m.room (m.rest ++ s) kept m'.room (m'.rest ++ s') → m'.refused ≡ m.refused → m'.told ≡ m.told
    → Serves (steps_left d m s) (steps_from (edit_line d kept) m' s') d d m m'
brought_then d kept s s' m m' comes noted told =
    subst (λ (l : List Edited). Serves (steps_left d m s) l d d m m') (line_came d kept s s' m m' comes) (serves_none (steps_left d m s) d m m' noted told)

-- no line is left, or none came
pub none_left : (stop : Stop) (d : Desk) (s : List ℕ) (m m' : Moment) (stands : (List ℕ → Bool) → Desk → Type 0) → BringsNone stop m.room (m.rest ++ s) m'.left
    → m'.refused ≡ m.refused → m'.told ≡ m.told → stands none_lost d → IsStopped stop (is_longer m s) (steps_left d m s) d m m' stands
none_left Ended d s m m' stands none noted told here =
    (none.1, (d, subst (λ (l : List Edited). Serves (steps_left d m s) l d d m m') (ap (steps d) none.0) (serves_none (steps_left d m s) d m m' noted told), here))
none_left TooLong d s m m' stands none noted told here =
    (none.1, (d, subst (λ (l : List Edited). Serves (steps_left d m s) l d d m m') (ap (steps d) none.0) (serves_none (steps_left d m s) d m m' noted told), here))
none_left Script d s m m' stands (c, b, more, is, plain) noted told here = (
  steps_left d m s,
  d,
  record { done = []; whole = refl; last = refl; appended = part_none m.told m'.told [] told },
  (m.room, c, b, more, plain, ap (λ l. steps d (lines_within m.room l)) is),
  here,
)
none_left Sink d s m m' stands none noted told here = absurd none
none_left File d s m m' stands none noted told here = absurd none
none_left Memory d s m m' stands none noted told here = absurd none

-- a line stops the run
pub line_stops : (stop : Stop) (longer : Bool) (edited : Edited) (left : List Edited) (d : Desk) (m m' : Moment) (stands : (List ℕ → Bool) → Desk → Type 0)
    → StopsLine stop edited d m.told m'.told stands → IsStopped stop longer (edited ∷ left) d m m' stands
line_stops Ended longer edited left d m m' stands stops = absurd stops
line_stops TooLong longer edited left d m m' stands stops = absurd stops
line_stops Script longer edited left d m m' stands stops = absurd stops
line_stops Sink longer edited left d m m' stands stops =
    (edited, left, d, record { done = []; whole = refl; last = refl; appended = part_front m.told m'.told (text_of edited.answer) stops.0 }, stops.1)
line_stops File longer edited left d m m' stands stops =
    inl (edited ∷ left, d, record { done = []; whole = refl; last = refl; appended = part_none m.told m'.told (text_of edited.answer) stops.0 }, stops.1)
line_stops Memory longer edited left d m m' stands stops =
    (edited ∷ left, d, record { done = []; whole = refl; last = refl; appended = part_none m.told m'.told [] stops.0 }, stops.1)
