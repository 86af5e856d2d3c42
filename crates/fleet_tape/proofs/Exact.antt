-- The theorems about the reader: it takes exactly the fleet tapes with at most 64 rows and gives back what they state;
-- a fleet tape with more rows it refuses by 2, and any other bytes by 11.
use Prim.Native.Nat.{ℕ, ◌≤◌, ◌<◌}
use mathlib.Core.Path.{◌≡◌, refl, ap, ◌∙◌, sym}
use mathlib.Core.Logic.{⊎_elim}
use mathlib.Core.Bool.{Bool, true, false, cond}
use mathlib.Core.List.{List, [], ◌∷◌, map}
use mathlib.Core.Option.{Option, none, some}
use native.Mathlib.Omega.{arith}
use borrow.Author.Tests.{le-leb, lt-leb, leb-true, eq-eqb}
use lib.Dec.{leb}
use lib.ListN.{length, take, drop, length-map}
use lib.Seq.{take_at}
use Rattle.std.proofs.lemmas.Bool.{cases_lt}
use Rattle.basics.specs.Limits.{max_rows, Places, has_places}
use Rattle.fleet_tape.specs.Reads.{IsFleetTape, rows_given, Stated, ReadsFleetTape}
use Rattle.window.specs.declared.Kind.{Kind}
use Rattle.refusals.specs.Refusals.{Outcome, Accepted, Lists, Rows, Form, number_of}
use Rattle.window.specs.declared.Row.{Row}
use Rattle.tape.specs.Words.{Bytes}
use Rattle.fleet_tape.specs.Fleet.{fleet_tape, Fits, rows_of_lists, first_rows}
use Rattle.window.specs.Rows.{starts_of, ends_of, marks_of}
use Rattle.fleet_tape.specs.Form.{Fleet, fleet, hours_in, fleet_of}
use Rattle.fleet_tape.specs.Reading.{Reading, reading, refused, taken, judged, fleet_read}
use Rattle.basics.specs.Lists.{front}
use Rattle.fleet_tape.proofs.Parsed.{fleet_back, FleetStands, FleetKnown, fleet_known}

-- ---- a tape of the form

module _ {starts ends marks : List ℕ} (p : Places starts ends marks) where
  placed : (tape : List ℕ) (o : Option Fleet) → fleet_of tape ≡ o → fleet_read tape starts ends marks ≡ judged o starts ends marks
  unfolding fleet_read
  placed tape o e = rw (eq-eqb _ _ p.starts_64, eq-eqb _ _ p.ends_64, eq-eqb _ _ p.marks_64, e)

  module _ (kind : Kind) (R : ℕ) (hours : List (List ℕ)) (rows : List Row) (f : Fits R hours rows) where
    -- A fleet tape with at most 64 rows is accepted, and what it states is given back.
    pub gives_back : length rows ≤ max_rows → fleet_read (fleet_tape kind R hours rows) starts ends marks ≡ taken (fleet kind R (hours_in kind hours) rows) starts ends marks
    unfolding judged taken
    gives_back h = placed (fleet_tape kind R hours rows) _ (fleet_back kind R hours rows f) ∙ rw (le-leb (length rows) max_rows h)

    -- A fleet tape with more than 64 rows is refused by 2.
    pub too_many : max_rows < length rows → fleet_read (fleet_tape kind R hours rows) starts ends marks ≡ reading (refused Rows) starts ends marks
    unfolding judged taken
    too_many h = placed (fleet_tape kind R hours rows) _ (fleet_back kind R hours rows f) ∙ rw (lt-leb (length rows) max_rows h)

  -- Bytes that are no fleet tape are refused by 11.
  pub not_of_form : (tape : List ℕ) → Bytes tape
      → ((kind : Kind) (R : ℕ) (hours : List (List ℕ)) (rows : List Row) → Fits R hours rows → tape ≡ fleet_tape kind R hours rows → ⊥)
      → fleet_read tape starts ends marks ≡ reading (refused Form) starts ends marks
  unfolding judged
  not_of_form tape b n = go (fleet_of tape) (fleet_known tape b) refl
    where
      go : (o : Option Fleet) → FleetKnown tape o → fleet_of tape ≡ o → fleet_read tape starts ends marks ≡ reading (refused Form) starts ends marks
      go none r e = placed tape none e
      go (some f) r e = absurd (n f.kind f.ticks f.hours f.rows r.fit r.bytes)

-- ---- an accepted tape

rows_again : (rows : List Row) → rows_of_lists (starts_of rows) (ends_of rows) (marks_of rows) ≡ rows
rows_again [] = refl
rows_again (row ∷ rows) = ap (λ (r : List Row). row ∷ r) (rows_again rows)

taken_front : (f : Row → ℕ) (rows : List Row) (before : List ℕ) → take (length rows) (front (map f rows) before) ≡ map f rows
taken_front f rows before = take_at (map f rows) (drop (length (map f rows)) before) (length rows) (length-map rows f)

first_rows_front : (rows : List Row) (starts ends marks : List ℕ)
    → first_rows (length rows) (front (starts_of rows) starts) (front (ends_of rows) ends) (front (marks_of rows) marks) ≡ rows
first_rows_front rows starts ends marks =
    rw (taken_front (λ row. row.start) rows starts, taken_front (λ row. row.end) rows ends, taken_front (λ row. row.mark) rows marks) (rows_again rows)

-- what is known of the answer once it is an acceptance
abbrev IfAccepted : List ℕ → Reading → Type 0
IfAccepted tape out = out.report.refusal ≡ Accepted → Stated tape out

module _ (tape starts ends marks : List ℕ) (b : Bytes tape) where
  taken_stated : (f : Fleet) → FleetStands tape f → length f.rows ≤ max_rows → Stated tape (taken f starts ends marks)
  unfolding taken
  taken_stated f r h =
      let e = first_rows_front f.rows starts ends marks in
      record {
        tape_is = rw e r.bytes;
        fits = rw e r.fit;
        counted = ap length e;
        few = h;
      }

  few_stated : (f : Fleet) → FleetStands tape f → (t : Bool) → leb (length f.rows) max_rows ≡ t → IfAccepted tape (cond t (taken f starts ends marks) (reading (refused Rows) starts ends marks))
  few_stated f r true e a = taken_stated f r (leb-true (length f.rows) max_rows e)
  few_stated f r false e a = let z : ◌≡◌ {A = ℕ} 2 0 = ap number_of a in absurd (omega arith)

  judged_stated : (o : Option Fleet) → FleetKnown tape o → IfAccepted tape (judged o starts ends marks)
  unfolding judged
  judged_stated none r a = let z : ◌≡◌ {A = ℕ} 11 0 = ap number_of a in absurd (omega arith)
  judged_stated (some f) r a = few_stated f r (leb (length f.rows) max_rows) refl a

  placed_stated : (t : Bool) → IfAccepted tape (cond t (judged (fleet_of tape) starts ends marks) (reading (refused Lists) starts ends marks))
  placed_stated true a = judged_stated (fleet_of tape) (fleet_known tape b) a
  placed_stated false a = let z : ◌≡◌ {A = ℕ} 1 0 = ap number_of a in absurd (omega arith)

  -- A tape that is accepted is the fleet tape of what was reported and filled in.
  pub accepted_only : (fleet_read tape starts ends marks).report.refusal ≡ Accepted → Stated tape (fleet_read tape starts ends marks)
  unfolding fleet_read
  accepted_only = placed_stated (has_places (length starts) (length ends) (length marks))

-- ---- what the reader promises

module _ (tape : List ℕ) {starts ends marks : List ℕ} (b : Bytes tape) (p : Places starts ends marks) where
  abbrev out : Reading
  out = fleet_read tape starts ends marks

  few_accepted : (n : ℕ) → n ≤ max_rows → IsFleetTape tape n → out.report.refusal ≡ Accepted
  unfolding taken
  few_accepted n h t =
      ap (λ (l : List ℕ). (fleet_read l starts ends marks).report.refusal) t.tape_is
      ∙ ap (λ (r : Reading). r.report.refusal) (gives_back p t.kind t.ticks t.hours t.rows t.fits (omega (arith, t.each)))

  many_refused : (n : ℕ) → max_rows < n → IsFleetTape tape n → out.report.refusal ≡ Rows
  many_refused n h t =
      ap (λ (l : List ℕ). (fleet_read l starts ends marks).report.refusal) t.tape_is
      ∙ ap (λ (r : Reading). r.report.refusal) (too_many p t.kind t.ticks t.hours t.rows t.fits (omega (arith, t.each)))

  -- two refusals with different numbers are not one
  differ : {r s : Outcome} → out.report.refusal ≡ r → out.report.refusal ≡ s → number_of r ≡ number_of s
  differ e f = ap number_of (sym e ∙ f)

  stated_tape : Stated tape out → (n : ℕ) × (n ≤ max_rows) × IsFleetTape tape n
  stated_tape s = (
    out.report.rows,
    s.few,
    record {
      kind = out.report.kind;
      ticks = out.report.ticks;
      hours = out.report.hours;
      rows = rows_given out;
      fits = s.fits;
      each = s.counted;
      tape_is = s.tape_is;
    },
  )

  -- a call that is refused by 2 read a fleet tape with more rows
  many_tape : out.report.refusal ≡ Rows → (n : ℕ) × (max_rows < n) × IsFleetTape tape n
  unfolding judged taken
  many_tape e = go (fleet_of tape) (fleet_known tape b) refl
    where
      go : (o : Option Fleet) → FleetKnown tape o → fleet_of tape ≡ o → (n : ℕ) × (max_rows < n) × IsFleetTape tape n
      go none r q = let z = differ e (ap (λ (x : Reading). x.report.refusal) (placed p tape none q)) in absurd (omega arith)
      go (some f) r q =
          let t : IsFleetTape tape (length f.rows) = record { kind = f.kind; ticks = f.ticks; hours = f.hours; rows = f.rows; fits = r.fit; each = refl; tape_is = r.bytes } in
          ⊎_elim
          (λ h. (length f.rows, h, t))
          (λ h. let z = differ e (few_accepted (length f.rows) h t) in absurd (omega arith))
          (cases_lt max_rows (length f.rows))

  pub reads_fleet_tape : ReadsFleetTape tape (fleet_read tape starts ends marks)
  reads_fleet_tape =
      record {
        takes = (λ e. stated_tape (accepted_only tape starts ends marks b e), λ t. few_accepted t.0 t.1 t.2);
        states = accepted_only tape starts ends marks b;
        form = (no_tape, λ f. ap (λ (r : Reading). r.report.refusal) (not_of_form p tape b (λ kind R hours rows fit e. f (length rows) (record { kind = kind; ticks = R; hours = hours; rows = rows; fits = fit; each = refl; tape_is = e }))));
        many = (many_tape, λ t. many_refused t.0 t.1 t.2);
      }
    where
      no_tape : out.report.refusal ≡ Form → (n : ℕ) → IsFleetTape tape n → ⊥
      no_tape e n t =
          ⊎_elim
          (λ h. let z = differ e (many_refused n h t) in omega arith)
          (λ h. let z = differ e (few_accepted n h t) in omega arith)
          (cases_lt max_rows n)

-- the promise, of what the reader gives
pub read_said : {tape starts ends marks : List ℕ} {r : Reading} → Bytes tape → fleet_read tape starts ends marks ≡ r → Places starts ends marks → ReadsFleetTape tape r
read_said {tape} b e p = rw e at (reads_fleet_tape tape b p)

-- ---- whatever meets the promise answers as the reader does, and reports and fills in what the tape states

pub only_answer : (tape : List ℕ) {starts ends marks : List ℕ} → Bytes tape → Places starts ends marks → (out : Reading) → ReadsFleetTape tape out
    → (out.report.refusal ≡ (fleet_read tape starts ends marks).report.refusal)
    × (out.report.refusal ≡ Accepted
    → (fleet_of tape ≡ some (fleet out.report.kind out.report.ticks (hours_in out.report.kind out.report.hours) (rows_given out)))
    × (length (rows_given out) ≡ out.report.rows)
    × (out.report.rows ≤ max_rows))
unfolding judged taken
only_answer tape {starts} {ends} {marks} b p out d = (go (fleet_of tape) (fleet_known tape b) refl, stated)
  where
    right : ReadsFleetTape tape (fleet_read tape starts ends marks)
    right = reads_fleet_tape tape b p

    go : (o : Option Fleet) → FleetKnown tape o → fleet_of tape ≡ o → out.report.refusal ≡ (fleet_read tape starts ends marks).report.refusal
    go none r q =
        let e : (fleet_read tape starts ends marks).report.refusal ≡ Form = ap (λ (x : Reading). x.report.refusal) (placed p tape none q) in
        d.form.1 (right.form.0 e) ∙ sym e
    go (some f) r q =
        let t : IsFleetTape tape (length f.rows) = record { kind = f.kind; ticks = f.ticks; hours = f.hours; rows = f.rows; fits = r.fit; each = refl; tape_is = r.bytes } in
        ⊎_elim
        (λ h. d.many.1 (length f.rows, h, t) ∙ sym (many_refused tape b p (length f.rows) h t))
        (λ h. d.takes.1 (length f.rows, h, t) ∙ sym (few_accepted tape b p (length f.rows) h t))
        (cases_lt max_rows (length f.rows))

    stated : out.report.refusal ≡ Accepted
        → (fleet_of tape ≡ some (fleet out.report.kind out.report.ticks (hours_in out.report.kind out.report.hours) (rows_given out)))
        × (length (rows_given out) ≡ out.report.rows)
        × (out.report.rows ≤ max_rows)
    stated e =
        let s = d.states e in
        (ap fleet_of s.tape_is ∙ fleet_back out.report.kind out.report.ticks out.report.hours (rows_given out) s.fits, s.counted, s.few)
