-- What the parts of a call give is what `replied` yields: the reader's answer, then the planner's, then the lines.
use Prim.Native.Nat.{ℕ, suc, ◌+◌, ◌*◌, ◌≤◌, ◌<◌}
use mathlib.Core.Path.{◌≡◌, refl, sym, ◌∙◌, subst}
use mathlib.Core.Bool.{Bool, true, false, cond}
use mathlib.Core.List.{List, [], ◌∷◌, ◌++◌}
use mathlib.Core.Option.{Option, none, some}
use native.Mathlib.Omega.{arith}
use lib.Dec.{eqb, leb}
use lib.ListN.{length, take, drop, length-append}
use lib.Seq.{length-take-le}
use borrow.Author.Tests.{eq-eqb, ne_eqb, eqb-true, eqb-false, leb-true, le-leb, lt-leb}
use Rattle.basics.specs.Lists.{at, Put}
use Rattle.labels.proofs.Heard.{heard_le}
use Rattle.refusals.specs.Refusals.{number_of, Lists, Rows, Form, Outcome}
use Rattle.table.specs.Tables.{Table}
use Rattle.table.specs.Planned.{checked, best_plan, Planned, given, planned, space_after}
use Rattle.refusals.proofs.Refusals.{Passed, number_below}
use Rattle.table.proofs.Checked.{checked_valid}
use Rattle.table.proofs.Rivals.{best_plan_iff, planned_passed, planned_refused}
use Rattle.basics.specs.Limits.{max_rows, has_places}
use Rattle.fleet_tape.specs.Form.{Fleet, fleet_of}
use Rattle.fleet_tape.specs.Reading.{Reading, reading, refused, taken, judged, fleet_read}
use Rattle.reply.specs.Lines.{heard_word, refused_word, word_line, row_line, row_lines, printed}
use Rattle.reply.specs.Replied.{tape_most, out_bytes, places, table_read, refused_with, read_answer, tape_answer, Replied, replying, replied_with, replied, InFront}
use Rattle.reply.specs.Room.{Answerable, FreshLists}
use Rattle.basics.proofs.Puts.{put_front}
use Rattle.reply.proofs.Putting.{word_length, row_length}

-- ---- the lines

pub printed_heard : (p : Planned) → number_of p.answer.refusal ≡ 0 → printed p ≡ word_line heard_word p.answer.count ++ row_lines 0 p.labels
unfolding printed
printed_heard p e = rw (eq-eqb (number_of p.answer.refusal) 0 e) refl

pub printed_refused : (p : Planned) → (number_of p.answer.refusal ≡ 0 → ⊥) → printed p ≡ word_line refused_word (number_of p.answer.refusal)
unfolding printed
printed_refused p n = rw (ne_eqb (number_of p.answer.refusal) 0 n) refl

-- six bytes a line at most
rows_length : (row : ℕ) (labels : List ℕ) → row + length labels ≤ max_rows → ((i : ℕ) → i < length labels → at labels i < 100) → length (row_lines row labels) ≤ 6 * length labels
unfolding row_lines
rows_length row [] h small = omega arith
rows_length row (x ∷ labels) h small =
    let r = rows_length (suc row) labels (omega arith) (λ i k. small (suc i) (omega arith)) in
    omega (arith, length-append (row_line row x) (row_lines (suc row) labels), row_length row x (omega arith) (small 0 (omega arith)))

-- no reply is longer than the output
printed_length : (p : Planned) (out : List ℕ) → Answerable p out → length (printed p) ≤ length out
printed_length p out a = go (eqb (number_of p.answer.refusal) 0) refl
  where
    go : (b : Bool) → eqb (number_of p.answer.refusal) 0 ≡ b → length (printed p) ≤ length out
    go true e =
        let z = eqb-true (number_of p.answer.refusal) 0 e in
        let l = a.labels z in
        rw (printed_heard p z) (omega (arith, length-append (word_line heard_word p.answer.count) (row_lines 0 p.labels), word_length heard_word p.answer.count (a.count z), rows_length 0 p.labels (omega (arith, l.few)) l.small, l.few, a.fits))
    go false e =
        rw (printed_refused p (eqb-false (number_of p.answer.refusal) 0 e))
        (omega (arith, word_length refused_word (number_of p.answer.refusal) (omega (arith, number_below p.answer.refusal)), a.fits))

-- ---- the planner's answer

-- a plan's labels and its count have one digit or two
module _ (t : Table) (before : List ℕ) (space : ℕ) (out : List ℕ) (room : out_bytes ≤ length out) where
  given_answerable : (o : Option (List ℕ)) → best_plan t ≡ o → Passed (checked t before space) → Answerable (given o before) out
  unfolding given
  given_answerable none e p = record { count = λ z. absurd (omega arith); labels = λ z. absurd (omega arith); fits = room }
  given_answerable (some plan) e p =
      let v = (checked_valid t before space p).0 in
      let m = ((best_plan_iff t v plan).0 e).member in
      let few : length plan ≤ max_rows = omega (arith, m.each, v.few) in
      record {
        count = λ z. omega (arith, heard_le plan);
        labels = λ z. record { few = few; small = λ i h. omega (arith, (m.allowed i (omega (arith, m.each))).known) };
        fits = room;
      }

  -- what the planner answers has room
  pub planned_answerable : Answerable (planned t before space) out
  planned_answerable = go (eqb (number_of (checked t before space)) 0) refl
    where
      go : (b : Bool) → eqb (number_of (checked t before space)) 0 ≡ b → Answerable (planned t before space) out
      go true e =
          let p = eqb-true (number_of (checked t before space)) 0 e in
          rw (planned_passed t before space p) (given_answerable (best_plan t) refl p)
      go false e =
          let n = eqb-false (number_of (checked t before space)) 0 e in
          rw (planned_refused t before space n) (record { count = λ z. absurd (n z); labels = λ z. absurd (n z); fits = room })

-- ---- the reply

abbrev replying_same : {r r' : ℕ} {o o' s s' : List ℕ} → r ≡ r' → o ≡ o' → s ≡ s' → replying r o s ≡ replying r' o' s'
replying_same p q e = λ i. replying (p i) (q i) (e i)

-- the lines of an answer are put, and the working space is what its refusal leaves
pub answer_replied : (p : Planned) (space : List ℕ) {out after space' : List ℕ} {r : ℕ} → Answerable p out → Put out 0 (printed p) after r → space' ≡ space_after p.answer.refusal space
    → replying r after space' ≡ replied_with p out space
unfolding replied_with
answer_replied p space {out} a e s =
    let f = put_front e (printed_length p out a) in
    replying_same f.0 f.1 s

-- a refusal leaves the working space as it was: any but 8
space_kept : (refusal : Outcome) (space : List ℕ) → (number_of refusal ≡ 0 → ⊥) → (number_of refusal ≡ 8 → ⊥) → space ≡ space_after refusal space
unfolding space_after
space_kept refusal space n m = rw (ne_eqb (number_of refusal) 0 n, ne_eqb (number_of refusal) 8 m) refl

pub refusal_replied : (refusal : Outcome) (space : List ℕ) {out after : List ℕ} {r : ℕ} → (number_of refusal ≡ 0 → ⊥) → (number_of refusal ≡ 8 → ⊥) → out_bytes ≤ length out
    → Put out 0 (word_line refused_word (number_of refusal)) after r → replying r after space ≡ replied_with (refused_with refusal) out space
refusal_replied refusal space n m h e =
    answer_replied (refused_with refusal) space (record { count = λ z. absurd (n z); labels = λ z. absurd (n z); fits = h })
    (rw (printed_refused (refused_with refusal) n) e) (space_kept refusal space n m)

-- ---- the reader's answer

-- the reader never refuses by 8, and what it accepts has at most 64 rows
record Sound (r : Reading) : Type 0 where
  not_8 : number_of r.report.refusal ≡ 8 → ⊥
  few : r.report.rows ≤ max_rows

pub places_length : length places ≡ max_rows
unfolding places
places_length = refl

-- the lists as they are first lent
pub fresh : {out : List ℕ} → out_bytes ≤ length out → FreshLists places places places places out
fresh h = record { starts_are = refl; ends_are = refl; marks_are = refl; labels_are = refl; fits = h }

-- why the lists have places for the rows
pub ruleset room_for_rows = (places_length, length-take-le)

module _ (tape : List ℕ) where
  judged_sound : (o : Option Fleet) → Sound (judged o places places places)
  unfolding judged taken
  judged_sound none = record { not_8 = λ e. omega arith; few = omega arith }
  judged_sound (some f) = go (leb (length f.rows) max_rows) refl
    where
      go : (b : Bool) → leb (length f.rows) max_rows ≡ b → Sound (cond b (taken f places places places) (reading (refused Rows) places places places))
      go true e = record { not_8 = λ z. omega arith; few = leb-true (length f.rows) max_rows e }
      go false e = record { not_8 = λ z. omega arith; few = omega arith }

  read_sound : Sound (fleet_read tape places places places)
  unfolding fleet_read
  read_sound = go (has_places (length places) (length places) (length places))
    where
      go : (b : Bool) → Sound (cond b (judged (fleet_of tape) places places places) (reading (refused Lists) places places places))
      go true = judged_sound (fleet_of tape)
      go false = record { not_8 = λ e. omega arith; few = omega arith }

  module _ {starts ends marks labels out : List ℕ} (l : FreshLists starts ends marks labels out) {r : Reading} (e : r ≡ fleet_read tape starts ends marks) where
    -- the lists as they are lent
    read_places : r ≡ fleet_read tape places places places
    read_places = e ∙ (λ i. fleet_read tape (l.starts_are i) (l.ends_are i) (l.marks_are i))

    sound : Sound r
    sound = rw read_places read_sound

    -- the rows fit lists of 64 places
    pub rows_few : r.report.rows ≤ max_rows
    rows_few = sound.few

    -- the reader refuses
    pub reader_refused : (space : List ℕ) → (number_of r.report.refusal ≡ 0 → ⊥)
        → {after : List ℕ} {n : ℕ} → Put out 0 (word_line refused_word (number_of r.report.refusal)) after n
        → replying n after space ≡ replied_with (read_answer (fleet_read tape places places places) (length space)) out space
    unfolding read_answer
    reader_refused space n p =
        refusal_replied r.report.refusal space n sound.not_8 l.fits p
        ∙ sym (rw (← read_places, ne_eqb (number_of r.report.refusal) 0 n) refl)

    -- the reader accepts
    pub reader_accepted : (space : List ℕ) → number_of r.report.refusal ≡ 0
        → replied_with (planned (table_read r) (take r.report.rows labels) (length space)) out space
        ≡ replied_with (read_answer (fleet_read tape places places places) (length space)) out space
    unfolding read_answer
    reader_accepted space z = rw l.labels_are (sym (rw (← read_places, eq-eqb (number_of r.report.refusal) 0 z) refl))

-- ---- the whole call

module _ (tape out space : List ℕ) where
  pub out_short : length out < out_bytes → replying 0 out space ≡ replied tape out space
  unfolding replied
  out_short h = sym (rw (lt-leb out_bytes (length out) h) refl)

  pub tape_long : out_bytes ≤ length out → tape_most < length tape → replied_with (refused_with Form) out space ≡ replied tape out space
  unfolding replied tape_answer
  tape_long h k = sym (rw (le-leb out_bytes (length out) h, lt-leb (length tape) tape_most k) refl)

  pub tape_read : out_bytes ≤ length out → length tape ≤ tape_most → replied_with (read_answer (fleet_read tape places places places) (length space)) out space ≡ replied tape out space
  unfolding replied tape_answer
  tape_read h k = sym (rw (le-leb out_bytes (length out) h, le-leb (length tape) tape_most k) refl)

  -- the length returned lies within the output
  pub replied_within : {r : ℕ} {after space' : List ℕ} → replying r after space' ≡ replied tape out space → InFront r after
  unfolding replied replied_with
  replied_within {r} {after} e = (h, sym (length-take-le r after h))
    where
      answer : Planned
      answer = tape_answer tape (length space)

      go : (b : Bool) → (cond b (replied_with answer out space) (replying 0 out space)).written ≤ length (cond b (replied_with answer out space) (replying 0 out space)).out
      go true = omega (arith, length-append (printed answer) (drop (length (printed answer)) out))
      go false = omega arith

      h : r ≤ length after
      h = subst (λ (x : Replied). x.written ≤ length x.out) (sym e) (go (leb out_bytes (length out)))
