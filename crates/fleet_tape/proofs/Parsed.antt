-- The form that is read from bytes is the fleet tape: `fleet_of` of a fleet tape gives back what the tape states, and a
-- tape of which `fleet_of` gives something is the fleet tape of it.
use Prim.Native.Nat.{ℕ, suc, ◌≤◌, ◌<◌}
use mathlib.Core.Path.{◌≡◌, refl, ap, ◌∙◌}
use mathlib.Core.Bool.{Bool, true, false, cond, ◌&&◌, and-false}
use mathlib.Core.List.{List, [], ◌∷◌, ◌++◌}
use mathlib.Core.Option.{Option, none, some}
use native.Mathlib.Omega.{arith}
use lib.Dec.{eqb}
use lib.ListN.{get_or, drop}
use Rattle.std.proofs.lemmas.Bool.Decides.{Decides-eqb}
use Rattle.basics.proofs.Tests.{and_iff}
use Rattle.window.specs.declared.Kind.{Kind}
use Rattle.window.specs.declared.Kind.TheVariants.{Round, Run}
use Rattle.tape.specs.Commands.{ROUND, RUN, HOURS, STOP, operand_bytes, begins}
use Rattle.tape.specs.Words.{joined, high_byte, low_byte, word_at, Bytes}
use Rattle.tape.proofs.Joined.{joined_word, high_joined, low_joined, joined_16}
use Rattle.tape.proofs.Heads.{begins_iff, bytes_drop, spread}
use Rattle.window.specs.declared.Row.{Row}
use Rattle.fleet_tape.specs.Fleet.{row_command, rows_tape, hours_tape, fleet_tape, RowsFit, HoursFit, Fits}
use Rattle.window.specs.Hours.{hours_from, no_hours}
use Rattle.fleet_tape.specs.Form.{is_row, mark_of, put, rows_in, Fleet, fleet, stated, hours_of, hours_in, fleet_of}
use Rattle.fleet_tape.proofs.Marks.{marked, mark_back}

-- ---- from what is stated to the tape and back

row_back : (row : Row) (o : Option (List Row)) → row.mark ≤ 5
    → cond (is_row (row_command row.mark)) (put (record { start = joined (high_byte row.start) (low_byte row.start); end = joined (high_byte row.end) (low_byte row.end); mark = mark_of (row_command row.mark) }) o) none ≡ put row o
row_back row o h =
    let m = mark_back row.mark (omega arith) in
    rw (m.0, m.1, joined_word row.start, joined_word row.end)

rows_back : (rows : List Row) → RowsFit rows → rows_in (rows_tape rows ++ (STOP ∷ [])) ≡ some rows
unfolding rows_in rows_tape
rows_back [] f = refl
rows_back (row ∷ rows) f = row_back row (rows_in (rows_tape rows ++ (STOP ∷ []))) f.0.mark_5 ∙ ap (put row) (rows_back rows f.1)

not_round : (s : List ℕ) → get_or s 0 0 ≡ RUN → begins ROUND s ≡ false
unfolding begins
not_round s e = rw (e, and-false)

module _ (R : ℕ) (rows : List Row) (f : RowsFit rows) where
  run_back : (p1 q1 p2 q2 : ℕ) → fleet_of (fleet_tape Run R (hours_from p1 q1 p2 q2) rows) ≡ some (fleet Run R (hours_from p1 q1 p2 q2) rows)
  unfolding fleet_of fleet_tape operand_bytes
  run_back p1 q1 p2 q2 =
      let s = fleet_tape Run R (hours_from p1 q1 p2 q2) rows in
      rw (not_round s refl, (begins_iff RUN s).1 (omega arith, refl), (begins_iff HOURS (drop 3 s)).1 (omega arith, refl)) (rw (joined_word R, joined_word p1, joined_word q1, joined_word p2, joined_word q2, rows_back rows f))

  round_back : (hours : List (List ℕ)) → fleet_of (fleet_tape Round R hours rows) ≡ some (fleet Round R no_hours rows)
  unfolding fleet_of fleet_tape operand_bytes
  round_back hours = rw ((begins_iff ROUND (fleet_tape Round R hours rows)).1 (omega arith, refl), joined_word R, rows_back rows f)

pub fleet_back : (kind : Kind) (R : ℕ) (hours : List (List ℕ)) (rows : List Row) → Fits R hours rows → fleet_of (fleet_tape kind R hours rows) ≡ some (fleet kind R (hours_in kind hours) rows)
fleet_back Round R hours rows f = round_back R rows f.rows_fit hours
fleet_back Run R hours rows f = let h = f.hours_fit in rw h.pairs (run_back R rows f.rows_fit h.p1 h.q1 h.p2 h.q2)

-- ---- from the tape to what it states and back

-- what is known of bytes of which rows were read
pub record RowsStand (s : List ℕ) (rows : List Row) : Type 0 where
  pub bytes : s ≡ rows_tape rows ++ (STOP ∷ [])
  pub fit : RowsFit rows

abbrev RowsKnown : List ℕ → Option (List Row) → Type 0
RowsKnown s none = Unit {0}
RowsKnown s (some rows) = RowsStand s rows

module _ (x a b c d : ℕ) (rest : List ℕ) (h : Bytes (x ∷ a ∷ b ∷ c ∷ d ∷ rest)) where
  abbrev row : Row
  row = record { start = joined a b; end = joined c d; mark = mark_of x }

  one_row : (t : Bool) → is_row x ≡ t → (o : Option (List Row)) → RowsKnown rest o → RowsKnown (x ∷ a ∷ b ∷ c ∷ d ∷ rest) (cond t (put row o) none)
  unfolding rows_tape
  one_row true e none r = tt
  one_row true e (some rows) r =
      let m = marked x e in
      record {
        bytes = λ i. m.command i ∷ high_joined a b (h 2) i ∷ low_joined a b (h 2) i ∷ high_joined c d (h 4) i ∷ low_joined c d (h 4) i ∷ r.bytes i;
        fit = (record { start_16 = joined_16 a b (h 1) (h 2); end_16 = joined_16 c d (h 3) (h 4); mark_5 = m.small }, r.fit);
      }
  one_row false e o r = tt

last_byte : (x : ℕ) (t : Bool) → eqb x STOP ≡ t → RowsKnown (x ∷ []) (cond t (some []) none)
unfolding rows_tape
last_byte x true e = record { bytes = ap (λ (b : ℕ). b ∷ []) ((Decides-eqb x STOP).0 e); fit = tt }
last_byte x false e = tt

rows_known : (s : List ℕ) → Bytes s → RowsKnown s (rows_in s)
unfolding rows_in
rows_known [] h = tt
rows_known (x ∷ []) h = last_byte x (eqb x STOP) refl
rows_known (x ∷ a ∷ []) h = tt
rows_known (x ∷ a ∷ b ∷ []) h = tt
rows_known (x ∷ a ∷ b ∷ c ∷ []) h = tt
rows_known (x ∷ a ∷ b ∷ c ∷ d ∷ rest) h = one_row x a b c d rest h (is_row x) refl (rows_in rest) (rows_known rest (λ i. h (suc (suc (suc (suc (suc i)))))))

-- what is known of a tape of which something was read
pub record FleetStands (s : List ℕ) (f : Fleet) : Type 0 where
  pub bytes : s ≡ fleet_tape f.kind f.ticks f.hours f.rows
  pub fit : Fits f.ticks f.hours f.rows

abbrev pub FleetKnown : List ℕ → Option Fleet → Type 0
FleetKnown s none = Unit {0}
FleetKnown s (some f) = FleetStands s f

hours_bytes : (t : List ℕ) → Bytes t → begins HOURS t ≡ true → (u : List ℕ) → drop 9 t ≡ u → t ≡ hours_tape (hours_of t) ++ u
unfolding operand_bytes
hours_bytes t g e u r =
    let b = (begins_iff HOURS t).0 e in
    spread t 0 9 b.0
    ∙ (λ i. b.1 i ∷ high_joined (get_or t 1 0) (get_or t 2 0) (g 2) i ∷ low_joined (get_or t 1 0) (get_or t 2 0) (g 2) i ∷ high_joined (get_or t 3 0) (get_or t 4 0) (g 4) i ∷ low_joined (get_or t 3 0) (get_or t 4 0) (g 4) i ∷ high_joined (get_or t 5 0) (get_or t 6 0) (g 6) i ∷ low_joined (get_or t 5 0) (get_or t 6 0) (g 6) i ∷ high_joined (get_or t 7 0) (get_or t 8 0) (g 8) i ∷ low_joined (get_or t 7 0) (get_or t 8 0) (g 8) i ∷ r i)

hours_fits : (t : List ℕ) → Bytes t → HoursFit (hours_of t)
hours_fits t g =
    record {
      p1 = word_at t 1;
      q1 = word_at t 3;
      p2 = word_at t 5;
      q2 = word_at t 7;
      pairs = refl;
      p1_16 = joined_16 (get_or t 1 0) (get_or t 2 0) (g 1) (g 2);
      q1_16 = joined_16 (get_or t 3 0) (get_or t 4 0) (g 3) (g 4);
      p2_16 = joined_16 (get_or t 5 0) (get_or t 6 0) (g 5) (g 6);
      q2_16 = joined_16 (get_or t 7 0) (get_or t 8 0) (g 7) (g 8);
    }

module _ (s : List ℕ) (h : Bytes s) where
  ticks_16 : word_at s 1 < 65536
  ticks_16 = joined_16 (get_or s 1 0) (get_or s 2 0) (h 1) (h 2)

  round_known : begins ROUND s ≡ true → (o : Option (List Row)) → RowsKnown (drop 3 s) o → FleetKnown s (stated Round (word_at s 1) no_hours o)
  unfolding fleet_tape operand_bytes
  round_known e none r = tt
  round_known e (some rows) r =
      let b = (begins_iff ROUND s).0 e in
      record {
        bytes = spread s 0 3 b.0 ∙ (λ i. b.1 i ∷ high_joined (get_or s 1 0) (get_or s 2 0) (h 2) i ∷ low_joined (get_or s 1 0) (get_or s 2 0) (h 2) i ∷ r.bytes i);
        fit = record {
          ticks_16 = ticks_16;
          hours_fit = record { p1 = 0; q1 = 0; p2 = 0; q2 = 0; pairs = refl; p1_16 = omega arith; q1_16 = omega arith; p2_16 = omega arith; q2_16 = omega arith };
          rows_fit = r.fit;
        };
      }

  run_known : begins RUN s ≡ true → begins HOURS (drop 3 s) ≡ true → (o : Option (List Row)) → RowsKnown (drop 9 (drop 3 s)) o → FleetKnown s (stated Run (word_at s 1) (hours_of (drop 3 s)) o)
  unfolding fleet_tape operand_bytes
  run_known e g none r = tt
  run_known e g (some rows) r =
      let b = (begins_iff RUN s).0 e in
      let t = hours_bytes (drop 3 s) (bytes_drop 3 s h) g (rows_tape rows ++ (STOP ∷ [])) r.bytes in
      record {
        bytes = spread s 0 3 b.0 ∙ (λ i. b.1 i ∷ high_joined (get_or s 1 0) (get_or s 2 0) (h 2) i ∷ low_joined (get_or s 1 0) (get_or s 2 0) (h 2) i ∷ t i);
        fit = record { ticks_16 = ticks_16; hours_fit = hours_fits (drop 3 s) (bytes_drop 3 s h); rows_fit = r.fit };
      }

  head_known : (t : Bool) → begins ROUND s ≡ t → (u : Bool) → (begins RUN s && begins HOURS (drop 3 s)) ≡ u
      → FleetKnown s (cond t (stated Round (word_at s 1) no_hours (rows_in (drop 3 s))) (cond u (stated Run (word_at s 1) (hours_of (drop 3 s)) (rows_in (drop 9 (drop 3 s)))) none))
  head_known true e u g = round_known e (rows_in (drop 3 s)) (rows_known (drop 3 s) (bytes_drop 3 s h))
  head_known false e true g =
      let b = (and_iff (λ x. x, λ x. x) (λ x. x, λ x. x)).0 g in
      run_known b.0 b.1 (rows_in (drop 9 (drop 3 s))) (rows_known (drop 9 (drop 3 s)) (bytes_drop 9 (drop 3 s) (bytes_drop 3 s h)))
  head_known false e false g = tt

  pub fleet_known : FleetKnown s (fleet_of s)
  unfolding fleet_of operand_bytes
  fleet_known = head_known (begins ROUND s) refl (begins RUN s && begins HOURS (drop 3 s)) refl
