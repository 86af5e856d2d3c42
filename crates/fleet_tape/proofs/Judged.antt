-- What a tape states, by what its head is; and the answer to it, by that and its rows.
use Rattle.std.proofs.Common.{ℕ, ◌≤◌, ◌<◌, ◌≡◌, true, false, List, map, length}
use Rattle.std.proofs.lemmas.List.{length-map}
use borrow.Author.Tests.{le-leb, lt-leb}
use Rattle.std.proofs.Math.Option.{none}
use Rattle.window.specs.declared.Kind.TheVariants.{Round, Run}
use Rattle.window.specs.declared.Kind.{Kind}
use Rattle.window.specs.Rows.{starts_of, ends_of, marks_of}
use Rattle.window.specs.Hours.{no_hours}
use Rattle.basics.specs.Limits.{max_rows, has_places}
use Rattle.basics.specs.Lists.{front}
use Rattle.refusals.specs.Refusals.{Accepted, Lists, Rows, Form}
use Rattle.tape.specs.Commands.{ROUND, RUN, HOURS, operand_bytes, begins, after}
use Rattle.tape.specs.Words.{word_at}
use Rattle.tape.proofs.Heads.{begins_iff}
use Rattle.fleet_tape.specs.Form.{hours_of, rows_in, stated, fleet_of}
use Rattle.fleet_tape.specs.Scan.{row_of, RowsOf}
use Rattle.fleet_tape.specs.Reading.{Reading, reading, refused, taken, judged, fleet_read}

module _ (s : List ℕ) where
  -- the operands that are read lie on the tape
  pub round_ticks : begins ROUND s ≡ true → 2 < length s
  unfolding operand_bytes
  round_ticks b = ((begins_iff ROUND s).0 b).0

  pub run_ticks : begins RUN s ≡ true → 2 < length s
  unfolding operand_bytes
  run_ticks b = ((begins_iff RUN s).0 b).0

  pub hours_inside : begins HOURS s ≡ true → 8 < length s
  unfolding operand_bytes
  hours_inside b = ((begins_iff HOURS s).0 b).0

  pub round_head : begins ROUND s ≡ true → fleet_of s ≡ stated Round (word_at s 1) no_hours (rows_in (after ROUND s))
  unfolding fleet_of
  round_head b = rw b

  module _ (n : begins ROUND s ≡ false) where
    pub no_head : begins RUN s ≡ false → fleet_of s ≡ none
    unfolding fleet_of
    no_head b = rw (n, b)

    module _ (b : begins RUN s ≡ true) where
      pub no_hours_head : begins HOURS (after RUN s) ≡ false → fleet_of s ≡ none
      unfolding fleet_of
      no_hours_head h = rw (n, b, h)

      pub run_head : begins HOURS (after RUN s) ≡ true
          → fleet_of s ≡ stated Run (word_at s 1) (hours_of (after RUN s)) (rows_in (after HOURS (after RUN s)))
      unfolding fleet_of
      run_head h = rw (n, b, h)

-- what the tests of the head tell
pub ruleset heads = (round_ticks, run_ticks, hours_inside, round_head, no_head, no_hours_head, run_head)

-- ---- the answer

module _ (tape starts ends marks : List ℕ) where
  abbrev call : Reading
  call = fleet_read tape starts ends marks

  pub read_unplaced : has_places (length starts) (length ends) (length marks) ≡ false → call ≡ reading (refused Lists) starts ends marks
  unfolding fleet_read
  read_unplaced p = rw p

  module _ (p : has_places (length starts) (length ends) (length marks) ≡ true) where
    pub read_headless : fleet_of tape ≡ none → call ≡ reading (refused Form) starts ends marks
    unfolding fleet_read judged
    read_headless e = rw (p, e)

    module _ (kind : Kind) (R : ℕ) (hours : List (List ℕ)) (rest : List ℕ) (e : fleet_of tape ≡ stated kind R hours (rows_in rest)) where
      pub read_broken : rows_in rest ≡ none → call ≡ reading (refused Form) starts ends marks
      unfolding fleet_read judged
      read_broken r = rw (p, e, r)

      module _ (rows : List (List ℕ)) (r : RowsOf rest rows) where
        pub read_many : max_rows < length rows → call ≡ reading (refused Rows) starts ends marks
        unfolding fleet_read judged
        read_many h = rw (p, e, r.read, length-map rows row_of, lt-leb (length rows) max_rows h)

        pub read_taken : length rows ≤ max_rows
            → call ≡ reading (record { refusal = Accepted; kind = kind; ticks = R; hours = hours; rows = length rows }) (front (starts_of (map row_of rows)) starts) (front (ends_of (map row_of rows)) ends) (front (marks_of (map row_of rows)) marks)
        unfolding fleet_read judged taken
        read_taken h = rw (p, e, r.read, length-map rows row_of, le-leb (length rows) max_rows h)

-- and those of the lists and the rows
pub ruleset answers = (read_unplaced, read_headless, read_broken, read_many, read_taken)
