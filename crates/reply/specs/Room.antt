-- Inner: What the inner functions ask: room in the output, and numbers of at most two digits.
use Rattle.std.specs.Prelude.{ℕ, ◌+◌, ◌*◌, ◌≤◌, ◌<◌, ◌≡◌, List, length}
use Rattle.basics.specs.Limits.{max_rows}
use Rattle.basics.specs.Lists.{at}
use Rattle.refusals.specs.Refusals.{number_of}
use Rattle.table.specs.Planned.{Planned}
use Rattle.reply.specs.Replied.{places, out_bytes}

-- so many bytes fit from a place on
pub record Room (out : List ℕ) (place bytes : ℕ) : Type 0 where
  pub fits : place + bytes ≤ length out

-- a number of at most two digits, and room for it
pub record NumberRoom (n : ℕ) (out : List ℕ) (place : ℕ) : Type 0 where
  pub small : n < 100
  pub fits : place + 2 ≤ length out

-- a row and a label of at most two digits, and room for their line
pub record RowRoom (row label : ℕ) (out : List ℕ) (place : ℕ) : Type 0 where
  pub row_small : row < 100
  pub label_small : label < 100
  pub fits : place + 6 ≤ length out

-- at most 64 labels of at most two digits
pub record Labels (labels : List ℕ) : Type 0 where
  pub few : length labels ≤ max_rows
  pub small : (i : ℕ) → i < length labels → at labels i < 100

-- and room for their lines
pub record LabelsRoom (labels out : List ℕ) (place : ℕ) : Type 0 where
  pub each : Labels labels
  pub fits : place + 6 * length labels ≤ length out

-- a word of at most 8 bytes and a number of at most two digits, and room for their line
pub record WordRoom (word : List ℕ) (n : ℕ) (out : List ℕ) : Type 0 where
  pub short : length word ≤ 8
  pub small : n < 100
  pub fits : out_bytes ≤ length out

-- an answer whose lines have room in the output
pub record Answerable (p : Planned) (out : List ℕ) : Type 0 where
  pub count : number_of p.answer.refusal ≡ 0 → p.answer.count < 100
  pub labels : number_of p.answer.refusal ≡ 0 → Labels p.labels
  pub fits : out_bytes ≤ length out

-- the lists of 64 places, as they are first lent, and room
pub record FreshLists (starts ends marks labels out : List ℕ) : Type 0 where
  pub starts_are : starts ≡ places
  pub ends_are : ends ≡ places
  pub marks_are : marks ≡ places
  pub labels_are : labels ≡ places
  pub fits : out_bytes ≤ length out
