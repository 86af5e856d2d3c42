-- Worked examples of words: labels as words and back, must words, clash words. And the edges: each refusal, both sides
-- of each limit, and of two faults the one that is reported.
use Prim.Native.Nat.{ℕ, ◌-◌, ◌^◌}
use mathlib.Core.Path.{◌≡◌, refl}
use mathlib.Core.List.{List, [], ◌∷◌}
use lib.ListN.{replicate}
use Rattle.basics.specs.Lists.{list_of}
use Rattle.window.specs.declared.Kind.{Kind}
use Rattle.window.specs.declared.Kind.TheVariants.{Round, Run}
use Rattle.window.specs.declared.Row.{Row}
use Rattle.window.specs.Rows.{row, starts_of, ends_of}
use Rattle.window.specs.Hours.{hours_from, no_hours}
use Rattle.refusals.specs.Refusals.{answered, Accepted, Lists, Rows, Ticks, Gap, Window, NotPlan, Outcome}
use Rattle.table.specs.Tables.{setting_of}
use Rattle.bit_words.specs.Bits.{bit}
use Rattle.bit_words.specs.Words.{label_words, words_call, labels_given, labels_call, must_word, must_call}
use Rattle.bit_words.specs.Clashes.{windows_of, clash_given, clash_call}

-- ---- bits

-- bit i is worth 2 to the i: 13 is 1 + 4 + 8
pub thirteen :
    (bit 13 0 ≡ 1)
    × (bit 13 1 ≡ 0)
    × (bit 13 2 ≡ 1)
    × (bit 13 3 ≡ 1)
    × (bit 13 4 ≡ 0)
    × (bit 9223372036854775808 63 ≡ 1)
    × (bit 9223372036854775808 62 ≡ 0)
thirteen = (refl, refl, refl, refl, refl, refl, refl)

-- ---- labels to words

-- these labels have these words
abbrev Words : List ℕ → Outcome → ℕ → ℕ → ℕ → Type 0
Words labels refusal count heard receiver = words_call labels ≡ label_words refusal count heard receiver

-- in the labels 1 2 0 1 rows 0, 1 and 3 are heard, row 1 by receiver 2
pub words :
    Words [] Accepted 0 0 0
    × Words (0 ∷ []) Accepted 0 0 0
    × Words (1 ∷ []) Accepted 1 1 0
    × Words (2 ∷ []) Accepted 1 1 1
    × Words (0 ∷ 0 ∷ 2 ∷ []) Accepted 1 4 4
    × Words (1 ∷ 2 ∷ 0 ∷ 1 ∷ []) Accepted 3 11 2
    × Words (1 ∷ 0 ∷ 2 ∷ 1 ∷ []) Accepted 3 13 4
unfolding words_call
words = (refl, refl, refl, refl, refl, refl, refl)

-- 63 and 64 rows: no bit lies above
pub many :
    Words (replicate 63 1) Accepted 63 9223372036854775807 0
    × Words (replicate 64 2) Accepted 64 18446744073709551615 18446744073709551615
    × Words (replicate 64 0) Accepted 0 0 0
unfolding words_call
many = (refl, refl, refl)

-- a label above 2 is refused 9, more than 64 labels are refused 2 whatever they are
pub words_refused :
    Words (3 ∷ []) NotPlan 0 0 0
    × Words (1 ∷ 2 ∷ 255 ∷ []) NotPlan 0 0 0
    × Words (replicate 64 3) NotPlan 0 0 0
    × Words (replicate 65 0) Rows 0 0 0
    × Words (replicate 65 3) Rows 0 0 0
unfolding words_call
words_refused = (refl, refl, refl, refl, refl)

-- ---- words to labels

-- a list that held 7 in each place
abbrev sevens : ℕ → List ℕ
sevens n = replicate n 7

-- these words give so many labels
abbrev Gives : ℕ → ℕ → ℕ → ℕ → List ℕ → Type 0
Gives n heard receiver count labels = labels_call heard receiver (sevens n) ≡ labels_given (answered Accepted count) labels

pub labels :
    Gives 0 0 0 0 []
    × Gives 1 0 0 0 (0 ∷ [])
    × Gives 1 1 0 1 (1 ∷ [])
    × Gives 1 1 1 1 (2 ∷ [])
    × Gives 3 4 4 1 (0 ∷ 0 ∷ 2 ∷ [])
    × Gives 4 11 2 3 (1 ∷ 2 ∷ 0 ∷ 1 ∷ [])
    × Gives 4 13 4 3 (1 ∷ 0 ∷ 2 ∷ 1 ∷ [])
    × Gives 63 9223372036854775807 0 63 (replicate 63 1)
    × Gives 64 18446744073709551615 18446744073709551615 64 (replicate 64 2)
unfolding labels_call
labels = (refl, refl, refl, refl, refl, refl, refl, refl, refl)

-- these words are refused, and the list is left
abbrev Left : ℕ → ℕ → ℕ → Outcome → Type 0
Left n heard receiver refusal = labels_call heard receiver (sevens n) ≡ labels_given (answered refusal 0) (sevens n)

-- 9 for a receiver bit of a row that is not heard and for a bit from the number of rows on; before it 2
pub labels_refused :
    Left 1 0 1 NotPlan
    × Left 4 13 2 NotPlan
    × Left 0 1 0 NotPlan
    × Left 3 8 0 NotPlan
    × Left 3 8 8 NotPlan
    × Left 3 0 8 NotPlan
    × Left 63 9223372036854775808 0 NotPlan
    × Left 64 0 9223372036854775808 NotPlan
    × Left 65 0 0 Rows
    × Left 65 0 1 Rows
unfolding labels_call
labels_refused = (refl, refl, refl, refl, refl, refl, refl, refl, refl, refl)

-- ---- marks

-- the must bit is 1 for the marks 1, 3 and 5, and for no other: marks above 5 are not refused here
pub musts :
    (must_call [] ≡ must_word Accepted 0)
    × (must_call (1 ∷ []) ≡ must_word Accepted 1)
    × (must_call (0 ∷ 1 ∷ 2 ∷ 3 ∷ 4 ∷ 5 ∷ 6 ∷ 7 ∷ 255 ∷ []) ≡ must_word Accepted 42)
    × (must_call (replicate 64 5) ≡ must_word Accepted 18446744073709551615)
    × (must_call (replicate 65 1) ≡ must_word Rows 0)
unfolding must_call
musts = (refl, refl, refl, refl, refl)

-- ---- clash words

-- the windows of these rows, in a round or a run of R ticks with the gap g, have these words
abbrev Clashes : Kind → ℕ → ℕ → List Row → List ℕ → List ℕ → Outcome → Type 0
Clashes kind R g rows before words refusal = clash_call (windows_of (setting_of kind R g no_hours) (starts_of rows) (ends_of rows)) before ≡ clash_given refusal words

-- rows 0, 1 and 2 overlap one another
abbrev three_deep : List Row
three_deep = row 10 30 0 ∷ row 20 40 0 ∷ row 25 50 0 ∷ row 90 10 0 ∷ []

-- in `three_deep` there are 0, 10 and 15 ticks from the end of row 3 to the starts of rows 0, 1 and 2, round the circle
pub clashing :
    Clashes Round 100 0 [] [] [] Accepted
    × Clashes Round 100 0 (row 7 7 0 ∷ []) (9 ∷ []) (0 ∷ []) Accepted
    × Clashes Round 100 0 three_deep (sevens 4) (6 ∷ 5 ∷ 3 ∷ 0 ∷ []) Accepted
    × Clashes Round 100 1 three_deep (sevens 4) (14 ∷ 5 ∷ 3 ∷ 1 ∷ []) Accepted
    × Clashes Round 100 10 three_deep (sevens 4) (14 ∷ 5 ∷ 3 ∷ 1 ∷ []) Accepted
    × Clashes Round 100 11 three_deep (sevens 4) (14 ∷ 13 ∷ 3 ∷ 3 ∷ []) Accepted
    × Clashes Round 100 16 three_deep (sevens 4) (14 ∷ 13 ∷ 11 ∷ 7 ∷ []) Accepted
    × Clashes Round 10 0 (row 8 2 0 ∷ row 2 8 0 ∷ row 5 5 0 ∷ []) (sevens 3) (4 ∷ 4 ∷ 3 ∷ []) Accepted
    × Clashes Round 10 0 (row 4 5 0 ∷ row 4 5 0 ∷ row 4 5 0 ∷ []) (sevens 3) (6 ∷ 5 ∷ 3 ∷ []) Accepted
unfolding clash_call
clashing = (refl, refl, refl, refl, refl, refl, refl, refl, refl)

-- in a run no gap is counted over the end, and a window may end at R
pub clashing_run :
    Clashes Run 100 0 (row 0 10 0 ∷ row 10 20 0 ∷ row 15 30 0 ∷ row 90 100 0 ∷ []) (sevens 4) (0 ∷ 4 ∷ 2 ∷ 0 ∷ []) Accepted
    × Clashes Run 100 1 (row 0 10 0 ∷ row 10 20 0 ∷ row 15 30 0 ∷ row 90 100 0 ∷ []) (sevens 4) (2 ∷ 5 ∷ 2 ∷ 0 ∷ []) Accepted
    × Clashes Run 100 600 (row 0 10 0 ∷ row 10 20 0 ∷ []) (sevens 2) (2 ∷ 1 ∷ []) Accepted
    × Clashes Run 100 60 (row 0 10 0 ∷ row 70 100 0 ∷ []) (sevens 2) (0 ∷ 0 ∷ []) Accepted
    × Clashes Run 100 61 (row 0 10 0 ∷ row 70 100 0 ∷ []) (sevens 2) (2 ∷ 1 ∷ []) Accepted
unfolding clash_call
clashing_run = (refl, refl, refl, refl, refl)

-- hours that the planner would refuse 5 are not looked at
pub hours_left_out :
    clash_call (windows_of (setting_of Run 100 0 (hours_from 9 5 0 101)) (0 ∷ 5 ∷ []) (6 ∷ 9 ∷ [])) (sevens 2) ≡ clash_given Accepted (2 ∷ 1 ∷ [])
unfolding clash_call
hours_left_out = refl

-- so many equal windows
abbrev equal : ℕ → List Row
equal n = replicate n (row 4 5 0)

-- a full table: each row's word has the 63 others
pub full : Clashes Round 10 0 (equal 64) (sevens 64) (list_of 64 (λ i. 18446744073709551615 - 2 ^ i)) Accepted
unfolding clash_call list_of
full = refl

-- these windows are refused, and the list of words is left
abbrev ClashLeft : Kind → ℕ → ℕ → List Row → ℕ → Outcome → Type 0
ClashLeft kind R g rows n refusal = Clashes kind R g rows (sevens n) (sevens n) refusal

-- both sides of each limit: 1 of the words, 2, 4, 14 and 6
pub limits :
    ClashLeft Round 10 0 (equal 2) 1 Lists
    × ClashLeft Round 10 0 (equal 2) 3 Lists
    × ClashLeft Round 10 0 (equal 65) 65 Rows
    × ClashLeft Round 1 0 [] 0 Ticks
    × Clashes Round 2 0 (row 0 1 0 ∷ row 1 0 0 ∷ []) (sevens 2) (0 ∷ 0 ∷ []) Accepted
    × Clashes Round 43200 600 (row 0 1 0 ∷ row 601 602 0 ∷ []) (sevens 2) (0 ∷ 0 ∷ []) Accepted
    × Clashes Round 43200 600 (row 0 1 0 ∷ row 600 601 0 ∷ []) (sevens 2) (2 ∷ 1 ∷ []) Accepted
    × ClashLeft Round 43201 0 [] 0 Ticks
    × ClashLeft Round 43200 601 [] 0 Gap
    × ClashLeft Round 10 0 (row 0 10 0 ∷ []) 1 Window
    × ClashLeft Run 10 0 (row 0 11 0 ∷ []) 1 Window
    × ClashLeft Run 10 0 (row 3 3 0 ∷ []) 1 Window
unfolding clash_call
limits = (refl, refl, refl, refl, refl, refl, refl, refl, refl, refl, refl, refl)

-- of two faults: 1 before 2, 2 before 4, 4 before 14, 14 before 6
pub order :
    ClashLeft Round 10 0 (equal 65) 64 Lists
    × ClashLeft Round 1 0 (equal 65) 65 Rows
    × ClashLeft Round 1 601 [] 0 Ticks
    × ClashLeft Round 10 601 (row 3 12 0 ∷ []) 1 Gap
unfolding clash_call
order = (refl, refl, refl, refl)

-- starts and ends that differ in length
pub uneven : clash_call (windows_of (setting_of Round 10 0 no_hours) (4 ∷ []) []) (sevens 1) ≡ clash_given Lists (sevens 1)
unfolding clash_call
uneven = refl
