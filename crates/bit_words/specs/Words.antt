-- Believed: Labels and marks as words: which bit says what, and what each call gives, whole, on every input
-- (docs/RULES.md, Words).
use Rattle.std.specs.Prelude.{ℕ, Bool, cond, not, ◌&&◌, List, leb, eqb, length, Result, Ok, Err}
use Rattle.std.specs.Int.Count.{ones}
use Rattle.basics.specs.Limits.{max_rows}
use Rattle.basics.specs.Lists.{at, list_of}
use Rattle.basics.specs.Tests.{◌⇒◌, every}
use Rattle.labels.specs.Labels.{heard}
use Rattle.marks.specs.Marks.{is_must}
use Rattle.refusals.specs.declared.Refusal.{Refusal}
use Rattle.refusals.specs.Refusals.{answered, asked, passes, ◌then◌, Accepted, Rows, NotPlan, Answer, Outcome}
use Rattle.bit_words.specs.declared.LabelWords.{LabelWords as Made}
use Rattle.bit_words.specs.Bits.{word_bits, is_set, word_of}

-- ---- which bit says what

-- the words that are made of a list with a label or a mark for each row
pub data Word : Type 0 where
  Heard : Word
  Receiver : Word
  Must : Word

-- whether a word's bit is 1 for a row with this label or, in the must word, this mark: the heard bit for a row that is
-- heard, the receiver bit for one that receiver 2 hears, the must bit for a mark that says must
abbrev pub tells : Word → ℕ → Bool
tells Heard label = not (eqb label 0)
tells Receiver label = eqb label 2
tells Must mark = is_must mark

-- the word that is made of a list with a label or a mark for each row
abbrev pub word_for : Word → List ℕ → ℕ
word_for word entries = word_of (length entries) (λ i. tells word (at entries i))

-- ---- from labels to words

-- every label is 0, 1 or 2
abbrev pub are_labels : List ℕ → Bool
are_labels labels = every (length labels) (λ i. leb (at labels i) 2)

-- 2 for more than 64 rows, then 9 for a label above 2
unfoldable pub labels_refusal : List ℕ → Outcome
unfolding every
labels_refusal labels = asked (leb (length labels) max_rows) Rows then asked (are_labels labels) NotPlan

-- what labels are as words: the refusal, the number heard, and the two words
pub record LabelWords : Type 0 where
  pub refusal : Outcome
  pub count : ℕ
  pub heard : ℕ
  pub receiver : ℕ

abbrev pub label_words : Outcome → ℕ → ℕ → ℕ → LabelWords
label_words refusal count heard receiver = record { refusal = refusal; count = count; heard = heard; receiver = receiver }

-- what a call reports that gives the words or a refusal; the number heard is the number of ones of the heard word
abbrev pub words_given : Result Made Refusal → LabelWords
words_given (Ok w) = label_words Accepted (ones w.heard) w.heard w.receiver
words_given (Err r) = label_words (Err r) 0 0 0

-- THE RIGHT ANSWER of a call that makes words of labels: the number heard and the two words; a refusal gives words of 0
unfoldable pub words_call : List ℕ → LabelWords
unfolding labels_refusal heard word_of
words_call labels =
    cond (passes (labels_refusal labels))
    (label_words Accepted (heard labels) (word_for Heard labels) (word_for Receiver labels))
    (label_words (labels_refusal labels) 0 0 0)

-- ---- from words to labels

-- a row's label, from its two bits: 0 for a row that is not heard, else the number of the receiver
abbrev pub label_by : Bool → Bool → ℕ
label_by heard receiver = cond heard (cond receiver 2 1) 0

-- words that so many rows can carry: no receiver bit of a row that is not heard, and no bit from the number of rows on
unfoldable pub are_words : ℕ → ℕ → ℕ → Bool
unfolding every
are_words rows heard receiver =
    every word_bits
    (λ i. (is_set receiver i ⇒ is_set heard i) && (leb rows i ⇒ (not (is_set heard i) && not (is_set receiver i))))

-- 2 for more than 64 rows, then 9 for words that they cannot carry
unfoldable pub words_refusal : ℕ → ℕ → ℕ → Outcome
unfolding are_words
words_refusal rows heard receiver = asked (leb rows max_rows) Rows then asked (are_words rows heard receiver) NotPlan

-- the labels of so many rows
unfoldable pub labels_from : ℕ → ℕ → ℕ → List ℕ
unfolding list_of
labels_from rows heard receiver = list_of rows (λ i. label_by (is_set heard i) (is_set receiver i))

-- a call's answer, and what the label list then holds
pub record LabelsCalled : Type 0 where
  pub answer : Answer
  pub labels : List ℕ

abbrev pub labels_given : Answer → List ℕ → LabelsCalled
labels_given answer labels = record { answer = answer; labels = labels }

-- THE RIGHT ANSWER of a call that makes labels of words, for a label list that held `before`, a place for each row: the
-- number heard and the labels; a refusal writes nothing
unfoldable pub labels_call : ℕ → ℕ → List ℕ → LabelsCalled
unfolding words_refusal labels_from heard
labels_call heard' receiver before =
    cond (passes (words_refusal (length before) heard' receiver))
    (labels_given (answered Accepted (heard (labels_from (length before) heard' receiver))) (labels_from (length before) heard' receiver))
    (labels_given (answered (words_refusal (length before) heard' receiver) 0) before)

-- ---- marks

-- what marks are as a word, and the refusal
pub record MustWord : Type 0 where
  pub refusal : Outcome
  pub word : ℕ

abbrev pub must_word : Outcome → ℕ → MustWord
must_word refusal word = record { refusal = refusal; word = word }

-- what a call reports that gives the word or a refusal
abbrev pub must_given : Result ℕ Refusal → MustWord
must_given (Ok w) = must_word Accepted w
must_given (Err r) = must_word (Err r) 0

-- THE RIGHT ANSWER of a call that makes the must word of marks; 2 for more than 64 rows, with a word of 0
unfoldable pub must_call : List ℕ → MustWord
unfolding word_of
must_call marks =
    cond (leb (length marks) max_rows)
    (must_word Accepted (word_for Must marks))
    (must_word Rows 0)
