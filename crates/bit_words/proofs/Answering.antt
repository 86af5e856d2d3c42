-- What each call gives by its definition, refused and not.
use Prim.Native.Nat.{ℕ, ◌^◌, ◌≤◌, ◌<◌}
use mathlib.Core.Path.{◌≡◌, refl, sym, ap, ◌∙◌}
use mathlib.Core.Bool.{true, false}
use mathlib.Core.List.{List}
use lib.ListN.{length}
use lib.Count.{ones}
use borrow.Author.Tests.{le-leb, lt-leb}
use Rattle.basics.specs.Limits.{max_rows}
use Rattle.labels.specs.Labels.{heard}
use Rattle.refusals.specs.Refusals.{answered, Accepted, Rows, NotPlan}
use Rattle.bit_words.specs.Words.{Heard, Receiver, word_for, are_labels, labels_refusal, label_words, words_call, are_words, words_refusal, labels_from, labels_given, labels_call, must_word, must_call}
use Rattle.bit_words.proofs.Carrying.{labels_iff, carried_iff, carried_below, labels_from_words, heard_back, ones_heard}

-- ---- words of labels

-- the number heard is the number of ones
pub words_ones : (labels : List ℕ) → are_labels labels ≡ true → heard labels ≡ ones (word_for Heard labels)
words_ones labels e = sym (ones_heard labels ((labels_iff labels).0 e))

module _ (labels : List ℕ) where
  pub words_2 : max_rows < length labels → label_words Rows 0 0 0 ≡ words_call labels
  unfolding words_call labels_refusal
  words_2 h = rw (lt-leb (length labels) max_rows h) refl

  module _ (few : length labels ≤ max_rows) where
    pub words_9 : are_labels labels ≡ false → label_words NotPlan 0 0 0 ≡ words_call labels
    unfolding words_call labels_refusal
    words_9 e = rw (le-leb (length labels) max_rows few, e) refl

    pub words_made : are_labels labels ≡ true → label_words Accepted (ones (word_for Heard labels)) (word_for Heard labels) (word_for Receiver labels) ≡ words_call labels
    unfolding words_call labels_refusal
    words_made e = rw (le-leb (length labels) max_rows few, e) (ap (λ n. label_words Accepted n (word_for Heard labels) (word_for Receiver labels)) (sym (words_ones labels e)))

-- ---- labels of words

pub labels_ones : (n heard' receiver : ℕ) → heard' < 2 ^ 64 → receiver < 2 ^ 64 → are_words n heard' receiver ≡ true → heard (labels_from n heard' receiver) ≡ ones heard'
labels_ones n heard' receiver h r e =
    let b = (carried_below n h r ((carried_iff n h r).0 e)).0 in
    sym (ones_heard (labels_from n heard' receiver) (labels_from_words n heard' receiver)) ∙ ap ones (heard_back n heard' receiver b)

module _ (heard' receiver : ℕ) (before : List ℕ) where
  pub labels_2 : max_rows < length before → labels_given (answered Rows 0) before ≡ labels_call heard' receiver before
  unfolding labels_call words_refusal
  labels_2 h = rw (lt-leb (length before) max_rows h) refl

  module _ (few : length before ≤ max_rows) where
    pub labels_9 : are_words (length before) heard' receiver ≡ false → labels_given (answered NotPlan 0) before ≡ labels_call heard' receiver before
    unfolding labels_call words_refusal
    labels_9 e = rw (le-leb (length before) max_rows few, e) refl

    pub labels_made : heard' < 2 ^ 64 → receiver < 2 ^ 64 → are_words (length before) heard' receiver ≡ true
        → labels_given (answered Accepted (ones heard')) (labels_from (length before) heard' receiver) ≡ labels_call heard' receiver before
    unfolding labels_call words_refusal
    labels_made h r e =
        let n = length before in
        rw (le-leb n max_rows few, e) (ap (λ (x : ℕ). labels_given (answered Accepted x) (labels_from n heard' receiver)) (sym (labels_ones n heard' receiver h r e)))

-- ---- the must word

pub must_2 : (marks : List ℕ) → max_rows < length marks → must_word Rows 0 ≡ must_call marks
unfolding must_call
must_2 marks h = rw (lt-leb (length marks) max_rows h) refl
