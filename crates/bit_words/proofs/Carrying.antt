-- Which labels and words can be carried, that words and lists carry the same labels, and that the number heard is the
-- number of ones.
use Prim.Native.Nat.{ℕ, zero, suc, ◌+◌, ◌^◌, ◌≤◌, ◌<◌, min}
use mathlib.Core.Path.{◌≡◌, refl, sym, ap, ap₂, ◌∙◌, subst}
use mathlib.Core.Logic.Iff
use mathlib.Core.Logic.{◌↔◌, ⊎_elim}
use mathlib.Core.Bool.{Bool, true, false, cond, not, ◌&&◌, and-false, false≢true}
use mathlib.Core.List.{List, [], ◌∷◌}
use native.Mathlib.Omega.{arith}
use native.Mathlib.Nat.{lt_of_le_of_lt}
use lib.Dec.{leb, eqb, ltb}
use lib.ListN.{length}
use Rattle.std.specs.List.{list_all}
use lib.Seq.{ext_get_or}
use lib.Bits.{bit_and, and_lt, and_le_l}
use lib.Count.{ones}
use borrow.Author.Tests.{eq-eqb, ne_eqb, lt-ltb, ltb-true}
use Rattle.basics.specs.Lists.{at, list_of}
use Rattle.basics.specs.Tests.{every}
use Rattle.std.proofs.lemmas.Bool.Decides.{Decides-eqb}
use Rattle.basics.proofs.Tests.{leb_iff, not_iff, and_iff, imp_iff, every_iff, bool_ext}
use Rattle.std.proofs.lemmas.Bool.{cases_lt}
use Rattle.basics.proofs.Lists.{length_list, at_list}
use Rattle.labels.specs.Labels.{hears, heard}
use Rattle.bit_words.specs.Bits.{bit, is_set, word_of}
use Rattle.bit_words.specs.Words.{Word, Heard, Receiver, tells, word_for, are_labels, label_by, are_words, labels_from}
use Rattle.bit_words.proofs.BitLaws.{bit_below, bit_none, word_above, word_iff, word_bit, word_same, word_whole, word_ext, below_of_bits, and_bit, ones_front}

-- ---- labels

-- every label is 0, 1 or 2
abbrev pub Labels : List ℕ → Type 0
Labels labels = (i : ℕ) → i < length labels → at labels i ≤ 2

pub labels_iff : (labels : List ℕ) → (are_labels labels ≡ true) ↔ Labels labels
labels_iff labels = every_iff (length labels) (λ i h. leb_iff (at labels i) 2)

-- the test of the code: of each label in the list's order
every_front : (n : ℕ) (p : ℕ → Bool) → (p 0 && every n (λ i. p (suc i))) ≡ every (suc n) p
unfolding every
every_front zero p = refl
every_front (suc n) p = swap (p 0) (p (suc n)) (every n (λ i. p (suc i))) ∙ ap (λ (b : Bool). p (suc n) && b) (every_front n p)
  where
    swap : (a b c : Bool) → (a && (b && c)) ≡ (b && (a && c))
    swap true b c = refl
    swap false b c = sym (and-false b)

pub all_labels : (labels : List ℕ) → list_all (λ x. leb x 2) labels ≡ are_labels labels
unfolding every
all_labels [] = refl
all_labels (x ∷ labels) = ap (λ (b : Bool). leb x 2 && b) (all_labels labels) ∙ every_front (length labels) (λ i. leb (at (x ∷ labels) i) 2)

-- ---- words

-- words that can be carried by so many rows
pub record Carried (rows heard receiver : ℕ) : Type 0 where
  -- no receiver bit of a row that is not heard
  pub receiver_heard : (i : ℕ) → bit receiver i ≡ 1 → bit heard i ≡ 1
  -- no bit from the number of rows on
  pub heard_none : (i : ℕ) → rows ≤ i → bit heard i ≡ 0
  pub receiver_none : (i : ℕ) → rows ≤ i → bit receiver i ≡ 0

-- a bit that is not 1 is 0
pub zero_bit : (x i : ℕ) → (bit x i ≡ 1 → ⊥) → bit x i ≡ 0
zero_bit x i n = go (bit x i) (bit_below x i) n
  where
    go : (b : ℕ) → b < 2 → (b ≡ 1 → ⊥) → b ≡ 0
    go zero h m = refl
    go (suc zero) h m = absurd (m refl)
    go (suc (suc b)) h m = absurd (omega arith)

-- two words of 64 bits
module _ (rows : ℕ) {heard receiver : ℕ} (h : heard < 2 ^ 64) (r : receiver < 2 ^ 64) where
  -- what `are_words` says of each of the 64 places
  abbrev At : ℕ → Type 0
  At i = (bit receiver i ≡ 1 → bit heard i ≡ 1) × (rows ≤ i → ((bit heard i ≡ 1 → ⊥) × (bit receiver i ≡ 1 → ⊥)))

  words_at : (are_words rows heard receiver ≡ true) ↔ ((i : ℕ) → i < 64 → At i)
  unfolding are_words
  words_at =
      every_iff 64
      (λ i k.
      and_iff (imp_iff (Decides-eqb (bit receiver i) 1) (Decides-eqb (bit heard i) 1))
      (imp_iff (leb_iff rows i) (and_iff (not_iff (Decides-eqb (bit heard i) 1)) (not_iff (Decides-eqb (bit receiver i) 1)))))

  pub carried_iff : (are_words rows heard receiver ≡ true) ↔ Carried rows heard receiver
  carried_iff = Iff.trans words_at (from, to)
    where
      -- a bit that cannot be 1 where there is one is 0
      none : {x : ℕ} → x < 2 ^ 64 → (i : ℕ) → (i < 64 → bit x i ≡ 1 → ⊥) → bit x i ≡ 0
      none {x} l i n = ⊎_elim (λ k. zero_bit x i (n k)) (λ k. bit_none i l k) (cases_lt i 64)

      from : ((i : ℕ) → i < 64 → At i) → Carried rows heard receiver
      from f =
          record {
            receiver_heard = λ i e. ⊎_elim (λ k. (f i k).0 e) (λ k. absurd (omega (arith, bit_none i r k))) (cases_lt i 64);
            heard_none = λ i l. none h i (λ k. ((f i k).1 l).0);
            receiver_none = λ i l. none r i (λ k. ((f i k).1 l).1);
          }

      to : Carried rows heard receiver → (i : ℕ) → i < 64 → At i
      to c i k = (c.receiver_heard i, λ l. (λ e. omega (arith, c.heard_none i l), λ e. omega (arith, c.receiver_none i l)))

  -- they are below 2 to the row count
  pub carried_below : Carried rows heard receiver → (heard < 2 ^ rows) × (receiver < 2 ^ rows)
  carried_below c = (below_of_bits 64 heard rows h (λ i k l. c.heard_none i l), below_of_bits 64 receiver rows r (λ i k l. c.receiver_none i l))

  -- the test of the code: the receiver word is within the heard word, and that one has no bit from the row count up
  pub carried_test : Carried rows heard receiver ↔ ((bit_and heard receiver ≡ receiver) × (heard < 2 ^ rows))
  carried_test = (from, to)
    where
      smaller : (a b : ℕ) → a < 2 → b < 2 → (b ≡ 1 → a ≡ 1) → min a b ≡ b
      smaller a zero k l f = omega arith
      smaller a (suc zero) k l f = omega (arith, f refl)
      smaller a (suc (suc b)) k l f = absurd (omega arith)

      from : Carried rows heard receiver → (bit_and heard receiver ≡ receiver) × (heard < 2 ^ rows)
      from c = (
        word_ext 64 (and_lt 64 heard receiver h r) r (λ i k. and_bit heard receiver i ∙ smaller (bit heard i) (bit receiver i) (bit_below heard i) (bit_below receiver i) (c.receiver_heard i)),
        (carried_below c).0,
      )

      to : (bit_and heard receiver ≡ receiver) × (heard < 2 ^ rows) → Carried rows heard receiver
      to f =
          let l : receiver < 2 ^ rows = lt_of_le_of_lt (subst (λ (x : ℕ). x ≤ heard) f.0 (and_le_l heard receiver)) f.1 in
          record {
            receiver_heard =
                λ i e. omega (arith, sym (and_bit heard receiver i) ∙ ap (λ (x : ℕ). bit x i) f.0, bit_below heard i);
            heard_none = λ i k. bit_none i f.1 k;
            receiver_none = λ i k. bit_none i l k;
          }

  pub not_within : (bit_and heard receiver ≡ receiver → ⊥) → false ≡ are_words rows heard receiver
  not_within n = bool_ext false (are_words rows heard receiver) (λ e. absurd (false≢true e)) (λ e. absurd (n (carried_test.0 (carried_iff.0 e)).0))

  pub within : bit_and heard receiver ≡ receiver → ltb heard (2 ^ rows) ≡ are_words rows heard receiver
  within e =
      bool_ext (ltb heard (2 ^ rows)) (are_words rows heard receiver)
      (λ t. carried_iff.1 (carried_test.1 (e, ltb-true heard (2 ^ rows) t)))
      (λ t. lt-ltb heard (2 ^ rows) (carried_test.0 (carried_iff.0 t)).1)

-- ---- labels to words and back

-- bit i of a word, as a test
pub word_set : (n : ℕ) (test : ℕ → Bool) (i : ℕ) → i < n → is_set (word_of n test) i ≡ test i
word_set n test i h = ap (λ (x : ℕ). eqb x 1) (word_bit test n i h) ∙ go (test i)
  where
    go : (b : Bool) → eqb (cond b 1 0) 1 ≡ b
    go true = refl
    go false = refl

label_back : (x : ℕ) → x ≤ 2 → label_by (tells Heard x) (tells Receiver x) ≡ x
label_back zero h = refl
label_back (suc zero) h = refl
label_back (suc (suc zero)) h = refl
label_back (suc (suc (suc x))) h = absurd (omega arith)

pub labels_back : (labels : List ℕ) → Labels labels → labels_from (length labels) (word_for Heard labels) (word_for Receiver labels) ≡ labels
unfolding labels_from
labels_back labels f =
    let n = length labels in
    let g : ℕ → ℕ = λ i. label_by (is_set (word_for Heard labels) i) (is_set (word_for Receiver labels) i) in
    ext_get_or 0 (list_of n g) labels (length_list n g)
    (λ k b.
    let l : k < n = omega (arith, length_list n g) in
    at_list n g k l
    ∙ ap₂ label_by (word_set n (λ i. tells Heard (at labels i)) k l) (word_set n (λ i. tells Receiver (at labels i)) k l)
    ∙ label_back (at labels k) (f k l))

-- the receiver bit is 1 only for a row that is heard
receiver_heard_2 : (x : ℕ) → tells Receiver x ≡ true → tells Heard x ≡ true
receiver_heard_2 zero e = absurd (false≢true e)
receiver_heard_2 (suc x) e = ap not (ne_eqb (suc x) 0 (λ z. omega arith))

-- words that are made of labels can be carried
pub words_carried : (labels : List ℕ) → Carried (length labels) (word_for Heard labels) (word_for Receiver labels)
words_carried labels =
    let n = length labels in
    record {
      receiver_heard = λ i e. let f = (word_iff (λ k. tells Receiver (at labels k)) n i).0 e in (word_iff (λ k. tells Heard (at labels k)) n i).1 (f.0, receiver_heard_2 (at labels i) f.1);
      heard_none = λ i l. word_above (λ k. tells Heard (at labels k)) n i l;
      receiver_none = λ i l. word_above (λ k. tells Receiver (at labels k)) n i l;
    }

-- ---- words to labels and back

module _ (rows heard receiver : ℕ) where
  abbrev by : ℕ → ℕ
  by i = label_by (is_set heard i) (is_set receiver i)

  pub length_from : length (labels_from rows heard receiver) ≡ rows
  unfolding labels_from
  length_from = length_list rows by

  at_from : (i : ℕ) → i < rows → at (labels_from rows heard receiver) i ≡ by i
  unfolding labels_from
  at_from i h = at_list rows by i h

  -- any words give labels
  pub labels_from_words : Labels (labels_from rows heard receiver)
  labels_from_words i h = let l : i < rows = omega (arith, length_from) in subst (λ (x : ℕ). x ≤ 2) (sym (at_from i l)) (go (is_set heard i) (is_set receiver i))
    where
      go : (a b : Bool) → label_by a b ≤ 2
      go true true = omega arith
      go true false = omega arith
      go false b = omega arith

  -- a word of these labels, from what it tells of a row's two bits
  word_from : (word : Word) (x : ℕ) → x < 2 ^ rows → ((i : ℕ) → i < rows → tells word (by i) ≡ is_set x i) → word_for word (labels_from rows heard receiver) ≡ x
  word_from word x h f =
      ap (λ (n : ℕ). word_of n (λ i. tells word (at (labels_from rows heard receiver) i))) length_from
      ∙ word_same rows (λ i l. ap (tells word) (at_from i l) ∙ f i l)
      ∙ word_whole rows x h

  pub heard_back : heard < 2 ^ rows → word_for Heard (labels_from rows heard receiver) ≡ heard
  heard_back h = word_from Heard heard h (λ i l. go (is_set heard i) (is_set receiver i))
    where
      go : (a b : Bool) → tells Heard (label_by a b) ≡ a
      go true true = refl
      go true false = refl
      go false b = refl

  pub receiver_back : receiver < 2 ^ rows → Carried rows heard receiver → word_for Receiver (labels_from rows heard receiver) ≡ receiver
  receiver_back h c =
      word_from Receiver receiver h
      (λ i l. go (is_set heard i) (is_set receiver i) (λ e. eq-eqb (bit heard i) 1 (c.receiver_heard i ((Decides-eqb (bit receiver i) 1).0 e))))
    where
      go : (a b : Bool) → (b ≡ true → a ≡ true) → tells Receiver (label_by a b) ≡ b
      go true true f = refl
      go true false f = refl
      go false true f = absurd (false≢true (f refl))
      go false false f = refl

-- ---- the number heard is the number of ones

-- how many labels are not 0
unfoldable pub not_zero : List ℕ → ℕ
not_zero [] = 0
not_zero (x ∷ labels) = cond (eqb x 0) 0 1 + not_zero labels

-- of any list
pub ones_not_zero : (labels : List ℕ) → ones (word_for Heard labels) ≡ not_zero labels
unfolding not_zero word_of ones
ones_not_zero [] = refl
ones_not_zero (x ∷ labels) =
    ones_front (length labels) (λ i. tells Heard (at (x ∷ labels) i)) ∙ ap₂ (λ (a b : ℕ). a + b) (go (eqb x 0)) (ones_not_zero labels)
  where
    go : (b : Bool) → ◌≡◌ {A = ℕ} (cond (not b) 1 0) (cond b 0 1)
    go true = refl
    go false = refl

-- of labels
pub not_zero_heard : (labels : List ℕ) → Labels labels → not_zero labels ≡ heard labels
unfolding not_zero heard
not_zero_heard [] f = refl
not_zero_heard (x ∷ labels) f = ap₂ (λ (a b : ℕ). a + b) (go x (f 0 (omega arith))) (not_zero_heard labels (λ i h. f (suc i) (omega arith)))
  where
    go : (x : ℕ) → x ≤ 2 → cond (eqb x 0) 0 1 ≡ hears x
    go zero h = refl
    go (suc zero) h = refl
    go (suc (suc zero)) h = refl
    go (suc (suc (suc x))) h = absurd (omega arith)

pub ones_heard : (labels : List ℕ) → Labels labels → ones (word_for Heard labels) ≡ heard labels
ones_heard labels f = ones_not_zero labels ∙ not_zero_heard labels f
