-- Laws of words: what each bit says, what is carried, that words and lists carry the same labels, and a plan by words.
use Prim.Native.Nat.{ℕ, zero, suc, ◌^◌, ◌≤◌, ◌<◌}
use mathlib.Core.Path.{◌≡◌, refl, sym, ap, ap₂, subst, ◌∙◌}
use mathlib.Core.Logic.Iff
use mathlib.Core.Logic.{◌≢◌, ◌↔◌, ◌⊎◌, ⊎_elim}
use mathlib.Core.Bool.{Bool, true, false, cond, false≢true}
use mathlib.Core.List.{List}
use native.Mathlib.Omega.{arith}
use native.Mathlib.Nat.{lt_of_lt_of_le}
use lib.Dec.{leb}
use lib.ListN.{length}
use lib.Pow.{pow_mono}
use lib.Count.{ones}
use borrow.Author.Tests.{eqb-true, leb-true}
use Rattle.basics.specs.Limits.{max_rows}
use Rattle.basics.specs.Lists.{at}
use Rattle.std.proofs.lemmas.Bool.Decides.{Decides-eqb}
use Rattle.basics.proofs.Tests.{not_iff, bool_ext}
use Rattle.labels.specs.Labels.{heard}
use Rattle.marks.specs.Marks.{Must}
use Rattle.marks.proofs.Allowing.{must_iff}
use Rattle.refusals.specs.Refusals.{number_of, answered, asked, passes, Accepted, Rows, NotPlan, Outcome}
use Rattle.refusals.proofs.Refusals.{Passed, then_passed, asked_passed}
use Rattle.table.specs.declared.Setting.{Setting}
use Rattle.table.specs.Tables.{Table, setting_of, rows, row_at, Allowed, Clash, Plan, clashes}
use Rattle.table.specs.Checks.{row_refusal, rows_looked}
use Rattle.table.proofs.Plans.{clash_sym}
use Rattle.bit_words.specs.Bits.{bit}
use Rattle.bit_words.specs.Words.{Word, Heard, Receiver, Must as MustBit, LabelWords, tells, word_for, are_labels, labels_refusal, label_words, words_call, are_words, words_refusal, labels_from, LabelsCalled, labels_given, labels_call}
use Rattle.bit_words.specs.Clashes.{windows_of, ClashWords, is_clash, clash_word, clash_refusal, clash_call}
use Rattle.bit_words.proofs.BitLaws.{word_below, word_above, word_iff, word_bit}
use Rattle.bit_words.proofs.Carrying.{Labels, labels_iff, Carried, zero_bit, carried_iff, carried_below, labels_back, words_carried, length_from, labels_from_words, heard_back, receiver_back, not_zero, ones_not_zero, ones_heard}
use Rattle.bit_words.proofs.Answering.{words_9, words_made, labels_9, labels_made}

-- ---- what each bit says

-- a word's bit is 1 exactly for a row of which the word tells so
told_bit : (word : Word) (entries : List ℕ) (i : ℕ) {P : Type 0} → (tells word (at entries i) ≡ true) ↔ P → (bit (word_for word entries) i ≡ 1) ↔ ((i < length entries) × P)
told_bit word entries i says = Iff.trans (word_iff (λ k. tells word (at entries k)) (length entries) i) (λ f. (f.0, says.0 f.1), λ f. (f.0, says.1 f.1))

module _ (labels : List ℕ) (i : ℕ) where
  pub heard_bit : (bit (word_for Heard labels) i ≡ 1) ↔ ((i < length labels) × (at labels i ≢ 0))
  heard_bit = told_bit Heard labels i (not_iff (Decides-eqb (at labels i) 0))

  -- the receiver bit is 1 where receiver 2 hears the row, and 0 where the row is not heard
  pub receiver_bit_iff : (bit (word_for Receiver labels) i ≡ 1) ↔ ((i < length labels) × (at labels i ≡ 2))
  receiver_bit_iff = told_bit Receiver labels i (Decides-eqb (at labels i) 2)

  pub receiver_not_heard_0 : at labels i ≡ 0 → bit (word_for Receiver labels) i ≡ 0
  receiver_not_heard_0 e = zero_bit (word_for Receiver labels) i (λ b. omega (arith, (receiver_bit_iff.0 b).1))

-- the must bit is 1 where the mark says must
pub must_bit : (marks : List ℕ) (i : ℕ) → (bit (word_for MustBit marks) i ≡ 1) ↔ ((i < length marks) × Must (at marks i))
must_bit marks i = told_bit MustBit marks i (must_iff (at marks i))

-- FROM THE NUMBER OF ROWS ON EVERY BIT IS 0, in a heard, a receiver and a must word; of clash words below
pub zeros_above : (word : Word) (entries : List ℕ) (i : ℕ) → length entries ≤ i → bit (word_for word entries) i ≡ 0
zeros_above word entries i h = word_above (λ k. tells word (at entries k)) (length entries) i h

-- ---- which labels are carried

-- a call that passes has passed its check: a refused one ends in what the check says
check_passed : {A : Type 0} (end : A → Outcome) (r : Outcome) (given refused : A) → end refused ≡ r → Passed (end (cond (passes r) given refused)) → Passed r
check_passed {A} end r given refused e = go (passes r) refl
  where
    go : (x : Bool) → passes r ≡ x → Passed (end (cond x given refused)) → Passed r
    go true q p = eqb-true (number_of r) 0 q
    go false q p = sym (ap number_of e) ∙ p

module _ (labels : List ℕ) where
  labels_passed : Passed (words_call labels).refusal → Passed (labels_refusal labels)
  unfolding words_call
  labels_passed = check_passed (λ (w : LabelWords). w.refusal) (labels_refusal labels) _ (label_words (labels_refusal labels) 0 0 0) refl

  -- accepted: up to 64 labels, each 0, 1 or 2
  pub labels_taken : Passed (words_call labels).refusal → (length labels ≤ max_rows) × Labels labels
  unfolding labels_refusal
  labels_taken p =
      let f = then_passed (asked (leb (length labels) max_rows) Rows) (asked (are_labels labels) NotPlan) (labels_passed p) in
      (leb-true (length labels) max_rows (asked_passed (leb (length labels) max_rows) Rows (omega arith) f.0), (labels_iff labels).0 (asked_passed (are_labels labels) NotPlan (omega arith) f.1))

  -- and no plan is asked: any such labels are carried, with the number heard and the two words
  pub labels_carried : length labels ≤ max_rows → Labels labels → words_call labels ≡ label_words Accepted (heard labels) (word_for Heard labels) (word_for Receiver labels)
  labels_carried few f =
      sym (words_made labels few ((labels_iff labels).1 f)) ∙ ap (λ n. label_words Accepted n (word_for Heard labels) (word_for Receiver labels)) (ones_heard labels f)

  -- a label above 2: 9, with words of 0
  pub label_above_2 : length labels ≤ max_rows → (i : ℕ) → i < length labels → 2 < at labels i → words_call labels ≡ label_words NotPlan 0 0 0
  label_above_2 few i h l = sym (words_9 labels few (bool_ext (are_labels labels) false (λ e. absurd (omega (arith, (labels_iff labels).0 e i h))) (λ e. absurd (false≢true e))))

-- THE NUMBER HEARD is the number of ones of the heard word, and that of the labels that are not 0
pub number_heard : (labels : List ℕ) → Passed (words_call labels).refusal
    → ((words_call labels).count ≡ ones (words_call labels).heard) × ((words_call labels).count ≡ not_zero labels) × ((words_call labels).count ≡ heard labels)
number_heard labels p =
    let f = labels_taken labels p in
    let e = labels_carried labels f.0 f.1 in
    let n : (words_call labels).count ≡ heard labels = ap (λ (w : LabelWords). w.count) e in
    let o = ones_heard labels f.1 in
    (n ∙ sym o ∙ sym (ap (λ (w : LabelWords). ones w.heard) e), n ∙ sym o ∙ ones_not_zero labels, n)

-- ---- which words are carried

module _ {heard' receiver : ℕ} (h : heard' < 2 ^ 64) (r : receiver < 2 ^ 64) (before : List ℕ) where
  abbrev n : ℕ
  n = length before

  words_passed : Passed (labels_call heard' receiver before).answer.refusal → Passed (words_refusal n heard' receiver)
  unfolding labels_call
  words_passed = check_passed (λ (l : LabelsCalled). l.answer.refusal) (words_refusal n heard' receiver) _ (labels_given (answered (words_refusal n heard' receiver) 0) before) refl

  -- accepted: up to 64 rows, and words that can be carried by so many
  pub words_taken : Passed (labels_call heard' receiver before).answer.refusal → (n ≤ max_rows) × Carried n heard' receiver
  unfolding words_refusal
  words_taken p =
      let f = then_passed (asked (leb n max_rows) Rows) (asked (are_words n heard' receiver) NotPlan) (words_passed p) in
      (leb-true n max_rows (asked_passed (leb n max_rows) Rows (omega arith) f.0), (carried_iff n h r).0 (asked_passed (are_words n heard' receiver) NotPlan (omega arith) f.1))

  -- any such words are carried, with the number of ones
  pub words_given : n ≤ max_rows → Carried n heard' receiver → labels_call heard' receiver before ≡ labels_given (answered Accepted (ones heard')) (labels_from n heard' receiver)
  words_given few c = sym (labels_made heard' receiver before few h r ((carried_iff n h r).1 c))

  not_carried : n ≤ max_rows → (Carried n heard' receiver → ⊥) → labels_call heard' receiver before ≡ labels_given (answered NotPlan 0) before
  not_carried few not_so =
      sym (labels_9 heard' receiver before few
      (bool_ext (are_words n heard' receiver) false (λ e. absurd (not_so ((carried_iff n h r).0 e))) (λ e. absurd (false≢true e))))

  -- a receiver bit of a row that is not heard: 9, and the labels are left
  pub receiver_not_heard : n ≤ max_rows → (i : ℕ) → bit receiver i ≡ 1 → bit heard' i ≡ 0 → labels_call heard' receiver before ≡ labels_given (answered NotPlan 0) before
  receiver_not_heard few i e z = not_carried few (λ c. omega (arith, c.receiver_heard i e))

  -- a bit from the number of rows on, in either word: the same
  pub one_above : n ≤ max_rows → (i : ℕ) → n ≤ i → (bit heard' i ≡ 1) ⊎ (bit receiver i ≡ 1) → labels_call heard' receiver before ≡ labels_given (answered NotPlan 0) before
  one_above few i l o = not_carried few (λ c. ⊎_elim (λ e. omega (arith, c.heard_none i l)) (λ e. omega (arith, c.receiver_none i l)) o)

-- ---- WORDS AND LISTS CARRY THE SAME LABELS, converted either way and back

fits_64 : (word : Word) (entries : List ℕ) → length entries ≤ 64 → word_for word entries < 2 ^ 64
fits_64 word entries few = lt_of_lt_of_le (word_below (λ k. tells word (at entries k)) (length entries)) (pow_mono few)

-- labels, to words and back, into any list with a place for each row
pub labels_and_back : (labels before : List ℕ) → Passed (words_call labels).refusal → length before ≡ length labels
    → labels_call (words_call labels).heard (words_call labels).receiver before ≡ labels_given (answered Accepted (heard labels)) labels
labels_and_back labels before p e =
    let f = labels_taken labels p in
    let c = labels_carried labels f.0 f.1 in
    rw c (go f.0 f.1)
  where
    go : length labels ≤ max_rows → Labels labels → labels_call (word_for Heard labels) (word_for Receiver labels) before ≡ labels_given (answered Accepted (heard labels)) labels
    go few l =
        words_given (fits_64 Heard labels few) (fits_64 Receiver labels few) before (omega arith) (subst (λ (k : ℕ). Carried k (word_for Heard labels) (word_for Receiver labels)) (sym e) (words_carried labels))
        ∙ ap₂ (λ (k : ℕ) (x : List ℕ). labels_given (answered Accepted k) x) (ones_heard labels l)
        (ap (λ (k : ℕ). labels_from k (word_for Heard labels) (word_for Receiver labels)) e ∙ labels_back labels l)

-- words, to labels and back
pub words_and_back : {heard' receiver : ℕ} → heard' < 2 ^ 64 → receiver < 2 ^ 64 → (before : List ℕ) → Passed (labels_call heard' receiver before).answer.refusal
    → words_call (labels_call heard' receiver before).labels ≡ label_words Accepted (ones heard') heard' receiver
words_and_back {heard'} {receiver} h r before p =
    let n = length before in
    let l = labels_from n heard' receiver in
    let f = words_taken h r before p in
    let b = carried_below n h r f.1 in
    let e = heard_back n heard' receiver b.0 in
    let g : Labels l = labels_from_words n heard' receiver in
    ap (λ (x : LabelsCalled). words_call x.labels) (words_given h r before f.0 f.1)
    ∙ labels_carried l (omega (arith, length_from n heard' receiver)) g
    ∙ (λ i. label_words Accepted ((sym (ones_heard l g) ∙ ap ones e) i) (e i) (receiver_back n heard' receiver b.1 f.1 i))

-- ---- clash words

-- what a call gives does not depend on the hours, its refusal included
pub any_hours : (S : Setting) (hours : List (List ℕ)) (starts ends before : List ℕ)
    → clash_call (windows_of S starts ends) before ≡ clash_call (windows_of (setting_of S.kind S.ticks S.gap hours) starts ends) before
unfolding clash_call clash_refusal clash_word is_clash clashes rows_looked row_refusal
any_hours S hours starts ends before = refl

-- WHATEVER THE MARKS AND HOURS, the words of windows alone are those of every table that has these windows
pub any_marks : (t : Table) (hours : List (List ℕ)) {words : List ℕ}
    → ClashWords (windows_of (setting_of t.setting.kind t.setting.ticks t.setting.gap hours) t.starts t.ends) words → ClashWords t words
any_marks t hours w = record { each = w.each; bits = w.bits }

-- as a call gives them
module _ {t : Table} {words : List ℕ} (w : ClashWords t words) where
  -- the row's own bit is 0
  pub own_bit_0 : (i : ℕ) → i < rows t → bit (at words i) i ≡ 0
  own_bit_0 i h = zero_bit (at words i) i (λ e. ((w.bits i i h).0 e).1 refl)

  -- of two rows each has the other, or neither
  pub clash_both : (i j : ℕ) → i < rows t → bit (at words i) j ≡ 1 → bit (at words j) i ≡ 1
  clash_both i j h e =
      let f = (w.bits i j h).0 e in
      (w.bits j i f.0).1 (h, λ z. f.1 (sym z), clash_sym t.setting (row_at t i) (row_at t j) f.2)

  -- from the number of rows on every bit is 0
  pub clash_zeros_above : (i j : ℕ) → i < rows t → rows t ≤ j → bit (at words i) j ≡ 0
  clash_zeros_above i j h l = zero_bit (at words i) j (λ e. omega (arith, ((w.bits i j h).0 e).0))

-- ---- a plan by words

-- each row's label is allowed, and no heard row's clash word has a bit of a row heard by the same receiver
pub record PlanByWords (t : Table) (words labels : List ℕ) : Type 0 where
  pub each : length labels ≡ rows t
  pub allowed : (i : ℕ) → i < rows t → Allowed t.setting (row_at t i) (at labels i)
  pub apart : (i j : ℕ) → bit (word_for Heard labels) i ≡ 1 → bit (word_for Heard labels) j ≡ 1 → bit (word_for Receiver labels) i ≡ bit (word_for Receiver labels) j → bit (at words i) j ≡ 0

-- the receiver bit of a label
abbrev receiver_bit : ℕ → ℕ
receiver_bit x = cond (tells Receiver x) 1 0

-- two heard rows of one receiver have the same label
same_label : (x y : ℕ) → x ≤ 2 → y ≤ 2 → x ≢ 0 → y ≢ 0 → receiver_bit x ≡ receiver_bit y → x ≡ y
same_label zero y h k a b e = absurd (a refl)
same_label (suc zero) zero h k a b e = absurd (b refl)
same_label (suc zero) (suc zero) h k a b e = refl
same_label (suc zero) (suc (suc zero)) h k a b e = absurd (omega arith)
same_label (suc zero) (suc (suc (suc y))) h k a b e = absurd (omega arith)
same_label (suc (suc zero)) zero h k a b e = absurd (b refl)
same_label (suc (suc zero)) (suc zero) h k a b e = absurd (omega arith)
same_label (suc (suc zero)) (suc (suc zero)) h k a b e = refl
same_label (suc (suc zero)) (suc (suc (suc y))) h k a b e = absurd (omega arith)
same_label (suc (suc (suc x))) y h k a b e = absurd (omega arith)

-- of the words that a call gives for the table's windows (`any_marks`), whatever labels are offered
pub plan_by_words : {t : Table} {words : List ℕ} → ClashWords t words → (labels : List ℕ) → Plan t labels ↔ PlanByWords t words labels
plan_by_words {t} {words} w labels = (to, from)
  where
    receiver_of : (i : ℕ) → i < length labels → bit (word_for Receiver labels) i ≡ receiver_bit (at labels i)
    receiver_of i h = word_bit (λ k. tells Receiver (at labels k)) (length labels) i h

    to : Plan t labels → PlanByWords t words labels
    to P = record { each = P.each; allowed = P.allowed; apart = λ i j a b e. zero_bit (at words i) j (clear i j a b e) }
      where
        clear : (i j : ℕ) → bit (word_for Heard labels) i ≡ 1 → bit (word_for Heard labels) j ≡ 1 → bit (word_for Receiver labels) i ≡ bit (word_for Receiver labels) j → bit (at words i) j ≡ 1 → ⊥
        clear i j a b e c =
            let f = (heard_bit labels i).0 a in
            let g = (heard_bit labels j).0 b in
            let h : i < rows t = omega (arith, P.each) in
            let k : j < rows t = omega (arith, P.each) in
            let s = (w.bits i j h).0 c in
            let l = same_label (at labels i) (at labels j) (P.allowed i h).known (P.allowed j k).known f.1 g.1 (sym (receiver_of i f.0) ∙ e ∙ receiver_of j g.0) in
            P.apart i j h k s.1 f.1 l s.2

    from : PlanByWords t words labels → Plan t labels
    from Q = record { each = Q.each; allowed = Q.allowed; apart = λ i j h k d n e c. clear i j h k d n e c }
      where
        clear : (i j : ℕ) → i < rows t → j < rows t → i ≢ j → at labels i ≢ 0 → at labels i ≡ at labels j → Clash t.setting (row_at t i) (row_at t j) → ⊥
        clear i j h k d n e c =
            let l : i < length labels = omega (arith, Q.each) in
            let m : j < length labels = omega (arith, Q.each) in
            let z = Q.apart i j ((heard_bit labels i).1 (l, n)) ((heard_bit labels j).1 (m, λ y. n (e ∙ y))) (receiver_of i l ∙ ap receiver_bit e ∙ sym (receiver_of j m)) in
            omega (arith, z, (w.bits i j h).1 (k, d, c))
