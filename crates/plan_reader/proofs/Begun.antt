-- Receivers and heads as items: what is known of bytes where the first item is a RECEIVER, a ROUND or a RUN, and
-- where it is none.
use Prim.Native.Nat.{ℕ}
use mathlib.Core.Path.{◌≡◌, refl, sym, ap, ◌∙◌}
use mathlib.Core.Logic.{◌≢◌}
use mathlib.Core.Bool.{Bool, true, false, ◌&&◌, ◌||◌, or-true, and-eq-true_iff}
use mathlib.Core.List.{List, []}
use native.Mathlib.Omega.{arith}
use lib.Dec.{eqb}
use lib.ListN.{get_or}
use Rattle.window.specs.declared.Kind.{Kind}
use Rattle.window.specs.declared.Kind.TheVariants.{Round, Run}
use Rattle.tape.specs.Commands.{ROUND, RUN, RECEIVER, LISTEN, STOP, begins, stop_last, after}
use Rattle.tape.specs.Words.{word_at}
use Rattle.plan_tape.specs.PlanTapes.{kind_command}
use Rattle.plan_tape.specs.Stated.{listens_in, after_listens, part_in, after_part, kind_in, ticks_at, after_head, stated, Listen}
use Rattle.std.specs.Prelude.{Option, Some}
use Rattle.std.specs.Option.{option_eq}
use Rattle.plan_reader.specs.declared.Head.{Head as Begin}
use Rattle.plan_reader.specs.declared.Item.{Item}
use Rattle.plan_reader.specs.declared.Item.TheVariants as item
use Rattle.plan_reader.specs.contracts.ItemPartialEq.TheImpl as ItemEq
use Rattle.plan_reader.specs.Items.{head_of, head_at, item_of, after_item}
use Rattle.plan_reader.specs.Judged.{is_receiver, is_formed, are_parts, is_plan_tape}
use Rattle.plan_reader.proofs.Items.{one_command, First, listen_first, receiver_first, stop_first, head_first, none_first, first}

-- ---- RECEIVER

-- the test whether an item is RECEIVER with a number
abbrev is_item : Option Item → ℕ → Bool
is_item x number = option_eq ItemEq.eq-value.it x (Some (item.Receiver number))

module _ (s : List ℕ) where
  -- a RECEIVER stands first: its LISTENs stand after it
  pub under : begins RECEIVER s ≡ true → (part_in s ≡ listens_in (after_item s)) × (after_part s ≡ after_listens (after_item s))
  unfolding part_in after_part after_item
  under b = let l = one_command RECEIVER LISTEN s (λ q. omega (arith, q)) b in (rw (b, l) refl, rw (b, l) refl)

  -- no RECEIVER stands first: nothing stands under one, and all is left
  pub not_under : begins RECEIVER s ≡ false → (part_in s ≡ []) × (after_part s ≡ s)
  unfolding part_in after_part
  not_under b = (rw b refl, rw b refl)

  pub receiver_begins : (number : ℕ) → item_of s ≡ Some (item.Receiver number) → begins RECEIVER s ≡ true
  receiver_begins number same = go (first s)
    where
      go : First s → begins RECEIVER s ≡ true
      go (receiver_first b i a) = b
      go (listen_first b i a) = absurd (cc (i, same))
      go (stop_first b i a) = absurd (cc (i, same))
      go (head_first kind b i a) = absurd (cc (i, same))
      go (none_first l r o u i a) = absurd (cc (i, same))

  no_receiver_begins : ((number : ℕ) → item_of s ≡ Some (item.Receiver number) → ⊥) → begins RECEIVER s ≡ false
  no_receiver_begins not = go (first s)
    where
      go : First s → begins RECEIVER s ≡ false
      go (receiver_first b i a) = absurd (not _ i)
      go (listen_first b i a) = one_command LISTEN RECEIVER s (λ q. omega (arith, q)) b
      go (stop_first b i a) = one_command STOP RECEIVER s (λ q. omega (arith, q)) b
      go (head_first Round b i a) = one_command ROUND RECEIVER s (λ q. omega (arith, q)) b
      go (head_first Run b i a) = one_command RUN RECEIVER s (λ q. omega (arith, q)) b
      go (none_first l r o u i a) = r

  pub no_receiver : ((number : ℕ) → item_of s ≡ Some (item.Receiver number) → ⊥) → (part_in s ≡ []) × (after_part s ≡ s)
  no_receiver not = not_under (no_receiver_begins not)

  pub is_receiver_item : (number : ℕ) → is_item (item_of s) number ≡ is_receiver number s
  unfolding is_receiver
  is_receiver_item number = go (first s)
    where
      go : First s → is_item (item_of s) number ≡ is_receiver number s
      go (receiver_first b i a) = rw (i, b) refl
      go (listen_first b i a) = rw (i, one_command LISTEN RECEIVER s (λ q. omega (arith, q)) b) refl
      go (stop_first b i a) = rw (i, one_command STOP RECEIVER s (λ q. omega (arith, q)) b) refl
      go (head_first Round b i a) = rw (i, one_command ROUND RECEIVER s (λ q. omega (arith, q)) b) refl
      go (head_first Run b i a) = rw (i, one_command RUN RECEIVER s (λ q. omega (arith, q)) b) refl
      go (none_first l r o u i a) = rw (i, r) refl

  -- a RECEIVER with this number, which is taken, and then its LISTENs
  pub part_taken : (number : ℕ) {one two : List ℕ} {listens : List Listen} → is_receiver number s ≡ true
      → one ≡ after_item s → listens ≡ listens_in one → two ≡ after_listens one → (part_in s ≡ listens) × (after_part s ≡ two)
  unfolding is_receiver
  part_taken number e o l t =
      let u = under ((and-eq-true_iff (begins RECEIVER s) (eqb (get_or s 1 0) number)).0 e).0 in
      (u.0 ∙ ap listens_in (sym o) ∙ sym l, u.1 ∙ ap after_listens (sym o) ∙ sym t)

-- ---- ROUND and RUN

module _ (s : List ℕ) where
  -- ROUND or RUN begins the tape.
  pub record HeadIn (head : Begin) : Type 0 where
    pub begun : (begins ROUND s || begins RUN s) ≡ true
    pub kind_is : kind_in s ≡ head.kind
    pub ticks_is : ticks_at s ≡ head.ticks
    pub rest_is : after_item s ≡ after_head s

  kind_in_begun : (kind : Kind) → begins (kind_command kind) s ≡ true → kind_in s ≡ kind
  unfolding kind_in
  kind_in_begun Round b = rw (one_command ROUND RUN s (λ q. omega (arith, q)) b) refl
  kind_in_begun Run b = rw b refl

  either : (kind : Kind) → begins (kind_command kind) s ≡ true → (begins ROUND s || begins RUN s) ≡ true
  either Round b = rw b refl
  either Run b = rw b (or-true (begins ROUND s))

  pub head_taken : (h : Begin) → item_of s ≡ Some (item.Head h) → HeadIn h
  unfolding ticks_at after_head
  head_taken h same = go (first s)
    where
      go : First s → HeadIn h
      go (head_first kind b i a) =
          let made : Some (head_at kind s) ≡ Some (item.Head h) = cc (i, same) in
          let read : head_of kind (word_at s 1) ≡ h = cc made in
          let is = kind_in_begun kind b in
          record {
            begun = either kind b;
            kind_is = is ∙ ap (λ (h : Begin). h.kind) read;
            ticks_is = rw (either kind b) (ap (λ (h : Begin). h.ticks) read);
            rest_is = a ∙ ap (λ (d : Kind). after (kind_command d) s) (sym is);
          }
      go (receiver_first b i a) = absurd (cc (i, same))
      go (listen_first b i a) = absurd (cc (i, same))
      go (stop_first b i a) = absurd (cc (i, same))
      go (none_first l r o u i a) = absurd (cc (i, same))

  no_command : (c : ℕ) → c ≢ ROUND → c ≢ RUN → begins c s ≡ true → (begins ROUND s || begins RUN s) ≡ false
  no_command c n m b = rw (one_command c ROUND s n b, one_command c RUN s m b) refl

  pub no_head : ((h : Begin) → item_of s ≡ Some (item.Head h) → ⊥) → (begins ROUND s || begins RUN s) ≡ false
  no_head not = go (first s)
    where
      go : First s → (begins ROUND s || begins RUN s) ≡ false
      go (head_first kind b i a) = absurd (not _ i)
      go (receiver_first b i a) = no_command RECEIVER (λ q. omega (arith, q)) (λ q. omega (arith, q)) b
      go (listen_first b i a) = no_command LISTEN (λ q. omega (arith, q)) (λ q. omega (arith, q)) b
      go (stop_first b i a) = no_command STOP (λ q. omega (arith, q)) (λ q. omega (arith, q)) b
      go (none_first l r o u i a) = rw (o, u) refl

-- ---- the test of a tape, from its parts

module _ (s : List ℕ) {kind : Kind} {R : ℕ} {one two end : List ℕ} {b r1 r2 q : Bool} {first second : List Listen} where
  pub tested : (begins ROUND s || begins RUN s) ≡ b → kind_in s ≡ kind → ticks_at s ≡ R
      → after_head s ≡ one → is_receiver 1 one ≡ r1 → part_in one ≡ first
      → after_part one ≡ two → is_receiver 2 two ≡ r2 → part_in two ≡ second
      → after_part two ≡ end → stop_last end ≡ q
      → is_plan_tape s ≡ ((b && r1 && r2 && q) && are_parts kind R first second)
  unfolding is_plan_tape is_formed stated
  tested begun k t a e f m g h z l =
      let to-two : after_part (after_head s) ≡ two = ap after_part a ∙ m in
      let to_end : after_part (after_part (after_head s)) ≡ end = ap after_part to-two ∙ z in
      λ i. (
      begun i && (ap (is_receiver 1) a ∙ e) i && (ap (is_receiver 2) to-two ∙ g) i && (ap stop_last to_end ∙ l) i
      ) && are_parts (k i) (t i) ((ap part_in a ∙ f) i) ((ap part_in to-two ∙ h) i)
