-- What stands first on bytes, case by case: which item it is, how many bytes it takes and which bytes follow it.
use Prim.Native.Nat.{ℕ, ◌+◌, ◌-◌, ◌≤◌, ◌<◌, min}
use mathlib.Core.Path.{◌≡◌, refl, sym, ap, ◌∙◌}
use mathlib.Core.Logic.{◌≢◌, ⊎_elim}
use mathlib.Core.Bool.{Bool, true, false, and-false}
use mathlib.Core.List.{List, [], ◌∷◌}
use native.Mathlib.Omega.{arith}
use borrow.Author.Tests.{ne_eqb}
use types.Run.{OneOf}
use denote.Enum.Declared.{tag_of}
use lib.ListN.{length, get_or, drop}
use lib.Seq.{drop-drop}
use Rattle.window.specs.declared.Kind.{Kind}
use Rattle.window.specs.declared.Kind.TheVariants.{Round, Run}
use Rattle.tape.specs.Commands.{ROUND, RUN, RECEIVER, LISTEN, STOP, operand_bytes, begins, after}
use Rattle.tape.proofs.Heads.{begins_iff}
use Rattle.plan_tape.specs.PlanTapes.{kind_command}
use Rattle.std.specs.Prelude.{Some, None}
use Rattle.std.specs.Borrow.{Bor}
use Rattle.std.proofs.lemmas.List.{length-drop, drop_min}
use Rattle.plan_reader.specs.declared.Head.{Head as Begin}
use Rattle.plan_reader.specs.declared.PlanReader.{PlanReader}
use Rattle.plan_reader.specs.declared.Item.{Item}
use Rattle.plan_reader.specs.declared.Item.TheVariants as item
use Rattle.plan_reader.specs.contracts.Item as ItemType
use Rattle.plan_reader.specs.Items.{listen_at, receiver_at, head_at, item_of, after_item, item_bytes, left}

-- one byte is one command
pub one_command : (c d : ℕ) (s : List ℕ) → c ≢ d → begins c s ≡ true → begins d s ≡ false
unfolding begins
one_command c d s n e = rw (ne_eqb (get_or s 0 0) d (λ q. n (sym ((begins_iff c s).0 e).1 ∙ q)), and-false)

-- ---- the operands of a command lie inside

module _ (s : List ℕ) where
  pub listen_whole : begins LISTEN s ≡ true → 5 < length s
  unfolding operand_bytes
  listen_whole b = ((begins_iff LISTEN s).0 b).0

  pub receiver_whole : begins RECEIVER s ≡ true → 1 < length s
  unfolding operand_bytes
  receiver_whole b = ((begins_iff RECEIVER s).0 b).0

  pub head_whole : (kind : Kind) → begins (kind_command kind) s ≡ true → 2 < length s
  unfolding operand_bytes
  head_whole Round b = ((begins_iff ROUND s).0 b).0
  head_whole Run b = ((begins_iff RUN s).0 b).0

-- ---- what stands first

pub data First (s : List ℕ) : Type 0 where
  listen_first : begins LISTEN s ≡ true → item_of s ≡ Some (item.Listen (listen_at s)) → after_item s ≡ after LISTEN s → First s
  receiver_first : begins RECEIVER s ≡ true → item_of s ≡ Some (receiver_at s) → after_item s ≡ after RECEIVER s → First s
  stop_first : begins STOP s ≡ true → item_of s ≡ Some item.Stop → after_item s ≡ after STOP s → First s
  head_first : (kind : Kind) → begins (kind_command kind) s ≡ true → item_of s ≡ Some (head_at kind s) → after_item s ≡ after (kind_command kind) s → First s
  none_first : begins LISTEN s ≡ false → begins RECEIVER s ≡ false → begins ROUND s ≡ false → begins RUN s ≡ false → item_of s ≡ None → after_item s ≡ s → First s

pub first : (s : List ℕ) → First s
unfolding item_of after_item
first s = go (begins LISTEN s) refl (begins RECEIVER s) refl (begins STOP s) refl (begins ROUND s) refl (begins RUN s) refl
  where
    go : (l : Bool) → begins LISTEN s ≡ l → (r : Bool) → begins RECEIVER s ≡ r → (p : Bool) → begins STOP s ≡ p → (o : Bool) → begins ROUND s ≡ o → (u : Bool) → begins RUN s ≡ u → First s
    go true a r b p c o d u e = listen_first a (rw a refl) (rw a refl)
    go false a true b p c o d u e = receiver_first b (rw (a, b) refl) (rw (a, b) refl)
    go false a false b true c o d u e = stop_first c (rw (a, b, c) refl) (rw (a, b, c) refl)
    go false a false b false c true d u e = head_first Round d (rw (a, b, c, d) refl) (rw (a, b, c, d) refl)
    go false a false b false c false d true e = head_first Run e (rw (a, b, c, d, e) refl) (rw (a, b, c, d, e) refl)
    go false a false b false c false d false e = none_first a b d e (rw (a, b, c, d, e) refl) (rw (a, b, c, d, e) refl)

-- a reader at the beginning of a tape has all of it left
pub all_left : {r : PlanReader} {tape : Bor (List ℕ)} → (r.tape ≡ tape) × (r.at ≡ 0) → left r ≡ tape.now
all_left e = λ i. drop (e.1 i) (e.0 i).now

-- ---- the position after an item that is taken: further on by the bytes that are no longer left

module _ (bytes : List ℕ) {rest : List ℕ} (n : ℕ) (e : rest ≡ drop n bytes) where
  pub rest_fits : length rest ≤ length bytes
  rest_fits = omega (arith, ap length e, length-drop n bytes)

  pub rest_count : n ≤ length bytes → length bytes - length rest ≡ n
  rest_count h = omega (arith, h, ap length e, length-drop n bytes)

  pub rest_stands : (tape : List ℕ) (at : ℕ) → bytes ≡ drop at tape → drop (at + (length bytes - length rest)) tape ≡ rest
  rest_stands tape at l =
      let taken = length bytes - length rest in
      let count : taken ≡ min n (length bytes) = omega (arith, ap length e, length-drop n bytes) in
      sym (drop-drop taken at tape) ∙ ap (drop taken) (sym l) ∙ ap (λ k. drop k bytes) count ∙ drop_min n bytes ∙ sym e

-- the first item lies inside, and what is left after it is what stands as many places further on as it takes bytes
pub passed : (s : List ℕ) → (item_bytes (item_of s) ≤ length s) × (after_item s ≡ drop (item_bytes (item_of s)) s)
unfolding item_bytes operand_bytes
passed s = go (first s)
  where
    go : First s → (item_bytes (item_of s) ≤ length s) × (after_item s ≡ drop (item_bytes (item_of s)) s)
    go (listen_first b i a) = (rw i (listen_whole s b), rw i a)
    go (receiver_first b i a) = (rw i (receiver_whole s b), rw i a)
    go (stop_first b i a) = (rw i (((begins_iff STOP s).0 b).0), rw i a)
    go (head_first Round b i a) = (rw i (head_whole s Round b), rw i a)
    go (head_first Run b i a) = (rw i (head_whole s Run b), rw i a)
    go (none_first l r o u i a) = (rw i (omega arith), rw i a)

module _ (bytes : List ℕ) {rest : List ℕ} (e : after_item bytes ≡ rest) where
  pub item_fits : length rest ≤ length bytes
  item_fits = rest_fits bytes (item_bytes (item_of bytes)) (sym e ∙ (passed bytes).1)

  pub item_stands : (tape : List ℕ) (at : ℕ) → bytes ≡ drop at tape → drop (at + (length bytes - length rest)) tape ≡ after_item bytes
  item_stands tape at l = rest_stands bytes (item_bytes (item_of bytes)) (sym e ∙ (passed bytes).1) tape at l ∙ sym e

  pub item_count : length bytes - length rest ≡ item_bytes (item_of bytes)
  item_count = rest_count bytes (item_bytes (item_of bytes)) (sym e ∙ (passed bytes).1) (passed bytes).0

-- ---- an item that is another command, by the number of its variant

abbrev tag : Item → ℕ
tag = tag_of ItemType.the_type

pub not_head : {x : Item} → OneOf (1 ∷ 2 ∷ 3 ∷ []) (tag x) → (head : Begin) → x ≡ item.Head head → ⊥
not_head h head e = none (rw e at h)
  where
    none : OneOf (1 ∷ 2 ∷ 3 ∷ []) 0 → ⊥
    none = ⊎_elim (λ z. omega (arith, z)) (⊎_elim (λ z. omega (arith, z)) (λ z. omega (arith, z)))

pub not_receiver : {x : Item} → OneOf (0 ∷ 2 ∷ 3 ∷ []) (tag x) → (number : ℕ) → x ≡ item.Receiver number → ⊥
not_receiver h number e = none (rw e at h)
  where
    none : OneOf (0 ∷ 2 ∷ 3 ∷ []) 1 → ⊥
    none = ⊎_elim (λ z. omega (arith, z)) (⊎_elim (λ z. omega (arith, z)) (λ z. omega (arith, z)))
