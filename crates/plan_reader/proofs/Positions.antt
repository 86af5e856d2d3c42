-- Where a reader stands after a call, from what the calls promise alone: the reader before it determines what is given
-- and the reader after it, which stands further on by what is given, never past the end, and stays where nothing is.
use Prim.Native.Nat.{ℕ, ◌+◌, ◌≤◌, ◌<◌}
use mathlib.Core.Path.{◌≡◌, refl, sym, ap, ◌∙◌}
use mathlib.Core.Bool.{Bool, true, false, cond, false≢true}
use mathlib.Core.List.{List}
use native.Mathlib.Omega.{arith}
use lib.ListN.{length, drop}
use Rattle.std.specs.Prelude.{Option, Some, None}
use Rattle.std.proofs.lemmas.List.{length-drop}
use Rattle.window.specs.declared.Kind.TheVariants.{Round}
use Rattle.tape.specs.Commands.{LISTEN, begins}
use Rattle.plan_tape.proofs.Sample.{session_tape}
use Rattle.plan_reader.specs.declared.Listen.{Listen as Read}
use Rattle.plan_reader.specs.declared.PlanReader.{PlanReader}
use Rattle.plan_reader.specs.declared.Item.{Item}
use Rattle.plan_reader.specs.declared.Item.TheVariants.{Head, Receiver, Listen, Stop}
use Rattle.plan_reader.specs.Items.{head_of, read_of, stated_listen, listen_at, item_of, item_bytes, left, TakesItem, ReadsListen, TakesListen}
use Rattle.plan_reader.proofs.Items.{listen_whole, passed}

-- readers of one tape at one place are one
same_reader : {r r' : PlanReader} → r.tape ≡ r'.tape → r.at ≡ r'.at → r ≡ r'
same_reader t a = λ i. record { tape = t i; at = a i }

-- bytes that are left, as many as n, lie before the end of the tape
inside : (tape : List ℕ) (at n : ℕ) → n ≤ length (drop at tape) → at ≤ length tape → at + n ≤ length tape
inside tape at n h b = omega (arith, h, b, length-drop at tape)

-- ---- next

module _ (old new : PlanReader) {given : Option Item} (t : TakesItem old given new) where
  -- never backwards
  pub next_forward : old.at ≤ new.at
  next_forward = omega (arith, t.3)

  -- never past the end
  pub next_inside : old.at ≤ length old.tape.now → new.at ≤ length old.tape.now
  next_inside b =
      let fits : item_bytes given ≤ length (left old) = rw t.0 (passed (left old)).0 in
      omega (arith, t.3, inside old.tape.now old.at (item_bytes given) fits b)

  -- the reader is the same where nothing is given,
  pub next_stays : given ≡ None → new ≡ old
  unfolding item_bytes
  next_stays e = same_reader t.2 (omega (arith, t.3, ap item_bytes e))

  -- and at another place where something is
  pub next_moves : (x : Item) → given ≡ Some x → old.at < new.at
  unfolding item_bytes
  next_moves (Head head) e = omega (arith, t.3, ap item_bytes e)
  next_moves (Receiver number) e = omega (arith, t.3, ap item_bytes e)
  next_moves (Listen listen) e = omega (arith, t.3, ap item_bytes e)
  next_moves Stop e = omega (arith, t.3, ap item_bytes e)

  -- one answer, and one reader after it
  pub next_one : (new' : PlanReader) {given' : Option Item} → TakesItem old given' new'
      → (given ≡ given') × (new ≡ new')
  next_one new' t' =
      let same = t.0 ∙ sym t'.0 in
      (same, same_reader (t.2 ∙ sym t'.2) (t.3 ∙ ap (λ g. old.at + item_bytes g) same ∙ sym t'.3))

-- ---- listen

module _ (old new : PlanReader) where
  pub listen_forward : (given : Option Read) → ReadsListen old given new → old.at ≤ new.at
  listen_forward None t = omega (arith, ap (λ r. r.at) t.1)
  listen_forward (Some w) t = omega (arith, t.4)

  pub listen_inside : (given : Option Read) → ReadsListen old given new → old.at ≤ length old.tape.now
      → new.at ≤ length old.tape.now
  listen_inside None t b = omega (arith, b, ap (λ r. r.at) t.1)
  listen_inside (Some w) t b = omega (arith, t.4, inside old.tape.now old.at 6 (listen_whole (left old) t.0) b)

  pub listen_one : (new' : PlanReader) (given given' : Option Read)
      → ReadsListen old given new → ReadsListen old given' new' → (given ≡ given') × (new ≡ new')
  listen_one new' None None t t' = (refl, t.1 ∙ sym t'.1)
  listen_one new' None (Some w) t t' = absurd (false≢true (sym t.0 ∙ t'.0))
  listen_one new' (Some w) None t t' = absurd (false≢true (sym t'.0 ∙ t.0))
  listen_one new' (Some w) (Some w') t t' = (ap Some (t.1 ∙ sym t'.1), same_reader (t.3 ∙ sym t'.3) (t.4 ∙ sym t'.4))

  -- the same from what it promises by the LISTENs that stand one after the other
  pub listens_one : (new' : PlanReader) (given given' : Option Read)
      → TakesListen old given new → TakesListen old given' new' → (given ≡ given') × (new ≡ new')
  listens_one new' None None t t' = (refl, t.2 ∙ sym t'.2)
  listens_one new' None (Some w) t t' = absurd (cc (t.0, t'.0))
  listens_one new' (Some w) None t t' = absurd (cc (t.0, t'.0))
  listens_one new' (Some w) (Some w') t t' =
      let stated : stated_listen w ≡ stated_listen w' = cc (t.0, t'.0) in
      let same : w ≡ w' = λ i. read_of (stated i).row (stated i).start (stated i).end in
      (ap Some same, same_reader (t.2 ∙ sym t'.2) (t.3 ∙ sym t'.3))

-- ---- a walk over a tape: whatever a call gives at a place of it, it gives this and stands there

abbrev Goes : List ℕ → ℕ → Option Item → ℕ → Type 0
Goes tape from given to =
    (old new : PlanReader) (x : Option Item) → TakesItem old x new → old.tape.now ≡ tape → old.at ≡ from
    → (x ≡ given) × (new.at ≡ to)

goes : (tape : List ℕ) (from : ℕ)
    → let given = item_of (drop from tape) in Goes tape from given (from + item_bytes given)
goes tape from old new x t e f =
    let is : x ≡ item_of (drop from tape) = t.0 ∙ (λ i. item_of (drop (f i) (e i))) in
    (is, t.3 ∙ (λ i. f i + item_bytes (is i)))

abbrev Hears : List ℕ → ℕ → Option Read → ℕ → Type 0
Hears tape from given to =
    (old new : PlanReader) (x : Option Read) → ReadsListen old x new → old.tape.now ≡ tape → old.at ≡ from
    → (x ≡ given) × (new.at ≡ to)

abbrev heard_at : Bool → List ℕ → Option Read
heard_at b s = cond b (Some (listen_at s)) None

hears : (tape : List ℕ) (from : ℕ) (b : Bool) → begins LISTEN (drop from tape) ≡ b
    → Hears tape from (heard_at b (drop from tape)) (from + cond b 6 0)
hears tape from true b old new None t e f = absurd (false≢true (sym t.0 ∙ (λ i. begins LISTEN (drop (f i) (e i))) ∙ b))
hears tape from true b old new (Some w) t e f =
    (λ i. Some ((t.1 ∙ (λ j. listen_at (drop (f j) (e j)))) i), t.4 ∙ ap (λ k. k + 6) f)
hears tape from false b old new None t e f = (refl, omega (arith, f, ap (λ r. r.at) t.1))
hears tape from false b old new (Some w) t e f =
    absurd (false≢true (sym b ∙ sym (λ i. begins LISTEN (drop (f i) (e i))) ∙ t.0))

-- the tape of 26 bytes: ROUND, RECEIVER 1, two LISTENs, RECEIVER 2, a LISTEN, STOP, and the end
pub walked :
    Goes session_tape 0 (Some (Head (head_of Round 100))) 3
    × Goes session_tape 3 (Some (Receiver 1)) 5
    × Goes session_tape 5 (Some (Listen (read_of 0 10 30))) 11
    × Goes session_tape 11 (Some (Listen (read_of 3 90 10))) 17
    × Goes session_tape 17 (Some (Receiver 2)) 19
    × Goes session_tape 19 (Some (Listen (read_of 1 20 40))) 25
    × Goes session_tape 25 (Some Stop) 26
    × Goes session_tape 26 None 26
    × Goes session_tape 99 None 99
unfolding item_of item_bytes
walked = (
  goes session_tape 0,
  goes session_tape 3,
  goes session_tape 5,
  goes session_tape 11,
  goes session_tape 17,
  goes session_tape 19,
  goes session_tape 25,
  goes session_tape 26,
  goes session_tape 99,
)

-- asked for LISTENs it gives two of receiver 1, stays at RECEIVER 2, and does not take ROUND nor STOP
pub listened :
    Hears session_tape 0 None 0
    × Hears session_tape 5 (Some (read_of 0 10 30)) 11
    × Hears session_tape 11 (Some (read_of 3 90 10)) 17
    × Hears session_tape 17 None 17
    × Hears session_tape 19 (Some (read_of 1 20 40)) 25
    × Hears session_tape 25 None 25
    × Hears session_tape 99 None 99
unfolding begins
listened = (
  hears session_tape 0 false refl,
  hears session_tape 5 true refl,
  hears session_tape 11 true refl,
  hears session_tape 17 false refl,
  hears session_tape 19 true refl,
  hears session_tape 25 false refl,
  hears session_tape 99 false refl,
)
