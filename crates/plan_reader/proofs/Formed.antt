-- The form of a plan tape: bytes of that form are those of what they state, and what states something has that form.
use Prim.Native.Nat.{ℕ, suc, ◌+◌}
use mathlib.Core.Path.{◌≡◌, refl, sym, ap, ◌∙◌}
use mathlib.Core.Logic.Iff
use mathlib.Core.Logic.{◌↔◌, inl, inr, ⊎_elim}
use mathlib.Core.Bool.{Bool, true, false, false≢true, cond, ◌||◌}
use mathlib.Core.List.{List, [], ◌∷◌, ◌++◌}
use native.Mathlib.Omega.{arith}
use lib.Dec.{eqb}
use lib.ListN.{length, get_or, drop, drop_of_length-le}
use lib.Seq.{get_or-append-add}
use Rattle.std.proofs.lemmas.Bool.Decides.{Decides-eqb}
use Rattle.basics.proofs.Tests.{and_iff, or_iff}
use Rattle.window.specs.declared.Kind.{Kind}
use Rattle.window.specs.declared.Kind.TheVariants.{Round, Run}
use Rattle.tape.specs.Commands.{ROUND, RUN, RECEIVER, LISTEN, STOP, operand_bytes, begins, stop_last, after}
use Rattle.tape.specs.Words.{joined, high_byte, low_byte, word_at, Bytes}
use Rattle.tape.proofs.Joined.{high_joined, low_joined}
use Rattle.tape.proofs.Heads.{begins_iff, spread}
use Rattle.plan_tape.specs.PlanTapes.{kind_command, kind_part}
use Rattle.plan_tape.specs.Stated.{listen_of, listens_in, after_listens, part_in, after_part, kind_in, ticks_at, after_head, Stated, stated}
use Rattle.plan_tape.proofs.Reading.{listen_bytes, part_bytes, bytes_of, head_passed, part_passed}
use Rattle.plan_reader.specs.Judged.{is_receiver, is_formed}

-- ---- from bytes to what they state and back

-- what follows bytes of a tape is bytes too
bytes_rest : (s x y : List ℕ) → s ≡ x ++ y → Bytes s → Bytes y
bytes_rest s x y e h i = rw (get_or-append-add x y i 0) at (rw e at (h (length x + i)))

listens_split : (s : List ℕ) → Bytes s → s ≡ listen_bytes (listens_in s) ++ after_listens s
unfolding listens_in after_listens listen_bytes
listens_split [] h = refl
listens_split (x ∷ []) h = refl
listens_split (x ∷ y ∷ []) h = refl
listens_split (x ∷ y ∷ a ∷ []) h = refl
listens_split (x ∷ y ∷ a ∷ b ∷ []) h = refl
listens_split (x ∷ y ∷ a ∷ b ∷ c ∷ []) h = refl
listens_split (x ∷ y ∷ a ∷ b ∷ c ∷ d ∷ l) h = go (eqb x LISTEN) refl (listens_split l (λ i. h (suc (suc (suc (suc (suc (suc i))))))))
  where
    go : (t : Bool) → eqb x LISTEN ≡ t → l ≡ listen_bytes (listens_in l) ++ after_listens l
        → x ∷ y ∷ a ∷ b ∷ c ∷ d ∷ l
        ≡ listen_bytes (cond t (listen_of y (joined a b) (joined c d) ∷ listens_in l) []) ++ cond t (after_listens l) (x ∷ y ∷ a ∷ b ∷ c ∷ d ∷ l)
    go true e q = λ i. (Decides-eqb x LISTEN).0 e i ∷ y ∷ high_joined a b (h 3) i ∷ low_joined a b (h 3) i ∷ high_joined c d (h 5) i ∷ low_joined c d (h 5) i ∷ q i
    go false e q = refl

part_split : (number : ℕ) (s : List ℕ) → Bytes s → is_receiver number s ≡ true → s ≡ part_bytes number (part_in s) ++ after_part s
unfolding is_receiver part_in after_part operand_bytes
part_split number s h e =
    let f = (and_iff Iff.rfl (Decides-eqb (get_or s 1 0) number)).0 e in
    let b = (begins_iff RECEIVER s).0 f.0 in
    let first = spread s 0 2 (omega (arith, b.0)) in
    let rest = listens_split (drop 2 s) (bytes_rest s (get_or s 0 0 ∷ get_or s 1 0 ∷ []) (drop 2 s) first h) in
    rw f.0 (first ∙ (λ i. b.1 i ∷ f.1 i ∷ rest i))

-- a command with a word behind it
word_split : (command : ℕ) (s : List ℕ) → Bytes s → operand_bytes command ≡ 2 → begins command s ≡ true
    → s ≡ command ∷ high_byte (word_at s 1) ∷ low_byte (word_at s 1) ∷ drop 3 s
word_split command s h w e =
    let b = (begins_iff command s).0 e in
    spread s 0 3 (omega (arith, w, b.0))
    ∙ (λ i. b.1 i ∷ high_joined (get_or s 1 0) (get_or s 2 0) (h 2) i ∷ low_joined (get_or s 1 0) (get_or s 2 0) (h 2) i ∷ drop 3 s)

head_split : (s : List ℕ) → Bytes s → (begins ROUND s || begins RUN s) ≡ true → s ≡ kind_part (kind_in s) (ticks_at s) ++ after_head s
unfolding kind_in ticks_at after_head operand_bytes
head_split s h e = go (begins RUN s) refl
  where
    go : (t : Bool) → begins RUN s ≡ t → s ≡ kind_part (cond t Run Round) (ticks_at s) ++ after (kind_command (cond t Run Round)) s
    go true q = rw (e) (word_split RUN s h refl q)
    go false q =
        let round : begins ROUND s ≡ true = ⊎_elim (λ x. x) (λ x. absurd (false≢true (sym q ∙ x))) ((or_iff Iff.rfl Iff.rfl).0 e) in
        rw (e) (word_split ROUND s h refl round)

stop_split : (s : List ℕ) → stop_last s ≡ true → s ≡ STOP ∷ []
unfolding operand_bytes
stop_split s e =
    let f = (and_iff (begins_iff STOP s) (Decides-eqb (length s) 1)).0 e in
    spread s 0 1 (omega (arith, f.1)) ∙ (λ i. f.0.1 i ∷ drop_of_length-le s {i = 1} (omega (arith, f.1)) i)

-- what stands where, in turn
record Formed (tape : List ℕ) : Type 0 where
  head : (begins ROUND tape || begins RUN tape) ≡ true
  first : is_receiver 1 (after_head tape) ≡ true
  second : is_receiver 2 (after_part (after_head tape)) ≡ true
  last : stop_last (after_part (after_part (after_head tape))) ≡ true

formed_iff : (tape : List ℕ) → (is_formed tape ≡ true) ↔ Formed tape
unfolding is_formed
formed_iff tape = (
  λ e. let f = clauses.0 e in record { head = f.0.0.0; first = f.0.0.1; second = f.0.1; last = f.1 },
  λ f. clauses.1 (((f.head, f.first), f.second), f.last),
)
  where
    clauses : (is_formed tape ≡ true)
        ↔ (((((begins ROUND tape || begins RUN tape) ≡ true) × (is_receiver 1 (after_head tape) ≡ true)) × (is_receiver 2 (after_part (after_head tape)) ≡ true)) × (stop_last (after_part (after_part (after_head tape))) ≡ true))
    clauses = and_iff (and_iff (and_iff Iff.rfl Iff.rfl) Iff.rfl) Iff.rfl

-- a tape of the form is the bytes of what it states
pub formed_bytes : (tape : List ℕ) → Bytes tape → is_formed tape ≡ true → tape ≡ bytes_of (stated tape)
unfolding stated
formed_bytes tape h e =
    let f = (formed_iff tape).0 e in
    let one = after_head tape in
    let two = after_part one in
    let start = kind_part (kind_in tape) (ticks_at tape) in
    let ones = part_bytes 1 (part_in one) in
    let twos = part_bytes 2 (part_in two) in
    let head : tape ≡ start ++ one = head_split tape h f.head in
    let h₁ = bytes_rest tape start one head h in
    let first : one ≡ ones ++ two = part_split 1 one h₁ f.first in
    let second : two ≡ twos ++ after_part two = part_split 2 two (bytes_rest one ones two first h₁) f.second in
    head
    ∙ ap (λ (l : List ℕ). start ++ l) (first ∙ ap (λ (l : List ℕ). ones ++ l) (second ∙ ap (λ (l : List ℕ). twos ++ l) (stop_split (after_part two) f.last)))

-- ---- from what is stated to bytes and back

receiver_first : (number : ℕ) (rest : List ℕ) → is_receiver number (RECEIVER ∷ number ∷ rest) ≡ true
unfolding is_receiver operand_bytes
receiver_first number rest = (and_iff (begins_iff RECEIVER (RECEIVER ∷ number ∷ rest)) (Decides-eqb number number)).1 ((omega arith, refl), refl)

head_first : (kind : Kind) (R : ℕ) (rest : List ℕ) → (begins ROUND (kind_part kind R ++ rest) || begins RUN (kind_part kind R ++ rest)) ≡ true
unfolding operand_bytes
head_first Round R rest = (or_iff (begins_iff ROUND (kind_part Round R ++ rest)) (begins_iff RUN (kind_part Round R ++ rest))).1 (inl (omega arith, refl))
head_first Run R rest = (or_iff (begins_iff ROUND (kind_part Run R ++ rest)) (begins_iff RUN (kind_part Run R ++ rest))).1 (inr (omega arith, refl))

stop_alone : stop_last (STOP ∷ []) ≡ true
unfolding begins
stop_alone = refl

pub bytes_formed : (s : Stated) → is_formed (bytes_of s) ≡ true
bytes_formed s =
    let end = STOP ∷ [] in
    let two = part_bytes 2 s.second ++ end in
    let one = part_bytes 1 s.first ++ two in
    let passed = head_passed s.ticks one s.kind in
    let passed₁ = ap after_part passed ∙ part_passed two (λ e. omega arith) 1 s.first in
    let passed₂ = ap after_part passed₁ ∙ part_passed end (λ e. omega arith) 2 s.second in
    (formed_iff (bytes_of s)).1
    (record {
      head = head_first s.kind s.ticks one;
      first = ap (is_receiver 1) passed ∙ receiver_first 1 (listen_bytes s.first ++ two);
      second = ap (is_receiver 2) passed₁ ∙ receiver_first 2 (listen_bytes s.second ++ end);
      last = ap stop_last passed₂ ∙ stop_alone;
    })
