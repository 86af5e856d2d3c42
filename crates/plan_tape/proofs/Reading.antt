-- A plan tape states exactly its plan: from its bytes alone one reads the kind, R and, for each receiver, the rows with
-- their windows; a row stands under a receiver exactly if its label is that receiver.
use Prim.Native.Nat.{ℕ, ◌≤◌, ◌<◌}
use mathlib.Core.Path.{◌≡◌, refl, ap, ◌∙◌}
use mathlib.Core.Logic.{◌≢◌, ◌↔◌}
use mathlib.Core.List.Memᴰ
use mathlib.Core.List.{List, [], ◌∷◌, ◌++◌, map, Memᴰ}
use native.Mathlib.Decide.{dec_lt}
use native.Mathlib.Omega.{arith}
use borrow.Author.Tests.{ne_eqb}
use lib.ListN.{length, get_or-eq_default}
use Rattle.basics.specs.Lists.{at}
use Rattle.window.specs.declared.Kind.{Kind}
use Rattle.window.specs.declared.Kind.TheVariants.{Round, Run}
use Rattle.tape.specs.Commands.{ROUND, RUN, RECEIVER, LISTEN, STOP, operand_bytes}
use Rattle.tape.specs.Words.{word}
use Rattle.tape.proofs.Joined.{joined_word}
use Rattle.tape.proofs.Heads.{long}
use Rattle.plan_tape.specs.PlanTapes.{rows_of, listen, listens, kind_part, plan_tape}
use Rattle.plan_tape.specs.Stated.{Listen, listen_of, listens_in, after_listens, part_in, after_part, kind_in, ticks_at, after_head, Stated, stated}
use Rattle.plan_tape.proofs.Order.{rows_member, member_rows}

-- ---- the bytes that state something, in the form of a plan tape

unfoldable pub listen_bytes : List Listen → List ℕ
listen_bytes [] = []
listen_bytes (w ∷ ws) = (LISTEN ∷ w.row ∷ (word w.start ++ word w.end)) ++ listen_bytes ws

abbrev pub part_bytes : ℕ → List Listen → List ℕ
part_bytes receiver ws = RECEIVER ∷ receiver ∷ listen_bytes ws

abbrev pub bytes_of : Stated → List ℕ
bytes_of s = kind_part s.kind s.ticks ++ (part_bytes 1 s.first ++ (part_bytes 2 s.second ++ (STOP ∷ [])))

-- ---- they state it

-- bytes that begin with another command have no LISTEN in front
none_read : (rest : List ℕ) → at rest 0 ≢ LISTEN → (listens_in rest ≡ []) × (after_listens rest ≡ rest)
unfolding listens_in after_listens
none_read [] n = (refl, refl)
none_read (x ∷ []) n = (refl, refl)
none_read (x ∷ y ∷ []) n = (refl, refl)
none_read (x ∷ y ∷ a ∷ []) n = (refl, refl)
none_read (x ∷ y ∷ a ∷ b ∷ []) n = (refl, refl)
none_read (x ∷ y ∷ a ∷ b ∷ c ∷ []) n = (refl, refl)
none_read (x ∷ y ∷ a ∷ b ∷ c ∷ d ∷ l) n = rw (ne_eqb x LISTEN n) (refl, refl)

-- what is read and what is passed where such bytes follow
module _ (rest : List ℕ) (other : at rest 0 ≢ LISTEN) where
  listens_read : (ws : List Listen) → listens_in (listen_bytes ws ++ rest) ≡ ws
  unfolding listens_in listen_bytes
  listens_read [] = (none_read rest other).0
  listens_read (w ∷ ws) = rw (joined_word w.start, joined_word w.end) (ap (λ (l : List Listen). w ∷ l) (listens_read ws))

  listens_passed : (ws : List Listen) → after_listens (listen_bytes ws ++ rest) ≡ rest
  unfolding after_listens listen_bytes
  listens_passed [] = (none_read rest other).1
  listens_passed (w ∷ ws) = listens_passed ws

  module _ (receiver : ℕ) (ws : List Listen) where
    part_read : part_in (part_bytes receiver ws ++ rest) ≡ ws
    unfolding part_in operand_bytes
    part_read = rw (long RECEIVER (part_bytes receiver ws ++ rest) (omega arith)) (listens_read ws)

    pub part_passed : after_part (part_bytes receiver ws ++ rest) ≡ rest
    unfolding after_part operand_bytes
    part_passed = rw (long RECEIVER (part_bytes receiver ws ++ rest) (omega arith)) (listens_passed ws)

module _ (R : ℕ) (rest : List ℕ) where
  kind_read : (kind : Kind) → kind_in (kind_part kind R ++ rest) ≡ kind
  unfolding kind_in operand_bytes
  kind_read Round = rw (long RUN (kind_part Round R ++ rest) (omega arith)) refl
  kind_read Run = rw (long RUN (kind_part Run R ++ rest) (omega arith)) refl

  ticks_read : (kind : Kind) → ticks_at (kind_part kind R ++ rest) ≡ R
  unfolding ticks_at operand_bytes
  ticks_read Round = rw (long ROUND (kind_part Round R ++ rest) (omega arith)) (joined_word R)
  ticks_read Run = rw (long ROUND (kind_part Run R ++ rest) (omega arith), long RUN (kind_part Run R ++ rest) (omega arith)) (joined_word R)

  pub head_passed : (kind : Kind) → after_head (kind_part kind R ++ rest) ≡ rest
  unfolding after_head operand_bytes
  head_passed Round = rw (kind_read Round) refl
  head_passed Run = rw (kind_read Run) refl

pub bytes_read : (s : Stated) → stated (bytes_of s) ≡ s
unfolding stated
bytes_read s =
    let end = STOP ∷ [] in
    let middle = part_bytes 2 s.second ++ end in
    let rest = part_bytes 1 s.first ++ middle in
    let passed = head_passed s.ticks rest s.kind in
    let kind = kind_read s.ticks rest s.kind in
    let ticks = ticks_read s.ticks rest s.kind in
    let first = ap part_in passed ∙ part_read middle (λ e. omega arith) 1 s.first in
    let second = ap (λ (l : List ℕ). part_in (after_part l)) passed ∙ ap part_in (part_passed middle (λ e. omega arith) 1 s.first) ∙ part_read end (λ e. omega arith) 2 s.second in
    λ i. record { kind = kind i; ticks = ticks i; first = first i; second = second i }

-- ---- what a plan's tape states

module _ (starts ends : List ℕ) where
  abbrev pub window : ℕ → Listen
  window i = listen_of i (at starts i) (at ends i)

  pub listens_bytes : (rows : List ℕ) → listens starts ends rows ≡ listen_bytes (map window rows)
  unfolding listens listen_bytes
  listens_bytes [] = refl
  listens_bytes (i ∷ rows) = ap (λ (l : List ℕ). listen starts ends i ++ l) (listens_bytes rows)

  module _ (kind : Kind) (R : ℕ) (labels : List ℕ) where
    -- kind, R and the windows of each receiver's rows
    abbrev pub plan_stated : Stated
    plan_stated = record { kind = kind; ticks = R; first = map window (rows_of starts labels 1); second = map window (rows_of starts labels 2) }

    pub plan_bytes : plan_tape kind R starts ends labels ≡ bytes_of plan_stated
    unfolding plan_tape
    plan_bytes = rw (listens_bytes (rows_of starts labels 1), listens_bytes (rows_of starts labels 2)) refl

    pub tape_read : stated (plan_tape kind R starts ends labels) ≡ plan_stated
    tape_read = ap stated plan_bytes ∙ bytes_read plan_stated

-- A listening that a plan has for a receiver: the row's label is the receiver, and start and end are the row's.
abbrev pub Heard : List ℕ → List ℕ → List ℕ → ℕ → Listen → Type 0
Heard starts ends labels receiver w = (at labels w.row ≡ receiver) × (w.start ≡ at starts w.row) × (w.end ≡ at ends w.row)

-- what is read states the plan, and nothing else
pub record States (kind : Kind) (R : ℕ) (starts ends labels : List ℕ) (g : Stated) : Type 0 where
  pub kind_stated : g.kind ≡ kind
  pub ticks_stated : g.ticks ≡ R
  pub first_stated : (w : Listen) → Memᴰ w g.first ↔ Heard starts ends labels 1 w
  pub second_stated : (w : Listen) → Memᴰ w g.second ↔ Heard starts ends labels 2 w

-- a row that the table does not have counts as label 0
pub past_end : (labels : List ℕ) (i receiver : ℕ) → 1 ≤ receiver → at labels i ≡ receiver → i < length labels
past_end labels i receiver h e = go (dec_lt i (length labels))
  where
    go : Dec (i < length labels) → i < length labels
    go (yes l) = l
    go (no l) = absurd (omega (arith, get_or-eq_default labels 0 {n = i} (omega arith)))

module _ (starts ends labels : List ℕ) where
  pub windows_stated : (receiver : ℕ) → 1 ≤ receiver → (w : Listen) → Memᴰ w (map (window starts ends) (rows_of starts labels receiver)) ↔ Heard starts ends labels receiver w
  windows_stated receiver h w = (to, from)
    where
      to : Memᴰ w (map (window starts ends) (rows_of starts labels receiver)) → Heard starts ends labels receiver w
      to m =
          let f = Memᴰ.of_map (window starts ends) (rows_of starts labels receiver) m in
          let label = (rows_member starts labels receiver f.0 (length labels) f.1).1 in
          rw (← f.2) (label, refl, refl)

      from : Heard starts ends labels receiver w → Memᴰ w (map (window starts ends) (rows_of starts labels receiver))
      from k =
          let m = Memᴰ.map (window starts ends) (member_rows starts labels receiver w.row (length labels) (past_end labels w.row receiver h k.0) k.0) in
          Memᴰ.cast (rw (← k.1, ← k.2) refl) m

  -- a plan's tape states the plan, and nothing else
  pub tape_states : (kind : Kind) (R : ℕ) → States kind R starts ends labels (stated (plan_tape kind R starts ends labels))
  tape_states kind R =
      rw (tape_read starts ends kind R labels)
      (record {
        kind_stated = refl;
        ticks_stated = refl;
        first_stated = windows_stated 1 (omega arith);
        second_stated = windows_stated 2 (omega arith);
      })
