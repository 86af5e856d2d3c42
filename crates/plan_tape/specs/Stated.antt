-- Believed: What bytes state where they are read as a plan tape, by the bytes alone: kind, R, and the LISTENs that
-- stand under each receiver. Of bytes that are no plan tape it is what can be read of them from the front.
use Rattle.std.specs.Prelude.{ℕ, cond, ◌||◌, List, [], ◌∷◌, eqb}
use Rattle.window.specs.declared.Kind.{Kind}
use Rattle.window.specs.declared.Kind.TheVariants.{Round, Run}
use Rattle.tape.specs.Commands.{ROUND, RUN, RECEIVER, LISTEN, begins, after}
use Rattle.tape.specs.Words.{joined, word_at}
use Rattle.plan_tape.specs.PlanTapes.{kind_command}

-- what a LISTEN tells
pub record Listen : Type 0 where
  pub row : ℕ
  pub start : ℕ
  pub end : ℕ

abbrev pub listen_of : ℕ → ℕ → ℕ → Listen
listen_of row start end = record { row = row; start = start; end = end }

-- the LISTENs with which the bytes begin
unfoldable pub listens_in : List ℕ → List Listen
listens_in [] = []
listens_in (command ∷ []) = []
listens_in (command ∷ row ∷ []) = []
listens_in (command ∷ row ∷ a ∷ []) = []
listens_in (command ∷ row ∷ a ∷ b ∷ []) = []
listens_in (command ∷ row ∷ a ∷ b ∷ c ∷ []) = []
listens_in (command ∷ row ∷ a ∷ b ∷ c ∷ d ∷ rest) =
    cond (eqb command LISTEN) (listen_of row (joined a b) (joined c d) ∷ listens_in rest) []

-- the bytes after them
unfoldable pub after_listens : List ℕ → List ℕ
after_listens [] = []
after_listens (command ∷ []) = command ∷ []
after_listens (command ∷ row ∷ []) = command ∷ row ∷ []
after_listens (command ∷ row ∷ a ∷ []) = command ∷ row ∷ a ∷ []
after_listens (command ∷ row ∷ a ∷ b ∷ []) = command ∷ row ∷ a ∷ b ∷ []
after_listens (command ∷ row ∷ a ∷ b ∷ c ∷ []) = command ∷ row ∷ a ∷ b ∷ c ∷ []
after_listens (command ∷ row ∷ a ∷ b ∷ c ∷ d ∷ rest) =
    cond (eqb command LISTEN) (after_listens rest) (command ∷ row ∷ a ∷ b ∷ c ∷ d ∷ rest)

-- the LISTENs after the RECEIVER with which the bytes begin; none where none stands first
unfoldable pub part_in : List ℕ → List Listen
unfolding listens_in begins
part_in s = cond (begins RECEIVER s) (listens_in (after RECEIVER s)) []

-- the bytes after them
unfoldable pub after_part : List ℕ → List ℕ
unfolding after_listens begins
after_part s = cond (begins RECEIVER s) (after_listens (after RECEIVER s)) s

-- run where RUN stands first, else round
unfoldable pub kind_in : List ℕ → Kind
unfolding begins
kind_in s = cond (begins RUN s) Run Round

-- its R; 0 where neither stands first
unfoldable pub ticks_at : List ℕ → ℕ
unfolding begins
ticks_at s = cond (begins ROUND s || begins RUN s) (word_at s 1) 0

-- the bytes after it
unfoldable pub after_head : List ℕ → List ℕ
unfolding kind_in
after_head s = after (kind_command (kind_in s)) s

-- what is stated: kind, R, and the LISTENs of receivers 1 and 2
pub record Stated : Type 0 where
  pub kind : Kind
  pub ticks : ℕ
  pub first : List Listen
  pub second : List Listen

unfoldable pub stated : List ℕ → Stated
unfolding kind_in ticks_at part_in after_part after_head
stated tape =
    record {
      kind = kind_in tape;
      ticks = ticks_at tape;
      first = part_in (after_head tape);
      second = part_in (after_part (after_head tape));
    }
