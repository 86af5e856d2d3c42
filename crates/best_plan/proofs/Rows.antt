-- From tables to the core: a list of labels is a plan of a checked table exactly if it is an assignment of its arcs
-- and permissions. Run and round together.
use Prim.Native.Nat.{ℕ, ◌+◌, ◌≤◌, ◌<◌}
use mathlib.Core.Path.{◌≡◌, refl, sym, ◌∙◌}
use mathlib.Core.Logic.{◌≢◌, ◌↔◌, ◌⊎◌, inl, inr}
use mathlib.Core.Bool.{Bool, true}
use mathlib.Core.List.{List}
use native.Mathlib.Omega.{arith}
use native.Mathlib.Nat.{eq-or-lt_of_le}
use lib.ListN.{length, set}
use lib.Seq.{get_or-set_same, get_or-set_other}
use Rattle.basics.specs.Lists.{at}
use Rattle.std.specs.Prelude.{Option, None, Some, is_some}
use Rattle.std.specs.Int.{from_bool}
use Rattle.labels.specs.Permission.{permits}
use Rattle.labels.proofs.Permissions.{made_iff}
use Rattle.labels.proofs.Best.{assignment_iff}
use Rattle.window.specs.declared.Row.{Row}
use Rattle.window.specs.Windows.{ticks_in}
use Rattle.window.proofs.Meaning.{window_start}
use Rattle.line.specs.Cells.{core_bytes}
use Rattle.tracks.specs.Tracks.{Lent}
use Rattle.arcs.specs.Arcs.{Meet, Arcs, Assigned}
use Rattle.table.specs.declared.Setting.{Setting}
use Rattle.table.specs.Tables.{Table, rows, row_at, Allowed, Clash, Plan, ValidSetting, ValidRow, Valid, is_allowed}
use Rattle.table.specs.Changes.{with_row}
use Rattle.table.proofs.Plans.{allowed_iff}
use Rattle.table.proofs.Changes.{rows_with_row, row_before, row_last, valid_with}
use Rattle.best_plan.proofs.Reach.{circle_least, cut_most, arc_some, close_iff}
use Rattle.best_plan.specs.Rows.{circle_of, arc_of, permission_of, with_more, ValidMore, ArcRoom, ArcsIn, ArcsOf}

module _ (S : Setting) where
  pub circle_some : ValidSetting S → 1 ≤ circle_of S
  circle_some v = omega (arith, v.ticks_least, circle_least S.kind S.ticks)

  module _ (row : Row) where
    pub permission_iff : (x : ℕ) → Allowed S row x ↔ (permits (permission_of S row) x ≡ true)
    unfolding permission_of
    permission_iff x =
        let f = allowed_iff S row x in
        (λ a. (made_iff (is_allowed S row) x).1 (a.known, f.1 a), λ h. f.0 ((made_iff (is_allowed S row) x).0 h).1)

    -- a row's arc is one of the circle
    module _ (v : ValidRow S row) where
      pub arc_start : (arc_of S row).start < circle_of S
      unfolding arc_of
      arc_start = omega (arith, window_start S.kind S.ticks row.start row.end v.window, circle_least S.kind S.ticks)

      pub arc_proper : 1 ≤ (arc_of S row).length
      unfolding arc_of
      arc_proper = arc_some S.kind S.ticks S.gap row.start row.end v.window

      pub arc_most : (arc_of S row).length ≤ circle_of S
      unfolding arc_of
      arc_most = cut_most (circle_of S) (ticks_in S.kind S.ticks row.start row.end + S.gap)

  -- TWO ROWS CLASH EXACTLY IF THEIR ARCS MEET
  pub clash_iff : (row row' : Row) → ValidSetting S → ValidRow S row → ValidRow S row'
      → Clash S row row' ↔ Meet (circle_of S) (arc_of S row).start (arc_of S row).length (arc_of S row').start (arc_of S row').length
  unfolding arc_of
  clash_iff row row' h v w = close_iff S.kind S.ticks S.gap row.start row.end row'.start row'.end h.gap_most v.window w.window

-- ---- the table

module _ (t : Table) (valid : Valid t) {starts lengths perms : List ℕ} (arcs : ArcsOf t starts lengths perms) where
  abbrev S : Setting
  S = t.setting

  pub arcs_within : Arcs (circle_of t.setting) starts lengths
  arcs_within =
      record {
        some = circle_some S valid.setting;
        few = omega (arith, valid.few, arcs.lists.each_start);
        each = arcs.lists.each_length ∙ sym arcs.lists.each_start;
        start = λ i h. let k = within i h in rw (arcs.each.start i k) (arc_start S (row_at t i) (valid.row i k));
        proper = λ i h. let k = within i h in rw (arcs.each.ticks i k) (arc_proper S (row_at t i) (valid.row i k));
        whole = λ i h. let k = within i h in rw (arcs.each.ticks i k) (arc_most S (row_at t i) (valid.row i k));
      }
    where
      within : (i : ℕ) → i < length starts → i < rows t
      within i h = omega (arith, arcs.lists.each_start)

  -- THE STEP FROM TABLES TO THE CORE: the plans are the assignments
  pub plan_assigned : (l : List ℕ) → Plan t l ↔ Assigned (circle_of t.setting) starts lengths perms l
  plan_assigned l = rw arcs.lists.each_start (assignment_iff (rows t) mays clashes l)
    where
      mays : (i x : ℕ) → i < rows t → Allowed S (row_at t i) x ↔ (permits (at perms i) x ≡ true)
      mays i x h = rw (arcs.each.perm i h) (permission_iff S (row_at t i) x)

      clashes : (i j : ℕ) → i < rows t → j < rows t → i ≢ j → Clash S (row_at t i) (row_at t j) ↔ Meet (circle_of S) (at starts i) (at lengths i) (at starts j) (at lengths j)
      clashes i j h k d =
          rw (arcs.each.start i h, arcs.each.ticks i h, arcs.each.start j k, arcs.each.ticks j k)
          (clash_iff S (row_at t i) (row_at t j) valid.setting (valid.row i h) (valid.row j k))

  -- what the core is lent
  pub core_lent : {C : ℕ} {space : List ℕ} → C ≡ circle_of t.setting → core_bytes ≤ length space → Lent C starts lengths perms space
  core_lent e room = record { arcs = rw e arcs_within; each_perm = arcs.lists.each_perm ∙ sym arcs.lists.each_start; room = room }

-- ---- lists of arcs and permissions

-- written into lists with a place for each row
pub arcs_of : (t : Table) {n : ℕ} → n ≡ rows t → {a b c : List ℕ} → ArcsIn t a b c → length a ≡ n → length b ≡ n → length c ≡ n → ArcsOf t a b c
arcs_of t e p x y z = record { lists = record { each_start = x ∙ e; each_length = y ∙ e; each_perm = z ∙ e }; each = p }

-- ---- a row more

-- in a list that begins with an entry for each row, the entry after them is set: then there is one for each row of
-- the longer table
module _ (t : Table) (valid : Valid t) (new : Row) (f : Row → ℕ) (old : List ℕ) {n : ℕ} (all : n ≡ rows t) {l : List ℕ} (e : l ≡ set old n (f new)) (more : rows (with_row t new) ≤ length old) where
  entry_with : ((i : ℕ) → i < rows t → at old i ≡ f (row_at t i)) → (i : ℕ) → i < rows (with_row t new) → at l i ≡ f (row_at (with_row t new) i)
  entry_with h i b = go (eq-or-lt_of_le (omega (arith, rows_with_row t new)))
    where
      go : (i ≡ rows t) ⊎ (i < rows t) → at l i ≡ f (row_at (with_row t new) i)
      go (inl q) =
          rw (q, e, all, row_last t new valid.each_end valid.each_mark)
          (get_or-set_same old (rows t) (f new) 0 (omega (arith, rows_with_row t new)))
      go (inr q) =
          rw (e, row_before t new valid.each_end valid.each_mark i q)
          (get_or-set_other old n i (f new) 0 (λ r. omega arith) ∙ h i q)

-- the arc and permission of a row are written after those of a table
module _ (t : Table) (v : Valid t) (new : Row) {a b c : List ℕ} (arcs : ArcsIn t a b c) (room : ArcRoom (rows (with_row t new)) a b c) {n : ℕ} (all : n ≡ rows t) {starts lengths perms : List ℕ}
    (start_set : starts ≡ set a n (arc_of t.setting new).start) (length_set : lengths ≡ set b n (arc_of t.setting new).length) (perm_set : perms ≡ set c n (permission_of t.setting new)) where
  pub arcs_with : ArcsIn (with_row t new) starts lengths perms
  arcs_with =
      record {
        start = entry_with t v new (λ r. (arc_of t.setting r).start) a all start_set room.start arcs.start;
        ticks = entry_with t v new (λ r. (arc_of t.setting r).length) b all length_set room.ticks arcs.ticks;
        perm = entry_with t v new (permission_of t.setting) c all perm_set room.perm arcs.perm;
      }

-- ---- a table, and a row more where one is given

-- the longer table is checked
pub more_valid : (t : Table) (more : Option Row) → ValidMore t more → Valid (with_more t more)
more_valid t None v = v
more_valid t (Some row) v = valid_with t row v.valid.each_end v.valid.each_mark v.valid v.new v.few

pub setting_more : (t : Table) (more : Option Row) → (with_more t more).setting ≡ t.setting
setting_more t None = refl
setting_more t (Some row) = refl

-- how many rows there are, as the code adds them up
pub rows_more : (t : Table) (more : Option Row) {n m : ℕ} {b : Bool} → n ≡ rows t → b ≡ is_some more → m ≡ from_bool b → n + m ≡ rows (with_more t more)
rows_more t None e f g = rw (g, f) (omega arith)
rows_more t (Some row) e f g = rw (g, f) (omega (arith, rows_with_row t row))
