-- What a step tells of a receiver is what its LISTENs mean at the tick: of LISTENs that do not overlap at most one
-- covers it, and that one is told.
use Prim.Native.Nat.{ℕ, ◌<◌}
use mathlib.Core.Path.{◌≡◌, sym, ◌∙◌}
use mathlib.Core.Logic.{inl, inr}
use mathlib.Core.Bool.{true, false≢true}
use mathlib.Core.List.Memᴰ
use mathlib.Core.List.{List, Memᴰ}
use native.Mathlib.Decide.{ℕ_discrete}
use Rattle.window.specs.declared.Kind.{Kind}
use Rattle.window.specs.Windows.{Covers}
use Rattle.window.proofs.Meaning.{lies_iff}
use Rattle.plan_tape.specs.Stated.{Listen, listen_of}
use Rattle.plan_reader.proofs.Parts.{Part}
use Rattle.player.specs.declared.Receiver.{Receiver}
use Rattle.player.specs.declared.Receiver.TheVariants.{Idle, Listening}
use Rattle.player.specs.Told.{Tells, telling}
use Rattle.player.proofs.Finding.{Lies, Found, found}

-- ---- on the LISTENs of a receiver of a tape that the writer can make

module _ (kind : Kind) (R tick : ℕ) (ws : List Listen) (part : Part kind R ws) (below : tick < R) where
  lies : (w : Listen) → Memᴰ w ws → Covers kind R w.start w.end tick → Lies kind R tick w ≡ true
  lies w m x = (lies_iff kind R w.start w.end tick).1 (part.window w m, below, x)

  covers : (w : Listen) → Lies kind R tick w ≡ true → Covers kind R w.start w.end tick
  covers w e = ((lies_iff kind R w.start w.end tick).0 e).2

  -- two LISTENs of a receiver that cover a tick are one
  pub at_most_one : (w v : Listen) → Memᴰ w ws → Memᴰ v ws → Covers kind R w.start w.end tick → Covers kind R v.start v.end tick → w ≡ v
  at_most_one w v m n x y = go (ℕ_discrete w.row v.row)
    where
      go : Dec (w.row ≡ v.row) → w ≡ v
      go (yes e) = part.once w v m n e
      go (no d) = absurd (part.apart w v m n d (record { tick = tick; below = below; in_first = x; in_second = y }))

  tells_found : {told : Receiver} → Found kind R tick told Idle ws → Tells kind R tick ws told
  tells_found (inl n) =
      record {
        listening = λ row end. (
          λ e. absurd (cc (n.is, e)),
          λ x. absurd (false≢true (sym (n.no_one (listen_of row x.0 end) x.1) ∙ lies (listen_of row x.0 end) x.1 x.2)),
        );
        idle = (λ e w m x. false≢true (sym (n.no_one w m) ∙ lies w m x), λ _. n.is);
      }
  tells_found (inr t) =
      let w = t.one in
      let x = covers w t.lies in
      record {
        listening = λ row end. (
          λ e.
              let row_is : w.row ≡ row = cc (t.is, e) in
              let end_is : w.end ≡ end = cc (t.is, e) in
              let same : w ≡ listen_of row w.start end = λ i. listen_of (row_is i) w.start (end_is i) in
              (w.start, Memᴰ.cast (sym same) t.member, rw end_is at x),
          λ y.
              let q = at_most_one w (listen_of row y.0 end) t.member y.1 x y.2 in
              t.is ∙ (λ i. Listening (q i).row (q i).end),
        );
        idle = (λ e. absurd (cc (t.is, e)), λ none. absurd (none w t.member x));
      }

  pub telling_tells : Tells kind R tick ws (telling kind R tick Idle ws)
  telling_tells = tells_found (found kind R tick Idle ws)
