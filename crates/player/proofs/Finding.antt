-- Which LISTEN is told, of any LISTENs: none that the tick lies in, or one that it does.
use Prim.Native.Nat.{ℕ}
use mathlib.Core.Path.{◌≡◌, refl, ap, ◌∙◌}
use mathlib.Core.Logic.{◌⊎◌, inl, inr}
use mathlib.Core.Bool.{Bool, true, false, cond}
use mathlib.Core.List.Memᴰ
use mathlib.Core.List.{List, [], ◌∷◌, Memᴰ}
use Rattle.window.specs.declared.Kind.{Kind}
use Rattle.window.specs.Windows.{lies_in}
use Rattle.plan_tape.specs.Stated.{Listen}
use Rattle.player.specs.declared.Receiver.{Receiver}
use Rattle.player.specs.declared.Receiver.TheVariants.{Listening}
use Rattle.player.specs.Told.{telling}

module _ (kind : Kind) (R tick : ℕ) where
  abbrev pub Lies : Listen → Bool
  Lies w = lies_in kind R w.start w.end tick

  -- a LISTEN in whose window the tick lies, and which is told
  pub record Told (told : Receiver) (ws : List Listen) : Type 0 where
    pub one : Listen
    pub member : Memᴰ one ws
    pub lies : Lies one ≡ true
    pub is : told ≡ Listening one.row one.end

  pub record None (told before : Receiver) (ws : List Listen) : Type 0 where
    pub is : told ≡ before
    pub no_one : (w : Listen) → Memᴰ w ws → Lies w ≡ false

  abbrev pub Found : Receiver → Receiver → List Listen → Type 0
  Found told before ws = None told before ws ⊎ Told told ws

  -- what is told so far, with the LISTEN v looked at
  abbrev pub after : Bool → Listen → Receiver → Receiver
  after b v before = cond b (Listening v.row v.end) before

  found_more : {told : Receiver} (v : Listen) (ws : List Listen) (before : Receiver) (b : Bool) → Lies v ≡ b → Found told (after b v before) ws → Found told before (v ∷ ws)
  found_more v ws before b e (inr t) = inr (record { one = t.one; member = Memᴰ.tail t.member; lies = t.lies; is = t.is })
  found_more v ws before true e (inl n) = inr (record { one = v; member = Memᴰ.head refl; lies = e; is = n.is })
  found_more v ws before false e (inl n) = inl (record { is = n.is; no_one = either })
    where
      either : (w : Listen) → Memᴰ w (v ∷ ws) → Lies w ≡ false
      either w (Memᴰ.head q) = ap Lies q ∙ e
      either w (Memᴰ.tail m) = n.no_one w m

  pub found : (before : Receiver) (ws : List Listen) → Found (telling kind R tick before ws) before ws
  unfolding telling
  found before [] = inl (record { is = refl; no_one = λ w m. absurd (Memᴰ.not-nil m) })
  found before (v ∷ ws) = found_more v ws before (Lies v) refl (found (after (Lies v) v before) ws)
