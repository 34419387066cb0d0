-- A loop over the lanes, in which each lane loses a shift of its own.
-- Assumes nothing.
use Rattle.std.proofs.Common.{◌≡◌, ℕ, ◌+◌, ◌-◌, ◌%◌, ◌<◌, ◌≤◌, List, length, refl, ap, ◌∙◌, arith}
use native.Mathlib.Decide.{ℕ_discrete}
use borrow.Author.Tests.{lt-ltb, le-ltb}
use Rattle.modular.specs.Modular.{neg}
use Rattle.operation.specs.Gate.{less_x}
use Rattle.lanes.specs.Lanes.{lane, Lanes, LaneFrame, Alone}
use Rattle.correction.specs.Correction.{held_in, written_in, reported_in, Corrected, CorrectedBy}

-- the first k lanes are corrected, and the others are as they were
pub record Correcting (d n q r : ℕ) (R : ℕ → ℕ → Type 0) (k : ℕ) (F G : List ℕ) : Type 0 where
  pub len : length G ≡ length F
  pub before : (l : ℕ) → l < k → (x : ℕ) × R l x × (lane n G l ≡ less_x d q ((x + neg d r) % d) (lane n F l))
  pub after : (l : ℕ) → k ≤ l → l < 256 → lane n G l ≡ lane n F l

pub lane_of : {d n l : ℕ} {F : List ℕ} → l < 256 → Lanes d n F → LaneFrame d n l F
lane_of {l = l} low p = record { dimension = p.dimension; qudits = p.qudits; inside = low; room = p.room; powers = p.powers l low }

module _ {d n q r : ℕ} {R : ℕ → ℕ → Type 0} {F : List ℕ} where
  pub correcting_none : Correcting d n q r R 0 F F
  correcting_none = record { len = refl; before = λ l h. absurd (omega arith); after = λ l h g. refl }

  -- one lane more
  pub correcting_more : {k s : ℕ} {G H : List ℕ} (x : ℕ) → k < 256 → R k x → s ≡ (x + neg d r) % d → Correcting d n q r R k F G → Alone (less_x d q s) n k G H
      → Correcting d n q r R (k + 1) F H
  correcting_more {k} {s} {G} {H} x low is e a b =
      record {
        len = b.len ∙ a.len;
        before = λ l h. by l h (ℕ_discrete l k);
        after = λ l h g. b.others l g (λ z. omega arith) ∙ a.after l (omega arith) g;
      }
    where
      by : (l : ℕ) → l < k + 1 → Dec (l ≡ k) → (x : ℕ) × R l x × (lane n H l ≡ less_x d q ((x + neg d r) % d) (lane n F l))
      by l h (yes z) = rw z (x, is, rw (← e) (b.here ∙ ap (less_x d q s) (a.after k (omega arith) low)))
      by l h (no z) = let w = a.before l (omega arith) in (w.0, w.1, b.others l (omega arith) z ∙ w.2)

  pub correcting_all : {used k : ℕ} {G : List ℕ} → used ≤ k → Correcting d n q r R k F G → CorrectedBy d n q r used R F G
  correcting_all h a = record { len = a.len; each = λ l g. a.before l (omega arith) }

-- where a result is read: it is written, or held in the tile
pub when_written : (w base : ℕ) (tile out : List ℕ) (m l : ℕ) → m < base → reported_in w base tile out m l ≡ written_in w out m l
unfolding reported_in
when_written w base tile out m l h = rw (lt-ltb m base h)

pub when_held : (w base : ℕ) (tile out : List ℕ) (m l : ℕ) → base ≤ m → reported_in w base tile out m l ≡ held_in tile (m - base) l
unfolding reported_in
when_held w base tile out m l h = rw (le-ltb m base h)

pub corrected-by : {d n q r used : ℕ} {R : ℕ → ℕ → Type 0} {g : ℕ → ℕ} {v v' : List ℕ} → ((l x : ℕ) → l < used → R l x → x ≡ g l)
    → CorrectedBy d n q r used R v v'
    → Corrected d n q r used g v v'
corrected-by e a = record { len = a.len; each = λ l h. let w = a.each l h in rw (← e l w.0 h w.1) w.2 }
