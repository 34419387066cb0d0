-- Loops that write a tile, a shuffle of it and a shot's bytes; four shuffles turn a tile.
-- Assumes nothing.
use mathlib.Core.Path.{◌≡◌, refl, ap, ◌∙◌}
use mathlib.Core.Logic.{◌≢◌}
use mathlib.Core.List.{List}
use Prim.Native.Nat.{ℕ, ◌+◌, ◌*◌, ◌/◌, ◌%◌, ◌<◌, ◌≤◌}
use native.Mathlib.Decide.{ℕ_discrete}
use native.Mathlib.Omega.{arith}
use mathlib.Core.Bool.{cond}
use lib.Dec.{eqb}
use lib.ListN.{length, get_or, set, length-set}
use lib.Seq.{get_or-set_same, get_or-set_other}
use borrow.Author.Tests.{eq-eqb, ne_eqb}
use Rattle.tile.specs.Tile.{ShotsRoom, halved, Shuffled, Transposed, Interleaved, RowsChanged, Flushed}

-- room is kept with the length
pub shots-kept : {w used : ℕ} {out out' : List ℕ} → ShotsRoom w used out → length out' ≡ length out → ShotsRoom w used out'
shots-kept r e = record { lanes = r.lanes; narrow = r.narrow; room = omega (arith, r.room) }

-- bytes a to a + k − 1 of G are f 0, f 1, ..; what lies before a is as in F
pub record Run (f : ℕ → ℕ) (a k : ℕ) (F G : List ℕ) : Type 0 where
  pub len : length G ≡ length F
  pub done : (i : ℕ) → i < k → get_or G (a + i) 0 ≡ f i
  pub before : (i : ℕ) → i < a → get_or G i 0 ≡ get_or F i 0

pub run_none : {f : ℕ → ℕ} {a : ℕ} {F : List ℕ} → Run f a 0 F F
run_none = record { len = refl; done = λ i h. absurd (omega arith); before = λ i h. refl }

pub run_more : {f : ℕ → ℕ} {a k : ℕ} {F G : List ℕ} (at next x : ℕ) → at ≡ a + k → next ≡ k + 1 → at < length F → x ≡ f k → Run f a k F G
    → Run f a next F (set G at x)
run_more {f} {a} {k} {F} {G} at next x p n l e h =
    rw (p, n) (record {
      len = length-set G (a + k) x ∙ h.len;
      done = λ i m. by i m (ℕ_discrete i k);
      before = λ i m. get_or-set_other G (a + k) i x 0 (λ z. omega arith) ∙ h.before i m;
    })
  where
    by : (i : ℕ) → i < k + 1 → Dec (i ≡ k) → get_or (set G (a + k) x) (a + i) 0 ≡ f i
    by i m (yes z) = rw z (get_or-set_same G (a + k) x 0 (omega (arith, h.len)) ∙ e)
    by i m (no z) = get_or-set_other G (a + k) (a + i) x 0 (λ q. omega arith) ∙ h.done i (omega arith)

-- the clean outcome r with lane l's X power on q
abbrev pub result_at : ℕ → ℕ → ℕ → List ℕ → ℕ → ℕ
result_at d q r v l = (r + get_or v (256 * q + l) 0) % d

-- ρ of 2x + e: the last bit of twelve becomes the first
rotate : (k x e : ℕ) → k ≡ 2 * x + e → e < 2 → 2048 * (k % 2) + k / 2 ≡ 2048 * e + x
rotate k x e h l = omega arith

module _ {s0 s1 s2 s3 s4 : List ℕ} (a : Shuffled s0 s1) (b : Shuffled s1 s2) (c : Shuffled s2 s3) (d : Shuffled s3 s4) where
  turn : (l y y0 y1 b1 y2 b2 y3 : ℕ) → l < 256 → y ≡ 2 * y1 + y0 → y1 ≡ 2 * y2 + b1 → y2 ≡ 2 * y3 + b2 → y0 < 2 → b1 < 2 → b2 < 2 → y3 < 2
      → get_or s4 (16 * l + y) 0 ≡ get_or s0 (256 * y + l) 0
  turn l y y0 y1 b1 y2 b2 y3 h e1 e2 e3 g0 g1 g2 g3 =
      let k1 = 2048 * y0 + (8 * l + y1) in
      let k2 = 2048 * b1 + (1024 * y0 + 4 * l + y2) in
      let k3 = 2048 * b2 + (1024 * b1 + 512 * y0 + 2 * l + y3) in
      let k4 = 2048 * y3 + (1024 * b2 + 512 * b1 + 256 * y0 + l) in
      let last : k4 ≡ 256 * y + l = omega arith in
      d.each (16 * l + y) (omega arith)
      ∙ ap (λ (x : ℕ). get_or s3 x 0) (rotate (16 * l + y) (8 * l + y1) y0 (omega arith) g0)
      ∙ c.each k1 (omega arith)
      ∙ ap (λ (x : ℕ). get_or s2 x 0) (rotate k1 (1024 * y0 + 4 * l + y2) b1 (omega arith) g1)
      ∙ b.each k2 (omega arith)
      ∙ ap (λ (x : ℕ). get_or s1 x 0) (rotate k2 (1024 * b1 + 512 * y0 + 2 * l + y3) b2 (omega arith) g2)
      ∙ a.each k3 (omega arith)
      ∙ ap (λ (x : ℕ). get_or s0 x 0) (rotate k3 (1024 * b2 + 512 * b1 + 256 * y0 + l) y3 (omega arith) g3)
      ∙ ap (λ (x : ℕ). get_or s0 x 0) last

  pub transposed : Transposed s0 s4
  transposed =
      record {
        len = d.len;
        each = λ y l g h.
            turn l y (y % 2) (y / 2) (y / 2 % 2) (y / 2 / 2) (y / 2 / 2 % 2) (y / 2 / 2 / 2) h (omega arith) (omega arith) (omega arith) (omega arith) (omega arith)
            (omega arith) (omega arith);
      }

pub run_shuffled : {src F G : List ℕ} (k : ℕ) → length F ≡ 4096 → 4096 ≤ k → Run (halved src) 0 k F G → Shuffled src G
run_shuffled {G = G} k e l h =
    record {
      len = h.len ∙ e;
      each = λ i m. let q : 0 + i ≡ i = omega arith in rw q at (h.done i (omega arith));
    }

-- outcome and mark in turn
abbrev pub interleaved_bytes : List ℕ → List ℕ → ℕ → ℕ → ℕ
interleaved_bytes transposed marks l k = cond (eqb (k % 2) 0) (get_or transposed (16 * l + k / 2) 0) (get_or marks (k / 2) 0)

module _ (transposed marks : List ℕ) (l i : ℕ) where
  pub interleaved_even : interleaved_bytes transposed marks l (2 * i) ≡ get_or transposed (16 * l + i) 0
  interleaved_even =
      let e : 2 * i % 2 ≡ 0 = omega arith in
      let q : 2 * i / 2 ≡ i = omega arith in
      rw (eq-eqb (2 * i % 2) 0 e, q)

  pub interleaved_odd : interleaved_bytes transposed marks l (2 * i + 1) ≡ get_or marks i 0
  interleaved_odd =
      let e : (2 * i + 1) % 2 ≢ 0 = λ z. omega arith in
      let q : (2 * i + 1) / 2 ≡ i = omega arith in
      rw (ne_eqb ((2 * i + 1) % 2) 0 e, q)

pub run_interleaved : {transposed marks F G : List ℕ} (l j t k : ℕ) → 2 * t ≤ k → Run (interleaved_bytes transposed marks l) (1 + 2 * j) k F G → Interleaved l j t transposed marks F G
run_interleaved {transposed} {marks} {F} {G} l j t k e h =
    record {
      len = h.len;
      outcomes = λ i m.
          let q : 1 + 2 * (j + i) ≡ 1 + 2 * j + 2 * i = omega arith in
          rw q (h.done (2 * i) (omega arith) ∙ interleaved_even transposed marks l i);
      marks_too = λ i m.
          let q : 2 + 2 * (j + i) ≡ 1 + 2 * j + (2 * i + 1) = omega arith in
          rw q (h.done (2 * i + 1) (omega arith) ∙ interleaved_odd transposed marks l i);
      before = h.before;
    }

-- each of the shots has its results
pub all_flushed : {w used j t : ℕ} {tile transposed marks out out' : List ℕ} → used ≤ 256 → t ≤ 16 → Transposed tile transposed
    → RowsChanged (λ l. Interleaved l j t transposed marks) w used out out'
    → Flushed w used j t tile marks out out'
all_flushed low small a b =
    record {
      len = b.len;
      outcomes = λ m i h g. (b.each m h).outcomes i g ∙ a.each i m (omega arith) (omega arith);
      marks_too = λ m i h g. (b.each m h).marks_too i g;
      before = λ m i h g. (b.each m h).before i g;
    }
