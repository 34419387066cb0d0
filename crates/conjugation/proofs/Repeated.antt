-- One step equals its applications made singly.
-- Assumes nothing.
use mathlib.Core.Path.{◌≡◌, refl, sym, ap, ◌∙◌, subst}
use mathlib.Core.Bool.{Bool, true, ◌&&◌, and-eq-true_iff}
use Prim.Native.Nat.{ℕ, zero, suc, ◌+◌, ◌<◌, ◌≤◌}
use native.Mathlib.Omega.{arith}
use lib.Dec.{ltb}
use borrow.Author.Tests.{lt-ltb, le-leb}
use Rattle.modular.specs.Dimension.{Dimension}
use Rattle.operation.specs.declared.Operation.{Operation}
use Rattle.operation.specs.declared.Operation.TheVariants.{Fourier, PhaseGate, Sum, Cz, Swap, Multiplier, Measure, Reset, Correct}
use Rattle.operation.specs.Operation.{distinct, from_one, allowed}
use Rattle.operation.specs.Gate.{gate_row, gate_rows, gate_frame}
use Rattle.operation.specs.Repeated.{repeated, times_of, applied, once}
use Rattle.operation.proofs.Operands.{single-facts, pair-facts}
use Rattle.conjugation.specs.Repeated.{RowRepeats, RowsRepeat, FrameRepeats}
use Rattle.conjugation.proofs.Composed.{Makes, phase-gates, sums, czs, fourier-once-more, fourier-twice-more, row_makes, rows_make, frame-makes}

-- The gate applied 1 to `timesOf op` times is allowed, and one more application makes the next.
record Singly (d n : ℕ) (op : Operation) : Type 0 where
  some : 0 < times_of op
  fits : (k : ℕ) → 0 < k → k ≤ times_of op → allowed d n (applied k op) ≡ true
  makes : (k : ℕ) → 0 < k → k < times_of op → Makes d n (applied k op) (once op) (applied (k + 1) op)

pub both_true : (x y : Bool) → x ≡ true → y ≡ true → x && y ≡ true
both_true x y e f = rw (e, f)

-- operands that were in range with a larger number, with a smaller one
fewer : (m k j : ℕ) (x : Bool) → x && from_one m k ≡ true → k < m → 0 < j → j ≤ k → x && from_one m j ≡ true
fewer m k j x h l i y = both_true x (from_one m j) ((and-eq-true_iff x (from_one m k)).0 h).0 (rw (le-leb 1 j i, lt-ltb j m (omega arith)))

-- what has no powers is applied once
single : (d n : ℕ) (op : Operation) → ((k : ℕ) → applied k op ≡ op) → times_of op ≡ 1 → allowed d n op ≡ true → Singly d n op
single d n op same one h =
    record {
      some = omega arith;
      fits = λ k x y. ap (allowed d n) (same k) ∙ h;
      makes = λ k x y. absurd (omega arith);
    }

fourier-more : (e n q m : ℕ) → q < n → m < 4 → (k : ℕ) → 0 < k → k < m → Makes (suc e) n (Fourier q k) (Fourier q 1) (Fourier q (k + 1))
fourier-more e n q m l i zero x y = absurd (omega arith)
fourier-more e n q m l i (suc zero) x y = fourier-once-more e n q l
fourier-more e n q m l i (suc (suc zero)) x y = fourier-twice-more e n q l
fourier-more e n q m l i (suc (suc (suc k))) x y = absurd (omega arith)

singly : (d n : ℕ) → Dimension d → (op : Operation) → allowed d n op ≡ true → Singly d n op
singly zero n dim op h = absurd (omega (arith, dim.low))
singly (suc e) n dim (Fourier q m) h =
    let (l, low, high) = single-facts 4 n q m h in
    record {
      some = low;
      fits = λ k x y. fewer 4 m k (ltb q n) h high x y;
      makes = fourier-more e n q m l high;
    }
singly (suc e) n dim (PhaseGate q m) h =
    let (l, low, high) = single-facts (suc e) n q m h in
    record {
      some = low;
      fits = λ k x y. fewer (suc e) m k (ltb q n) h high x y;
      makes = λ k x y. phase-gates (suc e) n q k 1 l;
    }
singly (suc e) n dim (Sum c t m) h =
    let (lc, lt, ne, low, high) = pair-facts (suc e) n c t m h in
    record {
      some = low;
      fits = λ k x y. fewer (suc e) m k (distinct n c t) h high x y;
      makes = λ k x y. sums (suc e) n c t k 1 (record { c-low = lc; t-low = lt; differ = ne });
    }
singly (suc e) n dim (Cz c t m) h =
    let (lc, lt, ne, low, high) = pair-facts (suc e) n c t m h in
    record {
      some = low;
      fits = λ k x y. fewer (suc e) m k (distinct n c t) h high x y;
      makes = λ k x y. czs (suc e) n c t k 1 (record { c-low = lc; t-low = lt; differ = ne });
    }
singly (suc e) n dim (Swap c t) h = single (suc e) n (Swap c t) (λ k. refl) refl h
singly (suc e) n dim (Multiplier q u) h = single (suc e) n (Multiplier q u) (λ k. refl) refl h
singly (suc e) n dim (Measure q) h = single (suc e) n (Measure q) (λ k. refl) refl h
singly (suc e) n dim (Reset q) h = single (suc e) n (Reset q) (λ k. refl) refl h
singly (suc e) n dim (Correct t m) h = single (suc e) n (Correct t m) (λ k. refl) refl h

as_often : (op : Operation) → applied (times_of op) op ≡ op
as_often (Fourier q k) = refl
as_often (PhaseGate q k) = refl
as_often (Sum c t k) = refl
as_often (Cz c t k) = refl
as_often (Swap c t) = refl
as_often (Multiplier q u) = refl
as_often (Measure q) = refl
as_often (Reset q) = refl
as_often (Correct t m) = refl

-- Any f k that is f 1 after f (k − 1) is f 1 so often.
repeats : {A : Type 0} (f : ℕ → A → A) (a : A) (most : ℕ) → ((k : ℕ) → 0 < k → k < most → f 1 (f k a) ≡ f (k + 1) a)
    → (k : ℕ) → 0 < k → k ≤ most → f k a ≡ repeated (f 1) k a
unfolding repeated
repeats f a most h zero x y = absurd (omega arith)
repeats f a most h (suc zero) x y = refl
repeats f a most h (suc (suc k)) x y =
    let e : suc k + 1 ≡ suc (suc k) = omega arith in
    subst (λ (z : ℕ). f z a ≡ f 1 (f 1 (repeated (f 1) k a))) e
    (sym (h (suc k) (omega arith) (omega arith)) ∙ ap (f 1) (repeats f a most h (suc k) (omega arith) (omega arith)))

-- Whatever an operation does to an a, if two applications that make a third do as that does.
module _ {A : Type 0} (does : Operation → A → A) (a : A) (d n : ℕ) (dim : Dimension d) (op : Operation) (h : allowed d n op ≡ true)
    (makes : (first next made : Operation) → allowed d n first ≡ true → allowed d n next ≡ true → allowed d n made ≡ true → Makes d n first next made
    → does next (does first a) ≡ does made a) where
  s : Singly d n op
  s = singly d n dim op h

  each : does op a ≡ repeated (does (once op)) (times_of op) a
  each =
      ap (λ (o : Operation). does o a) (sym (as_often op))
      ∙ repeats (λ k. does (applied k op)) a (times_of op)
      (λ k x y.
      makes (applied k op) (once op) (applied (k + 1) op) (s.fits k x (omega arith)) (s.fits 1 (omega arith) s.some)
      (s.fits (k + 1) (omega arith) (omega arith))
      (s.makes k x y))
      (times_of op)
      s.some
      (omega arith)

pub row-repeats : RowRepeats
row-repeats d n dim op h v r = each (gate_row d n) v d n dim op h (λ f g o a b c m. row_makes dim f g o a b c m r)

pub rows_repeat : RowsRepeat
rows_repeat d n dim op h t r = each (gate_rows d n) t d n dim op h (λ f g o a b c m. rows_make dim f g o a b c m r)

pub frame-repeats : FrameRepeats
frame-repeats d n dim op h F p = each (gate_frame d n) F d n dim op h (λ f g o a b c m. frame-makes dim f g o a b c m p)
