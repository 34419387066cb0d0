-- An entry is an operation exactly if its bytes are that operation's, with the operands in range.
-- Assumes nothing.
use Rattle.std.proofs.Common.{Option, Some}
use mathlib.Core.Path.{◌≡◌, refl, ap, ◌∙◌}
use mathlib.Core.Bool.{Bool, true, false, cond, not, ◌&&◌, and-eq-true_iff}
use mathlib.Core.List.{List, [], ◌∷◌}
use Prim.Native.Nat.{ℕ, zero, suc, ◌+◌, ◌*◌, ◌/◌, ◌%◌, ◌<◌}
use native.Mathlib.Nat.{div-add-mod, mod-lt}
use native.Mathlib.Omega.{arith}
use lib.Dec.{eqb, ltb}
use borrow.Author.Tests.{eqb-true, ne_eqb, ltb-true, lt-ltb}
use Rattle.operation.specs.declared.Operation.{Operation}
use Rattle.operation.specs.declared.Operation.TheVariants.{Fourier, PhaseGate, Sum, Cz, Swap, Multiplier, Measure, Reset, Correct}
use Rattle.operation.specs.Operation.{allowed}
use Rattle.operation.proofs.Operands.{single-facts, pair-facts}
use Rattle.book_entries.specs.Entry.{times_in, times_byte, bytes_of, good_if, if_allowed, decoded, operation_at, DecodedExactly}

-- How often a gate is applied has one spelling, and 1 is none.
pub spelt_once : (k : ℕ) → 0 < k → (times_in (times_byte k) ≡ k) × (not (eqb (times_byte k) 1) ≡ true)
spelt_once zero l = absurd (omega arith)
spelt_once (suc zero) l = (refl, refl)
spelt_once (suc (suc k)) l =
    let one = ne_eqb (suc (suc k)) 1 (λ e. omega arith) in
    let none = ne_eqb (suc (suc k)) 0 (λ e. omega arith) in
    (rw (one, none), rw (one, one))

read-once : (b : ℕ) → not (eqb b 1) ≡ true → b ≡ times_byte (times_in b)
read-once zero h = refl
read-once (suc zero) h = cc
read-once (suc (suc b)) h =
    let one = ne_eqb (suc (suc b)) 1 (λ e. omega arith) in
    let none = ne_eqb (suc (suc b)) 0 (λ e. omega arith) in
    rw (none, one)

-- an operation's own bytes are it
its_own : (d n : ℕ) (op : Operation) → allowed d n op ≡ true → operation_at d n (bytes_of op) 0 ≡ Some op
unfolding bytes_of decoded
its_own d n (Fourier q k) h = let (a, b) = spelt_once k (single-facts 4 n q k h).1 in rw (a, b, h)
its_own d n (PhaseGate q k) h = let (a, b) = spelt_once k (single-facts d n q k h).1 in rw (a, b, h)
its_own d n (Sum c t k) h = let (a, b) = spelt_once k (pair-facts d n c t k h).3 in rw (a, b, h)
its_own d n (Cz c t k) h = let (a, b) = spelt_once k (pair-facts d n c t k h).3 in rw (a, b, h)
its_own d n (Swap c t) h = rw h
its_own d n (Multiplier q u) h = rw h
its_own d n (Measure q) h = rw h
its_own d n (Reset q) h = rw h
its_own d n (Correct t m) h =
    let q : m % 256 + 256 * (m / 256) ≡ m = omega (arith, div-add-mod m 256) in
    rw (q, h, lt-ltb (m % 256) 256 (mod-lt m (omega arith)))

either : (t : Bool) (x y : Option Operation) (op : Operation) {A : Type 0} → (t ≡ true → x ≡ Some op → A) → (y ≡ Some op → A) → cond t x y ≡ Some op → A
either true x y op f g e = f refl e
either false x y op f g e = g e

whole : (t : Bool) (p op : Operation) → good_if t p ≡ Some op → (t ≡ true) × (p ≡ op)
whole true p op e = (refl, cc)
whole false p op e = (cc, cc)

module _ (d n b0 b1 b2 b3 : ℕ) (op : Operation) where
  abbrev bytes : List ℕ
  bytes = b0 ∷ b1 ∷ b2 ∷ b3 ∷ []

  abbrev Is : Type 0
  Is = (allowed d n op ≡ true) × (bytes ≡ bytes_of op)

  -- one line of the table: the bytes are p's where the code is its code and the bytes not named are 0
  line : (code : ℕ) (p : Operation) (unnamed : Bool) (rest : Option Operation)
      → (b0 ≡ code → unnamed ≡ true → bytes ≡ bytes_of p)
      → (rest ≡ Some op → Is) → cond (eqb b0 code) (if_allowed d n p unnamed) rest ≡ Some op → Is
  line code p unnamed rest spelt later =
      either (eqb b0 code) (if_allowed d n p unnamed) rest op
      (λ c e.
      let w = whole (allowed d n p && unnamed) p op e in
      let a = (and-eq-true_iff (allowed d n p) unnamed).0 w.0 in
      (rw (← w.1) a.0, spelt (eqb-true b0 code c) a.1 ∙ ap bytes_of w.1))
      later

  -- the bytes of a line that names one qudit and how often, two qudits and how often; one qudit; two qudits; a qudit and a factor
  one-times : (code : ℕ) → b0 ≡ code → eqb b2 0 && not (eqb b3 1) ≡ true → bytes ≡ code ∷ b1 ∷ 0 ∷ times_byte (times_in b3) ∷ []
  one-times code c u =
      let z = (and-eq-true_iff (eqb b2 0) (not (eqb b3 1))).0 u in
      cc (eqb-true b2 0 z.0, read-once b3 z.1)

  two-times : (code : ℕ) → b0 ≡ code → not (eqb b3 1) ≡ true → bytes ≡ code ∷ b1 ∷ b2 ∷ times_byte (times_in b3) ∷ []
  two-times code c u = cc (read-once b3 u)

  one : (code : ℕ) → b0 ≡ code → eqb b2 0 && eqb b3 0 ≡ true → bytes ≡ code ∷ b1 ∷ 0 ∷ 0 ∷ []
  one code c u =
      let z = (and-eq-true_iff (eqb b2 0) (eqb b3 0)).0 u in
      cc (eqb-true b2 0 z.0, eqb-true b3 0 z.1)

  two : (code : ℕ) → b0 ≡ code → eqb b3 0 ≡ true → bytes ≡ code ∷ b1 ∷ b2 ∷ 0 ∷ []
  two code c u = cc (eqb-true b3 0 u)

  factor : (code : ℕ) → b0 ≡ code → eqb b2 0 ≡ true → bytes ≡ code ∷ b1 ∷ 0 ∷ b3 ∷ []
  factor code c u = cc (eqb-true b2 0 u)

  -- a qudit and a number of two bytes
  number : (code : ℕ) → b0 ≡ code → ltb b2 256 ≡ true → bytes ≡ code ∷ b1 ∷ (b2 + 256 * b3) % 256 ∷ (b2 + 256 * b3) / 256 ∷ []
  number code c u =
      let l = ltb-true b2 256 u in
      let e = div-add-mod (b2 + 256 * b3) 256 in
      let some : 0 < 256 = omega arith in
      let r = mod-lt (b2 + 256 * b3) some in
      let h : (b2 + 256 * b3) / 256 ≡ b3 = omega (arith, e, r, l) in
      let q : (b2 + 256 * b3) % 256 ≡ b2 = omega (arith, e, h) in
      rw (h, q, c)

  pub spelling : decoded d n b0 b1 b2 b3 ≡ Some op → Is
  unfolding decoded bytes_of
  spelling =
      line 0 (Fourier b1 (times_in b3)) _ _ (one-times 0)
      (line 1 (PhaseGate b1 (times_in b3)) _ _ (one-times 1)
      (line 2 (Sum b1 b2 (times_in b3)) _ _ (two-times 2)
      (line 3 (Cz b1 b2 (times_in b3)) _ _ (two-times 3)
      (line 4 (Swap b1 b2) _ _ (two 4)
      (line 5 (Multiplier b1 b3) _ _ (factor 5)
      (line 6 (Measure b1) _ _ (one 6)
      (line 7 (Reset b1) _ _ (one 7)
      (line 8 (Correct b1 (b2 + 256 * b3)) _ _ (number 8) (λ e. (cc, cc))))))))))

pub decoded-exactly : DecodedExactly
decoded-exactly d n b0 b1 b2 b3 op =
    (spelling d n b0 b1 b2 b3 op, λ h. ap (λ (s : List ℕ). operation_at d n s 0) h.1 ∙ its_own d n op h.0)
