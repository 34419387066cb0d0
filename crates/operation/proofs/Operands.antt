-- What the tests of operations and errors say of their operands. It uses nothing of the worked cases, and names them so that they are
-- checked first: a definition that is wrong fails at a case before it fails in a law.
-- Assumes nothing.
use mathlib.Core.Path.{◌≡◌}
use mathlib.Core.Logic.{◌≢◌}
use mathlib.Core.Bool.{true, not, ◌&&◌, and-eq-true_iff}
use Prim.Native.Nat.{ℕ, ◌<◌}
use lib.Dec.{eqb, ltb, leb}
use borrow.Author.Tests.{ltb-true, leb-true, eqb-false, not-true}
use Rattle.operation.specs.declared.WeylError.{WeylError}
use Rattle.operation.specs.Operation.{distinct, from_one}
use Rattle.operation.specs.Error.{error_allowed}

pub distinct-facts : (n c t : ℕ) → distinct n c t ≡ true → (c < n) × (t < n) × (c ≢ t)
distinct-facts n c t h =
    let a = (and-eq-true_iff (ltb c n) (ltb t n && not (eqb c t))).0 h in
    let b = (and-eq-true_iff (ltb t n) (not (eqb c t))).0 a.1 in
    (ltb-true c n a.0, ltb-true t n b.0, eqb-false c t (not-true (eqb c t) b.1))

-- a qudit and a number from 1 to m − 1: how often Fourier (m is 4) and the phase gate are applied, and a multiplier's factor
pub single-facts : (m n q k : ℕ) → ltb q n && from_one m k ≡ true → (q < n) × (0 < k) × (k < m)
single-facts m n q k h =
    let a = (and-eq-true_iff (ltb q n) (from_one m k)).0 h in
    let b = (and-eq-true_iff (leb 1 k) (ltb k m)).0 a.1 in
    (ltb-true q n a.0, leb-true 1 k b.0, ltb-true k m b.1)

-- SUM and CZ
pub pair-facts : (d n c t k : ℕ) → distinct n c t && from_one d k ≡ true → (c < n) × (t < n) × (c ≢ t) × (0 < k) × (k < d)
pair-facts d n c t k h =
    let a = (and-eq-true_iff (distinct n c t) (from_one d k)).0 h in
    let b = (and-eq-true_iff (leb 1 k) (ltb k d)).0 a.1 in
    let x = distinct-facts n c t a.0 in
    (x.0, x.1, x.2, leb-true 1 k b.0, ltb-true k d b.1)

pub error-facts : (d n : ℕ) (e : WeylError) → error_allowed d n e ≡ true → (e.qudit < n) × (e.p < d) × (e.s < d)
error-facts d n e h =
    let a = (and-eq-true_iff (ltb e.qudit n) (ltb e.p d && ltb e.s d)).0 h in
    let b = (and-eq-true_iff (ltb e.p d) (ltb e.s d)).0 a.1 in
    (ltb-true e.qudit n a.0, ltb-true e.p d b.0, ltb-true e.s d b.1)
