-- A tableau that passes the tests of a look. The worked cases are named so that they are checked first.
-- Assumes nothing.
use mathlib.Core.Path.{◌≡◌}
use mathlib.Core.Bool.{true}
use mathlib.Core.List.{List}
use Prim.Native.Nat.{ℕ, ◌<◌, ◌≤◌}
use native.Mathlib.Omega.{arith}
use lib.ListN.{length}
use borrow.Author.Tests.{lt-ltb, le-ltb, eq-eqb}
use Rattle.modular.specs.Dimension.{listed}
use Rattle.tableau.proofs.Sized.{sized-most}
use Rattle.validity.specs.Validity.{Valid}
use Rattle.saved_tableau.specs.Saved.{dimension_in, qudits_in, rows_in}
use Rattle.saved_tableau.specs.Test.{test_number}
use Rattle.saved_tableau_laws.proofs.Exactly.{test-exactly, self-valid-exactly}
use Rattle.measurement.specs.Look.{look}
use Rattle.look_call.specs.LookBytes.{told, look_refused, look_bytes}

pub record PassesTest (t : List ℕ) : Type 0 where
  pub dimension : listed (dimension_in t) ≡ true
  pub qudits : qudits_in t ≤ 64
  pub two : 2 ≤ length t
  pub rows : Valid (dimension_in t) (qudits_in t) (rows_in t)

pub passes-test : (t : List ℕ) → test_number t ≡ 0 → PassesTest t
passes-test t e =
    let p = (test-exactly t).0 e in
    let v = (self-valid-exactly t p.0).0 p.1 in
    record { dimension = v.dimension; qudits = sized-most (qudits_in t) v.qudits; two = omega (arith, p.0); rows = v.rows }

module _ (t : List ℕ) (q : ℕ) (e : test_number t ≡ 0) where
  -- 13
  pub not_there : qudits_in t ≤ q → look_refused 13 ≡ look_bytes t q
  unfolding look_bytes
  not_there l = rw (eq-eqb (test_number t) 0 e, le-ltb q (qudits_in t) l)

  -- not 13
  pub looked : q < qudits_in t → told (look (dimension_in t) (qudits_in t) (rows_in t) q) ≡ look_bytes t q
  unfolding look_bytes
  looked l = rw (eq-eqb (test_number t) 0 e, lt-ltb q (qudits_in t) l)
