-- An error X^p Z^s on qudit q, on a row and on a frame.
use Rattle.std.specs.Prelude.{List, Bool, ◌&&◌, ℕ, ◌+◌, ◌*◌, ◌%◌, ltb}
use Rattle.modular.specs.Modular.{neg}
use Rattle.row.specs.Row.{x_of, z_of, phase_of}
use Rattle.tableau.specs.Tableau.{on_rows, every}
use Rattle.operation.specs.Gate.{with_x, with_z, with_phase}
use Rattle.operation.specs.declared.WeylError.{WeylError}

-- the qudit is below n, p and s are below d
abbrev pub error_allowed : ℕ → ℕ → WeylError → Bool
error_allowed d n e = ltb e.qudit n && (ltb e.p d && ltb e.s d)

-- It adds s·a − p·b to each row's phase.
unfoldable pub error_row : ℕ → ℕ → WeylError → List ℕ → List ℕ
error_row d n e v = with_phase n ((phase_of n v + (e.s * x_of v e.qudit + neg d (e.p * z_of n v e.qudit))) % d) v

abbrev pub error_rows : ℕ → ℕ → WeylError → List ℕ → List ℕ
error_rows d n e t = on_rows n (every (error_row d n e)) t

-- An error adds its powers to the frame.
unfoldable pub error_frame : ℕ → ℕ → WeylError → List ℕ → List ℕ
error_frame d n e F = with_z n e.qudit ((z_of n F e.qudit + e.s) % d) (with_x e.qudit ((x_of F e.qudit + e.p) % d) F)

-- X to the minus r on qudit q, as an error
abbrev pub minus_x : (d q r : ℕ) → WeylError
minus_x d q r = record { place = 0; qudit = q; p = neg d r; s = 0 }
