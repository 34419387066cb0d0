-- The six gates on a row and on a frame, line by line as the table of operations has them. Right-hand sides use old powers.
use Rattle.std.specs.Prelude.{cond, List, ℕ, ◌+◌, ◌*◌, ◌%◌, eqb, set}
use Rattle.modular.specs.Modular.{neg, tri}
use Rattle.modular.specs.Dimension.{inverse}
use Rattle.row.specs.Row.{x_of, z_of, phase_of}
use Rattle.tableau.specs.Tableau.{on_rows, every}
use Rattle.operation.specs.declared.Operation.{Operation}
use Rattle.operation.specs.declared.Operation.TheVariants.{Fourier, PhaseGate, Sum, Cz, Swap, Multiplier, Measure, Reset, Correct}

-- v with another X power of qudit q, another Z power of qudit q, another phase
abbrev pub with_x : ℕ → ℕ → List ℕ → List ℕ
with_x q a v = set v q a

abbrev pub with_z : ℕ → ℕ → ℕ → List ℕ → List ℕ
with_z n q b v = set v (n + q) b

abbrev pub with_phase : ℕ → ℕ → List ℕ → List ℕ
with_phase n r v = set v (2 * n) r

-- v whose X power of qudit q has lost s
abbrev pub less_x : (d q s : ℕ) → List ℕ → List ℕ
less_x d q s v = with_x q ((x_of v q + neg d s) % d) v

-- Fourier once, twice and three times: (a,b) becomes (−b,a), (−a,−b) and (b,−a).
abbrev pub fourier_x : ℕ → ℕ → ℕ → ℕ → ℕ
fourier_x d k a b = cond (eqb k 1) (neg d b) (cond (eqb k 2) (neg d a) b)

abbrev pub fourier_z : ℕ → ℕ → ℕ → ℕ → ℕ
fourier_z d k a b = cond (eqb k 1) a (cond (eqb k 2) (neg d b) (neg d a))

-- The powers after a gate applied k times. Measurement, reset and correction are no gates, and do nothing here.
--   Fourier      (a,b) becomes (−b,a), (−a,−b) or (b,−a)
--   phase gate   b gains k·a
--   SUM          a_t gains k·a_c; b_c loses k·b_t
--   CZ           b_c gains k·a_t; b_t gains k·a_c
--   swap         both powers exchanged
--   multiplier   a times u; b times the inverse of u
unfoldable pub gate_powers : ℕ → ℕ → Operation → List ℕ → List ℕ
gate_powers d n (Fourier q k) v = with_z n q (fourier_z d k (x_of v q) (z_of n v q)) (with_x q (fourier_x d k (x_of v q) (z_of n v q)) v)
gate_powers d n (PhaseGate q k) v = with_z n q ((z_of n v q + k * x_of v q) % d) v
gate_powers d n (Sum c t k) v = with_x t ((x_of v t + k * x_of v c) % d) (with_z n c ((z_of n v c + neg d (k * z_of n v t)) % d) v)
gate_powers d n (Cz c t k) v = with_z n t ((z_of n v t + k * x_of v c) % d) (with_z n c ((z_of n v c + k * x_of v t) % d) v)
gate_powers d n (Swap c t) v = with_z n t (z_of n v c) (with_x t (x_of v c) (with_z n c (z_of n v t) (with_x c (x_of v t) v)))
gate_powers d n (Multiplier q u) v = with_z n q (z_of n v q * inverse d u % d) (with_x q (x_of v q * u % d) v)
gate_powers d n (Measure q) v = v
gate_powers d n (Reset q) v = v
gate_powers d n (Correct t m) v = v

-- What it adds to the phase: Fourier −ab once and three times, nothing twice; phase gate k·a(a−1)/2; CZ k·a_c·a_t.
unfoldable pub gate_phase : ℕ → ℕ → Operation → List ℕ → ℕ
gate_phase d n (Fourier q k) v = cond (eqb k 2) 0 (neg d (x_of v q * z_of n v q))
gate_phase d n (PhaseGate q k) v = k * tri (x_of v q)
gate_phase d n (Sum c t k) v = 0
gate_phase d n (Cz c t k) v = k * (x_of v c * x_of v t)
gate_phase d n (Swap c t) v = 0
gate_phase d n (Multiplier q u) v = 0
gate_phase d n (Measure q) v = 0
gate_phase d n (Reset q) v = 0
gate_phase d n (Correct t m) v = 0

unfoldable pub gate_row : ℕ → ℕ → Operation → List ℕ → List ℕ
gate_row d n op v = with_phase n ((phase_of n v + gate_phase d n op v) % d) (gate_powers d n op v)

-- the gate on every row
abbrev pub gate_rows : ℕ → ℕ → Operation → List ℕ → List ℕ
gate_rows d n op t = on_rows n (every (gate_row d n op)) t

-- A gate maps a frame's powers as a row's powers, no phase.
abbrev pub gate_frame : ℕ → ℕ → Operation → List ℕ → List ℕ
gate_frame d n op F = gate_powers d n op F
