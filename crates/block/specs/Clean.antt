-- What the clean run gives the shots.
use Rattle.std.specs.Prelude.{◌≡◌, List, ℕ, ◌+◌, ◌*◌, ◌<◌, ◌≤◌, true, length, get_or}
use Rattle.modular.specs.Dimension.{listed}
use Rattle.tableau.specs.Tableau.{Tableau}
use Rattle.circuit.specs.Circuit.{measurement_count}
use Rattle.book.specs.Decoded.{operations_of}
use Rattle.operation_codes.specs.Allowed.{AllAllowed, AllNamed}

-- how many measurements a circuit has
abbrev pub measurements_of : ℕ → ℕ → List ℕ → ℕ
measurements_of d n ops = measurement_count (operations_of d n ops)

-- a circuit, whose corrections name earlier measurements, and its clean results: two bytes per measurement, every outcome below d
pub record CleanCircuit (d n : ℕ) (ops clean : List ℕ) : Type 0 where
  pub dimension : listed d ≡ true
  pub qudits : n ≤ 64
  pub short : length ops < 65536
  pub operations : AllAllowed d n (operations_of d n ops)
  pub names : AllNamed (operations_of d n ops)
  pub room : 2 * measurements_of d n ops ≤ length clean
  pub below : (i : ℕ) → i < measurements_of d n ops → get_or clean (2 * i) 0 < d

-- the circuit's operations, and the clean run's results and tableau, as the shots take them; a shot has w bytes
pub record CleanShots (d n : ℕ) (ops clean t : List ℕ) (w : ℕ) : Type 0 where
  pub circuit : CleanCircuit d n ops clean
  pub tableau : Tableau d n t
  pub exact : length clean ≡ 2 * measurements_of d n ops
  pub width : w ≡ 1 + 2 * measurements_of d n ops
  pub narrow : w < 65536
