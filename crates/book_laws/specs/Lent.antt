-- What a direct run and a frame run are lent where they are compared.
use Rattle.std.specs.Prelude.{◌≡◌, true, List, ℕ, ◌*◌, ◌<◌, ◌≤◌, length, get_or}
use Rattle.saved_tableau.specs.Saved.{dimension_in, qudits_in, tableau_bytes, self_valid}
use Rattle.frame_run.specs.FrameBook.{Buffers}

-- A valid start tableau whose two bytes are d and n, each run with its own copy of it, and buffers long enough. Other bytes may differ.
pub record Lent (d n measurements : ℕ) (t results : List ℕ) (lent : Buffers) : Type 0 where
  pub start-room : tableau_bytes n ≤ length lent.tableau
  pub start-valid : self_valid lent.tableau ≡ true
  pub start-dimension : dimension_in lent.tableau ≡ d
  pub start-qudits : qudits_in lent.tableau ≡ n
  pub copy_room : tableau_bytes n ≤ length t
  pub copied : (i : ℕ) → i < tableau_bytes n → get_or t i 0 ≡ get_or lent.tableau i 0
  pub direct-results : 2 * measurements ≤ length results
  pub frame-results : 2 * measurements ≤ length lent.results
  pub shifts-room : 2 * n ≤ length lent.shifts
  pub frame-room : 2 * n ≤ length lent.frame
