-- X powers that are multiples of others, laid out once for all multiples.
use Rattle.std.specs.Prelude.{◌≡◌, List, ℕ, ◌*◌, ◌%◌, ◌<◌, ◌≤◌, length}
use Rattle.row.specs.Row.{Row, x_of}

-- n X powers below d, whatever follows them
pub record XPowers (d n : ℕ) (xs : List ℕ) : Type 0 where
  pub room : n ≤ length xs
  pub below : (q : ℕ) → q < n → x_of xs q < d

-- those of the row w are h times those of xs
pub record Multiple (d n h : ℕ) (xs w : List ℕ) : Type 0 where
  pub base : XPowers d n xs
  pub each : (q : ℕ) → q < n → x_of w q ≡ h * x_of xs q % d

-- w is a row, and such a one, h from 0 to d − 1
pub record MultipleRow (d n h : ℕ) (xs w : List ℕ) : Type 0 where
  pub row : Row d n w
  pub factor : h < d
  pub powers : Multiple d n h xs w
