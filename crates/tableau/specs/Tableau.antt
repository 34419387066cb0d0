-- The rows of a tableau: 2n rows of 2n + 1 bytes. Destabilizers 0 to n−1 come first, then stabilizers 0 to n−1. Bytes past them are kept.
use Rattle.std.specs.Prelude.{Bool, ◌&&◌, List, ◌++◌, ℕ, zero, suc, ◌+◌, ◌*◌, ◌<◌, ◌≤◌, leb, length, get_or, take, drop}

-- There are n qudits, 1 to 64.
abbrev pub sized : ℕ → Bool
sized n = leb 1 n && leb n 64

-- room for the rows, and every byte of them below d
pub record Tableau (d n : ℕ) (t : List ℕ) : Type 0 where
  pub room : 2 * n * (2 * n + 1) ≤ length t
  pub below : (i : ℕ) → i < 2 * n * (2 * n + 1) → get_or t i 0 < d

-- the w bytes of t from s on
unfoldable pub part : ℕ → ℕ → List ℕ → List ℕ
part s w t = take w (drop s t)

-- t with ys in the place of those
unfoldable pub put : ℕ → ℕ → List ℕ → List ℕ → List ℕ
put s w ys t = take s t ++ (ys ++ drop w (drop s t))

-- A row is handed on as the part of the tableau that begins at its first byte.
abbrev pub row : ℕ → List ℕ → ℕ → List ℕ
row n t i = part (i * (2 * n + 1)) (2 * n + 1) t

-- f i done to row i, for each i below the count; rows are w wide
unfoldable pub each_row : (ℕ → List ℕ → List ℕ) → ℕ → List ℕ → ℕ → List ℕ
each_row f w t zero = t
each_row f w t (suc i) = put (i * w) w (f i (part (i * w) w (each_row f w t i))) (each_row f w t i)

-- f i done to every row i
abbrev pub on_rows : ℕ → (ℕ → List ℕ → List ℕ) → List ℕ → List ℕ
on_rows n f t = each_row f (2 * n + 1) t (2 * n)

-- the same done to every row, whichever it is
abbrev pub every : (List ℕ → List ℕ) → ℕ → List ℕ → List ℕ
every f i v = f v
