-- What a run looks up where it would have to divide: made once for all its gates, errors and measurements.
use Rattle.std.specs.Prelude.{◌≡◌, List, [], ℕ, ◌*◌, ◌%◌, ◌<◌, get_or}
use Rattle.modular.specs.Modular.{tri}

-- the rests of 0 to 95 modulo d
abbrev pub RestsOf : ℕ → List ℕ → Type 0
RestsOf d rests = (k : ℕ) → k < 96 → get_or rests k 0 ≡ k % d

-- the products of x with the numbers below 32
abbrev pub MultiplesOf : ℕ → ℕ → List ℕ → Type 0
MultiplesOf d x multiples = (y : ℕ) → y < 32 → get_or multiples y 0 ≡ x * y % d

-- the multiples of the numbers below 32
abbrev pub ProductsOf : ℕ → List (List ℕ) → Type 0
ProductsOf d products = (x : ℕ) → x < 32 → MultiplesOf d x (get_or products x [])

-- x(x − 1)/2 for the numbers x below 32
abbrev pub TrianglesOf : ℕ → List ℕ → Type 0
TrianglesOf d triangles = (x : ℕ) → x < 32 → get_or triangles x 0 ≡ tri x % d
