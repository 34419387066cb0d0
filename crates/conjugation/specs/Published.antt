-- The published conjugation tables: where a gate sends X and Z on qudit j. Generators that a table doesn't name stay.
use Rattle.std.specs.Prelude.{cond, List, ℕ, eqb}
use Rattle.modular.specs.Modular.{neg}
use Rattle.modular.specs.Dimension.{inverse}
use Rattle.row.specs.Row.{product, power}
use Rattle.operation.specs.declared.Operation.{Operation}
use Rattle.operation.specs.declared.Operation.TheVariants.{Fourier, PhaseGate, Sum, Cz, Swap, Multiplier, Measure, Reset, Correct}
use Rattle.conjugation.specs.Generators.{x_on, z_on}

-- Fourier     X → Z,            Z → X⁻¹                       (001, figure 2)
--   twice     X → X⁻¹,          Z → Z⁻¹
--   thrice    X → Z⁻¹,          Z → X
-- phase gate  X → X Z^k,        Z → Z                         (001, figure 2, where k is 1)
-- SUM         X_c → X_c X_t^k,  Z_t → Z_c^−k Z_t              (001, figure 2, where k is 1)
-- CZ          X_c → X_c Z_t^k,  X_t → Z_c^k X_t               (000, table 3, where k is 1)
-- swap        X_c ↔ X_t,        Z_c ↔ Z_t                     (000, table 3)
-- multiplier  X → X^u,          Z → Z^(1/u)                   (it sends level j to u·j)
abbrev pub fourier_of_x : ℕ → ℕ → ℕ → ℕ → List ℕ
fourier_of_x d n q k = cond (eqb k 1) (z_on n q) (cond (eqb k 2) (power d n (neg d 1) (x_on n q)) (power d n (neg d 1) (z_on n q)))

abbrev pub fourier_of_z : ℕ → ℕ → ℕ → ℕ → List ℕ
fourier_of_z d n q k = cond (eqb k 1) (power d n (neg d 1) (x_on n q)) (cond (eqb k 2) (power d n (neg d 1) (z_on n q)) (x_on n q))

unfoldable pub image_x : ℕ → ℕ → Operation → ℕ → List ℕ
image_x d n (Fourier q k) j = cond (eqb j q) (fourier_of_x d n q k) (x_on n j)
image_x d n (PhaseGate q k) j = cond (eqb j q) (product d n (x_on n q) (power d n k (z_on n q))) (x_on n j)
image_x d n (Sum c t k) j = cond (eqb j c) (product d n (x_on n c) (power d n k (x_on n t))) (x_on n j)
image_x d n (Cz c t k) j = cond (eqb j c) (product d n (x_on n c) (power d n k (z_on n t))) (cond (eqb j t) (product d n (power d n k (z_on n c)) (x_on n t)) (x_on n j))
image_x d n (Swap c t) j = cond (eqb j c) (x_on n t) (cond (eqb j t) (x_on n c) (x_on n j))
image_x d n (Multiplier q u) j = cond (eqb j q) (power d n u (x_on n q)) (x_on n j)
image_x d n (Measure q) j = x_on n j
image_x d n (Reset q) j = x_on n j
image_x d n (Correct t m) j = x_on n j

unfoldable pub image_z : ℕ → ℕ → Operation → ℕ → List ℕ
image_z d n (Fourier q k) j = cond (eqb j q) (fourier_of_z d n q k) (z_on n j)
image_z d n (PhaseGate q k) j = z_on n j
image_z d n (Sum c t k) j = cond (eqb j t) (product d n (power d n (neg d k) (z_on n c)) (z_on n t)) (z_on n j)
image_z d n (Cz c t k) j = z_on n j
image_z d n (Swap c t) j = cond (eqb j c) (z_on n t) (cond (eqb j t) (z_on n c) (z_on n j))
image_z d n (Multiplier q u) j = cond (eqb j q) (power d n (inverse d u) (z_on n q)) (z_on n j)
image_z d n (Measure q) j = z_on n j
image_z d n (Reset q) j = z_on n j
image_z d n (Correct t m) j = z_on n j
