-- Exponents and phases, modulo d.
-- Assumes nothing.
use mathlib.Core.Path.{◌≡◌, sym, ap, ◌∙◌}
use mathlib.Core.List.{List}
use Prim.Native.Nat.{ℕ, ◌+◌, ◌-◌, ◌*◌, ◌%◌, ◌<◌}
use native.Mathlib.Nat.{mod-eq_of_lt, zero-mul, zero-mod}
use native.Mathlib.Omega.{arith}
use Rattle.congruence.proofs.Congruence.{cong_eq, cong_sym, cong_trans, cong_add, cong_mul-right, cong_mod, mod_cong}
use Rattle.modular.specs.Modular.{neg}
use Rattle.modular.specs.Dimension.{inverse}
use Rattle.modular.proofs.Residue.{neg-zero}
use Rattle.row.specs.Row.{Row, x_of, product, power}
use Rattle.row_laws.proofs.Reading.{positive}
use Rattle.row_laws.proofs.Laws.{neutral, power_zero}
use Rattle.measurement_collapse.specs.FreeMeasurement.{cleared}

-- −1/e·f is −f/e
pub exponent : (d inv f : ℕ) → inv < d → f < d → neg d inv * f % d ≡ neg d f * inv % d
exponent d inv f a b =
    let x : (d - inv + inv) * f ≡ d * f = ap (λ (z : ℕ). z * f) (omega arith) in
    let y : (d - f + f) * inv ≡ d * inv = ap (λ (z : ℕ). z * inv) (omega arith) in
    mod_cong
    (cong_trans (cong_mul-right f (cong_trans (cong_eq d (ap (λ (z : ℕ). (d - z) % d) (mod-eq_of_lt a))) (cong_sym (cong_mod d (d - inv)))))
    (cong_trans (record { p = inv; q = f; eq = omega arith })
    (cong_mul-right inv (cong_trans (cong_mod d (d - f)) (cong_eq d (ap (λ (z : ℕ). (d - z) % d) (sym (mod-eq_of_lt b))))))))

-- A row whose X power on q is 0 has exponent 0, and stays.
pub stays : (d n q : ℕ) (pivot v : List ℕ) → Row d n v → x_of v q ≡ 0 → cleared d n q pivot v ≡ v
unfolding cleared
stays d n q pivot v r e =
    let i = inverse d (x_of pivot q) in
    let p = positive r in
    let none : neg d (x_of v q) * i % d ≡ 0 =
    ap (λ (x : ℕ). x * i % d) (ap (neg d) e ∙ neg-zero d p) ∙ ap (λ (x : ℕ). x % d) (zero-mul i) ∙ zero-mod d in
    ap (λ (x : ℕ). product d n v (power d n x pivot)) none ∙ ap (product d n v) (power_zero d n p pivot) ∙ (neutral d n v r).1

-- what the phase gains from power h to the next: s is Σ a·b
pub gain-none : (d r s : ℕ) → r < d → r ≡ (r + 0 * s) % d
gain-none d r s l = let e : r + 0 * s ≡ r = omega arith in sym (ap (λ (x : ℕ). x % d) e ∙ mod-eq_of_lt l)

pub gain-more : (d h r s : ℕ) → ((r + h * s) % d + s % d) % d ≡ (r + (h + 1) * s) % d
gain-more d h r s =
    mod_cong (cong_trans (cong_add (cong_sym (cong_mod d (r + h * s))) (cong_sym (cong_mod d s))) (cong_eq d (omega arith)))
