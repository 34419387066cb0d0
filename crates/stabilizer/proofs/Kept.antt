-- A free measurement leaves a valid tableau.
-- Assumes nothing.
use mathlib.Core.Path.{◌≡◌, refl, ◌∙◌, ap}
use Prim.Native.Nat.{ℕ, suc, ◌+◌, ◌*◌, ◌<◌}
use native.Mathlib.Omega.{arith}
use native.Mathlib.Decide.{ℕ_discrete}
use Rattle.congruence.proofs.Congruence.{Cong, cong_refl, cong_eq, cong_trans, cong_add}
use Rattle.symplectic.proofs.Pairing.{pair, pair_left, pair-right, pair_scale, pair-self, pair_flip, pair_cong, zed, pair-zed}
use Rattle.symplectic.proofs.Map.{Same}
use Rattle.stabilizer.proofs.Span.{none_left}
use Rattle.stabilizer.proofs.Basis.{SymplecticBasis}

-- The powers v' of the 2n rows after a free measurement of q with pivot stabilizer k, w the inverse of its X power on q. Row j is
-- multiplied by the pivot to the power t j.
pub record Moved (d n : ℕ) (v : ℕ → ℕ → ℕ) (q k w : ℕ) (t : ℕ → ℕ) (v' : ℕ → ℕ → ℕ) : Type 0 where
  pub inverse : Cong d (v (n + k) q * w) 1
  pub clears : (j : ℕ) → j < n + n → Cong d (v j q + t j * v (n + k) q) 0
  pub stab-k : Same d n (v' (n + k)) (zed n q)
  pub destab_k_lem : Same d n (v' k) (λ s. w * v (n + k) s)
  pub row : (j : ℕ) → j < n + n → ¬ (j ≡ n + k) → ¬ (j ≡ k) → Same d n (v' j) (λ s. v j s + t j * v (n + k) s)

-- Which row j is.
pub data Kind (n k j : ℕ) : Type 0 where
  stab_k : j ≡ n + k → Kind n k j
  destab_k : j ≡ k → Kind n k j
  rest : ¬ (j ≡ n + k) → ¬ (j ≡ k) → Kind n k j

pub kind : (n k j : ℕ) → Kind n k j
kind n k j = go (ℕ_discrete j (n + k)) (ℕ_discrete j k)
  where
    go : Dec (j ≡ n + k) → Dec (j ≡ k) → Kind n k j
    go (yes x) y = stab_k x
    go (no x) (yes y) = destab_k y
    go (no x) (no y) = rest x y

module _ (e n : ℕ) (v : ℕ → ℕ → ℕ) (ok : SymplecticBasis e n v) (q k w : ℕ) (t : ℕ → ℕ) (v' : ℕ → ℕ → ℕ) (lq : q < n) (lk : k < n) (mv : Moved (suc e) n v q k w t v') where
  abbrev d : ℕ
  d = suc e

  abbrev pivot : ℕ → ℕ
  pivot = v (n + k)

  -- All rows but destabilizer k commute with the pivot.
  with_k : (j : ℕ) → j < n + n → ¬ (j ≡ k) → Cong d (pair e n (v j) pivot) 0
  with_k j l x = ok.others j (n + k) l (omega arith) (omega arith) (λ y. x (omega arith))

  k_with : (j : ℕ) → j < n + n → ¬ (j ≡ k) → Cong d (pair e n pivot (v j)) 0
  k_with j l x = ok.others (n + k) j (omega arith) l (λ y. x (omega arith)) (omega arith)

  -- So the pivot's multiples add nothing.
  k-row : (j : ℕ) → j < n + n → ¬ (j ≡ k) → Cong d (pair e n pivot (λ s. v j s + t j * pivot s)) 0
  k-row j l x =
      cong_trans (cong_eq d (pair-right e n pivot (v j) pivot (t j))) (cong_add (k_with j l x) (none_left (t j) (pair-self e n pivot)))

  rest-rest : (i j : ℕ) → i < n + n → j < n + n → ¬ (i ≡ n + k) → ¬ (i ≡ k) → ¬ (j ≡ n + k) → ¬ (j ≡ k)
      → Cong d (pair e n (v' i) (v' j)) (pair e n (v i) (v j))
  rest-rest i j li lj xi yi xj yj =
      cong_trans
      (pair_cong e n (v' i) (λ s. v i s + t i * pivot s) (v' j) (λ s. v j s + t j * pivot s) (mv.row i li xi yi) (mv.row j lj xj yj))
      (cong_trans (cong_eq d (pair_left e n (v i) pivot (λ s. v j s + t j * pivot s) (t i)))
      (cong_trans
      (cong_add
      (cong_trans (cong_eq d (pair-right e n (v i) (v j) pivot (t j))) (cong_add (cong_refl d (pair e n (v i) (v j))) (none_left (t j) (with_k i li yi))))
      (none_left (t i) (k-row j lj yj)))
      (cong_eq d (omega arith))))

  z_any : (j : ℕ) → Cong d (pair e n (v' (n + k)) (v' j)) (v' j q)
  z_any j =
      cong_trans (pair_cong e n (v' (n + k)) (zed n q) (v' j) (v' j) mv.stab-k (λ s l. cong_refl d (v' j s)))
      (cong_eq d (pair-zed e n q lq (v' j)))

  z_rest : (j : ℕ) → j < n + n → ¬ (j ≡ n + k) → ¬ (j ≡ k) → Cong d (pair e n (v' (n + k)) (v' j)) 0
  z_rest j l x y = cong_trans (z_any j) (cong_trans (mv.row j l x y q (omega arith)) (mv.clears j l))

  z_k : Cong d (pair e n (v' (n + k)) (v' k)) 1
  z_k = cong_trans (z_any k) (cong_trans (mv.destab_k_lem q (omega arith)) (cong_trans (cong_eq d (omega arith)) mv.inverse))

  k-rest : (j : ℕ) → j < n + n → ¬ (j ≡ n + k) → ¬ (j ≡ k) → Cong d (pair e n (v' k) (v' j)) 0
  k-rest j l x y =
      cong_trans (pair_cong e n (v' k) (λ s. w * pivot s) (v' j) (λ s. v j s + t j * pivot s) mv.destab_k_lem (mv.row j l x y))
      (cong_trans (cong_eq d (pair_scale e n pivot (λ s. v j s + t j * pivot s) w)) (none_left w (k-row j l y)))

  flipped : (i j : ℕ) → Cong d (pair e n (v' i) (v' j)) 0 → Cong d (pair e n (v' j) (v' i)) 0
  flipped i j h = cong_trans (pair_flip e n (v' j) (v' i)) (none_left e h)

  -- The pairing of rows i and j, from that of rows a and b that they are.
  at : (i j a b : ℕ) → i ≡ a → j ≡ b → Cong d (pair e n (v' a) (v' b)) 0 → Cong d (pair e n (v' i) (v' j)) 0
  at i j a b p r h =
      cong_trans (cong_eq d (ap (λ (z : ℕ). pair e n (v' z) (v' j)) p ∙ ap (λ (z : ℕ). pair e n (v' a) (v' z)) r)) h

  pub kept : SymplecticBasis e n v'
  kept = record { partners = partners; others = λ r s lr ls x y. others r s lr ls x y (kind n k r) (kind n k s) }
    where
      partners : (i : ℕ) → i < n → Cong d (pair e n (v' (n + i)) (v' i)) 1
      partners i l = go (ℕ_discrete i k)
        where
          go : Dec (i ≡ k) → Cong d (pair e n (v' (n + i)) (v' i)) 1
          go (yes x) = cong_trans (cong_eq d (ap (λ (z : ℕ). pair e n (v' (n + z)) (v' z)) x)) z_k
          go (no x) =
              cong_trans (rest-rest (n + i) i (omega arith) (omega arith) (λ y. x (omega arith)) (omega arith) (omega arith) x) (ok.partners i l)

      others : (r s : ℕ) → r < n + n → s < n + n → ¬ (r ≡ n + s) → ¬ (s ≡ n + r) → Kind n k r → Kind n k s
          → Cong d (pair e n (v' r) (v' s)) 0
      others r s lr ls x y (stab_k a) (stab_k b) = at r s (n + k) (n + k) a b (pair-self e n (v' (n + k)))
      others r s lr ls x y (stab_k a) (destab_k b) = absurd (x (omega arith))
      others r s lr ls x y (stab_k a) (rest b c) = at r s (n + k) s a refl (z_rest s ls b c)
      others r s lr ls x y (destab_k a) (stab_k b) = absurd (y (omega arith))
      others r s lr ls x y (destab_k a) (destab_k b) = at r s k k a b (pair-self e n (v' k))
      others r s lr ls x y (destab_k a) (rest b c) = at r s k s a refl (k-rest s ls b c)
      others r s lr ls x y (rest a c) (stab_k b) = at r s r (n + k) refl b (flipped (n + k) r (z_rest r lr a c))
      others r s lr ls x y (rest a c) (destab_k b) = at r s r k refl b (flipped k r (k-rest r lr a c))
      others r s lr ls x y (rest a c) (rest b f) = cong_trans (rest-rest r s lr ls a c b f) (ok.others r s lr ls x y)
