-- The bytes of a row of the sheet, and of the sheet.
-- Assumes nothing.
use mathlib.Core.Path.{◌≡◌, sym, ap, ◌∙◌}
use mathlib.Core.List.{List}
use Prim.Native.Nat.{ℕ, ◌+◌, ◌*◌, ◌/◌, ◌%◌, ◌<◌, ◌≤◌}
use native.Mathlib.Nat.{div-add-mod, mod-lt}
use native.Mathlib.Decide.{ℕ_discrete}
use native.Mathlib.Omega.{arith}
use lib.ListN.{length, get_or, drop}
use lib.Seq.{ext_get_or}
use borrow.Author.Tests.{eq-eqb, ne_eqb}
use Rattle.row.proofs.Fill.{tab-length, tab-get}
use Rattle.tableau.specs.Tableau.{part}
use Rattle.tableau.proofs.Parts.{part_at, Keeps, each-length, each_at, each-rest}
use Rattle.operation.specs.declared.Operation.{Operation}
use Rattle.operation.specs.declared.WeylError.{WeylError}
use Rattle.circuit.specs.Circuit.{err_at, measurement_count}
use Rattle.sheet.specs.Weights.{weight_x, weight_z, weight_byte, row_bytes, sheet_bytes, weights_of, sheet_row, sheet_in}

-- byte 2j and the next
pub even_half : (j : ℕ) → ((2 * j) / 2 ≡ j) × ((2 * j) % 2 ≡ 0)
even_half j =
    let e = div-add-mod (2 * j) 2 in
    let l : (2 * j) % 2 < 2 = mod-lt (2 * j) (omega arith) in
    (omega (arith, e, l), omega (arith, e, l))

pub odd-half : (j : ℕ) → ((2 * j + 1) / 2 ≡ j) × ((2 * j + 1) % 2 ≡ 1)
odd-half j =
    let e = div-add-mod (2 * j + 1) 2 in
    let l : (2 * j + 1) % 2 < 2 = mod-lt (2 * j + 1) (omega arith) in
    (omega (arith, e, l), omega (arith, e, l))

module _ (d n : ℕ) (ops : List Operation) where
  byte_x : (e : WeylError) (j : ℕ) → weight_byte d n ops e (2 * j) ≡ weight_x d n ops e j
  byte_x e j = rw (eq-eqb ((2 * j) % 2) 0 (even_half j).1, (even_half j).0)

  byte_z : (e : WeylError) (j : ℕ) → weight_byte d n ops e (2 * j + 1) ≡ weight_z d n ops e j
  byte_z e j = rw (ne_eqb ((2 * j + 1) % 2) 0 (λ z. omega (arith, (odd-half j).1)), (odd-half j).0)

  pub weights_length : (e : WeylError) → length (weights_of d n ops e) ≡ row_bytes ops
  unfolding weights_of
  weights_length e = tab-length (weight_byte d n ops e) (row_bytes ops)

  module _ (e : WeylError) (j : ℕ) (l : j < measurement_count ops) where
    pub weights_x : get_or (weights_of d n ops e) (2 * j) 0 ≡ weight_x d n ops e j
    unfolding weights_of
    weights_x = tab-get (weight_byte d n ops e) (row_bytes ops) (2 * j) 0 (omega arith) ∙ byte_x e j

    pub weights_z : get_or (weights_of d n ops e) (2 * j + 1) 0 ≡ weight_z d n ops e j
    unfolding weights_of
    weights_z = tab-get (weight_byte d n ops e) (row_bytes ops) (2 * j + 1) 0 (omega arith) ∙ byte_z e j

  -- a row with these weights is no other
  pub weights_are : (e : WeylError) (v : List ℕ) → length v ≡ row_bytes ops
      → ((j : ℕ) → j < measurement_count ops → get_or v (2 * j) 0 ≡ weight_x d n ops e j)
      → ((j : ℕ) → j < measurement_count ops → get_or v (2 * j + 1) 0 ≡ weight_z d n ops e j)
      → v ≡ weights_of d n ops e
  weights_are e v len xs zs =
      ext_get_or 0 _ _ (len ∙ sym (weights_length e)) (λ b l. by b (b / 2) (ℕ_discrete b (2 * (b / 2))) (div-add-mod b 2) (mod-lt b (omega arith)) (omega (arith, len)))
    where
      by : (b j : ℕ) → Dec (b ≡ 2 * j) → 2 * j + b % 2 ≡ b → b % 2 < 2 → b < row_bytes ops → get_or v b 0 ≡ get_or (weights_of d n ops e) b 0
      by b j (yes q) h r l = rw q (xs j (omega arith) ∙ sym (weights_x e j (omega arith)))
      by b j (no q) h r l = let odd : b ≡ 2 * j + 1 = omega arith in rw odd (zs j (omega arith) ∙ sym (weights_z e j (omega arith)))

  module _ (errors : List WeylError) where
    pub sheet-keeps : Keeps (row_bytes ops) (sheet_row d n ops errors)
    unfolding sheet_row
    sheet-keeps = record { keeps = λ i v l. weights_length (err_at errors i) }

    module _ (out : List ℕ) (room : sheet_bytes ops errors ≤ length out) where
      pub sheet-length : length (sheet_in d n ops errors out) ≡ length out
      sheet-length = each-length (sheet_row d n ops errors) (row_bytes ops) out sheet-keeps (length errors) room

      pub sheet-rest : drop (sheet_bytes ops errors) (sheet_in d n ops errors out) ≡ drop (sheet_bytes ops errors) out
      sheet-rest = each-rest (sheet_row d n ops errors) (row_bytes ops) out sheet-keeps (length errors) room

      pub sheet-row : (i : ℕ) → i < length errors → part (i * row_bytes ops) (row_bytes ops) (sheet_in d n ops errors out) ≡ weights_of d n ops (err_at errors i)
      unfolding sheet_row
      sheet-row i l = each_at (sheet_row d n ops errors) (row_bytes ops) out sheet-keeps (length errors) i l room

      -- the pair of entry i and measurement j
      module _ (i j : ℕ) (l : i < length errors) (h : j < measurement_count ops) where
        abbrev M : ℕ
        M = measurement_count ops

        pub sheet_x : get_or (sheet_in d n ops errors out) (2 * (i * M + j)) 0 ≡ weight_x d n ops (err_at errors i) j
        sheet_x =
            let q : 2 * (i * M + j) ≡ i * (2 * M) + 2 * j = omega arith in
            ap (λ (b : ℕ). get_or (sheet_in d n ops errors out) b 0) q
            ∙ sym (part_at (i * (2 * M)) (2 * M) (sheet_in d n ops errors out) (2 * j) (omega arith))
            ∙ ap (λ (v : List ℕ). get_or v (2 * j) 0) (sheet-row i l)
            ∙ weights_x (err_at errors i) j h

        pub sheet_z : get_or (sheet_in d n ops errors out) (2 * (i * M + j) + 1) 0 ≡ weight_z d n ops (err_at errors i) j
        sheet_z =
            let q : 2 * (i * M + j) + 1 ≡ i * (2 * M) + (2 * j + 1) = omega arith in
            ap (λ (b : ℕ). get_or (sheet_in d n ops errors out) b 0) q
            ∙ sym (part_at (i * (2 * M)) (2 * M) (sheet_in d n ops errors out) (2 * j + 1) (omega arith))
            ∙ ap (λ (v : List ℕ). get_or v (2 * j + 1) 0) (sheet-row i l)
            ∙ weights_z (err_at errors i) j h
