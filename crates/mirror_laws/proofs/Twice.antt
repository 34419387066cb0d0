-- The mirror of the mirror: each gate is what undoes its inverse, the order is the old one, and the bytes are the book's own.
-- Assumes nothing.
use mathlib.Core.Path.{◌≡◌, refl, sym, ap, ◌∙◌}
use mathlib.Core.Bool.{true}
use mathlib.Core.List.{List, [], ◌∷◌}
use Prim.Native.Nat.{ℕ, zero, suc, ◌+◌, ◌-◌, ◌*◌, ◌%◌, ◌/◌, ◌<◌}
use native.Mathlib.Nat.{le_refl}
use native.Mathlib.Omega.{arith}
use lib.ListN.{length, get_or}
use lib.Seq.{ext_get_or}
use Rattle.congruence.proofs.Congruence.{Cong, cong_eq, cong_sym, cong_trans, cong_mul-left, small_cong}
use Rattle.modular.specs.Dimension.{inverse, Dimension}
use Rattle.modular.proofs.Listed.{dimension}
use Rattle.operation.specs.declared.Operation.{Operation}
use Rattle.operation.specs.declared.Operation.TheVariants.{Fourier, PhaseGate, Sum, Cz, Swap, Multiplier, Measure, Reset, Correct}
use Rattle.operation.specs.Operation.{allowed}
use Rattle.operation.proofs.Operands.{single-facts, pair-facts}
use Rattle.circuit.specs.Circuit.{op_at}
use Rattle.book.specs.Book.{body_of}
use Rattle.book.specs.Decoded.{operations_of, ops_in, choices_in}
use Rattle.book.proofs.Contents.{whole-operations}
use Rattle.book.proofs.Lists.{op-count}
use Rattle.book.proofs.Meaning.{accepted-means}
use Rattle.operation_codes.proofs.Codes.{own-bytes}
use Rattle.book_laws.proofs.WithoutErrors.{empty}
use Rattle.mirror_book.specs.Undoing.{undoing}
use Rattle.mirror_book.specs.Mirrored.{mirrored}
use Rattle.mirror_book.specs.MirrorBook.{bytes_of_all}
use Rattle.mirror_book.proofs.Mirrored.{mirrored-length, mirrored-at}
use Rattle.mirror_book.proofs.Body.{body-length, byte_at}
use Rattle.mirror_laws.specs.Books.{MirrorTwice}
use Rattle.mirror_laws.proofs.Undone.{inverse-positive, leaves-one}
use Rattle.mirror_laws.proofs.Lists.{gates_of, none-chosen}
use Rattle.mirror_laws.proofs.Books.{reads}

-- the inverse of the inverse
inverse-twice : {d : ℕ} → Dimension d → (u : ℕ) → 0 < u → u < d → inverse d (inverse d u) ≡ u
inverse-twice {d} dim u low high =
    let w = inverse d u in
    let x = inverse d w in
    let h : Cong d (x * (u * w)) (x * 1) = cong_mul-left x (leaves-one dim u low high) in
    let k : Cong d (u * (w * x)) (u * 1) = cong_mul-left u (leaves-one dim w (inverse-positive dim u low high) (dim.small u)) in
    let through : x * (u * w) ≡ u * (w * x) = omega arith in
    let one : x * 1 ≡ x = omega arith in
    let same : u * 1 ≡ u = omega arith in
    small_cong (cong_trans (cong_sym (cong_trans h (cong_eq d one))) (cong_trans (cong_eq d through) (cong_trans k (cong_eq d same)))) (dim.small w) high

undoing-twice : (d n : ℕ) → Dimension d → (op : Operation) → allowed d n op ≡ true → undoing d (undoing d op) ≡ op
undoing-twice d n dim (Fourier q k) h =
    let (_, low, high) = single-facts 4 n q k h in
    let e : 4 - (4 - k) ≡ k = omega arith in
    ap (Fourier q) e
undoing-twice d n dim (PhaseGate q k) h =
    let (_, low, high) = single-facts d n q k h in
    let e : d - (d - k) ≡ k = omega arith in
    ap (PhaseGate q) e
undoing-twice d n dim (Sum c t k) h =
    let (_, _, _, low, high) = pair-facts d n c t k h in
    let e : d - (d - k) ≡ k = omega arith in
    ap (Sum c t) e
undoing-twice d n dim (Cz c t k) h =
    let (_, _, _, low, high) = pair-facts d n c t k h in
    let e : d - (d - k) ≡ k = omega arith in
    ap (Cz c t) e
undoing-twice d n dim (Swap c t) h = refl
undoing-twice d n dim (Multiplier q u) h = let (_, low, high) = single-facts d n q u h in ap (Multiplier q) (inverse-twice dim u low high)
undoing-twice d n dim (Measure q) h = refl
undoing-twice d n dim (Reset q) h = refl
undoing-twice d n dim (Correct t m) h = refl

module _ (d n : ℕ) (dim : Dimension d) (ops : List Operation) (good : (k : ℕ) → k < length ops → allowed d n (op_at ops k) ≡ true) where
  mirrored-twice : mirrored d (mirrored d ops) ≡ ops
  mirrored-twice =
      ext_get_or (Measure 0) _ _ (mirrored-length d (mirrored d ops) ∙ mirrored-length d ops)
      (λ k l.
      let m = mirrored-length d ops in
      let i : k < length (mirrored d ops) = omega (arith, mirrored-length d (mirrored d ops)) in
      let j : length (mirrored d ops) - suc k < length ops = omega (arith, m) in
      let q : length ops - suc (length (mirrored d ops) - suc k) ≡ k = omega (arith, m) in
      mirrored-at d (mirrored d ops) k i
      ∙ ap (undoing d) (mirrored-at d ops (length (mirrored d ops) - suc k) j)
      ∙ ap (λ (x : ℕ). undoing d (undoing d (op_at ops x))) q
      ∙ undoing-twice d n dim (op_at ops k) (good k (omega (arith, m))))

-- byte j of an entry whose bytes are known
nth : (v ops : List ℕ) (k : ℕ) → get_or ops (4 * k) 0 ∷ get_or ops (4 * k + 1) 0 ∷ get_or ops (4 * k + 2) 0 ∷ get_or ops (4 * k + 3) 0 ∷ [] ≡ v
    → (j : ℕ) → j < 4 → get_or v j 0 ≡ get_or ops (4 * k + j) 0
nth v ops k e zero l = let q : 4 * k ≡ 4 * k + 0 = omega arith in rw (← e) (ap (λ (i : ℕ). get_or ops i 0) q)
nth v ops k e (suc zero) l = rw (← e) refl
nth v ops k e (suc (suc zero)) l = rw (← e) refl
nth v ops k e (suc (suc (suc zero))) l = rw (← e) refl
nth v ops k e (suc (suc (suc (suc j)))) l = absurd (omega arith)

-- the bytes of the operations that a body has are that body
module _ (d n : ℕ) (ops : List ℕ) (whole : length ops % 4 ≡ 0)
    (good : (k : ℕ) → k < length (operations_of d n ops) → allowed d n (op_at (operations_of d n ops) k) ≡ true) where
  own-byte : (i : ℕ) → i < length ops → get_or (bytes_of_all (operations_of d n ops)) i 0 ≡ get_or ops i 0
  own-byte i l =
      let k = i / 4 in
      let j = i % 4 in
      let q : i ≡ 4 * k + j = omega arith in
      let low : j < 4 = omega arith in
      let inside : k < length ops / 4 = omega arith in
      let listed : k < length (operations_of d n ops) = rw (op-count d n ops) inside in
      ap (λ (x : ℕ). get_or (bytes_of_all (operations_of d n ops)) x 0) q
      ∙ byte_at (operations_of d n ops) k j listed low
      ∙ nth _ ops k (own-bytes d n ops k inside (good k listed)) j low
      ∙ ap (λ (x : ℕ). get_or ops x 0) (sym q)

  written_again : bytes_of_all (operations_of d n ops) ≡ ops
  written_again =
      let size : length (bytes_of_all (operations_of d n ops)) ≡ length ops = omega (arith, body-length (operations_of d n ops), op-count d n ops, whole) in
      ext_get_or 0 _ _ size (λ i l. own-byte i (omega (arith, size)))

pub mirror-twice : MirrorTwice
mirror-twice s d n operations errors choices e none =
    let m = accepted-means s d n operations errors choices e in
    let dim = dimension d m.dimension-listed in
    let ops = ops_in s d n in
    let whole = (whole-operations s e).0 in
    let no-choices = empty (choices_in s) (m.lists.one_each ∙ none-chosen ops (gates_of ops none) (length ops) (le_refl (length ops))) in
    rw (reads s e none, mirrored-twice d n dim ops m.lists.operations, written_again d n (body_of s 1) whole m.lists.operations, no-choices)
