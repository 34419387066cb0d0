-- The operation of an accepted entry, by its code.
-- Assumes nothing.
use mathlib.Core.Path.{◌≡◌, refl, sym, ap, subst, ◌∙◌}
use mathlib.Core.Logic.{◌≢◌}
use mathlib.Core.Bool.{Bool, true, false}
use mathlib.Core.List.{List, [], ◌∷◌}
use native.Mathlib.Decide.{ℕ_discrete}
use Prim.Native.Nat.{ℕ, zero, suc, ◌+◌, ◌*◌, ◌/◌, ◌<◌, ◌≤◌}
use native.Mathlib.Omega.{arith}
use lib.ListN.{length, get_or}
use Rattle.operation.specs.declared.Operation.{Operation}
use Rattle.operation.specs.declared.Operation.TheVariants.{Measure, Reset, Correct}
use Rattle.operation.specs.Operation.{allowed}
use Rattle.operation.specs.Gate.{gate_powers, gate_frame}
use Rattle.operation.proofs.Operands.{distinct-facts}
use Rattle.circuit.specs.Circuit.{op_at, Kind, gate, measures, resets, corrects, kind}
use Rattle.std.proofs.Common.{Option, Some}
use Rattle.book_entries.specs.Entry.{bytes_of, good_if, coded, operation_at}
use Rattle.book_entries.specs.Fits.{fits}
use Rattle.book_entries.proofs.Decoding.{decoded-exactly}
use Rattle.book_entries.proofs.Fitting.{by_fits, fits-most}
use Rattle.book.specs.Decoded.{operation_in, operations_of}
use Rattle.book.proofs.Lists.{op-at}

-- an allowed one was not bad
fitting : (d n : ℕ) {x : Option Operation} (t : Bool) (op : Operation) → x ≡ good_if t op → allowed d n (operation_in x) ≡ true → t ≡ true
fitting d n true op e h = refl
fitting d n false op e h = absurd ((distinct-facts n 0 0 (sym (ap (λ (x : Option Operation). allowed d n (operation_in x)) e) ∙ h)).2 refl)

-- numbers from 6 up, and up to 8
six : (b : ℕ) → b ≢ 0 → b ≢ 1 → b ≢ 2 → b ≢ 3 → b ≢ 4 → b ≢ 5 → 6 ≤ b
six zero x y z u v w = absurd (x refl)
six (suc zero) x y z u v w = absurd (y refl)
six (suc (suc zero)) x y z u v w = absurd (z refl)
six (suc (suc (suc zero))) x y z u v w = absurd (u refl)
six (suc (suc (suc (suc zero)))) x y z u v w = absurd (v refl)
six (suc (suc (suc (suc (suc zero))))) x y z u v w = absurd (w refl)
six (suc (suc (suc (suc (suc (suc b)))))) x y z u v w = omega arith

eight : (b : ℕ) → 6 ≤ b → b ≤ 8 → b ≢ 6 → b ≢ 7 → b ≡ 8
eight b low high x y = omega (arith, x, y)

-- every code below 6 is a gate's
gates : (b0 b1 b2 b3 : ℕ) → b0 < 6 → kind (coded b0 b1 b2 b3) ≡ gate
unfolding coded
gates zero b1 b2 b3 l = refl
gates (suc zero) b1 b2 b3 l = refl
gates (suc (suc zero)) b1 b2 b3 l = refl
gates (suc (suc (suc zero))) b1 b2 b3 l = refl
gates (suc (suc (suc (suc zero)))) b1 b2 b3 l = refl
gates (suc (suc (suc (suc (suc zero))))) b1 b2 b3 l = refl
gates (suc (suc (suc (suc (suc (suc b)))))) b1 b2 b3 l = absurd (omega arith)

-- no gates
abbrev IsGate : Kind → Type 0
IsGate gate = Unit {0}
IsGate (measures q) = ⊥
IsGate (resets q) = ⊥
IsGate (corrects t m) = ⊥

no-gate-measures : {q : ℕ} → measures q ≢ gate
no-gate-measures e = subst IsGate (sym e) tt

no-gate-resets : {q : ℕ} → resets q ≢ gate
no-gate-resets e = subst IsGate (sym e) tt

no-gate-corrects : {t m : ℕ} → corrects t m ≢ gate
no-gate-corrects e = subst IsGate (sym e) tt

-- entry k of a body that the reader accepted
module _ (d n : ℕ) (ops : List ℕ) (k : ℕ) (inside : k < length ops / 4) (h : allowed d n (op_at (operations_of d n ops) k) ≡ true) where
  abbrev byte : ℕ → ℕ
  byte i = get_or ops (4 * k + i) 0

  abbrev code : ℕ
  code = get_or ops (4 * k) 0

  fit : fits d n code (byte 1) (byte 2) (byte 3) ≡ true
  fit = fitting d n _ _ (by_fits d n (byte 1) (byte 2) (byte 3) code) (sym (ap (allowed d n) (op-at d n ops k inside)) ∙ h)

  pub is-coded : op_at (operations_of d n ops) k ≡ coded code (byte 1) (byte 2) (byte 3)
  is-coded = op-at d n ops k inside ∙ ap operation_in (by_fits d n (byte 1) (byte 2) (byte 3) code ∙ ap (λ (t : Bool). good_if t (coded code (byte 1) (byte 2) (byte 3))) fit)

  -- so its bytes are read as that operation, and are the operation's
  is_read : operation_at d n ops k ≡ Some (op_at (operations_of d n ops) k)
  is_read =
      by_fits d n (byte 1) (byte 2) (byte 3) code
      ∙ ap (λ (t : Bool). good_if t (coded code (byte 1) (byte 2) (byte 3))) fit
      ∙ ap Some (sym is-coded)

  pub own-bytes : code ∷ byte 1 ∷ byte 2 ∷ byte 3 ∷ [] ≡ bytes_of (op_at (operations_of d n ops) k)
  own-bytes = ((decoded-exactly d n code (byte 1) (byte 2) (byte 3) (op_at (operations_of d n ops) k)).0 is_read).1

  pub code_6 : code ≡ 6 → op_at (operations_of d n ops) k ≡ Measure (byte 1)
  unfolding coded
  code_6 e = is-coded ∙ rw e

  pub code_7 : code ≡ 7 → op_at (operations_of d n ops) k ≡ Reset (byte 1)
  unfolding coded
  code_7 e = is-coded ∙ rw e

  pub code_8 : code ≡ 8 → op_at (operations_of d n ops) k ≡ Correct (byte 1) (byte 2 + 256 * byte 3)
  unfolding coded
  code_8 e = is-coded ∙ rw e

  -- a code from 6 up that is neither 6 nor 7 is the correction's
  pub code-most : code ≤ 8
  code-most = fits-most d n (byte 1) (byte 2) (byte 3) code fit

  -- any code below 6 is a gate's
  pub code-gate : code < 6 → kind (op_at (operations_of d n ops) k) ≡ gate
  code-gate l = ap kind is-coded ∙ gates code (byte 1) (byte 2) (byte 3) l

  -- and from 6 up there is none
  pub code-no-gate : 6 ≤ code → kind (op_at (operations_of d n ops) k) ≢ gate
  code-no-gate low = by (ℕ_discrete code 6) (ℕ_discrete code 7)
    where
      other : {op : Operation} → op_at (operations_of d n ops) k ≡ op → kind op ≢ gate → kind (op_at (operations_of d n ops) k) ≢ gate
      other e h = rw e h

      by : Dec (code ≡ 6) → Dec (code ≡ 7) → kind (op_at (operations_of d n ops) k) ≢ gate
      by (yes e) b = other (code_6 e) no-gate-measures
      by (no a) (yes e) = other (code_7 e) no-gate-resets
      by (no a) (no b) = other (code_8 (eight code low code-most a b)) no-gate-corrects

  -- none of the gates' codes: the entry does nothing to a frame as a gate
  pub code-rest : (((((Unit {0} × (code ≢ 0)) × (code ≢ 1)) × (code ≢ 2)) × (code ≢ 3)) × (code ≢ 4)) × (code ≢ 5)
      → (F : List ℕ) → gate_frame d n (op_at (operations_of d n ops) k) F ≡ F
  unfolding gate_powers
  code-rest ((((((i, x), y), z), u), v), w) = by (ℕ_discrete code 6) (ℕ_discrete code 7)
    where
      still : {op : Operation} → op_at (operations_of d n ops) k ≡ op → ((F : List ℕ) → gate_frame d n op F ≡ F)
          → (F : List ℕ) → gate_frame d n (op_at (operations_of d n ops) k) F ≡ F
      still e h = rw e h

      by : Dec (code ≡ 6) → Dec (code ≡ 7) → (F : List ℕ) → gate_frame d n (op_at (operations_of d n ops) k) F ≡ F
      by (yes e) b = still (code_6 e) (λ F. refl)
      by (no a) (yes e) = still (code_7 e) (λ F. refl)
      by (no a) (no b) = still (code_8 (eight code (six code x y z u v w) code-most a b)) (λ F. refl)
