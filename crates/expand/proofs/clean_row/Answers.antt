use Rattle.std.proofs.Common.{◌≡◌, ℕ, ◌+◌, ◌-◌, List, [], ◌∷◌, ◌++◌, append-nil, length, set, take, drop, arith}
use lib.Seq.{drop-length}
use Rattle.expand.proofs.clean_row.Goals as goal

-- a byte, and behind it the clean results
whole : (row : List ℕ) (x : ℕ) (ys clean : List ℕ) → length row ≡ 1 + length clean → ys ≡ clean
    → take 1 (set row 0 x) ++ (ys ++ drop (length (set row 0 x) - 1) (drop 1 (set row 0 x))) ≡ x ∷ clean
whole [] x ys clean h e = absurd (omega arith)
whole (y ∷ zs) x ys clean h e = let q : length (x ∷ zs) - 1 ≡ length zs = omega arith in rw (q, drop-length zs, append-nil ys, e)

pub returns : goal.returns
returns c = whole c.args.row.now 0 _ c.args.clean.now c.requires c.copy.ensures
