-- What `inverse::power` keeps: x times the square of s to the power j stays u to the power k.
use mathlib.Core.Path.{◌≡◌}
use Prim.Native.Nat.{◌*◌, ◌%◌, ◌<◌}
use Rattle.modular.specs.Dimension.{power_of}
use Rattle.inverse.proofs.power.Given as goal

abbrev pub invariant-loop-j : goal.invariant-loop-j
invariant-loop-j l = (l.x < l.m.d) × (l.s < l.m.d) × (power_of l.m.d (l.s * l.s % l.m.d) l.j * l.x % l.m.d ≡ power_of l.m.d l.u l.k)

abbrev pub decreases-loop-j : goal.decreases-loop-j
decreases-loop-j l = l.j
