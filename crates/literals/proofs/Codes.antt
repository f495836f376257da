-- What even and odd codes name.
use Rattle.std.proofs.Common.{◌≡◌, ℕ, ◌+◌, ◌*◌, ◌/◌, ◌%◌, true, false, eqb, arith}
use Rattle.std.proofs.lemmas.Bool.{eq-eqb, ne_eqb}
use Rattle.literals.specs.Sets.{atom, negated, named}

pub named_even : (a : ℕ) → named (2 * a) ≡ atom a
named_even a =
    let t : eqb (2 * a % 2) 0 ≡ true = eq-eqb (2 * a % 2) 0 (omega arith) in
    let d : 2 * a / 2 ≡ a = omega arith in
    rw (t, d)

pub named_odd : (a : ℕ) → named (2 * a + 1) ≡ negated a
named_odd a =
    let t : eqb ((2 * a + 1) % 2) 0 ≡ false = ne_eqb ((2 * a + 1) % 2) 0 (λ e. omega arith) in
    let d : (2 * a + 1) / 2 ≡ a = omega arith in
    rw (t, d)
