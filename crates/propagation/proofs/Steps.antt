-- One narrowing after another.
use Rattle.std.proofs.Common.{◌≡◌, ◌+◌, ◌-◌, ◌<◌, ◌≤◌, Some, None, Option, sym, lt_of_not-le, arith}
use Rattle.literals.specs.declared.literal_set.LiteralSet.{LiteralSet}
use Rattle.literals.specs.Sets.{◌⊑◌, size}
use Rattle.literals.proofs.SetLaws.{size_sub, size_same}
use Rattle.picks.specs.declared.bounds.Bounds.{Bounds}
use Rattle.picks.specs.Between.{Between}
use Rattle.propagation.specs.Narrowing.{Tighter, Narrowed}

pub tighter_refl : (P : LiteralSet → Type 0) (b : Bounds) → Tighter P b b
tighter_refl P b = record { low = λ l h. h; high = λ l h. h; keeps = λ s p w. w }

pub tighter_trans : (P : LiteralSet → Type 0) (b n m : Bounds) → Tighter P b n → Tighter P n m → Tighter P b m
tighter_trans P b n m t f = record {
  low = λ l h. f.low l (t.low l h);
  high = λ l h. t.high l (f.high l h);
  keeps = λ s p w. f.keeps s p (t.keeps s p w);
}

-- what lies between the narrower bounds lies between the wider ones
pub widened : (b n : Bounds) → b.lower ⊑ n.lower → n.upper ⊑ b.upper → (s : LiteralSet) → Between n s → Between b s
widened b n low high s w = record { low = λ l h. w.low l (low l h); high = λ l h. high l (w.high l h) }

-- what keeps all sets of a kind keeps those of any smaller kind
pub narrowed_from : (P Q : LiteralSet → Type 0) (b : Bounds) → ((s : LiteralSet) → Between b s → Q s → P s)
    → (o : Option Bounds) → Narrowed P b o → Narrowed Q b o
narrowed_from P Q b f None h = λ s q w. h s (f s w q) w
narrowed_from P Q b f (Some n) h = record { low = h.low; high = h.high; keeps = λ s q w. h.keeps s (f s w q) w }

-- the bounds come together
pub bounds_less : (n m : Bounds) → n.lower ⊑ m.lower → m.upper ⊑ n.upper → size m.lower ≤ 128
    → (m ≡ n → ⊥) → (128 - size m.lower) + size m.upper < (128 - size n.lower) + size n.upper
bounds_less n m l u fits changed =
    lt_of_not-le (λ h.
    let low = size_same n.lower m.lower l (omega (arith, size_sub m.upper n.upper u)) in
    let high = size_same m.upper n.upper u (omega (arith, size_sub n.lower m.lower l)) in
    changed (λ i. record { lower = sym low i; upper = high i }))
