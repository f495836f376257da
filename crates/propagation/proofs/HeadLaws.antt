-- The numbers of choice heads between two bounds.
use Rattle.std.proofs.Common.{◌≤◌, ⊎_elim, arith}
use Rattle.literals.specs.declared.literal_set.LiteralSet.{LiteralSet}
use Rattle.literals.specs.Sets.{◌⊑◌, common, Union, Shared, Difference}
use Rattle.literals.proofs.SetLaws.{present, common_more}
use Rattle.picks.specs.declared.bounds.Bounds.{Bounds}
use Rattle.picks.specs.Between.{Between}

-- as many as may be are in: the others are out
pub no_more : (head : LiteralSet) (b : Bounds) (rest u : LiteralSet) → Difference head b.lower rest → Difference b.upper rest u
    → (s : LiteralSet) → common head s ≤ common head b.lower → Between b s → s ⊑ u
no_more head b rest u d e s h w l p =
    e.all l (w.high l p) (λ q. let m = common_more head b.lower s l w.low (d.left l q) p (d.apart l q) in omega arith)

-- no more than must be can be in: they all are
pub no_fewer : (head : LiteralSet) (b : Bounds) (all n : LiteralSet) → Shared head b.upper all → Union b.lower all n
    → (s : LiteralSet) → common head b.upper ≤ common head s → Between b s → n ⊑ s
no_fewer head b all n d e s h w l p =
    ⊎_elim (w.low l)
    (λ q. ⊎_elim (λ here. here)
    (λ out. let m = common_more head s b.upper l w.high (d.left l q) (d.right l q) out in absurd (omega arith)) (present s l))
    (e.only l p)
