-- A condition that must fail, with one literal that is open between the bounds.
use Rattle.std.proofs.Common.{◌≡◌, ◌+◌, sym, subst, ⊎_elim, arith}
use Rattle.literals.specs.declared.condition.Condition.{Condition}
use Rattle.literals.specs.declared.literal_set.LiteralSet.{LiteralSet}
use Rattle.literals.specs.Conditions.{Holds}
use Rattle.literals.specs.Sets.{In, ◌⊑◌, Disjoint, size, Union, Shared, Difference}
use Rattle.literals.proofs.SetLaws.{present, size_some, size_none, size_one}
use Rattle.picks.specs.declared.bounds.Bounds.{Bounds}
use Rattle.picks.specs.Between.{Between}
use Rattle.propagation.specs.Narrowing.{Tighter}

module _ (c : Condition) (b : Bounds) (missing opposed : LiteralSet)
    (m : Difference c.wanted b.lower missing) (o : Shared c.absent b.upper opposed) (one : size missing + size opposed ≡ 1) where
  -- a literal under "not" is in
  opposed_in : (s : LiteralSet) → Between b s → (Holds c s → ⊥) → opposed ⊑ s
  opposed_in s w n k p = ⊎_elim (λ h. h) (λ out. absurd (n (wanted_there, none_there out))) (present s k) where
    none_missing : size missing ≡ 0
    none_missing = omega (arith, size_some opposed k p)

    wanted_there : c.wanted ⊑ s
    wanted_there l h = ⊎_elim (w.low l) (λ q. absurd (size_none missing none_missing l (m.all l h q))) (present b.lower l)

    none_there : (In s k → ⊥) → Disjoint c.absent s
    none_there out l h q = out (subst (In s) (size_one opposed (omega arith) k l p (o.all l h (w.high l q))) q)

  -- or a wanted literal is out
  missing_out : (s : LiteralSet) → Between b s → (Holds c s → ⊥) → Disjoint missing s
  missing_out s w n k p here = n (wanted_there, none_there) where
    none_opposed : size opposed ≡ 0
    none_opposed = omega (arith, size_some missing k p)

    wanted_there : c.wanted ⊑ s
    wanted_there l h = ⊎_elim (w.low l) (λ q. subst (In s) (sym (size_one missing (omega arith) k l p (m.all l h q))) here) (present b.lower l)

    none_there : Disjoint c.absent s
    none_there l h q = size_none opposed none_opposed l (o.all l h (w.high l q))

  pub by_failing : (l u : LiteralSet) → Union b.lower opposed l → Difference b.upper missing u
      → Tighter (λ s. (Holds c s → ⊥)) b (record { lower = l; upper = u })
  by_failing l u j d = record {
    low = j.left;
    high = d.left;
    keeps = λ s n w. record {
      low = λ k p. ⊎_elim (w.low k) (opposed_in s w n k) (j.only k p);
      high = λ k p. d.all k (w.high k p) (λ q. missing_out s w n k q p);
    };
  }
