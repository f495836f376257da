-- The literal is on neither side, and its strong negation is not required.
use Rattle.std.proofs.Common.{sym, subst, inr}
use Rattle.std.proofs.lemmas.Bool.Decides.{not_from_Decides}
use Rattle.literals.specs.Sets.{In}
use Rattle.picks.proofs.Sides.{sound_require}
use Rattle.picks.proofs.picks.Picks.require.Goals as goal

pub invariant_of-result : goal.invariant_of-result
invariant_of-result c =
    let p = c.args.self in
    let picked = not_from_Decides _ c.is_picked.ensures c.if-is_picked.false in
    let opposed = not_from_Decides _ c.has.ensures c.if-has.false in
    record {
      sound = sound_require p.required p.excluded c.with.result _ p.sound c.with.ensures
          (λ h. picked (inr h)) (λ h. opposed (subst (In p.required) (sym c.opposite.ensures) h));
    }
