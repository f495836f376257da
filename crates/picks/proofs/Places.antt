-- A fit is known by its literals, and by its place in the order.
use Rattle.std.proofs.Common.{◌≡◌, ◌<◌, ◌⊎◌, inl, inr, arith}
use mathlib.Core.HLevel.{is_prop→PathP}
use denote.Struct.Props.{props}
use Rattle.std.proofs.lemmas.Bool.{cases_order}
use Rattle.picks.specs.declared.fit.Fit.{sound-type}
use Rattle.literals.specs.Sets.{Before}
use Rattle.picks.specs.Fits.{place, KnownByLiterals, KnownByPlace, PlacesInOrder}

pub known_by_literals : KnownByLiterals
known_by_literals f g e = λ i. record {
  literals = e i;
  sound = is_prop→PathP (λ j. sound-type (e j)) (λ j. hlevel props) f.sound g.sound i;
}

pub known_by_place : KnownByPlace
known_by_place f g e =
    let p : f.literals.plus ≡ g.literals.plus = omega (arith, f.sound, g.sound) in
    let m : f.literals.minus ≡ g.literals.minus = omega arith in
    known_by_literals f g (λ i. record { plus = p i; minus = m i })

pub places_in_order : PlacesInOrder
places_in_order f g = (λ p. to p (cases_order f.literals.plus g.literals.plus), from) where
  to : place f < place g
      → (f.literals.plus ≡ g.literals.plus) ⊎ ((f.literals.plus < g.literals.plus) ⊎ (g.literals.plus < f.literals.plus))
      → Before f.literals g.literals
  to p (inl e) = inr (e, omega arith)
  to p (inr (inl l)) = inl l
  to p (inr (inr h)) = absurd (omega (arith, f.sound, g.sound))

  from : Before f.literals g.literals → place f < place g
  from (inl l) = omega (arith, f.sound, g.sound)
  from (inr e) = omega arith
