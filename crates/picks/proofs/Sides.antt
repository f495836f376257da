-- The two sides of picks stay sound, and picks are known by them.
use Rattle.std.proofs.Common.{◌≡◌, ℕ, ◌⊎◌, subst, inl, inr, ⊎_elim, arith}
use mathlib.Core.HLevel.{is_prop→PathP}
use denote.Struct.Props.{props}
use Rattle.literals.specs.declared.literal_set.LiteralSet.{LiteralSet}
use Rattle.picks.specs.declared.picks.Picks.{Picks, sound-type}
use Rattle.picks.specs.declared.picks.Side.TheVariants.{Required, Excluded}
use Rattle.literals.specs.Sets.{Lit, atom, negated, In, ◌⊑◌, Disjoint, Consistent, Added, opposite_of}
use Rattle.picks.specs.Sound.{SoundPicks}
use Rattle.picks.specs.Picking.{KnownBySides}
use Rattle.literals.proofs.SetLaws.{same_sets}

-- fewer picks
pub sound_fewer : (x y e f : LiteralSet) → SoundPicks x e → y ⊑ x → f ⊑ e → SoundPicks y f
sound_fewer x y e f s l r = (λ k p q. s.0 k (l k p) (r k q), λ a p q. s.1 a (l (atom a) p) (l (negated a) q))

-- one more required
pub sound_require : (x e r : LiteralSet) (k : Lit) → SoundPicks x e → Added x k r → (In e k → ⊥) → (In x (opposite_of k) → ⊥) → SoundPicks r e
sound_require x e r k s more out free = (apart, consistent) where
  apart : Disjoint r e
  apart l p q = ⊎_elim (λ h. s.0 l h q) (λ i. out (subst (In e) i q)) (more.only l p)

  consistent : Consistent r
  consistent a p q = by_ways (more.only (atom a) p) (more.only (negated a) q) where
    by_ways : In x (atom a) ⊎ (atom a ≡ k) → In x (negated a) ⊎ (negated a ≡ k) → ⊥
    by_ways (inl h) (inl g) = s.1 a h g
    by_ways (inl h) (inr j) = free (subst (λ l. In x (opposite_of l)) j h)
    by_ways (inr i) (inl g) = free (subst (λ l. In x (opposite_of l)) i g)
    by_ways (inr i) (inr j) = let z : ◌≡◌ {A = ℕ} 0 1 = cc in omega arith

pub same_sides : (p q : Picks) → p.required ≡ q.required → p.excluded ≡ q.excluded → p ≡ q
same_sides p q a b = λ i. record {
  required = a i;
  excluded = b i;
  sound = is_prop→PathP (λ j. sound-type (a j) (b j)) (λ j. hlevel props) p.sound q.sound i;
}

pub known_by_sides : KnownBySides
known_by_sides p q h =
    same_sides p q
    (same_sets p.required q.required (λ k. (h Required k).0) (λ k. (h Required k).1))
    (same_sets p.excluded q.excluded (λ k. (h Excluded k).0) (λ k. (h Excluded k).1))
