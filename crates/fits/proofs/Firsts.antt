-- What comes after a fit, and the first fit of two kinds.
use Rattle.std.proofs.Common.{◌≡◌, ℕ, ◌+◌, ◌-◌, ◌^◌, ◌<◌, ◌≤◌, Bool, false, IsTrue, ◌⊎◌, Some, None, Option, refl, ap, ◌∙◌, subst, inl, inr, ⊎_elim, eq-or-lt_of_le, arith}
use Rattle.std.proofs.lemmas.Bool.{false≢true}
use Rattle.picks.specs.declared.fit.Fit.{Fit}
use Rattle.picks.specs.Fits.{place}
use Rattle.picks.proofs.Places.{known_by_place}
use Rattle.fits.specs.First.{First, After}

-- at most how many fits come after
abbrev pub to_go : Option Fit → ℕ
to_go (Some f) = 2 ^ 128 - place f
to_go None = 2 ^ 128 + 1

-- what does not come before a fit after a, comes after a
pub after_more : (a : Option Fit) (f g : Fit) → After a f → place f ≤ place g → After a g
after_more (Some a) f g h k = omega arith
after_more None f g h k = tt

-- a fit that passes, and does not come before one that does not pass, comes after it
pub apart : (P : Fit → Bool) (f g : Fit) → false ≡ P f → IsTrue (P g) → place f ≤ place g → place f < place g
apart P f g out t le = elim (eq-or-lt_of_le le) [ inr lt ↦ lt | inl eq ↦ absurd (false≢true (out ∙ ap P (known_by_place f g eq) ∙ t)) ]

-- what is first of a kind is first of any kind that holds of the same fits
pub first_like : (P Q : Fit → Type 0) → ((f : Fit) → P f → Q f) → ((f : Fit) → Q f → P f) → (r : Option Fit) → First P r → First Q r
first_like P Q to from None none = λ f q. none f (from f q)
first_like P Q to from (Some a) h = (to a h.0, λ g q. h.1 g (from g q))

module _ (P : Fit → Type 0) where
  -- where no first was found, none of the kind is there
  none_there : (a : Option Fit) → First P a → ((g : Fit) → a ≡ Some g → ⊥) → (g : Fit) → P g → ⊥
  none_there None p h = p
  none_there (Some y) p h = absurd (h y refl)

  -- what does not come after the first does not come after any of the kind
  not_after : (a : Option Fit) → First P a → (x : Fit) → ((g : Fit) → a ≡ Some g → place x ≤ place g) → (g : Fit) → P g → place x ≤ place g
  not_after None p x h g k = absurd (p g k)
  not_after (Some y) p x h g k = omega (arith, h y refl, p.1 g k)

  there : (a : Option Fit) (x : Fit) → First P a → a ≡ Some x → P x
  there a x p e = (subst (First P) e p).0

-- the first of two firsts is the first of both kinds
pub first_either : (P Q : Fit → Type 0) (a b r : Option Fit) → First P a → First Q b
    → First (λ f. (a ≡ Some f) ⊎ (b ≡ Some f)) r → First (λ f. P f ⊎ Q f) r
first_either P Q a b None p q h = λ f. ⊎_elim (none_there P a p (λ g e. h g (inl e)) f) (none_there Q b q (λ g e. h g (inr e)) f)
first_either P Q a b (Some x) p q h = (
  ⊎_elim (λ e. inl (there P a x p e)) (λ e. inr (there Q b x q e)) h.0,
  λ g. ⊎_elim (not_after P a p x (λ y e. h.1 y (inl e)) g) (not_after Q b q x (λ y e. h.1 y (inr e)) g),
)
