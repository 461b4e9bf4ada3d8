-- Checked numbers: their order, and what they print.
use Rattle.std.specs.Prelude.{Option, None, Some, Bool, true, ◌≡◌, refl, option_map, Decides, List, ℕ}
use Rattle.std.specs.Option.{option_eq}
use Rattle.std.specs.Ordering.{ordering_reverse}
use Rattle.std.specs.declared.cmp.Ordering.{Ordering}
use Rattle.std.specs.declared.cmp.Ordering.TheVariants.{Less, Equal}
use Rattle.std.specs.Cmp.{IsPartialOrder}

-- ---- the order

-- two failed ones are equal, a failed one and a held one are not ordered
abbrev pub checked_cmp : {T : Type 0} → (T → T → Option Ordering) → Option T → Option T → Option Ordering
checked_cmp C None None = Some Equal
checked_cmp C None (Some y) = None
checked_cmp C (Some x) None = None
checked_cmp C (Some x) (Some y) = C x y

module _ {T : Type 0} {E : T → T → Bool} {C : T → T → Option Ordering} (order : IsPartialOrder E C) where
  antisymm : (x y : Option T) → checked_cmp C x y ≡ option_map ordering_reverse (checked_cmp C y x)
  antisymm None None = refl
  antisymm None (Some y) = refl
  antisymm (Some x) None = refl
  antisymm (Some x) (Some y) = order.antisymm x y

  trans : (x y z : Option T) → checked_cmp C x y ≡ Some Less → checked_cmp C y z ≡ Some Less →
      checked_cmp C x z ≡ Some Less
  trans None None z p q = cc
  trans None (Some y) z p q = cc
  trans (Some x) None z p q = cc
  trans (Some x) (Some y) None p q = cc
  trans (Some x) (Some y) (Some z) p q = order.trans x y z p q

  matches_eq : (x y : Option T) → Decides (option_eq E x y) (checked_cmp C x y ≡ Some Equal)
  matches_eq None None = (λ _. refl, λ _. refl)
  matches_eq None (Some y) = (λ p. cc, λ p. cc)
  matches_eq (Some x) None = (λ p. cc, λ p. cc)
  matches_eq (Some x) (Some y) = order.matches_eq x y

  congr : (x y z : Option T) → option_eq E x y ≡ true → checked_cmp C x z ≡ checked_cmp C y z
  congr None None z p = refl
  congr None (Some y) z p = cc
  congr (Some x) None z p = cc
  congr (Some x) (Some y) None p = refl
  congr (Some x) (Some y) (Some z) p = order.congr x y z p

  -- it is a partial order beside the equality of the `Option`s, where the numbers' order is one beside
  -- theirs
  pub checked_order : IsPartialOrder (option_eq E) (checked_cmp C)
  checked_order = record { antisymm = antisymm; trans = trans; matches_eq = matches_eq; congr = congr }

-- ---- what they print

-- the text that `shown` writes of a value, which is `None` where that says nothing
abbrev pub shown_text : {T : Type 0} → (T → Option (List ℕ)) → List ℕ → Option T → Option (List ℕ)
shown_text shown failed None = Some failed
shown_text shown failed (Some x) = shown x
