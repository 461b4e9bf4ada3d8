-- Four words, by their places.
use Rattle.std.proofs.Common.{◌≡◌, ◌<◌, ◌≤◌, List, [], ◌∷◌, length, map, get_or, ap, ◌∙◌, arith}

same_four : {Y : Type 0} (a b c d e f g h : Y) → a ≡ e → b ≡ f → c ≡ g → d ≡ h → e ∷ f ∷ g ∷ h ∷ [] ≡ a ∷ b ∷ c ∷ d ∷ []
same_four a b c d e f g h p q r s = cc

pub four_words : {X Y : Type 0} (f : X → Y) (xs : List X) (a b c d : X) (p q r s : Y) → 4 ≤ length xs → length xs < 5 → a ≡ get_or xs 0 a → b ≡ get_or xs 1 b → c ≡ get_or xs 2 c → d ≡ get_or xs 3 d
    → p ≡ f a → q ≡ f b → r ≡ f c → s ≡ f d → map f xs ≡ p ∷ q ∷ r ∷ s ∷ []
four_words f [] a b c d p q r s least most i j k l m n o t = absurd (omega arith)
four_words f (w ∷ []) a b c d p q r s least most i j k l m n o t = absurd (omega arith)
four_words f (w ∷ x ∷ []) a b c d p q r s least most i j k l m n o t = absurd (omega arith)
four_words f (w ∷ x ∷ y ∷ []) a b c d p q r s least most i j k l m n o t = absurd (omega arith)
four_words f (w ∷ x ∷ y ∷ z ∷ []) a b c d p q r s least most i j k l m n o t = same_four p q r s (f w) (f x) (f y) (f z) (m ∙ ap f i) (n ∙ ap f j) (o ∙ ap f k) (t ∙ ap f l)
four_words f (w ∷ x ∷ y ∷ z ∷ v ∷ more) a b c d p q r s least most i j k l m n o t = absurd (omega arith)
