-- Four of a kind, each known. Assumes nothing.
use Rattle.std.proofs.Common.{◌≡◌, List, [], ◌∷◌}

pub four_is : {A : Type 0} {a b c d a' b' c' d' : A} → a ≡ a' → b ≡ b' → c ≡ c' → d ≡ d'
    → ◌≡◌ {A = List A} (a ∷ b ∷ c ∷ d ∷ []) (a' ∷ b' ∷ c' ∷ d' ∷ [])
four_is e f g h = rw (e, f, g, h)
