use Rattle.std.proofs.Common.{◌≡◌, ◌≢◌, ℕ, ◌<◌, ◌≤◌, List, [], ◌∷◌, length, get_or, codes, arith, ◌∙◌, ap}
use Rattle.hold_cli.specs.Command.{IsRepair}

-- a list of two items is those two
two_items : (xs : List (List ℕ)) (a b : List ℕ) → 2 ≤ length xs → length xs < 3 → a ≡ get_or xs 0 a → b ≡ get_or xs 1 b → xs ≡ a ∷ b ∷ []
two_items [] a b low high first second = absurd (omega arith)
two_items (x ∷ []) a b low high first second = absurd (omega arith)
two_items (x ∷ y ∷ []) a b low high first second = cc
two_items (x ∷ y ∷ z ∷ zs) a b low high first second = absurd (omega arith)

-- two words of which the first is `repair` and the second isn't empty ask for the repair of the second
pub repair_words : (xs : List (List ℕ)) (command job : List ℕ) → 2 ≤ length xs → length xs < 3 → command ≡ get_or xs 0 command → job ≡ get_or xs 1 job → command ≡ codes "repair" → job ≢ [] → IsRepair xs job
repair_words xs command job low high first second is named = record {
  words_are = two_items xs command job low high first second ∙ ap (λ c. c ∷ job ∷ []) is;
  named = named;
}
