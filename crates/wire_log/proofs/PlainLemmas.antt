-- Letters are plain text.
use Rattle.std.proofs.Common.{◌≡◌, ℕ, true, List, [], ◌∷◌, refl, arith}
use Rattle.std.specs.List.{list_all}
use Rattle.std.proofs.lemmas.Bool.Decides.{nat_tests}
use Rattle.wire_log.specs.Plain.{is_letter, IsPlain}

pub letters_are_plain : (text : List ℕ) → list_all is_letter text ≡ true → IsPlain text
letters_are_plain [] e = refl
letters_are_plain (b ∷ text) e = grind (arith, nat_tests, letters_are_plain text)
