-- Accounts that cases begin with.
use Rattle.std.specs.Prelude.{◌≡◌, ℕ, ◌<◌, ◌^◌, List, [], ◌∷◌, ◌++◌, map}
use Rattle.std.specs.List.{list_all}
use Rattle.std.proofs.Common.{refl, ap, ◌∙◌}
use Rattle.std.proofs.lemmas.Bool.{lt-ltb}
use Rattle.gate_base.specs.Named.{ascends, placed}
use Rattle.gate_base.proofs.lemmas.Named.{ascends_placed, all_placed, both, first_of_two, second_of_two}
use Rattle.swift_calls.specs.Account.{size_of}
use Rattle.planned_swift.specs.Accounts.{is_sized_object, IsOrdered, IsSized}
use Rattle.swift_calls.specs.declared.account.Stored.{Stored}
use Rattle.planned_swift.specs.declared.account.Container.{Container}
use Rattle.planned_swift.specs.declared.account.Account.{Account}

-- one container more, with one object
pub one_more_ordered : (account : Account) (x : Container) (s : Stored) → x.objects ≡ [] ++ s ∷ [] → IsOrdered account → IsOrdered (record { containers = placed (λ c. c.name) x account.containers })
one_more_ordered account x s is h = both _ _
    (ascends_placed (λ c. c.name) x account.containers (first_of_two _ _ h))
    (all_placed (λ c. c.name) (λ c. ascends (map (λ o. o.name) c.objects)) x account.containers (ap (λ l. ascends (map (λ o. o.name) l)) is) (second_of_two _ _ h))

pub one_more_sized : (account : Account) (x : Container) (s : Stored) → x.objects ≡ [] ++ s ∷ [] → size_of s.content < 2 ^ 63 → IsSized account → IsSized (record { containers = placed (λ c. c.name) x account.containers })
one_more_sized account x s is small h = all_placed (λ c. c.name) (λ c. list_all is_sized_object c.objects) x account.containers (ap (list_all is_sized_object) is ∙ both _ _ (lt-ltb _ _ small) refl) h
